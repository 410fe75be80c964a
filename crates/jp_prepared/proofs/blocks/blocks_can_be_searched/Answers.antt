use Rattle.jp_folding.proofs.NoRightLaws.{query_has_none}
use Rattle.jp_folding.specs.Folding.{folded}
use Rattle.jp_prepared.proofs.SearchLaws.{source_searched}
use Rattle.jp_prepared.proofs.blocks.blocks_can_be_searched.Goals as goal
use Rattle.jp_resolution.specs.Schemas.{schema_of}
use Rattle.std.specs.Prelude.{[]}

pub returns : goal.returns
returns c = λ catalog query sources block_at nodes number source items sound typed bounded are ready at zip.
    let folding = c.folding_keeps_typed_queries.ensures in
    source_searched catalog sound sources block_at nodes number (folded query) (folding.typed (schema_of catalog) [] query typed) (folding.bounded (schema_of catalog) [] query typed bounded) (query_has_none query) are ready source items at zip

use Rattle.jp_folding.proofs.NoRightLaws.{query_has_none}
use Rattle.jp_folding.specs.Folding.{folded}
use Rattle.jp_prepared.proofs.BlockLaws.{table_there}
use Rattle.jp_prepared.proofs.parts.tables_of_items_are_there.Goals as goal
use Rattle.jp_resolution.specs.Schemas.{schema_of}
use Rattle.std.specs.Prelude.{[]}

pub returns : goal.returns
returns c = λ catalog query sources number source leaf rel name table typed bounded are at m is.
    let folding = c.folding_keeps_typed_queries.ensures in
    table_there catalog (folded query) sources (folding.typed (schema_of catalog) [] query typed) (folding.bounded (schema_of catalog) [] query typed bounded) (query_has_none query) are number source leaf rel name table at m is

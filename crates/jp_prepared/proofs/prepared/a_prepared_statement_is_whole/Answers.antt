use Rattle.jp_folding.proofs.NoRightLaws.{query_has_none}
use Rattle.jp_prepared.proofs.WholeLaws.{whole}
use Rattle.jp_prepared.proofs.prepared.a_prepared_statement_is_whole.Goals as goal
use Rattle.jp_resolution.specs.Schemas.{schema_of}
use Rattle.std.specs.Prelude.{[]}

pub returns : goal.returns
returns c = λ catalog query prepared sound typed bounded fresh is.
    let folding = c.folding_keeps_typed_queries.ensures in
    whole catalog query prepared sound typed (folding.typed (schema_of catalog) [] query typed) (folding.bounded (schema_of catalog) [] query typed bounded) fresh (c.folding_keeps_fresh_queries.ensures query fresh) (query_has_none query) is

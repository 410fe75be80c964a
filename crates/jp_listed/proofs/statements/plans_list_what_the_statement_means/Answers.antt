use Rattle.std.specs.Prelude.{[]}
use Rattle.jp_resolution.specs.Schemas.{schema_of}
use Rattle.jp_listed.proofs.StatementLaws.{statement_rows, statement_in_order}
use Rattle.jp_listed.proofs.statements.plans_list_what_the_statement_means.Goals as goal

pub returns-clause-rows : goal.returns-clause-rows
returns-clause-rows c = λ catalog query prepared tables sound typed bounded fresh pool is belong.
    let folding = c.folding_keeps_typed_queries.ensures in
    let whole = c.a_prepared_statement_is_whole.ensures catalog query prepared sound typed bounded fresh is in
    statement_rows catalog query prepared tables sound typed (folding.typed (schema_of catalog) [] query typed) (folding.bounded (schema_of catalog) [] query typed bounded) pool is
    (λ given number block env there. c.a_block_gives_what_its_plan_lists.ensures prepared given number block env whole there) belong

pub returns-clause-in_order : goal.returns-clause-in_order
returns-clause-in_order c = λ catalog query prepared tables sound typed bounded fresh pool is belong.
    let folding = c.folding_keeps_typed_queries.ensures in
    let whole = c.a_prepared_statement_is_whole.ensures catalog query prepared sound typed bounded fresh is in
    statement_in_order catalog query prepared tables sound typed (folding.typed (schema_of catalog) [] query typed) (folding.bounded (schema_of catalog) [] query typed bounded) pool is
    (λ given number block env there. c.a_block_gives_what_its_plan_lists.ensures prepared given number block env whole there) belong

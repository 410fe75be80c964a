use Rattle.std.proofs.Common.{◌∙◌, [], sym, subst}
use Rattle.jp_folding.proofs.NoRightLaws.{query_has_none}
use Rattle.jp_query.specs.Conditions.{IsTyped}
use Rattle.jp_query.specs.Freshness.{IsFresh}
use Rattle.jp_query.specs.NoRight.{HasNoRight}
use Rattle.jp_query.specs.Tables.{Belong}
use Rattle.jp_resolution.specs.Schemas.{schema_of}
use Rattle.jp_session.specs.Blocks.{IsBlockList}
use Rattle.jp_prepared.proofs.WholeLaws.{whole, whole_schema}
use Rattle.jp_session.proofs.PreparedLaws.{is_prepared}
use Rattle.jp_tree.specs.declared.prepared.Prepared.{Prepared}
use Rattle.jp_session.proofs.preparing.prepare.Goals as goal

pub planned_blocks-requires-clause-typed : goal.planned_blocks-requires-clause-typed
planned_blocks-requires-clause-typed c =
    subst (IsTyped (schema_of c.args.catalog.now) []) (sym (c.in_ok-new.ensures ∙ c.in_ok-query.ensures)) (c.folding_keeps_typed_queries.ensures.typed (schema_of c.args.catalog.now) [] c.args.query c.requires.typed)

pub planned_blocks-requires-clause-no_right : goal.planned_blocks-requires-clause-no_right
planned_blocks-requires-clause-no_right c = subst HasNoRight (sym (c.in_ok-new.ensures ∙ c.in_ok-query.ensures)) (query_has_none c.args.query)

pub planned_blocks-requires-clause-fresh : goal.planned_blocks-requires-clause-fresh
planned_blocks-requires-clause-fresh c = subst IsFresh (sym (c.in_ok-new.ensures ∙ c.in_ok-query.ensures)) (c.folding_keeps_fresh_queries.ensures c.args.query c.requires.fresh)

pub returns-clause-whole : goal.returns-clause-whole
returns-clause-whole c =
    let catalog = c.args.catalog.now in
    let list = c.in_ok-list.list in
    let prepared : Prepared = record { blocks = list.blocks; pool = list.pool; names = c.in_ok-names.names } in
    let blocks = subst (λ q. IsBlockList catalog q list.blocks list.pool.nodes) (c.in_ok-new.ensures ∙ c.in_ok-query.ensures) c.in_ok-list.ensures in
    c.a_prepared_statement_is_whole.ensures catalog c.args.query prepared c.requires.sound c.requires.typed c.requires.bounded c.requires.fresh (is_prepared catalog c.args.query prepared blocks c.in_ok-names.ensures)

pub returns-clause-runs : goal.returns-clause-runs
returns-clause-runs c = λ tables belong.
    let catalog = c.args.catalog.now in
    let query = c.args.query in
    let schema = schema_of catalog in
    let list = c.in_ok-list.list in
    let prepared : Prepared = record { blocks = list.blocks; pool = list.pool; names = c.in_ok-names.names } in
    let blocks = subst (λ q. IsBlockList catalog q list.blocks list.pool.nodes) (c.in_ok-new.ensures ∙ c.in_ok-query.ensures) c.in_ok-list.ensures in
    let is = is_prepared catalog query prepared blocks c.in_ok-names.ensures in
    let folding = c.folding_keeps_typed_queries.ensures in
    let typed = folding.typed schema [] query c.requires.typed in
    let bounded = folding.bounded schema [] query c.requires.typed c.requires.bounded in
    let fresh = c.folding_keeps_fresh_queries.ensures query c.requires.fresh in
    record {
      whole = whole catalog query prepared c.requires.sound c.requires.typed typed bounded c.requires.fresh fresh (query_has_none query) is;
      belong = subst (λ s. Belong s tables) (sym (whole_schema catalog query prepared c.requires.sound c.requires.typed typed bounded c.requires.fresh fresh (query_has_none query) is)) belong;
    }

use Rattle.std.proofs.Common.{◌∙◌, [], ap₂, subst, sym}
use Rattle.jp_query.specs.Conditions.{IsBounded, IsTyped}
use Rattle.jp_query.specs.Freshness.{IsFresh}
use Rattle.jp_resolution.specs.Schemas.{schema_of}
use Rattle.jp_prepared.specs.Planned.{IsPrepared}
use Rattle.jp_session.specs.Output.{output_text}
use Rattle.joinplan.proofs.answer.print_rows.Goals as goal

pub prepare-requires-clause-typed : goal.prepare-requires-clause-typed
prepare-requires-clause-typed c = subst (IsTyped (schema_of c.args.catalog.now) []) (sym c.in_ok-copy.ensures) c.requires.typed

pub prepare-requires-clause-bounded : goal.prepare-requires-clause-bounded
prepare-requires-clause-bounded c = subst (IsBounded (schema_of c.args.catalog.now) []) (sym c.in_ok-copy.ensures) c.requires.bounded

pub prepare-requires-clause-fresh : goal.prepare-requires-clause-fresh
prepare-requires-clause-fresh c = subst IsFresh (sym c.in_ok-copy.ensures) c.requires.fresh

pub run_query-requires : goal.run_query-requires
run_query-requires c = c.in_ok-prepared.ensures.runs c.args.tables.now.list c.requires.belong

pub returns : goal.returns
returns c =
    let catalog = c.args.catalog.now in
    let query = c.args.query.now in
    let tables = c.args.tables.now.list in
    let prepared = c.in_ok-prepared.prepared in
    let is = subst (λ q. IsPrepared catalog q prepared) c.in_ok-copy.ensures c.in_ok-prepared.ensures.prepared in
    let law = c.plans_list_what_the_statement_means.ensures in
    record {
      prepared = prepared;
      is_prepared = is;
      whole = c.in_ok-prepared.ensures.whole;
      meant = law.rows catalog query prepared tables c.requires.sound c.requires.typed c.requires.bounded c.requires.fresh c.has_children_before.ensures is c.requires.belong;
      in_order = law.in_order catalog query prepared tables c.requires.sound c.requires.typed c.requires.bounded c.requires.fresh c.has_children_before.ensures is c.requires.belong;
      printed = c.in_ok-bytes.ensures ∙ ap₂ output_text c.as_slice.ensures (c.as_slice-2.ensures.value ∙ c.in_ok-rows.ensures);
    }

use Rattle.std.proofs.Common.{◌∙◌, ◌≤◌, ap, refl, rules, subst, sym, map}
use Rattle.std.specs.Prelude.{length}
use Rattle.std.proofs.lemmas.List.{take_all}
use Rattle.jp_query.specs.Refs.{union}
use Rattle.jp_query.specs.Tables.{rows_of_tables}
use Rattle.jp_problem.specs.declared.types.ItemKind.TheVariants as kind
use Rattle.jp_joins.specs.Tuples.{map_of, maps_of}
use Rattle.jp_lists.specs.Lists.{block_of_sublink, item_source, only_rows, sublink_rows}
use Rattle.jp_items.specs.Scenes.{is_listed}
use Rattle.jp_items.specs.Sights.{env_around}
use Rattle.jp_items.specs.declared.params.Around.{Around}
use Rattle.jp_fulls.specs.Fulls.{full_envs}
use Rattle.jp_exec.specs.Given.{AreGiven}
use Rattle.jp_exec.specs.Interiors.{interior_env}
use Rattle.jp_exec.specs.Running.{given_by, tables_of}
use Rattle.jp_exec.proofs.CycleFacts.{at_further, at_low, at_rows, at_runs, bare, base_rows, block_is, full_interior, interior_is, item_further, item_runs, items_run, left_named, nothing_past, right_named, sides_run, sub_named, sub_select_rows, sublinks_run}
use Rattle.jp_exec.proofs.GivenFacts.{given_further, given_runs, given_there, listed_rows, one_given}
use Rattle.jp_exec.proofs.InteriorFacts.{side_listed}
use Rattle.jp_exec.proofs.execution.+execution.Goals as goal

-- ---- items

pub item_rows-rows_of_block-requires : goal.item_rows-rows_of_block-requires
item_rows-rows_of_block-requires t c =
    let named = sub_named c.args.item.now c.in-Sub.rel c.in-Sub.block c.in-Sub.is in
    let further = item_further c.args.run.now c.args.number c.args.block.now (env_around c.args.around.now) c.requires.runs c.args.item.now c.requires.there c.in-Sub.block named in
    (search (rules, further), item_runs c.args.run.now c.args.number c.args.block.now (env_around c.args.around.now) c.requires.runs c.args.item.now c.requires.there c.in-Sub.block named)

pub item_rows-returns-in-Base : goal.item_rows-returns-in-Base
item_rows-returns-in-Base t c = base_rows c.args.run.now (env_around c.args.around.now) c.args.item.now c.in-Base.rel c.in-Base.table c.in-Base.is

pub item_rows-returns-in_ok-rows-in-Sub : goal.item_rows-returns-in_ok-rows-in-Sub
item_rows-returns-in_ok-rows-in-Sub t c =
    sub_select_rows c.args.run.now (env_around c.args.around.now) c.args.item.now c.in-Sub.rel c.in-Sub.block c.in_ok-rows-in-Sub.rows c.in-Sub.is c.in_ok-rows-in-Sub.ensures

pub item_rows-full_rows-requires : goal.item_rows-full_rows-requires
item_rows-full_rows-requires t c =
    (search rules, (c.requires.runs, (c.requires.beyond, (c.requires.given, (c.requires.there, c.in-Full.is ∙ ap (λ on. kind.Full c.in-Full.left c.in-Full.right on) (sym c.as_slice-on.ensures))))))

pub sources_of-returns : goal.sources_of-returns
sources_of-returns t c =
    let low = subst (λ xs. length xs ≤ c.items.item-index) c.as_slice-item-items.ensures c.items-test.false in
    c.items.invariant
    ∙ ap (map (item_source c.args.run.now.prepared.now.blocks (rows_of_tables (tables_of c.args.run.now)) (given_by c.args.run.now) (env_around c.args.around.now))) (take_all c.items.item-index c.args.block.now.problem.items low)

-- ---- blocks

pub rows_of_block-sources_of-requires : goal.rows_of_block-sources_of-requires
rows_of_block-sources_of-requires t c =
    let run = c.args.run.now in
    let block = c.index-as_slice-number.result in
    let inner : Around = record { cells = c.args.around.now.cells; present = c.present_around-present.result } in
    let there = block_is c.as_slice.result.now run.prepared.now.blocks c.args.number block c.as_slice.ensures c.requires.can.there c.index-as_slice-number.is in
    let around_is = c.present_around-present.ensures.around c.args.around.now.cells.now in
    (search rules, (items_run run c.args.number (env_around c.args.around.now) c.requires block there inner around_is, (nothing_past inner.cells.now inner.present c.present_around-present.ensures.below, subst (AreGiven run) (sym c.as_slice-given.ensures.value) c.in_ok-lent.ensures)))

pub rows_of_block-tuples_inside-requires : goal.rows_of_block-tuples_inside-requires
rows_of_block-tuples_inside-requires t c κs =
    let run = c.args.run.now in
    let block = c.index-as_slice-number.result in
    let inner : Around = record { cells = c.args.around.now.cells; present = c.present_around-present.result } in
    let there = block_is c.as_slice.result.now run.prepared.now.blocks c.args.number block c.as_slice.ensures c.requires.can.there c.index-as_slice-number.is in
    let around_is = c.present_around-present.ensures.around c.args.around.now.cells.now in
    let is = interior_is run c.args.number (env_around c.args.around.now) c.requires block there inner around_is c.in_ok-sources.sources.items c.in_ok-interior.interior c.in_ok-interior.ensures c.in_ok-sources.ensures in
    let subs = sublinks_run run c.args.number (env_around c.args.around.now) c.requires block there inner around_is c.in_ok-sources.sources.items c.in_ok-interior.interior c.in_ok-interior.ensures c.in_ok-sources.ensures
    c.present_around-present.ensures.own (nothing_past inner.cells.now inner.present c.present_around-present.ensures.below) in (
      (refl, (refl, tt)),
      (record { at = λ a. (search rules, (subs, subst (AreGiven run) (sym c.as_slice-given.ensures.value) c.in_ok-lent.ensures)) }, ((λ u sub r h. h.1), record { number = c.args.number; outer = env_around c.args.around.now; is = is })),
    )

pub rows_of_block-rows_inside-requires : goal.rows_of_block-rows_inside-requires
rows_of_block-rows_inside-requires t c κs =
    let run = c.args.run.now in
    let block = c.index-as_slice-number.result in
    let inner : Around = record { cells = c.args.around.now.cells; present = c.present_around-present.result } in
    let there = block_is c.as_slice.result.now run.prepared.now.blocks c.args.number block c.as_slice.ensures c.requires.can.there c.index-as_slice-number.is in
    let around_is = c.present_around-present.ensures.around c.args.around.now.cells.now in
    let is = interior_is run c.args.number (env_around c.args.around.now) c.requires block there inner around_is c.in_ok-sources.sources.items c.in_ok-interior.interior c.in_ok-interior.ensures c.in_ok-sources.ensures in
    let subs = sublinks_run run c.args.number (env_around c.args.around.now) c.requires block there inner around_is c.in_ok-sources.sources.items c.in_ok-interior.interior c.in_ok-interior.ensures c.in_ok-sources.ensures
    c.present_around-present.ensures.own (nothing_past inner.cells.now inner.present c.present_around-present.ensures.below) in (
      (refl, (refl, tt)),
      (
        record { at = λ a. (search rules, (subs, subst (AreGiven run) (sym c.as_slice-given.ensures.value) c.in_ok-lent.ensures)) },
        ((λ u sub r h. h.1), (record { number = c.args.number; outer = env_around c.args.around.now; is = is }, ap maps_of c.as_slice-2.ensures.value ∙ c.in_ok-tuples.ensures)),
      ),
    )

pub rows_of_block-returns : goal.rows_of_block-returns
rows_of_block-returns t c =
    let run = c.args.run.now in
    let block = c.index-as_slice-number.result in
    let inner : Around = record { cells = c.args.around.now.cells; present = c.present_around-present.result } in
    let there = block_is c.as_slice.result.now run.prepared.now.blocks c.args.number block c.as_slice.ensures c.requires.can.there c.index-as_slice-number.is in
    let around_is = c.present_around-present.ensures.around c.args.around.now.cells.now in
    let is = interior_is run c.args.number (env_around c.args.around.now) c.requires block there inner around_is c.in_ok-sources.sources.items c.in_ok-interior.interior c.in_ok-interior.ensures c.in_ok-sources.ensures in
    c.in_ok-rows.ensures c.args.number (env_around c.args.around.now) is

pub side_of_block-sources_of-requires : goal.side_of_block-sources_of-requires
side_of_block-sources_of-requires t c =
    let run = c.args.run.now in
    let block = c.index-as_slice-number.result in
    let inner : Around = record { cells = c.args.around.now.cells; present = c.present_around-present.result } in
    let there = block_is c.as_slice.result.now run.prepared.now.blocks c.args.number block c.as_slice.ensures c.requires.can.there c.index-as_slice-number.is in
    let around_is = c.present_around-present.ensures.around c.args.around.now.cells.now in
    (search rules, (items_run run c.args.number (env_around c.args.around.now) c.requires block there inner around_is, (nothing_past inner.cells.now inner.present c.present_around-present.ensures.below, subst (AreGiven run) (sym c.as_slice-given.ensures.value) c.in_ok-lent.ensures)))

pub side_of_block-tuples_inside-requires : goal.side_of_block-tuples_inside-requires
side_of_block-tuples_inside-requires t c κs =
    let run = c.args.run.now in
    let block = c.index-as_slice-number.result in
    let inner : Around = record { cells = c.args.around.now.cells; present = c.present_around-present.result } in
    let there = block_is c.as_slice.result.now run.prepared.now.blocks c.args.number block c.as_slice.ensures c.requires.can.there c.index-as_slice-number.is in
    let around_is = c.present_around-present.ensures.around c.args.around.now.cells.now in
    let is = interior_is run c.args.number (env_around c.args.around.now) c.requires block there inner around_is c.in_ok-sources.sources.items c.in_ok-interior.interior c.in_ok-interior.ensures c.in_ok-sources.ensures in
    let subs = sublinks_run run c.args.number (env_around c.args.around.now) c.requires block there inner around_is c.in_ok-sources.sources.items c.in_ok-interior.interior c.in_ok-interior.ensures c.in_ok-sources.ensures
    c.present_around-present.ensures.own (nothing_past inner.cells.now inner.present c.present_around-present.ensures.below) in (
      (refl, (refl, tt)),
      (record { at = λ a. (search rules, (subs, subst (AreGiven run) (sym c.as_slice-given.ensures.value) c.in_ok-lent.ensures)) }, ((λ u sub r h. h.1), record { number = c.args.number; outer = env_around c.args.around.now; is = is })),
    )

pub side_of_block-returns : goal.side_of_block-returns
side_of_block-returns t c =
    let run = c.args.run.now in
    let block = c.index-as_slice-number.result in
    let inner : Around = record { cells = c.args.around.now.cells; present = c.present_around-present.result } in
    let there = block_is c.as_slice.result.now run.prepared.now.blocks c.args.number block c.as_slice.ensures c.requires.can.there c.index-as_slice-number.is in
    let around_is = c.present_around-present.ensures.around c.args.around.now.cells.now in
    let is = interior_is run c.args.number (env_around c.args.around.now) c.requires block there inner around_is c.in_ok-sources.sources.items c.in_ok-interior.interior c.in_ok-interior.ensures c.in_ok-sources.ensures in
    let maps_are = ap maps_of c.as_slice-2.ensures.value ∙ c.in_ok-tuples.ensures in
    let rels_are = c.own_relations-rels.ensures.is ∙ ap union (sym c.in_ok-interior.ensures.layout) in
    c.in_ok-rows.ensures (tables_of run) (env_around inner) rels_are
    ∙ side_listed run c.args.number (env_around c.args.around.now) block inner c.in_ok-interior.interior is (maps_of c.as_slice-2.result.now) maps_are c.own_relations-rels.result c.own_relations-rels.ensures.is

pub rows_of_block-given_rows-requires : goal.rows_of_block-given_rows-requires
rows_of_block-given_rows-requires t c =
    let run = c.args.run.now in
    let block = c.index-as_slice-number.result in
    let inner : Around = record { cells = c.args.around.now.cells; present = c.present_around-present.result } in
    let there = block_is c.as_slice.result.now run.prepared.now.blocks c.args.number block c.as_slice.ensures c.requires.can.there c.index-as_slice-number.is in
    let around_is = c.present_around-present.ensures.around c.args.around.now.cells.now in
    (search rules, items_run run c.args.number (env_around c.args.around.now) c.requires block there inner around_is)

pub side_of_block-given_rows-requires : goal.side_of_block-given_rows-requires
side_of_block-given_rows-requires t c =
    let run = c.args.run.now in
    let block = c.index-as_slice-number.result in
    let inner : Around = record { cells = c.args.around.now.cells; present = c.present_around-present.result } in
    let there = block_is c.as_slice.result.now run.prepared.now.blocks c.args.number block c.as_slice.ensures c.requires.can.there c.index-as_slice-number.is in
    let around_is = c.present_around-present.ensures.around c.args.around.now.cells.now in
    (search rules, items_run run c.args.number (env_around c.args.around.now) c.requires block there inner around_is)

-- ---- rows that are given

pub add_given-is_closed-requires-clause-there : goal.add_given-is_closed-requires-clause-there
add_given-is_closed-requires-clause-there t c =
    let run = c.args.run.now in
    let is = c.block_of_sublink-inner.ensures ∙ ap (λ bs. block_of_sublink bs c.args.sub) c.as_slice-2.ensures in
    given_there run c.args.number c.args.block.now (env_around c.args.around.now) c.requires.runs c.args.sub c.requires.own c.block_of_sublink-inner.result is

pub add_given-rows_of_block-requires : goal.add_given-rows_of_block-requires
add_given-rows_of_block-requires t c =
    let run = c.args.run.now in
    let is = c.block_of_sublink-inner.ensures ∙ ap (λ bs. block_of_sublink bs c.args.sub) c.as_slice-2.ensures in
    let further = given_further run c.args.number c.args.block.now (env_around c.args.around.now) c.requires.runs c.args.sub c.requires.own c.block_of_sublink-inner.result is in
    (search (rules, further), given_runs run c.args.number c.args.block.now (env_around c.args.around.now) c.requires.runs c.args.sub c.requires.own c.block_of_sublink-inner.result is (c.in_ok-closed.ensures c.if-not-closed.false))

pub add_given-returns : goal.add_given-returns
add_given-returns t c given =
    let run = c.args.run.now in
    let is = c.block_of_sublink-inner.ensures ∙ ap (λ bs. block_of_sublink bs c.args.sub) c.as_slice-2.ensures in
    one_given run c.args.number c.args.block.now (env_around c.args.around.now) c.requires.runs c.args.sub c.requires.own c.block_of_sublink-inner.result is (c.in_ok-closed.ensures c.if-not-closed.false)
    (record { number = c.args.sub; rows = c.in_ok-rows.rows }) refl c.in_ok-rows.ensures c.args.given.now.items _ c.in_ok-push.ensures.items given

-- ---- sublinks

pub sub_rows-returns-in-Some : goal.sub_rows-returns-in-Some
sub_rows-returns-in-Some t c =
    let run = c.args.run.now in
    let m = map_of c.args.tuple in
    let listed = ap (λ ns. is_listed ns c.args.sub) (sym c.as_slice.ensures.value) ∙ sym c.if-not-is_listed.ensures in
    let env = interior_env run c.args.around.now c.args.interior.now m in
    listed_rows run c.args.around.now c.args.interior.now m c.args.sub c.in_ok-rows.rows.items listed
    (c.in_ok-rows.ensures ∙ c.in-Some.ensures (sublink_rows run.prepared.now.blocks (given_by run) env) (c.requires.given env))

pub sub_rows-columns_at-requires : goal.sub_rows-columns_at-requires
sub_rows-columns_at-requires t c =
    let run = c.args.run.now in
    let listed = ap (λ ns. is_listed ns c.args.sub) (sym c.as_slice.ensures.value) ∙ sym c.if-not-is_listed.ensures in
    let inner_e = c.block_of_sublink-inner.ensures ∙ ap (λ bs. block_of_sublink bs c.args.sub) c.as_slice-2.ensures in
    at_low run c.args.number c.args.around.now c.args.interior.now c.requires.runs c.args.sub listed (map_of c.args.tuple) c.block_of_sublink-inner.result inner_e

pub sub_rows-rows_of_block-requires : goal.sub_rows-rows_of_block-requires
sub_rows-rows_of_block-requires t c =
    let run = c.args.run.now in
    let m = map_of c.args.tuple in
    let listed = ap (λ ns. is_listed ns c.args.sub) (sym c.as_slice.ensures.value) ∙ sym c.if-not-is_listed.ensures in
    let inner_e = c.block_of_sublink-inner.ensures ∙ ap (λ bs. block_of_sublink bs c.args.sub) c.as_slice-2.ensures in
    let inner = c.block_of_sublink-inner.result in
    let further = at_further run c.args.number c.args.around.now c.args.interior.now c.requires.runs c.args.sub listed m inner inner_e in
    (search (rules, further), at_runs run c.args.number c.args.around.now c.args.interior.now c.requires.runs c.args.sub listed m inner inner_e c.columns_at.result.now c.columns_at.ensures c.in_ok-params.params c.in_ok-params.ensures)

pub sub_rows-returns : goal.sub_rows-returns
sub_rows-returns t c =
    let run = c.args.run.now in
    let m = map_of c.args.tuple in
    let listed = ap (λ ns. is_listed ns c.args.sub) (sym c.as_slice.ensures.value) ∙ sym c.if-not-is_listed.ensures in
    let inner_e = c.block_of_sublink-inner.ensures ∙ ap (λ bs. block_of_sublink bs c.args.sub) c.as_slice-2.ensures in
    let inner = c.block_of_sublink-inner.result in
    c.in_ok-rows-2.ensures ∙ at_rows run c.args.number c.args.around.now c.args.interior.now c.requires.runs c.args.sub listed m inner inner_e c.columns_at.result.now c.columns_at.ensures c.in_ok-params.params c.in_ok-params.ensures

-- ---- Full items

pub full_rows-side_of_block-requires : goal.full_rows-side_of_block-requires
full_rows-side_of_block-requires t c =
    let named = right_named c.args.run.now c.args.number c.args.block.now c.args.around.now c.requires.runs c.args.item.now c.requires.there c.args.left c.args.right c.args.on.now c.requires.kind in
    let further = item_further c.args.run.now c.args.number c.args.block.now (env_around c.args.around.now) c.requires.runs c.args.item.now c.requires.there c.args.right named in
    (search (rules, further), item_runs c.args.run.now c.args.number c.args.block.now (env_around c.args.around.now) c.requires.runs c.args.item.now c.requires.there c.args.right named)

pub full_rows-side_of_block-requires-2 : goal.full_rows-side_of_block-requires-2
full_rows-side_of_block-requires-2 t c =
    let named = left_named c.args.run.now c.args.number c.args.block.now c.args.around.now c.requires.runs c.args.item.now c.requires.there c.args.left c.args.right c.args.on.now c.requires.kind in
    let further = item_further c.args.run.now c.args.number c.args.block.now (env_around c.args.around.now) c.requires.runs c.args.item.now c.requires.there c.args.left named in
    (search (rules, further), item_runs c.args.run.now c.args.number c.args.block.now (env_around c.args.around.now) c.requires.runs c.args.item.now c.requires.there c.args.left named)

pub full_rows-full_inside-requires : goal.full_rows-full_inside-requires
full_rows-full_inside-requires t c κs =
    let run = c.args.run.now in
    let is = full_interior run c.args.number c.args.block.now c.args.around.now c.requires.runs c.args.item.now c.requires.there c.args.left c.args.right c.args.on.now c.requires.kind c.in_ok-right_rows.right_rows
    c.in_ok-left_rows.left_rows c.relations_of.result c.relations_of-left_rels.result c.in_ok-interior.interior c.in_ok-interior.ensures c.in_ok-right_rows.ensures c.in_ok-left_rows.ensures c.relations_of.ensures.is
    c.relations_of-left_rels.ensures.is in
    let subs = sides_run run c.args.number c.args.block.now c.args.around.now c.requires.runs c.args.item.now c.requires.there c.args.left c.args.right c.args.on.now c.requires.kind c.in_ok-right_rows.right_rows
    c.in_ok-left_rows.left_rows c.relations_of.result c.relations_of-left_rels.result c.in_ok-interior.interior c.in_ok-interior.ensures c.in_ok-right_rows.ensures c.in_ok-left_rows.ensures c.relations_of.ensures.is
    c.relations_of-left_rels.ensures.is c.relations_of.ensures.below c.relations_of-left_rels.ensures.below c.requires.beyond in (
      (refl, (refl, tt)),
      (
        record { at = λ a. (search rules, (subs, c.requires.given)) },
        (
          (λ u sub r h. h.1),
          record { number = c.args.number; outer = c.requires.runs.outer; block = c.args.block.now; item = c.args.item.now; left = c.args.left; right = c.args.right; is = is },
        ),
      ),
    )

pub full_rows-returns : goal.full_rows-returns
full_rows-returns t c =
    let run = c.args.run.now in
    let is = full_interior run c.args.number c.args.block.now c.args.around.now c.requires.runs c.args.item.now c.requires.there c.args.left c.args.right c.args.on.now c.requires.kind c.in_ok-right_rows.right_rows
    c.in_ok-left_rows.left_rows c.relations_of.result c.relations_of-left_rels.result c.in_ok-interior.interior c.in_ok-interior.ensures c.in_ok-right_rows.ensures c.in_ok-left_rows.ensures c.relations_of.ensures.is
    c.relations_of-left_rels.ensures.is in
    let seen = interior_env run c.args.around.now c.in_ok-interior.interior in
    let matched = maps_of c.in_ok-tuples.tuples.matched.items in
    let alone = maps_of c.in_ok-tuples.tuples.alone.items in
    c.in_ok-rows.ensures (tables_of run) (env_around c.args.around.now)
    (bare run c.args.number c.args.block.now c.args.around.now c.requires.runs c.args.item.now c.requires.there c.args.left c.args.right c.args.on.now c.requires.kind (union c.in_ok-interior.interior.layout))
    ∙ ap (map (only_rows c.args.item.now.rels)) (ap (λ l. full_envs l seen matched alone) c.relations_of-left_rels.ensures.is
    ∙ c.in_ok-tuples.ensures c.args.number c.requires.runs.outer c.args.block.now c.args.item.now c.args.left c.args.right is)

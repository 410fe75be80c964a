use Rattle.std.proofs.Common.{◌≡◌, ◌<◌, ◌∙◌, ℕ, [], None, Option, Some, ap, arith, cond, get_or, length, map, sym, take}
use Rattle.std.proofs.lemmas.Grind.{common_steps}
use Rattle.std.specs.List.{position}
use Rattle.jp_table.specs.Loading.{key_values}
use Rattle.jp_table.specs.Parts.{value_of_part}
use Rattle.jp_table.proofs.PartFacts.{has_parts, new_passes, new_seen, null_passes, null_seen, repeat_below, repeat_refused, same_parts}
use Rattle.jp_table.proofs.keys.repeat_in_key.Goals as goal
use Rattle.jp_table.proofs.keys.repeat_in_key.Goals.{in-None, in-Some+in-Ok-None}

pub overflow_add-result : goal.overflow_add-result
overflow_add-result c =
    let there : c.rows.row < length c.args.table.now = omega (arith, c.rows-test.true, c.rows-row-end.ensures) in
    let first : position (has_parts c.args.key.now c.in-Some.parts.items) (take c.rows.row c.args.table.now) ≡ Some c.in-Ok-Some.earlier = sym (c.rows.invariant.seen c.in-Some.parts) ∙ (sym c.in-Ok-Some.ensures.old ∙ c.in-Ok-Some.field-0-is) in
    let below : c.in-Ok-Some.earlier < c.rows.row = repeat_below (has_parts c.args.key.now c.in-Some.parts.items) c.args.table.now c.rows.row c.in-Ok-Some.earlier (omega (arith, there)) first in
    grind (arith, common_steps)

pub returns-in-Ok-Some : goal.returns-in-Ok-Some
returns-in-Ok-Some c =
    let there : c.rows.row < length c.args.table.now = omega (arith, c.rows-test.true, c.rows-row-end.ensures) in
    let values : map value_of_part c.in-Some.parts.items ≡ key_values c.args.key.now (get_or c.args.table.now c.rows.row []) = rw c.in-Some.is at c.in_ok-parts_of.ensures in
    let first : position (has_parts c.args.key.now c.in-Some.parts.items) (take c.rows.row c.args.table.now) ≡ Some c.in-Ok-Some.earlier = sym (c.rows.invariant.seen c.in-Some.parts) ∙ (sym c.in-Ok-Some.ensures.old ∙ c.in-Ok-Some.field-0-is) in
    repeat_refused c.args.key.now c.args.table.now c.rows.row c.in-Ok-Some.earlier c.in-Some.parts.items there values first ∙ c.rows.invariant.same

pub rows-preserved : goal.rows-preserved
rows-preserved c =
    let there : c.rows.row < length c.args.table.now = omega (arith, c.rows-test.true, c.rows-row-end.ensures) in
    elim c.match-branch-2.branch [
      | in-None w ↦
          let null = rw w.in-None.is at c.in_ok-parts_of.ensures in
          record {
            same = null_passes c.args.key.now c.args.table.now c.rows.row there null ∙ c.rows.invariant.same;
            seen = λ q. rw w.seen-is (c.rows.invariant.seen q ∙ null_seen c.args.key.now c.args.table.now c.rows.row q.items there null);
          }
      | in-Some+in-Ok-None w ↦
          let parts = w.in-Some.parts in
          let values : map value_of_part parts.items ≡ key_values c.args.key.now (get_or c.args.table.now c.rows.row []) = rw w.in-Some.is at c.in_ok-parts_of.ensures in
          let none : position (has_parts c.args.key.now parts.items) (take c.rows.row c.args.table.now) ≡ None = sym (c.rows.invariant.seen parts) ∙ (sym w.in-Ok-None.ensures.old ∙ w.in-Ok-None.field-0-is) in
          record {
            same = new_passes c.args.key.now c.args.table.now c.rows.row parts.items there values none ∙ c.rows.invariant.same;
            seen = λ q. rw w.seen-is
                (w.in-Ok-None.ensures.updates.0 q
                ∙ (ap (λ (before : Option ℕ). cond (same_parts parts q) (Some c.rows.row) before) (c.rows.invariant.seen q)
                ∙ new_seen c.args.key.now c.args.table.now c.rows.row parts.items q.items there values none));
          }
    ]

use Rattle.std.proofs.Common.{◌≡◌, ◌++◌, ◌&&◌, not, drop, take, map}
use Rattle.std.specs.Prelude.{filter}
use Rattle.std.specs.List.{flat_map, list_any}
use Rattle.jp_query.specs.declared.Query.{out-Query}
use Rattle.jp_query.specs.InOrder.{lines_of}
use Rattle.jp_query.specs.Meaning.{combined, holds, is_match_of, rels_in, tuples_of}
use Rattle.jp_query.specs.Refs.{union}
use Rattle.jp_query.specs.Tables.{rows_of_tables}
use Rattle.jp_naive.specs.Frames.{env_of, env_over, envs_over, frame_env, place_env, rels_of}
use Rattle.jp_naive.specs.Joining.{is_full, joined_leaves, joined_width, part_meant}
use Rattle.jp_naive.specs.Lines.{keys_at, line_of_query, outputs_at, values_of}
use Rattle.jp_naive.specs.Sublinks.{outer_of}
use Rattle.jp_naive.specs.Whole.{AreWhole}
use Rattle.jp_naive.proofs.GivenFacts.{AreLent}
use Rattle.jp_naive.proofs.rows.+rows.Given as goal

abbrev pub invariant-lines_of-tuples : goal.invariant-lines_of-tuples
invariant-lines_of-tuples l =
    let rows = rows_of_tables l.tables.list in
    let env = env_of l.tables.list l.outer in
    l.lines ++ map (line_of_query rows l.query) (filter (holds (values_of rows (out-Query l.query).conds)) (envs_over l.tables.list l.tuples.leaves.items env (drop l.at l.tuples.numbers.list))) ≡ lines_of rows l.query env

abbrev pub invariant-passes-conds : goal.invariant-passes-conds
invariant-passes-conds l =
    let rows = rows_of_tables l.tables.list in
    let env = place_env l.tables.list l.place in
    holds (values_of rows (drop l.cond-index l.conds)) env ≡ holds (values_of rows l.conds) env

abbrev pub invariant-output_row-columns : goal.invariant-output_row-columns
invariant-output_row-columns l = l.row ≡ outputs_at (rows_of_tables l.tables.list) (take l.column-index l.columns) (place_env l.tables.list l.place)

abbrev pub invariant-key_row-items : goal.invariant-key_row-items
invariant-key_row-items l = l.row ≡ keys_at (rows_of_tables l.tables.list) (take l.item-index l.order) (place_env l.tables.list l.place)

abbrev pub invariant-lent_for-sublinks : goal.invariant-lent_for-sublinks
invariant-lent_for-sublinks l = AreLent (rows_of_tables l.tables.list) (place_env l.tables.list l.place) l.list.items (map outer_of (take l.sublink-index l.sublink-items))

abbrev pub invariant-combinations-members : goal.invariant-combinations-members
invariant-combinations-members l =
    let meant = map (tuples_of (rows_of_tables l.tables.list)) (take l.member-index l.members) in
    let env = env_of l.tables.list l.outer in
    record {
      whole : AreWhole l.all;
      rels : rels_of l.all.leaves.items ≡ union (map rels_in meant);
      tuples : envs_over l.tables.list l.all.leaves.items env l.all.numbers.list ≡ combined meant env;
    }

abbrev pub invariant-filtered-tuples : goal.invariant-filtered-tuples
invariant-filtered-tuples l =
    let test = holds (values_of (rows_of_tables l.tables.list) l.conds) in
    let env = env_of l.tables.list l.outer in
    record {
      width : l.kept.width ≡ l.tuples.numbers.width;
      more : envs_over l.tables.list l.tuples.leaves.items env l.kept.list ++ filter test (envs_over l.tables.list l.tuples.leaves.items env (drop l.at l.tuples.numbers.list))
          ≡ filter test (envs_over l.tables.list l.tuples.leaves.items env l.tuples.numbers.list);
    }

abbrev pub invariant-joined-lefts : goal.invariant-joined-lefts
invariant-joined-lefts l =
    let on = values_of (rows_of_tables l.tables.list) l.on in
    let env = env_of l.tables.list l.outer in
    let r = rels_of l.right.leaves.items in
    let part = part_meant l.kind on r (envs_over l.tables.list l.right.leaves.items env l.right.numbers.list) in
    record {
      width : l.found.width ≡ joined_width l.kind l.right.numbers.width l.left.numbers.width;
      more : envs_over l.tables.list (joined_leaves l.kind l.left.leaves.items l.right.leaves.items) env l.found.list ++ flat_map part (envs_over l.tables.list l.left.leaves.items env (drop l.at l.left.numbers.list))
          ≡ flat_map part (envs_over l.tables.list l.left.leaves.items env l.left.numbers.list);
      unmatched : l.unmatched.items ≡ map (λ numbers. not (is_full l.kind && list_any (is_match_of on r (env_over l.tables.list l.right.leaves.items numbers env)) (envs_over l.tables.list l.left.leaves.items env (take l.at l.left.numbers.list)))) l.right.numbers.list;
    }

abbrev pub invariant-matches-rights : goal.invariant-matches-rights
invariant-matches-rights l =
    let on = values_of (rows_of_tables l.tables.list) l.on in
    let left = frame_env l.tables.list l.left (env_of l.tables.list l.outer) in
    l.marks.items ≡ map (λ numbers. holds on (env_over l.tables.list l.right.leaves.items numbers left)) (take l.at l.right.numbers.list)

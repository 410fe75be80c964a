use Rattle.std.proofs.Common.{arith, ◌≡◌, ◌∙◌, ap, sym, subst, refl, filter, get_or, length, ℕ, ◌++◌, List}
use Rattle.std.specs.Borrow.{Bor}
use Rattle.std.specs.List.{flat_map}
use Rattle.std.proofs.lemmas.List.{take_all}
use Rattle.jp_frame.specs.Maps.{Map}
use Rattle.jp_frame.specs.Methods.{is_matched, matches_to}
use Rattle.jp_joins.specs.Keys.{has_value, places_where, table_at}
use Rattle.jp_joins.specs.Meant.{is_match, value_at}
use Rattle.jp_joins.specs.Tuples.{map_of, maps_of}
use Rattle.jp_joins.specs.Working.{AreMarks, is_kept}
use Rattle.jp_joins.proofs.JoinFacts.{can_keep, no_tuple}
use Rattle.jp_joins.proofs.ListFacts.{as_long, list_of}
use Rattle.jp_joins.proofs.RightFacts.{looked_below, marks_looked, right_whole, to_looked}
use Rattle.jp_joins.proofs.StepFacts.{left_next}
use Rattle.jp_joins.proofs.TryFacts.{places_try}
use Rattle.jp_joins.proofs.right_hashing.looked_up_by.Goals as goal

pub index-requires : goal.index-requires
index-requires g c =
    let long = as_long (g.E.TupleEnv.meant c.args.env.now) c.args.second.now (table_at c.in_ok-table.table) c.args.rights.now c.in_ok-lists.lists.items c.in_ok-lists.ensures in
    omega (arith, long, c.in_ok-lists.lists.ok, c.rights-test.true)

pub add_right-requires : goal.add_right-requires
add_right-requires g c κs =
    let meant = g.E.TupleEnv.meant c.args.work.now.env.now in
    let lent = c.index.result.now in
    let right = map_of (get_or c.args.rights.now c.rights.at no_tuple) in
    let v = value_at meant right c.args.second.now in
    let there : lent.now ≡ places_where (has_value meant c.args.first.now v) 0 (maps_of c.args.lefts.now) =
    subst (λ e. lent.now ≡ places_where (has_value (g.E.TupleEnv.meant e) c.args.first.now (value_at (g.E.TupleEnv.meant e) right c.args.second.now)) 0 (maps_of c.args.lefts.now)) c.requires.env
    (ap (λ (l : Bor (List ℕ)). l.now) c.index.ensures
    ∙ list_of (g.E.TupleEnv.meant c.args.env.now) c.args.second.now (table_at c.in_ok-table.table) c.args.rights.now c.in_ok-lists.lists.items c.in_ok-lists.ensures c.rights.at no_tuple lent c.rights-test.true
    ∙ c.in_ok-table.ensures (value_at (g.E.TupleEnv.meant c.args.env.now) right c.args.second.now)) in (
      (refl, tt),
      (
        c.requires.can,
        (
          c.requires.ready,
          (
            c.requires.join.kind,
            (
              looked_below meant c.args.first.now c.args.second.now c.args.lefts.now c.args.rights.now c.requires.look_up c.rights.at no_tuple c.rights-test.true v refl lent.now there,
              (
                places_try meant c.args.work.now.kind c.args.first.now c.args.second.now c.args.lefts.now c.args.rights.now c.requires.join c.requires.look_up c.args.work.now.known c.requires.known c.rights.at no_tuple c.rights-test.true v refl lent.now there,
                c.rights.invariant.long,
              ),
            ),
          ),
        ),
      ),
    )

pub rights-preserved : goal.rights-preserved
rights-preserved g c =
    let meant = g.E.TupleEnv.meant c.args.work.now.env.now in
    let lent = c.index.result.now in
    let right = map_of (get_or c.args.rights.now c.rights.at no_tuple) in
    let v = value_at meant right c.args.second.now in
    let there : lent.now ≡ places_where (has_value meant c.args.first.now v) 0 (maps_of c.args.lefts.now) =
    subst (λ e. lent.now ≡ places_where (has_value (g.E.TupleEnv.meant e) c.args.first.now (value_at (g.E.TupleEnv.meant e) right c.args.second.now)) 0 (maps_of c.args.lefts.now)) c.requires.env
    (ap (λ (l : Bor (List ℕ)). l.now) c.index.ensures
    ∙ list_of (g.E.TupleEnv.meant c.args.env.now) c.args.second.now (table_at c.in_ok-table.table) c.args.rights.now c.in_ok-lists.lists.items c.in_ok-lists.ensures c.rights.at no_tuple lent c.rights-test.true
    ∙ c.in_ok-table.ensures (value_at (g.E.TupleEnv.meant c.args.env.now) right c.args.second.now)) in
    record {
      more = left_next (is_kept meant) (is_match meant) (matches_to (is_match meant) (maps_of c.args.lefts.now)) c.args.rights.now c.rights.at no_tuple (maps_of c.rights.found.items) (maps_of c.add_right.new.found.items) c.rights-test.true c.rights.invariant.more
          (c.in_ok-add_right.ensures.more
          ∙ ap (λ (ms : List Map). maps_of c.rights.found.items ++ filter (is_kept meant) ms)
          (to_looked meant c.args.first.now c.args.second.now c.args.lefts.now c.args.rights.now c.requires.look_up c.rights.at no_tuple c.rights-test.true v refl lent.now there));
      marks = marks_looked meant c.args.first.now c.args.second.now c.args.lefts.now c.args.rights.now c.requires.look_up c.rights.at no_tuple c.rights-test.true v refl lent.now there
          c.rights.marks.items c.add_right.new.marks.items c.rights.invariant.marks c.in_ok-add_right.ensures.marks;
      long = c.in_ok-add_right.ensures.long ∙ c.rights.invariant.long;
    }

pub add_unmatched-requires : goal.add_unmatched-requires
add_unmatched-requires g c =
    let meant = g.E.TupleEnv.meant c.args.work.now.env.now in
    λ k. (
      (refl, tt),
      (
        c.requires.can,
        (
          c.requires.ready,
          (
            c.requires.join.kind,
            (
              can_keep meant c.args.work.now.kind c.args.lefts.now c.args.rights.now c.requires.join,
              ap length c.as_slice-3.ensures.value ∙ c.rights.invariant.long,
            ),
          ),
        ),
      ),
    )

pub returns : goal.returns
returns g c =
    let meant = g.E.TupleEnv.meant c.args.work.now.env.now in
    let all = take_all c.rights.at c.args.rights.now c.rights-test.false in
    let lefts = maps_of c.args.lefts.now in
    right_whole meant lefts (maps_of c.args.rights.now) (maps_of c.rights.found.items) (maps_of c.add_unmatched.new.found.items) c.requires.left
    (c.rights.invariant.more ∙ ap (λ ts. filter (is_kept meant) (flat_map (matches_to (is_match meant) lefts) (maps_of ts))) all)
    (c.in_ok-add_unmatched.ensures (is_matched (is_match meant) (maps_of c.args.rights.now))
    (subst (AreMarks (is_matched (is_match meant) (maps_of c.args.rights.now)) lefts) (sym c.as_slice-3.ensures.value)
    (subst (λ ts. AreMarks (is_matched (is_match meant) (maps_of ts)) lefts c.rights.marks.items) all c.rights.invariant.marks)))

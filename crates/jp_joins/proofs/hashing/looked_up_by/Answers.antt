use Rattle.std.proofs.Common.{arith, ◌≡◌, ◌∙◌, ap, sym, subst, refl, filter, get_or, ◌++◌, List}
use Rattle.std.specs.Borrow.{Bor}
use Rattle.std.specs.List.{flat_map}
use Rattle.std.proofs.lemmas.List.{take_all}
use Rattle.jp_frame.specs.Maps.{Map}
use Rattle.jp_joins.specs.Keys.{table_at, tuple_has}
use Rattle.jp_joins.specs.Meant.{is_match, left_gives, list_holds, value_at}
use Rattle.jp_joins.specs.Tuples.{map_of, maps_of}
use Rattle.jp_joins.specs.Working.{is_kept}
use Rattle.jp_joins.specs.declared.tuples.Tuple.{Tuple}
use Rattle.jp_joins.proofs.JoinFacts.{can_keep, no_tuple}
use Rattle.jp_joins.proofs.ListFacts.{as_long, list_of}
use Rattle.jp_joins.proofs.LookFacts.{looked_gives}
use Rattle.jp_joins.proofs.StepFacts.{kept_is, left_next}
use Rattle.jp_joins.proofs.TryFacts.{looked_tries}
use Rattle.jp_joins.proofs.hashing.looked_up_by.Goals as goal

pub index-requires : goal.index-requires
index-requires g c =
    let long = as_long (g.E.TupleEnv.meant c.args.env.now) c.args.first.now (table_at c.in_ok-table.table) c.args.lefts.now c.in_ok-lists.lists.items c.in_ok-lists.ensures in
    omega (arith, long, c.in_ok-lists.lists.ok, c.lefts-test.true)

pub add_left-requires : goal.add_left-requires
add_left-requires g c κs =
    let meant = g.E.TupleEnv.meant c.args.work.now.env.now in
    let lent = c.index.result.now in
    let v = value_at meant (map_of (get_or c.args.lefts.now c.lefts.at no_tuple)) c.args.first.now in
    let there : lent.now ≡ filter (tuple_has meant c.args.second.now v) c.args.rights.now =
    subst (λ e. lent.now ≡ filter (tuple_has (g.E.TupleEnv.meant e) c.args.second.now (value_at (g.E.TupleEnv.meant e) (map_of (get_or c.args.lefts.now c.lefts.at no_tuple)) c.args.first.now)) c.args.rights.now) c.requires.env
    (ap (λ (l : Bor (List Tuple)). l.now) c.index.ensures
    ∙ list_of (g.E.TupleEnv.meant c.args.env.now) c.args.first.now (table_at c.in_ok-table.table) c.args.lefts.now c.in_ok-lists.lists.items c.in_ok-lists.ensures c.lefts.at no_tuple lent c.lefts-test.true
    ∙ c.in_ok-table.ensures (value_at (g.E.TupleEnv.meant c.args.env.now) (map_of (get_or c.args.lefts.now c.lefts.at no_tuple)) c.args.first.now)) in (
      (refl, tt),
      (
        c.requires.can,
        (
          c.requires.ready,
          (
            c.requires.join.kind,
            (
              can_keep meant c.args.work.now.kind c.args.lefts.now c.args.rights.now c.requires.join c.lefts.at no_tuple c.lefts-test.true,
              looked_tries meant c.args.work.now.kind c.args.first.now c.args.second.now c.args.lefts.now c.args.rights.now c.requires.join c.requires.look_up c.args.work.now.known c.requires.known c.lefts.at no_tuple v lent.now c.lefts-test.true refl there,
            ),
          ),
        ),
      ),
    )

pub lefts-preserved : goal.lefts-preserved
lefts-preserved g c =
    let meant = g.E.TupleEnv.meant c.args.work.now.env.now in
    let lent = c.index.result.now in
    let v = value_at meant (map_of (get_or c.args.lefts.now c.lefts.at no_tuple)) c.args.first.now in
    let there : lent.now ≡ filter (tuple_has meant c.args.second.now v) c.args.rights.now =
    subst (λ e. lent.now ≡ filter (tuple_has (g.E.TupleEnv.meant e) c.args.second.now (value_at (g.E.TupleEnv.meant e) (map_of (get_or c.args.lefts.now c.lefts.at no_tuple)) c.args.first.now)) c.args.rights.now) c.requires.env
    (ap (λ (l : Bor (List Tuple)). l.now) c.index.ensures
    ∙ list_of (g.E.TupleEnv.meant c.args.env.now) c.args.first.now (table_at c.in_ok-table.table) c.args.lefts.now c.in_ok-lists.lists.items c.in_ok-lists.ensures c.lefts.at no_tuple lent c.lefts-test.true
    ∙ c.in_ok-table.ensures (value_at (g.E.TupleEnv.meant c.args.env.now) (map_of (get_or c.args.lefts.now c.lefts.at no_tuple)) c.args.first.now)) in
    left_next (is_kept meant) (is_match meant) (left_gives meant.kind (is_match meant) (maps_of c.args.rights.now)) c.args.lefts.now c.lefts.at no_tuple (maps_of c.lefts.found.items) (maps_of c.add_left.new.found.items) c.lefts-test.true c.lefts.invariant
    (c.in_ok-add_left.ensures
    ∙ ap (λ (ms : List Map). maps_of c.lefts.found.items ++ filter (is_kept meant) ms)
    (looked_gives meant c.args.first.now c.args.second.now c.args.lefts.now c.args.rights.now c.requires.look_up c.lefts.at no_tuple v lent.now c.lefts-test.true refl there))

pub returns : goal.returns
returns g c =
    let meant = g.E.TupleEnv.meant c.args.work.now.env.now in
    c.lefts.invariant ∙ ap (λ ts. filter (is_kept meant) (flat_map (left_gives meant.kind (is_match meant) (maps_of c.args.rights.now)) (maps_of ts))) (take_all c.lefts.at c.args.lefts.now c.lefts-test.false)
    ∙ sym (kept_is meant.kind (list_holds meant meant.filters) (flat_map (left_gives meant.kind (is_match meant) (maps_of c.args.rights.now)) (maps_of c.args.lefts.now)))

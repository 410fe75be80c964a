use Rattle.std.proofs.Common.{refl, get_or}
use Rattle.jp_joins.specs.Meant.{is_match}
use Rattle.jp_joins.specs.Sorting.{key_at}
use Rattle.jp_joins.specs.Tuples.{maps_of}
use Rattle.jp_joins.specs.Working.{is_kept}
use Rattle.jp_joins.proofs.SortedFacts.{no_keyed}
use Rattle.jp_joins.proofs.WalkFacts.{IsRun, all_before, before_next, run_tries, walk_next}
use Rattle.jp_joins.proofs.merging.walked.Goals as goal

pub add_left-requires : goal.add_left-requires
add_left-requires g c =
    let meant = g.E.TupleEnv.meant c.args.work.now.env.now in
    let from = c.first_not_before-from.result in
    let to = c.first_unequal-to.result in
    let all = all_before c.args.lefts.now c.args.rights.now c.requires.left_sorted c.lefts.at no_keyed c.lefts-test.true c.lefts.from from c.lefts.invariant.before c.first_not_before-from.ensures.before in
    let run : IsRun c.args.rights.now (key_at c.args.lefts.now c.lefts.at no_keyed) from to = record {
      ordered = c.first_unequal-to.ensures.bounds.0;
      inside = c.first_unequal-to.ensures.bounds.1;
      before = all;
      equal = c.first_unequal-to.ensures.equal;
      start = c.first_not_before-from.ensures.stop;
      stop = c.first_unequal-to.ensures.stop;
    } in
    λ k. ((refl, tt), (c.requires.can, (c.requires.ready, (c.requires.kind, (c.requires.keep c.lefts.at no_keyed c.lefts-test.true, run_tries meant c.args.work.now.known (get_or c.args.lefts.now c.lefts.at no_keyed) c.args.rights.now no_keyed from to c.args.tuples.now _ c.requires.right_sorted run c.requires.tuples refl (c.requires.pairs c.lefts.at no_keyed c.lefts-test.true))))))

pub lefts-preserved : goal.lefts-preserved
lefts-preserved g c =
    let meant = g.E.TupleEnv.meant c.args.work.now.env.now in
    let from = c.first_not_before-from.result in
    let to = c.first_unequal-to.result in
    let all = all_before c.args.lefts.now c.args.rights.now c.requires.left_sorted c.lefts.at no_keyed c.lefts-test.true c.lefts.from from c.lefts.invariant.before c.first_not_before-from.ensures.before in
    let run : IsRun c.args.rights.now (key_at c.args.lefts.now c.lefts.at no_keyed) from to = record {
      ordered = c.first_unequal-to.ensures.bounds.0;
      inside = c.first_unequal-to.ensures.bounds.1;
      before = all;
      equal = c.first_unequal-to.ensures.equal;
      start = c.first_not_before-from.ensures.stop;
      stop = c.first_unequal-to.ensures.stop;
    } in
    record {
      found = walk_next (is_kept meant) (is_match meant) meant.kind c.args.lefts.now c.args.rights.now c.args.tuples.now _ c.lefts.at no_keyed from to (maps_of c.lefts.found.items) (maps_of c.add_left.new.found.items) c.lefts-test.true
          c.requires.right_sorted run (c.requires.keys c.lefts.at no_keyed c.lefts-test.true) c.requires.tuples refl c.lefts.invariant.found c.in_ok-add_left.ensures;
      inside = c.first_not_before-from.ensures.bounds.1;
      before = before_next c.args.lefts.now c.args.rights.now c.requires.left_sorted c.lefts.at no_keyed c.lefts-test.true c.lefts.from from c.lefts.invariant.before c.first_not_before-from.ensures.before;
    }

use Rattle.std.proofs.Common.{◌∙◌, ap, ◌++◌, ◌<◌, filter, length, arith}
use Rattle.std.proofs.lemmas.List.{length-map, take_all}
use Rattle.jp_joins.specs.Tuples.{map_of, maps_of}
use Rattle.jp_joins.specs.Working.{is_kept, is_not}
use Rattle.jp_joins.proofs.JoinFacts.{no_tuple}
use Rattle.jp_joins.proofs.RightFacts.{unmatched_more}
use Rattle.jp_joins.proofs.right_hashing.add_unmatched.Goals as goal

pub lefts-preserved : goal.lefts-preserved
lefts-preserved g c p marks =
    let low : c.lefts.at < length (maps_of c.args.lefts.now) = omega (arith, c.lefts-test.true, length-map c.args.lefts.now map_of) in
    unmatched_more (is_kept (g.E.TupleEnv.meant c.args.work.now.env.now)) p c.args.lefts.now c.lefts.at no_tuple _ (maps_of c.lefts.found.items) (maps_of c.add_unless.new.found.items) (maps_of c.args.found.now.items)
    c.lefts-test.true (marks c.lefts.at low) (c.lefts.invariant p marks) c.in_ok-add_unless.ensures

pub returns : goal.returns
returns g c p marks = c.lefts.invariant p marks
    ∙ ap (λ ts. maps_of c.args.found.now.items ++ filter (is_kept (g.E.TupleEnv.meant c.args.work.now.env.now)) (filter (is_not p) (maps_of ts))) (take_all c.lefts.at c.args.lefts.now c.lefts-test.false)

use Rattle.std.proofs.Common.{◌≡◌, [], take}
use Rattle.std.specs.Prelude.{fold}
use Rattle.jp_problem.specs.MinimumSets.{one_more}
use Rattle.jp_special.proofs.minimum.specials_in.Given as goal

abbrev pub invariant-joins : goal.invariant-joins
invariant-joins l = l.joins.items ≡ fold (one_more l.outline) [] (take l.s-index l.s-items)

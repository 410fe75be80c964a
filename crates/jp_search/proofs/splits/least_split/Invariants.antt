use Rattle.std.proofs.Common.{◌+◌, ◌<◌, length}
use Rattle.jp_base.specs.Sets.{Within}
use Rattle.jp_search.specs.Counts.{parts_of}
use Rattle.jp_search.specs.Splits.{IsLeastAbove}
use Rattle.jp_search.proofs.CountLaws.{place_of}
use Rattle.jp_search.proofs.splits.least_split.Given as goal

abbrev pub invariant-parts : goal.invariant-parts
invariant-parts g l = record {
  within : Within l.left l.set;
  below : l.left < l.set;
  least : IsLeastAbove l.problem l.table l.set l.left l.least;
  steps : l.steps + place_of (length l.problem.items) l.set l.left < l.initial.steps + parts_of (length l.problem.items) l.set;
}

abbrev pub decreases-parts : goal.decreases-parts
decreases-parts g l = l.left

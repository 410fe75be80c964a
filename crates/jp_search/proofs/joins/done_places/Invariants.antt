use Rattle.std.proofs.Common.{◌≡◌, ◌≤◌, ◌+◌, ◌*◌, ◌^◌, drop}
use Rattle.jp_problem.specs.StepClauses.{is_done}
use Rattle.jp_search.specs.Joins.{places_of}
use Rattle.jp_search.proofs.joins.done_places.Given as goal

abbrev pub invariant-joins : goal.invariant-joins
invariant-joins l = (l.places + places_of (is_done l.set) l.place (drop l.place l.joins) ≡ places_of (is_done l.set) 0 l.joins) × (l.places ≤ l.place * 2 ^ 64)

use Rattle.std.proofs.Common.{◌≡◌, ℕ, List, map, take}
use Rattle.jp_query.specs.Meaning.{Row}
use Rattle.jp_induction.proofs.EachPart.{Each}
use Rattle.jp_joins.specs.Lending.{GivesAt, number_of}
use Rattle.jp_joins.proofs.LendingFacts.{IsRight}
use Rattle.jp_joins.proofs.lending.lent_for.Given as goal

abbrev pub invariant-numbers : goal.invariant-numbers
invariant-numbers g l = record {
  right : (rows : ℕ → List Row) → GivesAt rows (goal.S-post g l.fn.subs l.fn.tuple) → Each (IsRight rows) l.lent.items;
  numbers : map number_of l.lent.items ≡ take l.number-index l.numbers;
}

-- What the search of a set's splits needs of the table.
use Rattle.std.specs.Prelude.{◌≡◌, ℕ, ◌<◌, ◌≤◌, ◌^◌, length, List, Option, Some, All}
use Rattle.jp_problem.specs.declared.types.Problem.{Problem}
use Rattle.jp_problem.specs.Made.{HasApartSets}
use Rattle.jp_search.specs.declared.table.Found.{Found}
use Rattle.jp_search.specs.Joins.{facts_of}
use Rattle.jp_search.specs.Tables.{entry_at}

-- the set's cost and rows leave room for a step, and the joins are as it says
pub record IsTold (problem : Problem) (entries : List (Option Found)) (set : ℕ) : Type 0 where
  pub cost : (found : Found) → entry_at entries set ≡ Some found → found.cost ≤ 2 ^ 126
  pub rows : (found : Found) → entry_at entries set ≡ Some found → found.rows ≤ 2 ^ 60
  pub facts : (found : Found) → entry_at entries set ≡ Some found → found.facts ≡ facts_of problem.joins set

-- one entry for each set of items, and the set is one of these, and has items
pub record IsReady (problem : Problem) (entries : List (Option Found)) (set : ℕ) : Type 0 where
  pub few : length problem.items ≤ 16
  pub sets : All HasApartSets problem.joins
  pub size : length entries ≡ 2 ^ length problem.items
  pub there : set < length entries
  pub some : 0 < set
  pub told : (part : ℕ) → part < set → IsTold problem entries part

-- What a set says of the special joins.
use Rattle.std.specs.Prelude.{ℕ, suc, ◌+◌, ◌&&◌, Bool, count_by, List, [], ◌∷◌, Option, Some, None, if◌then◌else◌}
use Rattle.jp_problem.specs.declared.types.Special.{Special}
use Rattle.jp_problem.specs.declared.types.Step.{Step}
use Rattle.jp_problem.specs.declared.types.Step.TheVariants.{By}
use Rattle.jp_problem.specs.LegalTests.{is_joinable}
use Rattle.jp_problem.specs.Sets.{is_within}
use Rattle.jp_problem.specs.StepClauses.{is_done}
use Rattle.jp_search.specs.declared.joins.Facts.{Facts}

-- the sum of the places, from `first` on, of the members that pass
abbrev pub places_of : {X : Type 0} → (X → Bool) → ℕ → List X → ℕ
places_of passes first [] = 0
places_of passes first (x ∷ xs) = (if passes x then first else 0) + places_of passes (suc first) xs

-- whether it can be joined by itself, how many joins are done in it, and the sum of their places
abbrev pub facts_of : List Special → ℕ → Facts
facts_of joins set = record { joinable = is_joinable joins set; done = count_by (is_done set) joins; places = places_of (is_done set) 0 joins }

abbrev pub by_join : Special → ℕ → ℕ → Option Step
by_join join left right = if is_within join.min_left left && is_within join.min_right right then Some (By join.no) else None

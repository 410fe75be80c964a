-- The estimate one join at a time.
use Rattle.std.specs.Prelude.{ℕ, ◌&&◌, Bool, not, bit_or, List, if◌then◌else◌}
use Rattle.std.specs.List.{list_any}
use Rattle.jp_problem.specs.declared.types.Problem.{Problem}
use Rattle.jp_problem.specs.declared.types.Special.{Special}
use Rattle.jp_problem.specs.LegalTests.{is_inside}
use Rattle.jp_problem.specs.StepClauses.{is_done}
use Rattle.jp_cost.specs.Estimates.{join_rows}

unfoldable pub with_right : ℕ → ℕ → Special → ℕ
with_right set items s = if is_done set s then bit_or items s.min_right else items

-- t is done in the set, and s is inside it
unfoldable pub is_around : ℕ → Special → Special → Bool
is_around set s t = is_done set t && is_inside s t

unfoldable pub is_outer : List Special → ℕ → Special → Bool
is_outer joins set s = is_done set s && not (list_any (is_around set s) joins)

unfoldable pub after_outer : Problem → ℕ → (ℕ → ℕ) → ℕ → Special → ℕ
after_outer problem set estimate rows s = if is_outer problem.joins set s then join_rows problem estimate rows s else rows

-- Joinable sets and legal steps as tests that compute. That they say the same as `Legal` is proved.
use Rattle.std.specs.Prelude.{ℕ, ◌==◌, ◌&&◌, ◌||◌, Bool, not, bit_or, count_by, find, List, map, filter, Option, Some, None, if◌then◌else◌}
use Rattle.std.specs.List.{list_all}
use Rattle.jp_query.specs.Refs.{union}
use Rattle.jp_problem.specs.declared.types.Special.{Special}
use Rattle.jp_problem.specs.declared.types.Step.{Step}
use Rattle.jp_problem.specs.declared.types.Step.TheVariants.{Inner, By}
use Rattle.jp_problem.specs.Sets.{is_within, is_empty, meets, without}
use Rattle.jp_problem.specs.MinimumSets.{is_left_join, right_of}
use Rattle.jp_problem.specs.StepClauses.{is_done}

unfoldable pub is_inside : Special → Special → Bool
is_inside u s = is_within u.min_left s.min_right && is_within u.min_right s.min_right

-- items of the right set of u hang on the right set of s
unfoldable pub hangs_by : ℕ → Special → Special → Bool
hangs_by set s u = is_left_join u && (is_done set u && not (is_inside u s))

-- the items that hang on the right set of s
unfoldable pub hanging : List Special → ℕ → Special → ℕ
hanging joins set s = union (map right_of (filter (hangs_by set s) joins))

unfoldable pub others_hang : List Special → ℕ → Special → Bool
others_hang joins set s = is_left_join s && (not (meets set s.min_left) && is_within (without set s.min_right) (hanging joins set s))

unfoldable pub stands : List Special → ℕ → Special → Bool
stands joins set s = not (meets set s.min_right) || (is_within set s.min_right || (is_done set s || others_hang joins set s))

unfoldable pub is_joinable : List Special → ℕ → Bool
is_joinable joins set = not (is_empty set) && list_all (stands joins set) joins

-- ---- steps

unfoldable pub is_new : ℕ → ℕ → Special → Bool
is_new left right s = is_done (bit_or left right) s && (not (is_done left s) && not (is_done right s))

-- its left set lies in the left part and its right set in the right part
unfoldable pub is_between : ℕ → ℕ → Special → Bool
is_between left right s = is_within s.min_left left && is_within s.min_right right

-- the kind of a step at which this join is the first new one, and so many are new
abbrev pub kind_by : ℕ → ℕ → ℕ → Option Special → Option Step
kind_by left right count None = Some Inner
kind_by left right count (Some s) = if count == 1 && is_between left right s then Some (By s.no) else None

unfoldable pub kind_of : List Special → ℕ → ℕ → Option Step
kind_of joins left right = kind_by left right (count_by (is_new left right) joins) (find (is_new left right) joins)

unfoldable pub are_joinable : List Special → ℕ → ℕ → Bool
are_joinable joins left right =
    not (meets left right) && (is_joinable joins left && (is_joinable joins right && is_joinable joins (bit_or left right)))

-- the kind of a legal step
unfoldable pub step_of : List Special → ℕ → ℕ → Option Step
step_of joins left right = if are_joinable joins left right then kind_of joins left right else None

-- What a left tuple gives to a join, by which right tuples match it.
use Rattle.std.specs.Prelude.{ℕ, ◌+◌, ◌&&◌, Bool, true, false, not, List, [], ◌∷◌, ◌++◌, map, filter, Option, Some, None, replicate, if◌then◌else◌}
use Rattle.std.specs.List.{flat_map, list_any}
use Rattle.jp_naive.specs.declared.frames.Leaf.{Leaf}
use Rattle.jp_query.specs.declared.JoinKind.{JoinKind}
use Rattle.jp_query.specs.declared.JoinKind.TheVariants as join
use Rattle.jp_query.specs.Meaning.{Env, ValueIn, has_match, is_unmatched, pairs, pairs_or_alone, without}

abbrev pub Numbers : Type 0
Numbers = List (Option ℕ)

abbrev pub is_marked : Bool → Bool
is_marked mark = mark

-- the elements whose mark is true
abbrev pub marked : {X : Type 0} → List Bool → List X → List X
marked [] xs = []
marked (mark ∷ marks) [] = []
marked (mark ∷ marks) (x ∷ xs) = if mark then x ∷ marked marks xs else marked marks xs

-- the right tuple's numbers stand before the left one's
abbrev pub pair_of : Numbers → Numbers → Numbers
pair_of left right = right ++ left

-- no row for so many leaves
abbrev pub absent : ℕ → Numbers
absent n = replicate n None

abbrev pub pairs_of : Numbers → List Numbers → List Bool → List Numbers
pairs_of left rights marks = map (pair_of left) (marked marks rights)

abbrev pub pairs_or_left : ℕ → Numbers → List Numbers → List Bool → List Numbers
pairs_or_left width left rights marks = if list_any is_marked marks then pairs_of left rights marks else pair_of left (absent width) ∷ []

-- the tuples that a left tuple gives, where the right ones have so many leaves; a right join has its sides exchanged
abbrev pub part_of : JoinKind → ℕ → Numbers → List Numbers → List Bool → List Numbers
part_of join.Inner width left rights marks = pairs_of left rights marks
part_of join.Left width left rights marks = pairs_or_left width left rights marks
part_of join.Right width left rights marks = pairs_or_left width left rights marks
part_of join.Full width left rights marks = pairs_or_left width left rights marks
part_of join.Semi width left rights marks = if list_any is_marked marks then left ∷ [] else []
part_of join.Anti width left rights marks = if list_any is_marked marks then [] else left ∷ []

abbrev pub joined_width : JoinKind → ℕ → ℕ → ℕ
joined_width join.Semi right left = left
joined_width join.Anti right left = left
joined_width _ right left = right + left

abbrev pub joined_leaves : JoinKind → List Leaf → List Leaf → List Leaf
joined_leaves join.Semi left right = left
joined_leaves join.Anti left right = left
joined_leaves _ left right = right ++ left

-- ---- right tuples that match no left one

abbrev pub is_full : JoinKind → Bool
is_full join.Full = true
is_full _ = false

-- the marks that are true and not true in the second list
abbrev pub struck : List Bool → List Bool → List Bool
struck [] marks = []
struck (u ∷ us) [] = u ∷ us
struck (u ∷ us) (mark ∷ marks) = (u && not mark) ∷ struck us marks

-- ---- leaves

-- the numbers of a tuple of one leaf
abbrev pub single : ℕ → Numbers
single number = Some number ∷ []

-- ---- what a join means, by its left tuples

abbrev pub part_meant : JoinKind → List ValueIn → ℕ → List Env → Env → List Env
part_meant join.Inner on r rights left = pairs on r rights left
part_meant join.Left on r rights left = pairs_or_alone on r rights left
part_meant join.Right on r rights left = pairs_or_alone on r rights left
part_meant join.Full on r rights left = pairs_or_alone on r rights left
part_meant join.Semi on r rights left = if has_match on r rights left then left ∷ [] else []
part_meant join.Anti on r rights left = if has_match on r rights left then [] else left ∷ []

-- what each left tuple gives in turn, a Right join being read as a Left one, and then the unmatched right tuples of a Full
-- join
abbrev pub parts_joined : JoinKind → List ValueIn → ℕ → List Env → ℕ → List Env → List Env
parts_joined kind on l lefts r rights = flat_map (part_meant kind on r rights) lefts ++ (if is_full kind then map (without l) (filter (is_unmatched on r lefts) rights) else [])

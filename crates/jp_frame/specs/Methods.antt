-- The lists of rows that the join methods give.
use Rattle.std.specs.Prelude.{◌≡◌, ℕ, zero, suc, ◌<◌, ◌↔◌, Bool, true, false, not, List, [], ◌∷◌, ◌++◌, map, filter, Some, None, Contains, if◌then◌else◌, ◌^◌}
use Rattle.std.specs.List.{list_any, flat_map, AllPairs}
use Rattle.jp_frame.specs.Maps.{Map, both, all_below}
use Rattle.jp_frame.specs.Frames.{Frame, Kind, Left, Semi, Anti}
use Rattle.jp_frame.specs.Legal.{IsActive}
use Rattle.jp_frame.specs.Rows.{clause_met, InRowSet}
use Rattle.jp_frame.specs.Steps.{Step, Inner, By}

abbrev pub IsOther : Map → Map → Type 0
IsOther a b = a ≡ b → ⊥

-- the list holds each member of the row set, once, and nothing else
pub record ListsOnce (f : Frame) (set : ℕ) (rows : List Map) : Type 0 where
  pub members : (m : Map) → Contains rows m ↔ InRowSet f set m
  pub once : AllPairs IsOther rows

-- ---- scans

abbrev pub none_row : ℕ → Map
none_row zero = []
none_row (suc n) = None ∷ none_row n

-- the map of n items that has row r of item i alone
abbrev pub one_row : ℕ → ℕ → ℕ → Map
one_row zero i r = []
one_row (suc n) zero r = Some r ∷ none_row n
one_row (suc n) (suc i) r = None ∷ one_row n i r

-- the rows of an item in order, from row r on
abbrev pub rows_of_item : ℕ → ℕ → ℕ → ℕ → List Map
rows_of_item items i r zero = []
rows_of_item items i r (suc n) = one_row items i r ∷ rows_of_item items i (suc r) n

abbrev pub scan : Frame → ℕ → (Map → Bool) → List Map
scan f i test = filter test (rows_of_item f.items i 0 (f.rows i))

abbrev pub AllActive : Frame → ℕ → Map → Type 0
AllActive f set m = (c : ℕ) → IsActive f set c → f.holds c m ≡ true

-- a test is enough at a scan where it holds at each row exactly where all clauses that are active there do
abbrev pub IsEnoughAtScan : Frame → ℕ → (Map → Bool) → Type 0
IsEnoughAtScan f i test = (r : ℕ) → r < f.rows i → (test (one_row f.items i r) ≡ true) ↔ AllActive f (2 ^ i) (one_row f.items i r)

abbrev pub scan_test : Frame → ℕ → Map → Bool
scan_test f i m = all_below f.clauses (clause_met f (2 ^ i) m)

-- ---- the plain list of a step

-- the matches of a left map, in right order
abbrev pub matches : (Map → Bool) → List Map → Map → List Map
matches test right a = filter test (map (both a) right)

abbrev pub is_matched : (Map → Bool) → List Map → Map → Bool
is_matched test right a = list_any test (map (both a) right)

-- the matches of a left map, or the map alone, whose right items are none
abbrev pub left_rows : Map → List Map → List Map
left_rows a [] = a ∷ []
left_rows a (m ∷ found) = m ∷ found

abbrev pub once_where : Bool → Map → List Map
once_where true a = a ∷ []
once_where false a = []

abbrev pub joined_rows : Kind → (Map → Bool) → List Map → Map → List Map
joined_rows Left on right a = left_rows a (matches on right a)
joined_rows Semi on right a = once_where (is_matched on right a) a
joined_rows Anti on right a = once_where (not (is_matched on right a)) a

-- per left map in order: Inner its matches; by a join its matches or itself, tested by the step clauses afterwards
abbrev pub plain : Frame → Step → (Map → Bool) → List Map → List Map → List Map
plain f Inner test left right = flat_map (matches test right) left
plain f (By s) test left right = filter test (flat_map (joined_rows (f.kind s) (f.on s) right) left)

-- ---- the methods

abbrev pub both_with : Map → Map → Map
both_with b a = both a b

-- the matches of a right map, in left order
abbrev pub matches_to : (Map → Bool) → List Map → Map → List Map
matches_to test left b = filter test (map (both_with b) left)

abbrev pub is_unmatched : (Map → Bool) → List Map → Map → Bool
is_unmatched test right a = not (is_matched test right a)

-- per right map in order its matches, and then the left maps without any
abbrev pub right_first : (Map → Bool) → List Map → List Map → List Map
right_first on left right = flat_map (matches_to on left) right ++ filter (is_unmatched on right) left

-- a stable sort by a test that says whether a map stands before another
abbrev pub inserted : (Map → Map → Bool) → Map → List Map → List Map
inserted is_before m [] = m ∷ []
inserted is_before m (n ∷ rest) = if is_before n m then n ∷ inserted is_before m rest else m ∷ n ∷ rest

abbrev pub sorted_by : (Map → Map → Bool) → List Map → List Map
sorted_by is_before [] = []
sorted_by is_before (m ∷ rest) = inserted is_before m (sorted_by is_before rest)

pub data Method : Type 0 where
  Nest : Method
  Hash : Method
  HashRight : Method
  -- the orders of the left and of the right maps by the key
  Merge : (Map → Map → Bool) → (Map → Map → Bool) → Method

-- from the right side only left joins are hashed
abbrev pub IsAllowed : Frame → Method → Step → Type 0
IsAllowed f Nest step = Unit {0}
IsAllowed f Hash step = Unit {0}
IsAllowed f HashRight Inner = ⊥
IsAllowed f HashRight (By s) = f.kind s ≡ Left
IsAllowed f (Merge by_left by_right) step = Unit {0}

abbrev pub right_list : Frame → Step → (Map → Bool) → List Map → List Map → List Map
right_list f Inner test left right = plain f Inner test left right
right_list f (By s) test left right = filter test (right_first (f.on s) left right)

abbrev pub list_of : Frame → Method → Step → (Map → Bool) → List Map → List Map → List Map
list_of f Nest step test left right = plain f step test left right
list_of f Hash step test left right = plain f step test left right
list_of f HashRight step test left right = right_list f step test left right
list_of f (Merge by_left by_right) step test left right = plain f step test (sorted_by by_left left) (sorted_by by_right right)

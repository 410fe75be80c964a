-- The row set of a set of items: which maps a frame allows on it, without tree, order and step.
use Rattle.std.specs.Prelude.{◌≡◌, ℕ, zero, suc, ◌<◌, ◌⊎◌, ◌==◌, Bool, true, false, not, ◌&&◌, ◌||◌, List, [], ◌∷◌, map, filter, length, Option, Some, None, is_some, bit_and}
use Rattle.std.specs.List.{list_any, flat_map}
use Rattle.jp_base.specs.Sets.{Has}
use Rattle.jp_frame.specs.Maps.{Map, at, has, NoneOn, part, both, all_below, any_below}
use Rattle.jp_frame.specs.Frames.{Frame, Kind, Left, Semi, Anti}
use Rattle.jp_frame.specs.Legal.{IsDone, IsOuter, IsActive}

-- ---- the maps on a set

-- a map on a set has one place per item, and only items of the set have rows
pub record Lives (f : Frame) (set : ℕ) (m : Map) : Type 0 where
  pub long : length m ≡ f.items
  pub placed : (i r : ℕ) → at m i ≡ Some r → Has set i × (r < f.rows i)

abbrev pub rows_from : ℕ → ℕ → List (Option ℕ)
rows_from r zero = []
rows_from r (suc n) = Some r ∷ rows_from (suc r) n

-- what may stand at the place of an item with n rows
abbrev pub choices : Bool → ℕ → List (Option ℕ)
choices true n = None ∷ rows_from 0 n
choices false n = None ∷ []

abbrev pub with_first : List Map → Option ℕ → List Map
with_first maps row = map (◌∷◌ row) maps

-- the places of n items, from item i on
abbrev pub maps_from : Frame → ℕ → ℕ → ℕ → List Map
maps_from f set i zero = [] ∷ []
maps_from f set i (suc n) = flat_map (with_first (maps_from f set (suc i) n)) (choices (has set i) (f.rows i))

abbrev pub maps : Frame → ℕ → List Map
maps f set = maps_from f set 0 f.items

-- ---- tests of done joins and active clauses

abbrev pub is_within : ℕ → ℕ → Bool
is_within a b = bit_and a b == a

abbrev pub done : Frame → ℕ → ℕ → Bool
done f set s = is_within (f.left s) set && is_within (f.right s) set

abbrev pub inside : Frame → ℕ → ℕ → Bool
inside f u t = not (u == t) && (is_within (f.left u) (f.right t) && is_within (f.right u) (f.right t))

abbrev pub holds_inside : Frame → ℕ → ℕ → ℕ → Bool
holds_inside f set u t = done f set t && inside f u t

abbrev pub outer : Frame → ℕ → ℕ → Bool
outer f set s = done f set s && not (any_below f.joins (holds_inside f set s))

abbrev pub region_done : Frame → ℕ → ℕ → Bool
region_done f set zero = false
region_done f set (suc r) = done f set r

abbrev pub active : Frame → ℕ → ℕ → Bool
active f set c = is_within (f.needs c) set && not (region_done f set (f.region c))

-- the item lies in the right set of a join that is done, so it may be none
abbrev pub may_be_none_by : Frame → ℕ → ℕ → ℕ → Bool
may_be_none_by f set i u = done f set u && has (f.right u) i

-- ---- the row set

abbrev pub is_none_at : ℕ → Map → ℕ → Bool
is_none_at set m i = not (has set i && is_some (at m i))

abbrev pub is_none_on : ℕ → Map → Bool
is_none_on set m = all_below (length m) (is_none_at set m)

abbrev pub meets_with : Frame → ℕ → Map → Map → Bool
meets_with f s m x = f.on s (both m x)

-- some member of the row set of the right set of s, in its place, makes the ON list hold
abbrev pub has_match : Frame → (Map → Bool) → Map → ℕ → Bool
has_match f is_member m s = list_any (meets_with f s m) (filter is_member (maps f (f.right s)))

abbrev pub condition_of : Kind → Bool → Bool → Bool → Bool
condition_of Left matched none match = matched || (none && not match)
condition_of Semi matched none match = none && match
condition_of Anti matched none match = none && not match

-- The condition of a join on a map. Left: the map's part on the right set is a member there and the ON list holds, or this
-- part is none and no member in its place makes the ON list hold. Semi and Anti: it is none, and some or no member does.
abbrev pub condition : Frame → (Map → Bool) → Map → ℕ → Bool
condition f is_member m s = condition_of (f.kind s) (is_member (part (f.right s) m) && f.on s m) (is_none_on (f.right s) m) (has_match f is_member m s)

abbrev pub item_met : Frame → ℕ → Map → ℕ → Bool
item_met f set m i = not (has set i) || (any_below f.joins (may_be_none_by f set i) || is_some (at m i))

abbrev pub join_met : Frame → (ℕ → Map → Bool) → ℕ → Map → ℕ → Bool
join_met f is_member set m s = not (outer f set s) || condition f (is_member (f.right s)) m s

abbrev pub clause_met : Frame → ℕ → Map → ℕ → Bool
clause_met f set m c = not (active f set c) || f.holds c m

-- By recursion on a number above the set as a mask: the right set of a join that is done is a smaller number. So the
-- recursion never ends at zero where the frame meets its conditions.
unfoldable pub is_row_within : ℕ → Frame → ℕ → Map → Bool
is_row_within zero f set m = false
is_row_within (suc fuel) f set m =
    all_below f.items (item_met f set m) && (all_below f.joins (join_met f (is_row_within fuel f) set m) && all_below f.clauses (clause_met f set m))

abbrev pub is_row : Frame → ℕ → Map → Bool
is_row f set m = is_row_within (suc set) f set m

abbrev pub row_set : Frame → ℕ → List Map
row_set f set = filter (is_row f set) (maps f set)

-- ---- the same in words

pub record InRowSet (f : Frame) (set : ℕ) (m : Map) : Type 0 where
  pub lives : Lives f set m
  pub row : is_row f set m ≡ true

-- no member of the row set of the right set of s, in its place, makes the ON list hold
abbrev pub HasNoMatch : Frame → ℕ → Map → Type 0
HasNoMatch f s m = (x : Map) → InRowSet f (f.right s) x → f.on s (both m x) ≡ false

abbrev pub HasMatch : Frame → ℕ → Map → Type 0
HasMatch f s m = (x : Map) × InRowSet f (f.right s) x × (f.on s (both m x) ≡ true)

abbrev pub ConditionOf : Kind → Frame → ℕ → Map → Type 0
ConditionOf Left f s m = ((is_row f (f.right s) (part (f.right s) m) ≡ true) × (f.on s m ≡ true)) ⊎ (NoneOn (f.right s) m × HasNoMatch f s m)
ConditionOf Semi f s m = NoneOn (f.right s) m × HasMatch f s m
ConditionOf Anti f s m = NoneOn (f.right s) m × HasNoMatch f s m

abbrev pub Condition : Frame → ℕ → Map → Type 0
Condition f s m = ConditionOf (f.kind s) f s m

pub record IsRow (f : Frame) (set : ℕ) (m : Map) : Type 0 where
  -- an item in the right set of no join that is done has a row
  pub items : (i : ℕ) → i < f.items → Has set i → ((u : ℕ) → IsDone f set u → ¬ Has (f.right u) i) → at m i ≡ None → ⊥
  pub joins : (s : ℕ) → IsOuter f set s → Condition f s m
  pub clauses : (c : ℕ) → IsActive f set c → f.holds c m ≡ true

-- Maps from items to rows. A map has one place per item, with the number of the item's row or none.
use Rattle.std.specs.Prelude.{◌≡◌, ℕ, zero, suc, ◌==◌, Bool, true, false, ◌&&◌, ◌||◌, List, [], ◌∷◌, Option, Some, None, slice_index_or}
use Rattle.std.specs.Int.{bit_at}
use Rattle.jp_base.specs.Sets.{Has}

abbrev pub Map : Type 0
Map = List (Option ℕ)

-- the row of an item; past the end of the map there is none
abbrev pub at : Map → ℕ → Option ℕ
at m i = slice_index_or m i None

abbrev pub has : ℕ → ℕ → Bool
has set i = bit_at set i == 1

-- two maps agree on a set
abbrev pub Agree : ℕ → Map → Map → Type 0
Agree set m n = (i : ℕ) → Has set i → at m i ≡ at n i

-- a map is none on a set
abbrev pub NoneOn : ℕ → Map → Type 0
NoneOn set m = (i : ℕ) → Has set i → at m i ≡ None

abbrev pub NoneEverywhere : Map → Type 0
NoneEverywhere m = (i : ℕ) → at m i ≡ None

-- the part of a map on a set, whose first item has the number i
abbrev pub kept : Bool → Option ℕ → Option ℕ
kept true row = row
kept false row = None

abbrev pub part_from : ℕ → ℕ → Map → Map
part_from i set [] = []
part_from i set (row ∷ m) = kept (has set i) row ∷ part_from (suc i) set m

abbrev pub part : ℕ → Map → Map
part set m = part_from 0 set m

-- two maps together; where both have a row it is the first one's
abbrev pub either_row : Option ℕ → Option ℕ → Option ℕ
either_row None row = row
either_row (Some r) row = Some r

abbrev pub both : Map → Map → Map
both [] n = n
both (row ∷ m) [] = row ∷ m
both (row ∷ m) (other ∷ n) = either_row row other ∷ both m n

-- a test at each number below a bound, from the greatest down
abbrev pub all_below : ℕ → (ℕ → Bool) → Bool
all_below zero test = true
all_below (suc n) test = test n && all_below n test

abbrev pub any_below : ℕ → (ℕ → Bool) → Bool
any_below zero test = false
any_below (suc n) test = test n || any_below n test

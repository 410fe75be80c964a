-- The order of the sides of a merge, and the list that it gives.
use Rattle.std.specs.Prelude.{◌≡◌, ℕ, Bool, true, false, List, All, Option, Some, None, slice_index_or}
use Rattle.std.specs.Ordering.{is_lt}
use Rattle.jp_base.specs.Cells.{value_of_cell}
use Rattle.jp_base.specs.Values.{are_equal}
use Rattle.jp_base.specs.declared.values.Value.{Value}
use Rattle.jp_query.specs.declared.Expr.{Expr}
use Rattle.jp_query.specs.Ordering.{Direction, key_order}
use Rattle.jp_frame.specs.Maps.{Map, both}
use Rattle.jp_frame.specs.Methods.{sorted_by}
use Rattle.jp_joins.specs.Meant.{Meant, plain_list, value_at}
use Rattle.jp_joins.specs.Tuples.{map_of}
use Rattle.jp_joins.specs.Working.{CanTry}
use Rattle.jp_joins.specs.declared.sorting.Keyed.{Keyed}
use Rattle.jp_joins.specs.declared.tuples.Tuple.{Tuple}

-- ascending, NULL last
abbrev pub ascending : Direction
ascending = record { desc = false; nulls_first = false }

abbrev pub key_before : Value → Value → Bool
key_before v w = is_lt (key_order ascending v w)

-- the value of the side is less at the first map
abbrev pub stands_before : Meant → Expr → Map → Map → Bool
stands_before meant side a b = key_before (value_at meant a side) (value_at meant b side)

abbrev pub merged_by : Meant → Option (Expr × Expr) → List Map → List Map → List Map
merged_by meant (Some key) left right = plain_list meant (sorted_by (stands_before meant key.0) left) (sorted_by (stands_before meant key.1) right)
merged_by meant None left right = plain_list meant left right

-- the plain list over both sides stably sorted by their key; there is one
abbrev pub merged_list : Meant → List Map → List Map → List Map
merged_list meant left right = merged_by meant meant.key left right

-- ---- tuples with their keys

abbrev pub value_of_keyed : Keyed → Value
value_of_keyed k = value_of_cell k.key

abbrev pub tuple_of_keyed : Keyed → Tuple
tuple_of_keyed k = k.tuple

abbrev pub map_of_keyed : Keyed → Map
map_of_keyed k = map_of k.tuple

abbrev pub keyed_before : Keyed → Keyed → Bool
keyed_before a b = key_before (value_of_keyed a) (value_of_keyed b)

-- the key is the value of the side at the tuple
abbrev pub IsKeyed : Meant → Expr → Keyed → Type 0
IsKeyed meant side k = value_of_keyed k ≡ value_at meant (map_of_keyed k) side

abbrev pub key_at : List Keyed → ℕ → Keyed → Value
key_at ks k d = value_of_keyed (slice_index_or ks k d)

-- the right tuples that match a left one have its key
abbrev pub MatchesKey : (Map → Bool) → Keyed → List Keyed → Type 0
MatchesKey test left rights = All (λ right. test (both (map_of_keyed left) (map_of_keyed right)) ≡ true → are_equal (value_of_keyed left) (value_of_keyed right) ≡ true) rights

-- a left tuple can be tried with the right ones that have its key
abbrev pub CanTryEqual : Meant → ℕ → Keyed → List Keyed → Type 0
CanTryEqual meant known left rights = All (λ right. are_equal (value_of_keyed left) (value_of_keyed right) ≡ true → CanTry meant known (map_of_keyed left) (map_of_keyed right)) rights

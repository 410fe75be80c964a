-- The sameness of values and rows, and the order of keys.
use Rattle.std.proofs.Common.{◌≡◌, ◌∙◌, ap, sym, refl, ℕ, Bool, true, false, ◌&&◌, List, [], ◌∷◌}
use Rattle.std.specs.Prelude.{if◌then◌else◌, Some}
use Rattle.std.specs.Cmp.{IsTotalOrder, IsStrictWeakOrder}
use Rattle.std.specs.Cmp.Derive.{point_total}
use Rattle.std.specs.declared.cmp.Ordering.{Ordering}
use Rattle.std.specs.declared.cmp.Ordering.TheVariants.{Less, Equal, Greater}
use Rattle.std.specs.Ordering.{is_eq, nat_cmp, on, then_cmp, ordering_then}
use Rattle.std.proofs.lemmas.Cmp.{then_total, on_total, back_total, nat_cmp_total, tied_itself}
use Rattle.std.proofs.lemmas.List.MinMax.{ranks_by}
use Rattle.jp_base.specs.declared.values.Value.{Value}
use Rattle.jp_base.specs.declared.values.Value.TheVariants as value
use Rattle.jp_base.specs.Values.{order_of, are_same, total_order_of}
use Rattle.jp_base.proofs.ValueOrder.{values_total, tied, tie_equal, same_order, same_total}
use Rattle.jp_query.specs.Ordering.{Row, Line, Direction, same_rows, turned, key_order, first_key, later_keys, keys_order, is_before}

-- values are the same where they tie
same_tie : (a b : Value) → are_same a b ≡ is_eq (total_order_of a b)
same_tie value.Null value.Null = refl
same_tie value.Null (value.Num b) = refl
same_tie value.Null (value.Bool b) = refl
same_tie value.Null (value.Text b) = refl
same_tie (value.Num a) value.Null = refl
same_tie (value.Num a) (value.Num b) = refl
same_tie (value.Num a) (value.Bool b) = refl
same_tie (value.Num a) (value.Text b) = refl
same_tie (value.Bool a) value.Null = refl
same_tie (value.Bool a) (value.Num b) = refl
same_tie (value.Bool a) (value.Bool b) = refl
same_tie (value.Bool a) (value.Text b) = refl
same_tie (value.Text a) value.Null = refl
same_tie (value.Text a) (value.Num b) = refl
same_tie (value.Text a) (value.Bool b) = refl
same_tie (value.Text a) (value.Text b) = refl

value_equal : (a b : Value) → are_same a b ≡ true → a ≡ b
value_equal a b h = tie_equal a b (tied (total_order_of a b) (sym (same_tie a b) ∙ h))

value_same : (a : Value) → are_same a a ≡ true
value_same a = same_tie a a ∙ ap is_eq (tied_itself values_total a)

pub and_left : (b c : Bool) → (b && c) ≡ true → b ≡ true
and_left true c h = refl
and_left false c h = h

pub and_right : (b c : Bool) → (b && c) ≡ true → c ≡ true
and_right true c h = h
and_right false c h = cc

pub rows_equal : (a b : Row) → same_rows a b ≡ true → a ≡ b
rows_equal [] [] h = refl
rows_equal [] (b ∷ bs) h = cc
rows_equal (a ∷ as') [] h = cc
rows_equal (a ∷ as') (b ∷ bs) h = ap (λ x. x ∷ as') (value_equal a b (and_left (are_same a b) (same_rows as' bs) h)) ∙ ap (λ xs. b ∷ xs) (rows_equal as' bs (and_right (are_same a b) (same_rows as' bs) h))

pub rows_same : (a : Row) → same_rows a a ≡ true
rows_same [] = refl
rows_same (a ∷ as') = ap (λ b. b && same_rows as' as') (value_same a) ∙ rows_same as'

-- ---- the order of keys is that of where NULLs stand, and then that of the values

abbrev null_place : Bool → Value → ℕ
null_place nulls_first value.Null = if nulls_first then 0 else 2
null_place nulls_first _ = 1

abbrev turned_order : Bool → Value → Value → Ordering
turned_order desc a b = turned desc (total_order_of a b)

turned_total : (desc : Bool) → IsTotalOrder (turned_order desc)
turned_total true = same_total (λ a b. total_order_of b a) (turned_order true) (λ a b. values_total.antisymm b a) (back_total values_total)
turned_total false = values_total

abbrev in_steps : Bool → Bool → Value → Value → Ordering
in_steps desc nulls_first = then_cmp (on (null_place nulls_first) nat_cmp) (turned_order desc)

nulls_tie : (desc nulls_first : Bool) → in_steps desc nulls_first value.Null value.Null ≡ Equal
nulls_tie true true = refl
nulls_tie true false = refl
nulls_tie false true = refl
nulls_tie false false = refl

-- v is no NULL
null_left : (desc nulls_first : Bool) (v : Value) → null_place true v ≡ 1 → null_place false v ≡ 1 → in_steps desc nulls_first value.Null v ≡ (if nulls_first then Less else Greater)
null_left desc true v e f = ap (λ n. ordering_then (nat_cmp 0 n) (turned_order desc value.Null v)) e
null_left desc false v e f = ap (λ n. ordering_then (nat_cmp 2 n) (turned_order desc value.Null v)) f

null_right : (desc nulls_first : Bool) (v : Value) → null_place true v ≡ 1 → null_place false v ≡ 1 → in_steps desc nulls_first v value.Null ≡ (if nulls_first then Greater else Less)
null_right desc true v e f = ap (λ n. ordering_then (nat_cmp n 0) (turned_order desc v value.Null)) e
null_right desc false v e f = ap (λ n. ordering_then (nat_cmp n 2) (turned_order desc v value.Null)) f

steps_are : (key : Direction) (a b : Value) → in_steps key.desc key.nulls_first a b ≡ key_order key a b
steps_are key value.Null value.Null = nulls_tie key.desc key.nulls_first
steps_are key value.Null (value.Num b) = null_left key.desc key.nulls_first (value.Num b) refl refl
steps_are key value.Null (value.Bool b) = null_left key.desc key.nulls_first (value.Bool b) refl refl
steps_are key value.Null (value.Text b) = null_left key.desc key.nulls_first (value.Text b) refl refl
steps_are key (value.Num a) value.Null = null_right key.desc key.nulls_first (value.Num a) refl refl
steps_are key (value.Num a) (value.Num b) = refl
steps_are key (value.Num a) (value.Bool b) = refl
steps_are key (value.Num a) (value.Text b) = refl
steps_are key (value.Bool a) value.Null = null_right key.desc key.nulls_first (value.Bool a) refl refl
steps_are key (value.Bool a) (value.Num b) = refl
steps_are key (value.Bool a) (value.Bool b) = refl
steps_are key (value.Bool a) (value.Text b) = refl
steps_are key (value.Text a) value.Null = null_right key.desc key.nulls_first (value.Text a) refl refl
steps_are key (value.Text a) (value.Num b) = refl
steps_are key (value.Text a) (value.Bool b) = refl
steps_are key (value.Text a) (value.Text b) = refl

key_total : (key : Direction) → IsTotalOrder (key_order key)
key_total key = same_total (in_steps key.desc key.nulls_first) (key_order key) (steps_are key) (then_total (on_total (null_place key.nulls_first) nat_cmp_total) (turned_total key.desc))

pub keys_total : (keys : List Direction) → IsTotalOrder (keys_order keys)
keys_total [] = same_total (λ a b. Equal) (keys_order []) (λ a b. refl) point_total
keys_total (key ∷ keys) = same_total (then_cmp (on first_key (key_order key)) (on later_keys (keys_order keys))) (keys_order (key ∷ keys)) (λ a b. refl) (then_total (on_total first_key (key_total key)) (on_total later_keys (keys_total keys)))

pub lines_weak : (keys : List Direction) → IsStrictWeakOrder (is_before keys)
lines_weak keys = ranks_by (keys_total keys) (λ (line : Line). line.keys)

-- two values of one type keep SQL's order, turned where the key descends
pub key_sql : (key : Direction) (a b : Value) (order : Ordering) → order_of a b ≡ Some order → key_order key a b ≡ turned key.desc order
key_sql key value.Null b o h = cc
key_sql key (value.Num a) value.Null o h = cc
key_sql key (value.Num a) (value.Num b) o h = ap (turned key.desc) (same_order (value.Num a) (value.Num b) o h)
key_sql key (value.Num a) (value.Bool b) o h = cc
key_sql key (value.Num a) (value.Text b) o h = cc
key_sql key (value.Bool a) value.Null o h = cc
key_sql key (value.Bool a) (value.Num b) o h = cc
key_sql key (value.Bool a) (value.Bool b) o h = ap (turned key.desc) (same_order (value.Bool a) (value.Bool b) o h)
key_sql key (value.Bool a) (value.Text b) o h = cc
key_sql key (value.Text a) value.Null o h = cc
key_sql key (value.Text a) (value.Num b) o h = cc
key_sql key (value.Text a) (value.Bool b) o h = cc
key_sql key (value.Text a) (value.Text b) o h = ap (turned key.desc) (same_order (value.Text a) (value.Text b) o h)

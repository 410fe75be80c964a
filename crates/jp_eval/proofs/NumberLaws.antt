-- Arithmetic in 128 bits is exact where the bounds of the numbers fit in them.
use Rattle.std.proofs.Common.{◌≡◌, ◌∙◌, ap, sym, subst, refl, ℕ, zero, suc, ◌+◌, ◌-◌, ◌*◌, ◌^◌, ◌<◌, ◌≤◌, ◌==◌, ◌≢◌, ℤ, pos, negsuc, ◌+ℤ◌, ◌*ℤ◌, neg_ℤ, nat_abs, Bool, true, false, nat_lt, List, [], ◌∷◌, map, fold, arith}
use Rattle.std.specs.Prelude.{if◌then◌else◌}
use Rattle.std.proofs.lemmas.Bool.Decides.{nat_tests}
use Rattle.std.proofs.lemmas.Nat.{mul-le}
use Rattle.jp_base.specs.declared.values.Ty.TheVariants as ty
use Rattle.jp_base.specs.declared.values.Value.{Value}
use Rattle.jp_base.specs.declared.values.Value.TheVariants as value
use Rattle.jp_query.specs.Operators.{negated, plus, times, signed}
use Rattle.jp_laws.proofs.ValuesFit.{Fits, abs_product, turned_fits, plus_fits, signed_fits}
use Rattle.jp_eval.specs.declared.arithmetic.Multiplied.{Multiplied}
use Rattle.jp_eval.specs.declared.arithmetic.Multiplied.TheVariants as multiplied
use Rattle.jp_eval.specs.Arithmetic.{fits_in_128, number_in_128, negated_in_128, plus_in_128, signed_in_128, is_zero, product_or_beyond, times_number, times_in_128, value_of_product}

-- the greatest magnitude that 128 bits hold with each sign
abbrev pub most : ℕ
most = 2 ^ 127 - 1

test_below : (n m : ℕ) → n < m → nat_lt n m ≡ true
test_below n m h = grind (arith, nat_tests)

below_test : (n m : ℕ) → nat_lt n m ≡ false → m ≤ n
below_test n m h = grind (arith, nat_tests)

is_small : (a : ℤ) → nat_abs a ≤ most → fits_in_128 a ≡ true
is_small (pos n) h = test_below n (2 ^ 127) (omega (arith, h))
is_small (negsuc n) h = test_below n (2 ^ 127) (omega (arith, h))

is_large : (a : ℤ) → fits_in_128 a ≡ false → most < nat_abs a
is_large (pos n) h = omega (arith, below_test n (2 ^ 127) h)
is_large (negsuc n) h = omega (arith, below_test n (2 ^ 127) h)

number_fits_in_128 : (a : ℤ) → nat_abs a ≤ most → number_in_128 a ≡ value.Num a
number_fits_in_128 a h = ap (λ b. if b then value.Num a else value.Null) (is_small a h)

-- ---- signs and sums

pub negated_exact : (n : ℕ) (v : Value) → Fits ty.Number n v → n ≤ most → negated_in_128 v ≡ negated v
negated_exact n (value.Num a) f h = number_fits_in_128 (neg_ℤ a) (omega (arith, (turned_fits n (value.Num a) f).within, h))
negated_exact n value.Null f h = refl
negated_exact n (value.Bool b) f h = refl
negated_exact n (value.Text t) f h = refl

signed_exact : (b : Bool) (n : ℕ) (v : Value) → Fits ty.Number n v → n ≤ most → signed_in_128 (b, v) ≡ signed (b, v)
signed_exact true n v f h = negated_exact n v f h
signed_exact false n v f h = refl

plus_exact : (n m : ℕ) (v w : Value) → Fits ty.Number n v → Fits ty.Number m w → n + m ≤ most → plus_in_128 v w ≡ plus v w
plus_exact n m (value.Num a) (value.Num b) f g h = number_fits_in_128 (a +ℤ b) (omega (arith, (plus_fits n m (value.Num a) (value.Num b) f g).within, h))
plus_exact n m (value.Num a) value.Null f g h = refl
plus_exact n m (value.Num a) (value.Bool b) f g h = refl
plus_exact n m (value.Num a) (value.Text b) f g h = refl
plus_exact n m value.Null w f g h = refl
plus_exact n m (value.Bool a) w f g h = refl
plus_exact n m (value.Text a) w f g h = refl

-- numbers with their bounds, place by place
abbrev pub AreWithin : List ℕ → List Value → Type 0
AreWithin [] [] = Unit {0}
AreWithin (n ∷ bounds) (v ∷ values) = Fits ty.Number n v × AreWithin bounds values
AreWithin _ _ = ⊥

grows : (n : ℕ) (bounds : List ℕ) → n ≤ fold (λ a x. a + x) n bounds
grows n [] = omega arith
grows n (m ∷ bounds) = omega (arith, grows (n + m) bounds)

-- the bound of each of a list is no more than their sum
part_of_sum : (n m : ℕ) (bounds : List ℕ) → m ≤ fold (λ a x. a + x) (n + m) bounds
part_of_sum n m bounds = omega (arith, grows (n + m) bounds)

pub sum_exact : (n : ℕ) (v : Value) (bounds : List ℕ) (terms : List (Bool × Value)) → Fits ty.Number n v → AreWithin bounds (map (λ (t : Bool × Value). t.1) terms) → fold (λ a x. a + x) n bounds ≤ most
    → fold plus_in_128 v (map signed_in_128 terms) ≡ fold plus v (map signed terms)
sum_exact n v [] [] f w h = refl
sum_exact n v [] (t ∷ terms) f w h = absurd w
sum_exact n v (m ∷ bounds) [] f w h = absurd w
sum_exact n v (m ∷ bounds) (t ∷ terms) f w h =
    let one = signed_fits t.0 m t.1 w.0 in
    ap (λ x. fold plus_in_128 (plus_in_128 v x) (map signed_in_128 terms)) (signed_exact t.0 m t.1 w.0 (omega (arith, part_of_sum n m bounds, h)))
    ∙ ap (λ x. fold plus_in_128 x (map signed_in_128 terms)) (plus_exact n m v (signed t) f one (omega (arith, grows (n + m) bounds, h)))
    ∙ sum_exact (n + m) (plus v (signed t)) bounds terms (plus_fits n m v (signed t) f one) w.1 h

-- ---- products

-- what the evaluator has of a product so far, its value, and its bound
abbrev IsProduct : Multiplied → Value → ℕ → Type 0
IsProduct multiplied.Null value.Null n = Unit {0}
IsProduct (multiplied.Number a) (value.Num b) n = (a ≡ b) × (nat_abs b ≤ n)
IsProduct multiplied.Beyond (value.Num b) n = (most < nat_abs b) × (nat_abs b ≤ n)
IsProduct _ _ n = ⊥

abs_zero : (a : ℤ) → nat_abs a ≡ 0 → a ≡ pos 0
abs_zero (pos n) h = ap pos h
abs_zero (negsuc n) h = absurd (omega (arith, h))

product_within : (a b : ℤ) (n m : ℕ) → nat_abs a ≤ n → nat_abs b ≤ m → nat_abs (a *ℤ b) ≤ n * m
product_within a b n m p q = subst (λ k. k ≤ n * m) (sym (abs_product a b)) (mul-le (nat_abs a) (nat_abs b) n m p q)

-- a factor 0
by_zero : (a b : ℤ) → nat_abs b ≡ 0 → pos 0 ≡ a *ℤ b
by_zero a b h = sym (abs_zero (a *ℤ b) (abs_product a b ∙ ap (λ k. nat_abs a * k) h ∙ omega arith))

still_beyond : (a b : ℤ) → nat_abs b ≢ 0 → most < nat_abs a → most < nat_abs (a *ℤ b)
still_beyond a b h large = subst (λ k. most < k) (sym (abs_product a b)) (at_least (nat_abs b) (nat_abs a) h large)
  where
    at_least : (k n : ℕ) → k ≢ 0 → most < n → most < n * k
    at_least zero n h large = absurd (h refl)
    at_least (suc k) n h large = omega (arith, large)

test_zero : (n : ℕ) → (n == 0) ≡ true → n ≡ 0
test_zero n h = grind (arith, nat_tests)

test_nonzero : (n : ℕ) → (n == 0) ≡ false → n ≢ 0
test_nonzero n h e = grind (arith, nat_tests)

one_factor : (product : Multiplied) (v : Value) (n : ℕ) (b : ℤ) (m : ℕ) → IsProduct product v n → nat_abs b ≤ m → IsProduct (times_number product b) (times v (value.Num b)) (n * m)
one_factor multiplied.Null value.Null n b m p q = tt
one_factor multiplied.Null (value.Num a) n b m p q = absurd p
one_factor multiplied.Null (value.Bool a) n b m p q = absurd p
one_factor multiplied.Null (value.Text a) n b m p q = absurd p
one_factor (multiplied.Number c) value.Null n b m p q = absurd p
one_factor (multiplied.Number c) (value.Bool a) n b m p q = absurd p
one_factor (multiplied.Number c) (value.Text a) n b m p q = absurd p
one_factor (multiplied.Number c) (value.Num a) n b m p q = by_cases (is_zero b) refl
  where
    within : nat_abs (a *ℤ b) ≤ n * m
    within = product_within a b n m p.1 q

    by_size : (t : Bool) → fits_in_128 (a *ℤ b) ≡ t → IsProduct (if t then multiplied.Number (a *ℤ b) else multiplied.Beyond) (value.Num (a *ℤ b)) (n * m)
    by_size true e = (refl, within)
    by_size false e = (is_large (a *ℤ b) e, within)

    by_cases : (t : Bool) → is_zero b ≡ t → IsProduct (if t then multiplied.Number (pos 0) else product_or_beyond (c *ℤ b)) (value.Num (a *ℤ b)) (n * m)
    by_cases true e = (by_zero a b (test_zero (nat_abs b) e), within)
    by_cases false e = subst (λ z. IsProduct (product_or_beyond (z *ℤ b)) (value.Num (a *ℤ b)) (n * m)) (sym p.0) (by_size (fits_in_128 (a *ℤ b)) refl)
one_factor multiplied.Beyond value.Null n b m p q = absurd p
one_factor multiplied.Beyond (value.Bool a) n b m p q = absurd p
one_factor multiplied.Beyond (value.Text a) n b m p q = absurd p
one_factor multiplied.Beyond (value.Num a) n b m p q = by_cases (is_zero b) refl
  where
    within : nat_abs (a *ℤ b) ≤ n * m
    within = product_within a b n m p.1 q

    by_cases : (t : Bool) → is_zero b ≡ t → IsProduct (if t then multiplied.Number (pos 0) else multiplied.Beyond) (value.Num (a *ℤ b)) (n * m)
    by_cases true e = (by_zero a b (test_zero (nat_abs b) e), within)
    by_cases false e = (still_beyond a b (test_nonzero (nat_abs b) e) p.0, within)

null_factor : (product : Multiplied) (v : Value) (n m : ℕ) → IsProduct product v n → IsProduct multiplied.Null (times v value.Null) (n * m)
null_factor multiplied.Null value.Null n m p = tt
null_factor multiplied.Null (value.Num a) n m p = tt
null_factor multiplied.Null (value.Bool a) n m p = tt
null_factor multiplied.Null (value.Text a) n m p = tt
null_factor (multiplied.Number c) value.Null n m p = tt
null_factor (multiplied.Number c) (value.Num a) n m p = tt
null_factor (multiplied.Number c) (value.Bool a) n m p = tt
null_factor (multiplied.Number c) (value.Text a) n m p = tt
null_factor multiplied.Beyond value.Null n m p = tt
null_factor multiplied.Beyond (value.Num a) n m p = tt
null_factor multiplied.Beyond (value.Bool a) n m p = tt
null_factor multiplied.Beyond (value.Text a) n m p = tt

factor : (product : Multiplied) (v : Value) (n : ℕ) (w : Value) (m : ℕ) → IsProduct product v n → Fits ty.Number m w → IsProduct (times_in_128 product w) (times v w) (n * m)
factor product v n (value.Num b) m p f = one_factor product v n b m p f.within
factor product v n value.Null m p f = null_factor product v n m p
factor product v n (value.Bool b) m p f = absurd f.typed
factor product v n (value.Text b) m p f = absurd f.typed

factors : (product : Multiplied) (v : Value) (n : ℕ) (bounds : List ℕ) (values : List Value) → IsProduct product v n → AreWithin bounds values → IsProduct (fold times_in_128 product values) (fold times v values) (fold ◌*◌ n bounds)
factors product v n [] [] p w = p
factors product v n [] (x ∷ values) p w = absurd w
factors product v n (m ∷ bounds) [] p w = absurd w
factors product v n (m ∷ bounds) (x ∷ values) p w = factors (times_in_128 product x) (times v x) (n * m) bounds values (factor product v n x m p w.0) w.1

whole : (product : Multiplied) (v : Value) (n : ℕ) → IsProduct product v n → n ≤ most → value_of_product product ≡ v
whole multiplied.Null value.Null n p h = refl
whole multiplied.Null (value.Num a) n p h = absurd p
whole multiplied.Null (value.Bool a) n p h = absurd p
whole multiplied.Null (value.Text a) n p h = absurd p
whole (multiplied.Number c) value.Null n p h = absurd p
whole (multiplied.Number c) (value.Num a) n p h = ap value.Num p.0
whole (multiplied.Number c) (value.Bool a) n p h = absurd p
whole (multiplied.Number c) (value.Text a) n p h = absurd p
whole multiplied.Beyond value.Null n p h = absurd p
whole multiplied.Beyond (value.Num a) n p h = absurd (omega (arith, p.0, p.1, h))
whole multiplied.Beyond (value.Bool a) n p h = absurd p
whole multiplied.Beyond (value.Text a) n p h = absurd p

pub product_exact : (bounds : List ℕ) (values : List Value) → AreWithin bounds values → fold ◌*◌ 1 bounds ≤ most → value_of_product (fold times_in_128 (multiplied.Number (pos 1)) values) ≡ fold times (value.Num (pos 1)) values
product_exact bounds values w h = whole (fold times_in_128 (multiplied.Number (pos 1)) values) (fold times (value.Num (pos 1)) values) (fold ◌*◌ 1 bounds)
    (factors (multiplied.Number (pos 1)) (value.Num (pos 1)) 1 bounds values (refl, omega arith) w) h

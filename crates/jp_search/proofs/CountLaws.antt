-- A set of items below n has so many parts, and all sets of them together have 3 ^ n.
use Rattle.std.proofs.Common.{◌≡◌, ◌∙◌, sym, ap, ap₂, refl, ℕ, zero, suc, ◌+◌, ◌-◌, ◌*◌, ◌%◌, ◌^◌, ◌<◌, ◌≤◌, ◌⊎◌, inl, inr, arith}
use Rattle.std.specs.Int.{bit_at}
use Rattle.std.proofs.lemmas.Nat.{pow_pos, mod_below}
use Rattle.std.proofs.lemmas.Nat.Bits.{bit_at-lt, bit_at_above, bit_at_cat_low, bit_at_cat_high}
use Rattle.std.proofs.Math.Nat.{mod-eq_of_lt}
use Rattle.std.proofs.lemmas.Bool.{cases_eq}
use Rattle.jp_base.specs.Sets.{Within}
use Rattle.jp_search.specs.Counts.{doubled, parts_of, parts_below}
use Rattle.jp_search.proofs.NumberLaws.{mod_next}

bit_cases : (n i : ℕ) → (bit_at n i ≡ 0) ⊎ (bit_at n i ≡ 1)
bit_cases n i = elim (cases_eq (bit_at n i) 0) [ inl e ↦ inl e | inr d ↦ inr (omega (arith, bit_at-lt n i, d)) ]

-- ---- the place of a part among those of a set, in ascending order

abbrev placed : ℕ → ℕ → ℕ → ℕ → ℕ
placed zero bit parts place = place
placed (suc has) bit parts place = bit * parts + place

abbrev pub place_of : ℕ → ℕ → ℕ → ℕ
place_of zero set part = 0
place_of (suc n) set part = placed (bit_at set n) (bit_at part n) (parts_of n set) (place_of n set part)

parts_same : (n set : ℕ) → bit_at set n ≡ 0 → parts_of (suc n) set ≡ parts_of n set
unfolding parts_of
parts_same n set e = ap (λ b. doubled b (parts_of n set)) e

parts_twice : (n set : ℕ) → bit_at set n ≡ 1 → parts_of (suc n) set ≡ 2 * parts_of n set
unfolding parts_of
parts_twice n set e = ap (λ b. doubled b (parts_of n set)) e

place_same : (n set part : ℕ) → bit_at set n ≡ 0 → place_of (suc n) set part ≡ place_of n set part
place_same n set part e = ap (λ b. placed b (bit_at part n) (parts_of n set) (place_of n set part)) e

place_sum : (n set part : ℕ) → bit_at set n ≡ 1 → place_of (suc n) set part ≡ bit_at part n * parts_of n set + place_of n set part
place_sum n set part e = ap (λ b. placed b (bit_at part n) (parts_of n set) (place_of n set part)) e

place_low : (n set part : ℕ) → bit_at set n ≡ 1 → bit_at part n ≡ 0 → place_of (suc n) set part ≡ place_of n set part
place_low n set part e z = place_sum n set part e ∙ ap (λ b. b * parts_of n set + place_of n set part) z ∙ only (parts_of n set) (place_of n set part)
  where
    only : (a b : ℕ) → 0 * a + b ≡ b
    only a b = omega arith

place_high : (n set part : ℕ) → bit_at set n ≡ 1 → bit_at part n ≡ 1 → place_of (suc n) set part ≡ parts_of n set + place_of n set part
place_high n set part e z = place_sum n set part e ∙ ap (λ b. b * parts_of n set + place_of n set part) z ∙ once (parts_of n set) (place_of n set part)
  where
    once : (a b : ℕ) → 1 * a + b ≡ a + b
    once a b = omega arith

pub place_below : (n set part : ℕ) → place_of n set part < parts_of n set
unfolding parts_of
place_below zero set part = omega arith
place_below (suc n) set part =
    let low = place_below n set part in
    elim (bit_cases set n) [
      | inl none ↦ omega (arith, place_same n set part none, parts_same n set none, low)
      | inr some ↦ elim (bit_cases part n) [
        | inl z ↦ omega (arith, place_low n set part some z, parts_twice n set some, low)
        | inr o ↦ omega (arith, place_high n set part some o, parts_twice n set some, low)
      ]
    ]

next_is : (part n : ℕ) → part % 2 ^ suc n ≡ part % 2 ^ n + bit_at part n * 2 ^ n
next_is part n = ap (λ k. part % 2 ^ k) one ∙ mod_next part n
  where
    one : suc n ≡ n + 1
    one = omega arith

low_is : (part n : ℕ) → bit_at part n ≡ 0 → part % 2 ^ suc n ≡ part % 2 ^ n
low_is part n z = next_is part n ∙ ap (λ b. part % 2 ^ n + b * 2 ^ n) z ∙ only (part % 2 ^ n) (2 ^ n)
  where
    only : (a b : ℕ) → a + 0 * b ≡ a
    only a b = omega arith

high_is : (part n : ℕ) → bit_at part n ≡ 1 → part % 2 ^ suc n ≡ part % 2 ^ n + 2 ^ n
high_is part n z = next_is part n ∙ ap (λ b. part % 2 ^ n + b * 2 ^ n) z ∙ once (part % 2 ^ n) (2 ^ n)
  where
    once : (a b : ℕ) → a + 1 * b ≡ a + b
    once a b = omega arith

outside : (set part n : ℕ) → Within part set → bit_at set n ≡ 0 → bit_at part n ≡ 0
outside set part n within none = elim (bit_cases part n) [ inl z ↦ z | inr o ↦ absurd (omega (arith, within n o, none)) ]

-- greater parts stand further on
pub place_grows : (n set p q : ℕ) → Within p set → Within q set → p % 2 ^ n < q % 2 ^ n → place_of n set p < place_of n set q
place_grows zero set p q in_p in_q less = absurd (omega (arith, mod_below p 1 (omega arith), mod_below q 1 (omega arith), less))
place_grows (suc n) set p q in_p in_q less =
    elim (bit_cases set n) [
      | inl none ↦
          let zero_p = outside set p n in_p none in
          let zero_q = outside set q n in_q none in
          omega (arith, place_same n set p none, place_same n set q none, place_grows n set p q in_p in_q (omega (arith, low_is p n zero_p, low_is q n zero_q, less)))
      | inr some ↦ elim (bit_cases p n) [
        | inl zero_p ↦ elim (bit_cases q n) [
          | inl zero_q ↦ omega (arith, place_low n set p some zero_p, place_low n set q some zero_q, place_grows n set p q in_p in_q (omega (arith, low_is p n zero_p, low_is q n zero_q, less)))
          | inr one_q ↦ omega (arith, place_low n set p some zero_p, place_high n set q some one_q, place_below n set p)
        ]
        | inr one_p ↦ elim (bit_cases q n) [
          | inl zero_q ↦ absurd (omega (arith, high_is p n one_p, low_is q n zero_q, mod_below q (2 ^ n) (pow_pos n), less))
          | inr one_q ↦ omega (arith, place_high n set p some one_p, place_high n set q some one_q, place_grows n set p q in_p in_q (omega (arith, high_is p n one_p, high_is q n one_q, less)))
        ]
      ]
    ]

-- ---- all sets together

-- only the bits below n count
parts_agree : (n a b : ℕ) → ((i : ℕ) → i < n → bit_at a i ≡ bit_at b i) → parts_of n a ≡ parts_of n b
unfolding parts_of
parts_agree zero a b same = refl
parts_agree (suc n) a b same = ap₂ doubled (same n (omega arith)) (parts_agree n a b (λ i low. same i (omega (arith, low))))

below_low : (n m : ℕ) → m ≤ 2 ^ n → parts_below (suc n) m ≡ parts_below n m
unfolding parts_below
below_low n zero small = refl
below_low n (suc m) small = ap₂ (λ a b. a + b) (below_low n m (omega (arith, small))) (parts_same n m (bit_at_above m n n (omega (arith, small)) (omega arith)))

high_parts : (n m : ℕ) → m < 2 ^ n → parts_of (suc n) (2 ^ n + m) ≡ 2 * parts_of n m
high_parts n m small = parts_twice n (2 ^ n + m) (ap (λ k. bit_at k n) as_block ∙ bit_at_cat_high 1 n m n small (omega arith) ∙ ap (bit_at 1) none) ∙ ap (λ k. 2 * k) (parts_agree n (2 ^ n + m) m (λ i low. ap (λ k. bit_at k i) as_block ∙ bit_at_cat_low 1 n m i low))
  where
    as_block : 2 ^ n + m ≡ 1 * 2 ^ n + m
    as_block = omega arith

    none : n - n ≡ 0
    none = omega arith

below_high : (n m : ℕ) → m ≤ 2 ^ n → parts_below (suc n) (2 ^ n + m) ≡ parts_below n (2 ^ n) + 2 * parts_below n m
unfolding parts_below
below_high n zero small = ap (parts_below (suc n)) plain ∙ below_low n (2 ^ n) (omega arith) ∙ more
  where
    plain : 2 ^ n + 0 ≡ 2 ^ n
    plain = omega arith

    more : parts_below n (2 ^ n) ≡ parts_below n (2 ^ n) + 2 * 0
    more = omega arith
below_high n (suc m) small = ap (parts_below (suc n)) next ∙ ap₂ (λ a b. a + b) (below_high n m (omega (arith, small))) (high_parts n m (omega (arith, small))) ∙ sum (parts_below n (2 ^ n)) (parts_below n m) (parts_of n m)
  where
    next : 2 ^ n + suc m ≡ suc (2 ^ n + m)
    next = omega arith

    sum : (a b c : ℕ) → a + 2 * b + 2 * c ≡ a + 2 * (b + c)
    sum a b c = omega arith

pub all_parts : (n : ℕ) → parts_below n (2 ^ n) ≡ 3 ^ n
unfolding parts_below parts_of
all_parts zero = refl
all_parts (suc n) = ap (parts_below (suc n)) twice ∙ below_high n (2 ^ n) (omega arith) ∙ thrice (parts_below n (2 ^ n)) (3 ^ n) (all_parts n) ∙ sym (pow_three n)
  where
    twice : 2 ^ suc n ≡ 2 ^ n + 2 ^ n
    twice = omega arith

    thrice : (a b : ℕ) → a ≡ b → a + 2 * a ≡ 3 * b
    thrice a b e = omega (arith, e)

    pow_three : (k : ℕ) → 3 ^ suc k ≡ 3 * 3 ^ k
    pow_three k = omega arith

pub next_place : (n set left next : ℕ) → set < 2 ^ n → Within left set → left < set → Within next set → next < left → place_of n set next < place_of n set left
next_place n set left next small in_left below in_next less =
    place_grows n set next left in_next in_left (omega (arith, mod-eq_of_lt {n = next} {m = 2 ^ n} (omega (arith, small, below, less)), mod-eq_of_lt {n = left} {m = 2 ^ n} (omega (arith, small, below)), less))

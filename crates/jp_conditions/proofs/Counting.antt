-- A mask has as many ones as it has members, so distinct members are no more than its ones.
use Rattle.std.proofs.Common.{◌≡◌, ◌∙◌, ap, sym, subst, refl, ℕ, zero, suc, pred, ◌+◌, ◌*◌, ◌/◌, ◌%◌, ◌^◌, ◌<◌, ◌≤◌, ◌⊎◌, inl, inr, true, false, not, cond, nat_eq, List, [], ◌∷◌, map, filter, length, eq-eqb, arith}
use Rattle.std.specs.Prelude.{count_ones}
use Rattle.std.specs.Int.Count.{ones-ones}
use Rattle.std.proofs.lemmas.Bool.{cases_eq, ne_eqb}
use Rattle.std.proofs.lemmas.List.{length-map}
use Rattle.std.proofs.lemmas.Nat.{ones_cat}
use Rattle.std.proofs.lemmas.Nat.Bits.{bit_at_lowest, bit_at-suc}
use Rattle.jp_base.specs.Sets.{Has}
use Rattle.jp_facts.proofs.Members.{In, Distinct, from_map, from_filter, distinct_filter, distinct_map}

abbrev others : List ℕ → List ℕ
others = filter (λ m. not (nat_eq m 0))

all_others : (xs : List ℕ) → (In 0 xs → ⊥) → length xs ≤ length (others xs)
all_others [] h = omega arith
all_others (x ∷ xs) h = elim (cases_eq x 0) [
  | inl same ↦ absurd (h (inl same))
  | inr other ↦ subst (λ b. suc (length xs) ≤ length (cond (not b) (x ∷ others xs) (others xs))) (sym (ne_eqb x 0 other)) (let rest = all_others xs (λ p. h (inr p)) in omega (arith, rest))
]

but_one : (xs : List ℕ) → Distinct xs → length xs ≤ suc (length (others xs))
but_one [] d = omega arith
but_one (x ∷ xs) d = elim (cases_eq x 0) [
  | inl same ↦ subst (λ b. suc (length xs) ≤ suc (length (cond (not b) (x ∷ others xs) (others xs)))) (sym (eq-eqb x 0 same)) (let rest = all_others xs (subst (λ m. In m xs → ⊥) same d.0) in omega (arith, rest))
  | inr other ↦ subst (λ b. suc (length xs) ≤ suc (length (cond (not b) (x ∷ others xs) (others xs)))) (sym (ne_eqb x 0 other)) (let rest = but_one xs d.1 in omega (arith, rest))
]

-- the ones of a number are those of its half, and its last digit
halves : (u : ℕ) → count_ones u ≡ count_ones (u / 2) + count_ones (u % 2)
halves u = ap count_ones whole ∙ ones_cat 1 (u / 2) (u % 2) (omega arith)
  where
    whole : u ≡ (u / 2) * 2 ^ 1 + u % 2
    whole = omega arith

last_one : (u : ℕ) → Has u 0 → count_ones (u % 2) ≡ 1
last_one u h = ap count_ones (sym (bit_at_lowest u) ∙ h) ∙ ones-ones 1

not_zero : (m : ℕ) → not (nat_eq m 0) ≡ true → m ≡ 0 → ⊥
not_zero m e same = two (sym (ap not (eq-eqb m 0 same)) ∙ e)
  where
    two : false ≡ true → ⊥
    two e = cc

-- the members above 0 are one more than members of the half
halved : (u : ℕ) (xs : List ℕ) → ((n : ℕ) → In n xs → Has u n) → (n : ℕ) → In n (map pred (others xs)) → Has (u / 2) n
halved u xs all n h =
    let found = from_map pred n (others xs) h in
    let facts = from_filter (λ m. not (nat_eq m 0)) found.0 xs found.1 in
    at found.0 (not_zero found.0 facts.0) found.2 (all found.0 facts.1)
  where
    at : (m : ℕ) → (m ≡ 0 → ⊥) → pred m ≡ n → Has u m → Has (u / 2) n
    at zero some e p = absurd (some refl)
    at (suc m) some e p = subst (Has (u / 2)) e (sym (bit_at-suc u m) ∙ p)

below_halved : (k : ℕ) (xs : List ℕ) → ((n : ℕ) → In n xs → n < suc k) → (n : ℕ) → In n (map pred (others xs)) → n < k
below_halved k xs low n h =
    let found = from_map pred n (others xs) h in
    let facts = from_filter (λ m. not (nat_eq m 0)) found.0 xs found.1 in
    at found.0 (not_zero found.0 facts.0) found.2 (low found.0 facts.1)
  where
    at : (m : ℕ) → (m ≡ 0 → ⊥) → pred m ≡ n → m < suc k → n < k
    at zero some e p = absurd (some refl)
    at (suc m) some e p = subst (λ i. i < k) e (omega (arith, p))

distinct_halved : (xs : List ℕ) → Distinct xs → Distinct (map pred (others xs))
distinct_halved xs d = distinct_map pred (others xs) (distinct_filter (λ m. not (nat_eq m 0)) xs d) (λ m n h k e. same m n (not_zero m (from_filter (λ i. not (nat_eq i 0)) m xs h).0) (not_zero n (from_filter (λ i. not (nat_eq i 0)) n xs k).0) e)
  where
    same : (m n : ℕ) → (m ≡ 0 → ⊥) → (n ≡ 0 → ⊥) → pred m ≡ pred n → m ≡ n
    same zero n p q e = absurd (p refl)
    same (suc m) zero p q e = absurd (q refl)
    same (suc m) (suc n) p q e = ap suc e

zero_among : (xs : List ℕ) → In 0 xs ⊎ (In 0 xs → ⊥)
zero_among [] = inr (λ h. h)
zero_among (x ∷ xs) = elim (cases_eq x 0) [
  | inl e ↦ inl (inl e)
  | inr other ↦ elim (zero_among xs) [ inl h ↦ inl (inr h) | inr none ↦ inr (λ h. elim h [ inl e ↦ other e | inr k ↦ none k ]) ]
]

counted : (k u : ℕ) (xs : List ℕ) → ((n : ℕ) → In n xs → n < k) → Distinct xs → ((n : ℕ) → In n xs → Has u n) → length xs ≤ count_ones u
counted zero u [] low d all = omega arith
counted zero u (x ∷ xs) low d all = let h = low x (inl refl) in absurd (omega (arith, h))
counted (suc k) u xs low d all =
    let rest = counted k (u / 2) (map pred (others xs)) (below_halved k xs low) (distinct_halved xs d) (halved u xs all) in
    let long : length (map pred (others xs)) ≡ length (others xs) = length-map (others xs) pred in
    elim (zero_among xs) [
      | inl h ↦ (let one = last_one u (all 0 h) in let most = but_one xs d in omega (arith, rest, long, one, most, halves u))
      | inr none ↦ (let most = all_others xs none in omega (arith, rest, long, most, halves u))
    ]

highest : List ℕ → ℕ
highest [] = 0
highest (x ∷ xs) = suc (x + highest xs)

below_highest : (xs : List ℕ) (n : ℕ) → In n xs → n < highest xs
unfolding highest
below_highest [] n h = absurd h
below_highest (x ∷ xs) n (inl e) = omega (arith, e)
below_highest (x ∷ xs) n (inr h) = let k = below_highest xs n h in omega (arith, k)

pub no_more : (u : ℕ) (xs : List ℕ) → Distinct xs → ((n : ℕ) → In n xs → Has u n) → length xs ≤ count_ones u
no_more u xs d all = counted (highest xs) u xs (below_highest xs) d all

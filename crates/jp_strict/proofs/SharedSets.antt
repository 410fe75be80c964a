-- What two sets share, and the numbers of a set that pass a test.
use Rattle.std.proofs.Common.{◌≡◌, ◌∙◌, ap, sym, subst, refl, ℕ, zero, suc, ◌+◌, ◌*◌, ◌%◌, ◌^◌, ◌<◌, ◌≤◌, ◌⊎◌, ◌↔◌, inl, inr, Bool, true, false, ◌&&◌, List, [], ◌∷◌, map, fold, arith}
use Rattle.std.specs.Prelude.{bit_or, bit_and, ◌==◌, if◌then◌else◌}
use Rattle.std.specs.Int.{bit_at}
use Rattle.std.specs.List.{range_with_len}
use Rattle.std.proofs.lemmas.Bool.{cases_eq, cases_lt, true≢false, and_parts, and_from, eqb-true, eq-eqb, ne_eqb}
use Rattle.std.proofs.lemmas.Nat.Bits.{bit_at-pow_same, bit_at-pow_other}
use Rattle.jp_base.specs.Sets.{Has, IsDifference, IsEmpty, IsOnly, Meets, Within}
use Rattle.jp_base.proofs.SetLemmas.{has_or, has_and, has_below, only_one, same_set, within_and}
use Rattle.jp_base.proofs.MaskAlgebra.{has_none}
use Rattle.jp_query.proofs.SetWords.{beyond, empty_is}
use Rattle.jp_query.specs.Meaning.{has}
use Rattle.jp_query.specs.Refs.{below_64, only}
use Rattle.jp_strict.specs.Cases.{alone_in, kept_one, kept, leaves_alone}

pub common_is : (a b out r : ℕ) → IsDifference a b out → IsDifference a out r → r ≡ bit_and a b
common_is a b out r d e = same_set r (bit_and a b) (λ i. (to i, from i))
  where
    to : (i : ℕ) → Has r i → Has (bit_and a b) i
    to i h =
        let p = (e i).0 h in
        elim (cases_eq (bit_at b i) 1) [ inl q ↦ (has_and a b i).1 (p.0, q) | inr n ↦ absurd (p.1 ((d i).1 (p.0, n))) ]

    from : (i : ℕ) → Has (bit_and a b) i → Has r i
    from i h = let p = (has_and a b i).0 h in (e i).1 (p.0, λ q. ((d i).0 q).1 p.1)

-- ---- unions over a range of numbers

module _ (f : ℕ → ℕ) where
  stays : (start i : ℕ) (ks : List ℕ) → Has start i → Has (fold bit_or start (map f ks)) i
  stays start i [] h = h
  stays start i (k ∷ ks) h = stays (bit_or start (f k)) i ks ((has_or start (f k) i).1 (inl h))

  pub in_range : (n a start i : ℕ) → a ≤ i → i < a + n → Has (f i) i → Has (fold bit_or start (map f (range_with_len a n))) i
  in_range zero a start i low high h = absurd (omega (arith, low, high))
  in_range (suc n) a start i low high h = elim (cases_eq i a) [
    | inl same ↦ stays (bit_or start (f a)) i (range_with_len (a + 1) n) ((has_or start (f a) i).1 (inr (subst (λ k. Has (f k) i) same h)))
    | inr other ↦ in_range n (a + 1) (bit_or start (f a)) i (omega (arith, low, other)) (omega (arith, high)) h
  ]

  -- where each set has its own number alone, the union has numbers of the range alone
  module _ (alone : (k i : ℕ) → Has (f k) i → i ≡ k) where
    pub only_range : (n a start i : ℕ) → (Has start i → i < a + n) → Has (fold bit_or start (map f (range_with_len a n))) i → i < a + n
    only_range zero a start i low h = low h
    only_range (suc n) a start i low h = omega (arith, only_range n (a + 1) (bit_or start (f a)) i (λ p. elim ((has_or start (f a) i).0 p) [ inl q ↦ omega (arith, low q) | inr q ↦ omega (arith, alone a i q) ]) h)

-- ---- the numbers of a set that pass a test

module _ (set : ℕ) (p : ℕ → Bool) where
  passed : (i k : ℕ) → Has (kept_one set p k) i → Has set i × (p i ≡ true)
  passed i k h = by (has set k && p k) refl h
    where
      by : (b : Bool) → (has set k && p k) ≡ b → Has (if b then only k else 0) i → Has set i × (p i ≡ true)
      by true e q =
          let is : i ≡ k = elim (cases_eq i k) [ inl same ↦ same | inr n ↦ absurd (omega (arith, bit_at-pow_other k i n, q)) ] in
          let both = and_parts (has set k) (p k) e in
          (subst (λ n. Has set n) (sym is) (eqb-true (bit_at set k) 1 both.0), ap p is ∙ both.1)
      by false e q = absurd (has_none i q)

  passes : (i : ℕ) → Has set i → p i ≡ true → Has (kept_one set p i) i
  passes i h t = subst (λ b. Has (if b then only i else 0) i) (sym (and_from (has set i) (p i) (eq-eqb (bit_at set i) 1 h) t)) (bit_at-pow_same i)

  from_fold : (start i : ℕ) (ks : List ℕ) → Has (fold bit_or start (map (kept_one set p) ks)) i → Has start i ⊎ (Has set i × (p i ≡ true))
  from_fold start i [] h = inl h
  from_fold start i (k ∷ ks) h = elim (from_fold (bit_or start (kept_one set p k)) i ks h) [
    | inl q ↦ (elim ((has_or start (kept_one set p k) i).0 q) [ inl s ↦ inl s | inr o ↦ inr (passed i k o) ])
    | inr q ↦ inr q
  ]

  pub in_kept : (i : ℕ) → Has (kept set p) i → Has set i × (p i ≡ true)
  unfolding kept
  in_kept i h = elim (from_fold 0 i (range_with_len 0 64) h) [ inl q ↦ absurd (has_none i q) | inr q ↦ q ]

  pub to_kept : (i : ℕ) → i < 64 → Has set i → p i ≡ true → Has (kept set p) i
  unfolding kept
  to_kept i low h t = in_range (kept_one set p) 64 0 0 i (omega arith) (omega (arith, low)) (passes i h t)

-- ---- the numbers that alone hold all of a set

pub leaves : (rels i : ℕ) → Within rels (only i) → leaves_alone rels i ≡ true
leaves rels i w = eq-eqb (bit_and rels (only i)) rels ((within_and rels (only i)).1 w)

is_left : (rels i : ℕ) → leaves_alone rels i ≡ true → Within rels (only i)
is_left rels i t = (within_and rels (only i)).0 (eqb-true (bit_and rels (only i)) rels t)

pub none_alone : (each rels : ℕ) → IsEmpty rels → each ≡ alone_in each rels
none_alone each rels none = sym (ap (λ (b : Bool). if b then each else kept each (leaves_alone rels)) (eq-eqb rels 0 (empty_is rels none)))

-- a set with a member isn't empty
some_left : (each rels i : ℕ) → Has rels i → alone_in each rels ≡ kept each (leaves_alone rels)
some_left each rels i h = ap (λ (b : Bool). if b then each else kept each (leaves_alone rels)) (ne_eqb rels 0 (λ e. has_none i (subst (λ n. Has n i) e h)))

pub one_alone : (each rels first one : ℕ) → first < 64 → IsOnly first one → Has rels first → Within rels one → bit_and each one ≡ alone_in each rels
one_alone each rels first one small o member w = same_set (bit_and each one) (kept each (leaves_alone rels)) (λ i. (to i, from i)) ∙ sym (some_left each rels first member)
  where
    to : (i : ℕ) → Has (bit_and each one) i → Has (kept each (leaves_alone rels)) i
    to i h =
        let both = (has_and each one i).0 h in
        let is : i ≡ first = (o i).0 both.1 in
        to_kept each (leaves_alone rels) i (subst (λ n. n < 64) (sym is) small) both.0 (leaves rels i (λ k p. subst (λ n. Has (only i) n) (is ∙ sym ((o k).0 (w k p))) (bit_at-pow_same i)))

    from : (i : ℕ) → Has (kept each (leaves_alone rels)) i → Has (bit_and each one) i
    from i h =
        let kept = in_kept each (leaves_alone rels) i h in
        let at : Has (only i) first = is_left rels i kept.1 first member in
        let is : i ≡ first = elim (cases_eq first i) [ inl e ↦ sym e | inr n ↦ absurd (omega (arith, bit_at-pow_other i first n, at)) ] in
        (has_and each one i).1 (kept.0, (o i).1 is)

pub several_alone : (each rels first one : ℕ) → IsOnly first one → Has rels first → ¬ Within rels one → 0 ≡ alone_in each rels
several_alone each rels first one o member more = same_set 0 (kept each (leaves_alone rels)) (λ i. (λ h. absurd (has_none i h), λ h. absurd (never i (in_kept each (leaves_alone rels) i h).1))) ∙ sym (some_left each rels first member)
  where
    never : (i : ℕ) → leaves_alone rels i ≡ true → ⊥
    never i t =
        let w = is_left rels i t in
        let same : (k : ℕ) → Has (only i) k → k ≡ i = λ k h. elim (cases_eq k i) [ inl e ↦ e | inr n ↦ absurd (omega (arith, bit_at-pow_other i k n, h)) ] in
        more (λ k p. (o k).1 (same k (w k p) ∙ sym (same first (w first member))))

-- ---- columns and relations that are gone in the one case

pub has_only : (i : ℕ) → i < 64 → Has (below_64 (only i)) i
has_only i low = let e : 1 * 2 ^ i ≡ 2 ^ i = omega arith in subst (λ n. Has (n % 2 ^ 64) i) e ((only_one i i low).1 refl)

pub in_one : (k i : ℕ) → Has (below_64 (only k)) i → i ≡ k
in_one k i h = elim (cases_lt k 64) [
  | inl low ↦ (only_one k i low).0 (subst (λ n. Has (n % 2 ^ 64) i) (sym (one_times (2 ^ k))) h)
  | inr far ↦ absurd (has_none i (subst (λ n. Has n i) (beyond k far) h))
]
  where
    one_times : (n : ℕ) → 1 * n ≡ n
    one_times n = omega arith

-- a set has a number where it meets the set of that number
pub meets_one : (set k one : ℕ) (b : Bool) → set < 2 ^ 64 → one ≡ below_64 (only k) → (b ≡ true) ↔ Meets set one → b ≡ has set k
meets_one set k one true small is h =
    let m = h.0 refl in
    sym (eq-eqb (bit_at set k) 1 (subst (λ n. Has set n) (in_one k m.0 (subst (λ n. Has n m.0) is m.2)) m.1))
meets_one set k one false small is h =
    sym (ne_eqb (bit_at set k) 1 (λ e. true≢false (sym (h.1 (k, e, subst (λ n. Has n k) (sym is) (has_only k (has_below set k small e)))))))

pub is_member : (set i : ℕ) (b : Bool) → (b ≡ true) ↔ Has set i → b ≡ has set i
is_member set i true h = sym (eq-eqb (bit_at set i) 1 (h.0 refl))
is_member set i false h = sym (ne_eqb (bit_at set i) 1 (λ e. true≢false (sym (h.1 e))))

pub is_within : (rels set : ℕ) (b : Bool) → (b ≡ true) ↔ Within rels set → b ≡ (bit_and rels set == rels)
is_within rels set true h = sym (eq-eqb (bit_and rels set) rels ((within_and rels set).1 (h.0 refl)))
is_within rels set false h = sym (ne_eqb (bit_and rels set) rels (λ e. true≢false (sym (h.1 ((within_and rels set).0 e)))))

-- one number more in the set of those below a number
pub one_below : (all rel one more : ℕ) → rel < 64 → ((k : ℕ) → Has all k ↔ (k < rel)) → one ≡ below_64 (only rel) → more ≡ bit_or all one → (k : ℕ) → Has more k ↔ (k < rel + 1)
one_below all rel one more low bounds is made k = (to, from)
  where
    to : Has more k → k < rel + 1
    to h = elim ((has_or all one k).0 (subst (λ n. Has n k) made h)) [
      | inl p ↦ omega (arith, (bounds k).0 p)
      | inr q ↦ omega (arith, in_one rel k (subst (λ n. Has n k) is q))
    ]

    from : k < rel + 1 → Has more k
    from h = subst (λ n. Has n k) (sym made) ((has_or all one k).1 (elim (cases_eq k rel) [
      | inl same ↦ inr (subst (λ n. Has n k) (sym is) (subst (λ j. Has (below_64 (only rel)) j) (sym same) (has_only rel low)))
      | inr other ↦ inl ((bounds k).1 (omega (arith, h, other)))
    ]))

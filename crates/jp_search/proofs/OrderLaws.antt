-- The order of trees is strict and transitive, and of two legal trees of one set that differ one comes before the other.
use Rattle.std.proofs.Common.{◌≡◌, ◌∙◌, sym, ap, ap₂, subst, refl, ℕ, ◌^◌, ◌⊎◌, inl, inr, arith}
use Rattle.std.proofs.lemmas.Bool.{cases_eq, cases_lt}
use Rattle.std.proofs.lemmas.Nat.Bits.{bit_at-pow_same}
use Rattle.jp_base.specs.Sets.{Has}
use Rattle.jp_problem.specs.declared.types.Method.{Method}
use Rattle.jp_problem.specs.declared.types.Method.TheVariants.{Nest, Hash, HashRight, Merge}
use Rattle.jp_problem.specs.declared.types.Problem.{Problem}
use Rattle.jp_problem.specs.declared.types.Step.{Step}
use Rattle.jp_problem.specs.Sets.{without}
use Rattle.jp_problem.specs.Trees.{Tree, Scan, Join, set_of, IsLegalTree}
use Rattle.jp_cost.specs.TreeCosts.{tree_cost}
use Rattle.jp_search.specs.TreeOrder.{ComesBefore, Then, rank}
use Rattle.jp_search.proofs.FirstLaws.{at_most, by_cost}
use Rattle.jp_search.proofs.NumberLaws.{of_one}
use Rattle.jp_search.proofs.PartLaws.{one_not_two, rest_is}
use Rattle.jp_search.proofs.TreeLaws.{one_kind, tree_item}

-- ---- by what tells first

then_strict : (x y : ℕ) (P Q : Type 0) → Then x y P → Then y x Q → (P → ¬ Q) → ⊥
then_strict x y P Q (inl less) (inl more) both = omega (arith, less, more)
then_strict x y P Q (inl less) (inr (tie, q)) both = omega (arith, less, tie)
then_strict x y P Q (inr (tie, p)) (inl more) both = omega (arith, tie, more)
then_strict x y P Q (inr (tie, p)) (inr (tie', q)) both = both p q

then_trans : (x y z : ℕ) (P Q R : Type 0) → Then x y P → Then y z Q → (P → Q → R) → Then x z R
then_trans x y z P Q R (inl less) (inl more) both = inl (omega (arith, less, more))
then_trans x y z P Q R (inl less) (inr (tie, q)) both = inl (omega (arith, less, tie))
then_trans x y z P Q R (inr (tie, p)) (inl more) both = inl (omega (arith, tie, more))
then_trans x y z P Q R (inr (tie, p)) (inr (tie', q)) both = inr (tie ∙ tie', both p q)

-- they are told apart, or what follows does
then_total : (x y : ℕ) (E P Q : Type 0) → (x ≡ y → E ⊎ (P ⊎ Q)) → E ⊎ (Then x y P ⊎ Then y x Q)
then_total x y E P Q more = elim (cases_lt x y) [
  | inl less ↦ inr (inl (inl less))
  | inr no_less ↦ elim (cases_eq x y) [
    | inl tie ↦ elim (more tie) [ inl e ↦ inl e | inr told ↦ elim told [ inl p ↦ inr (inl (inr (tie, p))) | inr q ↦ inr (inr (inr (sym tie, q))) ] ]
    | inr differ ↦ inr (inr (inl (omega (arith, no_less, differ))))
  ]
]

-- ---- by the trees of the two sides

abbrev SidesBefore : Problem → Tree → Tree → Tree → Tree → Type 0
SidesBefore problem a b c d = ComesBefore problem a c ⊎ ((a ≡ c) × ComesBefore problem b d)

module _ (problem : Problem) (a b : Tree) where
  sides_strict : (c d : Tree) → ((y : Tree) → ComesBefore problem a y → ¬ ComesBefore problem y a) → ((y : Tree) → ComesBefore problem b y → ¬ ComesBefore problem y b) → SidesBefore problem a b c d → ¬ SidesBefore problem c d a b
  sides_strict c d on_a on_b (inl u) (inl v) = on_a c u v
  sides_strict c d on_a on_b (inl u) (inr (e, v)) = let itself = subst (ComesBefore problem a) e u in on_a a itself itself
  sides_strict c d on_a on_b (inr (e, u)) (inl v) = let itself = subst (λ x. ComesBefore problem x a) (sym e) v in on_a a itself itself
  sides_strict c d on_a on_b (inr (e, u)) (inr (f, v)) = on_b d u v

  sides_trans : (c d e f : Tree) → ((y z : Tree) → ComesBefore problem a y → ComesBefore problem y z → ComesBefore problem a z) → ((y z : Tree) → ComesBefore problem b y → ComesBefore problem y z → ComesBefore problem b z)
      → SidesBefore problem a b c d → SidesBefore problem c d e f → SidesBefore problem a b e f
  sides_trans c d e f on_a on_b (inl u) (inl v) = inl (on_a c e u v)
  sides_trans c d e f on_a on_b (inl u) (inr (same, v)) = inl (subst (ComesBefore problem a) same u)
  sides_trans c d e f on_a on_b (inr (same, u)) (inl v) = inl (subst (λ x. ComesBefore problem x e) (sym same) v)
  sides_trans c d e f on_a on_b (inr (same, u)) (inr (same', v)) = inr (same ∙ same', on_b d f u v)

  sides_total : (c d : Tree) → (a ≡ c) ⊎ (ComesBefore problem a c ⊎ ComesBefore problem c a) → (b ≡ d) ⊎ (ComesBefore problem b d ⊎ ComesBefore problem d b) → ((a ≡ c) × (b ≡ d)) ⊎ (SidesBefore problem a b c d ⊎ SidesBefore problem c d a b)
  sides_total c d (inl same) (inl same') = inl (same, same')
  sides_total c d (inl same) (inr (inl u)) = inr (inl (inr (same, u)))
  sides_total c d (inl same) (inr (inr u)) = inr (inr (inr (sym same, u)))
  sides_total c d (inr (inl u)) more = inr (inl (inl u))
  sides_total c d (inr (inr u)) more = inr (inr (inl u))

-- ---- trees

pub strict : (problem : Problem) (a b : Tree) → ComesBefore problem a b → ¬ ComesBefore problem b a
strict problem (Join m k a b) (Join n l c d) h g =
    then_strict (tree_cost problem (Join m k a b)) (tree_cost problem (Join n l c d)) _ _ h g
    (λ p q. then_strict (set_of a) (set_of c) _ _ p q
    (λ r s. then_strict (rank m) (rank n) _ _ r s (λ u v. sides_strict problem a b c d (λ y. strict problem a y) (λ y. strict problem b y) u v)))
strict problem (Join m k a b) (Scan i) h g = omega (arith, h, g)
strict problem (Scan i) (Join n l c d) h g = omega (arith, h, g)
strict problem (Scan i) (Scan k) h g = omega (arith, h, g)

pub transitive : (problem : Problem) (a b c : Tree) → ComesBefore problem a b → ComesBefore problem b c → ComesBefore problem a c
transitive problem (Join m k a b) (Join n l c d) (Join o j e f) h g =
    then_trans (tree_cost problem (Join m k a b)) (tree_cost problem (Join n l c d)) (tree_cost problem (Join o j e f)) _ _ _ h g
    (λ p q. then_trans (set_of a) (set_of c) (set_of e) _ _ _ p q
    (λ r s. then_trans (rank m) (rank n) (rank o) _ _ _ r s (λ u v. sides_trans problem a b c d e f (λ y z. transitive problem a y z) (λ y z. transitive problem b y z) u v)))
transitive problem (Join m k a b) (Join n l c d) (Scan j) h g = omega (arith, at_most problem (Join m k a b) (Join n l c d) h, g)
transitive problem (Join m k a b) (Scan i) (Join o j e f) h g = by_cost problem (Join m k a b) (Join o j e f) (omega (arith, h, g))
transitive problem (Join m k a b) (Scan i) (Scan j) h g = omega (arith, h, g)
transitive problem (Scan i) (Join n l c d) (Join o j e f) h g = omega (arith, h, at_most problem (Join n l c d) (Join o j e f) g)
transitive problem (Scan i) (Join n l c d) (Scan j) h g = omega (arith, h, g)
transitive problem (Scan i) (Scan k) (Join o j e f) h g = omega (arith, h, g)
transitive problem (Scan i) (Scan k) (Scan j) h g = omega (arith, h, g)

-- methods of one rank are one
same_rank : (m n : Method) → rank m ≡ rank n → m ≡ n
same_rank Nest Nest e = refl
same_rank Nest Hash e = absurd (omega (arith, e))
same_rank Nest HashRight e = absurd (omega (arith, e))
same_rank Nest Merge e = absurd (omega (arith, e))
same_rank Hash Nest e = absurd (omega (arith, e))
same_rank Hash Hash e = refl
same_rank Hash HashRight e = absurd (omega (arith, e))
same_rank Hash Merge e = absurd (omega (arith, e))
same_rank HashRight Nest e = absurd (omega (arith, e))
same_rank HashRight Hash e = absurd (omega (arith, e))
same_rank HashRight HashRight e = refl
same_rank HashRight Merge e = absurd (omega (arith, e))
same_rank Merge Nest e = absurd (omega (arith, e))
same_rank Merge Hash e = absurd (omega (arith, e))
same_rank Merge HashRight e = absurd (omega (arith, e))
same_rank Merge Merge e = refl

scan_or_join : (problem : Problem) (i : ℕ) (m : Method) (k : Step) (a b : Tree) → IsLegalTree problem (Join m k a b) → ¬ (2 ^ i ≡ set_of (Join m k a b))
scan_or_join problem i m k a b legal same =
    let here = tree_item problem a legal.2 in
    let there = tree_item problem b legal.3 in
    one_not_two i (set_of a) (set_of b) here.0 there.0 (λ n h. of_one i n (subst (λ s. Has s n) (sym same) h)) legal.0.step.apart here.1 there.1

pub total : (problem : Problem) (a b : Tree) → IsLegalTree problem a → IsLegalTree problem b → set_of a ≡ set_of b → (a ≡ b) ⊎ (ComesBefore problem a b ⊎ ComesBefore problem b a)
total problem (Join m k a b) (Join n l c d) on_a on_b same =
    then_total (tree_cost problem (Join m k a b)) (tree_cost problem (Join n l c d)) _ _ _
    (λ x. then_total (set_of a) (set_of c) _ _ _
    (λ same_left. then_total (rank m) (rank n) _ _ _
    (λ same_method.
    let same_right : set_of b ≡ set_of d = rest_is (set_of a) (set_of b) on_a.0.step.apart ∙ ap₂ without same same_left ∙ sym (rest_is (set_of c) (set_of d) on_b.0.step.apart) in
    elim (sides_total problem a b c d (total problem a c on_a.2 on_b.2 same_left) (total problem b d on_a.3 on_b.3 same_right)) [
      | inl trees ↦ inl (ap (λ z. Join z k a b) (same_rank m n same_method) ∙ ap (λ z. Join n z a b) (one_kind problem (set_of a) (set_of b) (set_of c) (set_of d) k l same_left same_right on_a.0 on_b.0) ∙ ap₂ (Join n l) trees.0 trees.1)
      | inr told ↦ inr told
    ])))
total problem (Join m k a b) (Scan i) on_a on_b same = absurd (scan_or_join problem i m k a b on_a (sym same))
total problem (Scan i) (Join n l c d) on_a on_b same = absurd (scan_or_join problem i n l c d on_b same)
total problem (Scan i) (Scan k) on_a on_b same = inl (ap Scan (sym (of_one i k (subst (λ s. Has s k) (sym same) (bit_at-pow_same k)))))

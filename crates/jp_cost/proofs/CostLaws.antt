-- What the legal trees of a problem cost at most: each item weighs its cost and the cost of a step more.
use Rattle.std.proofs.Common.{◌≡◌, ◌∙◌, sym, ap, ap₂, subst, refl, ℕ, zero, suc, ◌+◌, ◌*◌, ◌/◌, ◌^◌, ◌<◌, ◌≤◌, ◌⊎◌, inl, inr, arith, List, [], ◌∷◌, length, Option, Some, None}
use Rattle.std.specs.Prelude.{bit_or, slice_get, sum_by}
use Rattle.std.specs.Int.{bit_at}
use Rattle.std.proofs.Math.Nat.{add-mul}
use Rattle.std.proofs.lemmas.Bool.{cases_eq}
use Rattle.std.proofs.lemmas.List.Sums.{sum_by-cons}
use Rattle.std.proofs.lemmas.Nat.{mul-le}
use Rattle.std.proofs.lemmas.Nat.Bits.{bit_at-lt, bit_at_or, bit_at-pow_same}
use Rattle.std.proofs.lemmas.Option.{none-some}
use Rattle.jp_problem.specs.declared.types.Problem.{Problem}
use Rattle.jp_problem.specs.declared.types.Item.{Item}
use Rattle.jp_problem.specs.declared.types.Method.{Method}
use Rattle.jp_problem.specs.declared.types.Method.TheVariants.{Nest, Hash, HashRight, Merge}
use Rattle.jp_problem.specs.Legal.{Apart}
use Rattle.jp_problem.specs.Made.{IsEstimable, IsSearchable, cost_of}
use Rattle.jp_problem.specs.Trees.{Tree, Scan, Join, set_of, IsLegalTree}
use Rattle.jp_cost.specs.Costs.{cost, hashed}
use Rattle.jp_cost.specs.Digits.{bits}
use Rattle.jp_cost.specs.Estimates.{estimate}
use Rattle.jp_cost.proofs.RangeLaws.{rounds_range}
use Rattle.jp_cost.specs.TreeCosts.{scan_cost, tree_cost}

-- each method's step costs at most 2^120 where the estimates are at most 2^60
digits_most : (n : ℕ) → bits n ≤ 64
digits_most n = omega arith

hashed_most : (a b : ℕ) → a ≤ 2 ^ 60 → b ≤ 2 ^ 60 → hashed a b ≤ 2 ^ 120
hashed_most a b low high = omega (arith, mul-le (4 * a) (1 + a / 65536) (2 ^ 62) (2 ^ 45) (omega (arith, low)) (omega (arith, low)), high)

merge_most : (a b : ℕ) → a ≤ 2 ^ 60 → b ≤ 2 ^ 60 → cost Merge a b ≤ 2 ^ 120
merge_most a b low high = omega (arith, mul-le a (bits a) (2 ^ 60) 64 low (digits_most a), mul-le b (bits b) (2 ^ 60) 64 high (digits_most b), low, high)

cost_most : (method : Method) (a b : ℕ) → a ≤ 2 ^ 60 → b ≤ 2 ^ 60 → cost method a b ≤ 2 ^ 120
cost_most Nest a b low high = mul-le a b (2 ^ 60) (2 ^ 60) low high
cost_most Hash a b low high = hashed_most b a high low
cost_most HashRight a b low high = hashed_most a b low high
cost_most Merge a b low high = merge_most a b low high

-- ---- what the items of a set weigh together

-- whether a number is in a set, as 1 or 0
part : (set i : ℕ) → (bit_at set i ≡ 0) ⊎ (bit_at set i ≡ 1)
part set i = elim (cases_eq (bit_at set i) 0) [ inl none ↦ inl none | inr some ↦ inr (omega (arith, bit_at-lt set i, some)) ]

parts : (a b i : ℕ) → Apart a b → bit_at (bit_or a b) i ≡ bit_at a i + bit_at b i
parts a b i apart = elim (part a i) [
  | inl x ↦ omega (arith, bit_at_or a b i, x)
  | inr x ↦ elim (part b i) [
    | inl y ↦ omega (arith, bit_at_or a b i, x, y)
    | inr y ↦ absurd (apart (i, x, y))
  ]
]

abbrev weight : (Item → ℕ) → ℕ → List Item → ℕ → ℕ
weight of first [] set = 0
weight of first (item ∷ items) set = bit_at set first * of item + weight of (suc first) items set

weight_of_both : (of : Item → ℕ) (items : List Item) (first a b : ℕ) → Apart a b → weight of first items (bit_or a b) ≡ weight of first items a + weight of first items b
weight_of_both of [] first a b apart = refl
weight_of_both of (item ∷ items) first a b apart =
    ap₂ (λ m n. m * of item + n) (parts a b first apart) (weight_of_both of items (suc first) a b apart)
    ∙ spread (bit_at a first) (bit_at b first) (of item) (weight of (suc first) items a) (weight of (suc first) items b)
  where
    spread : (m n w r s : ℕ) → (m + n) * w + (r + s) ≡ m * w + r + (n * w + s)
    spread m n w r s = ap (λ k. k + (r + s)) (add-mul m n w) ∙ regroup (m * w) (n * w) r s
      where
        regroup : (p q r s : ℕ) → p + q + (r + s) ≡ p + r + (q + s)
        regroup p q r s = omega arith

weighs_here : (of : Item → ℕ) (items : List Item) (first i set : ℕ) (item : Item) → slice_get items i ≡ Some item → bit_at set (first + i) ≡ 1 → of item ≤ weight of first items set
weighs_here of [] first i set item is here = absurd (none-some item is)
weighs_here of (x ∷ items) first zero set item is here = omega (arith, once, ap of (same x item is))
  where
    once : bit_at set first * of x ≡ of x
    once = ap (λ k. k * of x) (subst (λ k. bit_at set k ≡ 1) (omega arith) here) ∙ omega arith

    same : (x y : Item) → Some x ≡ Some y → x ≡ y
    same x y e = cc
weighs_here of (x ∷ items) first (suc i) set item is here =
    omega (arith, weighs_here of items (suc first) i set item is (subst (λ k. bit_at set k ≡ 1) (omega arith) here))

weighs_at_most : (of : Item → ℕ) (items : List Item) (first set : ℕ) → weight of first items set ≤ sum_by of items
weighs_at_most of [] first set = omega arith
weighs_at_most of (item ∷ items) first set = elim (part set first) [
  | inl x ↦ omega (arith, ap (λ k. k * of item) x, weighs_at_most of items (suc first) set, sum_by-cons of item items)
  | inr x ↦ omega (arith, ap (λ k. k * of item) x, weighs_at_most of items (suc first) set, sum_by-cons of item items)
]

not_within : (items : List Item) (i : ℕ) → i < length items → slice_get items i ≡ None → ⊥
not_within [] i low is = omega (arith, low)
not_within (x ∷ items) zero low is = cc
not_within (x ∷ items) (suc i) low is = not_within items i (omega (arith, low)) is

-- ---- trees

pub rows_at_most : (problem : Problem) → IsEstimable problem → (set : ℕ) → estimate problem set ≤ 2 ^ 60
rows_at_most problem ok set = (rounds_range problem ok.rows (suc (length problem.joins)) set).1

abbrev with_step : Item → ℕ
with_step item = item.cost + 2 ^ 120

all_weigh : (items : List Item) → sum_by with_step items ≡ sum_by cost_of items + length items * 2 ^ 120
all_weigh [] = refl
all_weigh (item ∷ items) = omega (arith, sum_by-cons with_step item items, sum_by-cons cost_of item items, all_weigh items)

module _ (problem : Problem) (fits : (set : ℕ) → estimate problem set ≤ 2 ^ 60) where
  tree_weight : (t : Tree) → IsLegalTree problem t → tree_cost problem t + 2 ^ 120 ≤ weight with_step 0 problem.items (set_of t)
  tree_weight (Scan i) legal = at_item (slice_get problem.items i) refl
    where
      zero_plus : 0 + i ≡ i
      zero_plus = omega arith

      here : bit_at (2 ^ i) (0 + i) ≡ 1
      here = subst (λ k. bit_at (2 ^ i) k ≡ 1) (sym zero_plus) (bit_at-pow_same i)

      at_item : (o : Option Item) → slice_get problem.items i ≡ o → scan_cost o + 2 ^ 120 ≤ weight with_step 0 problem.items (2 ^ i)
      at_item (Some item) is = weighs_here with_step problem.items 0 i (2 ^ i) item is here
      at_item None is = absurd (not_within problem.items i legal is)
  tree_weight (Join m k a b) legal =
      omega (arith, cost_most m (estimate problem (set_of a)) (estimate problem (set_of b)) (fits (set_of a)) (fits (set_of b)), tree_weight a legal.2, tree_weight b legal.3, weight_of_both with_step problem.items 0 (set_of a) (set_of b) legal.0.step.apart)

  -- the items, and a step for each of them but one
  pub items_and_steps : (t : Tree) → IsLegalTree problem t → tree_cost problem t + 2 ^ 120 ≤ sum_by cost_of problem.items + length problem.items * 2 ^ 120
  items_and_steps t legal = omega (arith, tree_weight t legal, weighs_at_most with_step problem.items 0 (set_of t), all_weigh problem.items)

pub tree_at_most : (problem : Problem) → IsSearchable problem → (t : Tree) → IsLegalTree problem t → tree_cost problem t ≤ 2 ^ 126
tree_at_most problem ok t legal = omega (arith, items_and_steps problem (rows_at_most problem ok.estimable) t legal, ok.few, ok.costs)

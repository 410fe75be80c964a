-- The tree of a number in a pool, by the node that it names.
use Rattle.std.proofs.Common.{◌≡◌, ◌∙◌, ap, ap₂, sym, subst, ℕ, zero, suc, ◌<◌, ◌⊎◌, inl, inr, Bool, true, false, ◌&&◌, refl, List, length, Option, Some, None, arith}
use Rattle.std.specs.Prelude.{nat_lt, slice_get, if◌then◌else◌}
use Rattle.std.proofs.lemmas.Bool.{lt-ltb, ltb-true}
use Rattle.std.proofs.lemmas.Option.{get_or_from_slice_get, slice_get_within}
use Rattle.jp_problem.specs.declared.types.Method.{Method}
use Rattle.jp_problem.specs.declared.types.Problem.{Problem}
use Rattle.jp_problem.specs.declared.types.Step.{Step}
use Rattle.jp_problem.specs.Trees.{Tree, IsLegalTree}
use Rattle.jp_problem.specs.Trees as tree
use Rattle.jp_tree.specs.declared.pool.PlanNode.{PlanNode}
use Rattle.jp_tree.specs.declared.pool.PlanNode.TheVariants as node
use Rattle.jp_tree.specs.Pools.{HasChildrenBelow, IsPool, IsTreeOf}
use Rattle.jp_tree.specs.PlanTrees.{tree_by, tree_within, tree_at, IsLegalAt}

-- ---- as many steps as the number are enough

both_below : (l r id : ℕ) → l < id → r < id → (nat_lt l id && nat_lt r id) ≡ true
both_below l r id low high = ap₂ (λ a b. a && b) (lt-ltb l id low) (lt-ltb r id high)

abbrev chosen : Tree → Bool → Tree
chosen t b = if b then t else tree.Scan 0

never : (b : Bool) (t u : Tree) → chosen t (b && false) ≡ chosen u (b && false)
never true t u = refl
never false t u = refl

below_or_not : (a b : ℕ) → (a < b) ⊎ (nat_lt a b ≡ false)
below_or_not a b = by_test (nat_lt a b) refl
  where
    by_test : (t : Bool) → nat_lt a b ≡ t → (a < b) ⊎ (nat_lt a b ≡ false)
    by_test true is = inl (ltb-true a b is)
    by_test false is = inr is

agree_at : (f g : ℕ → Tree) (id : ℕ) (o : Option PlanNode) → ((k : ℕ) → k < id → f k ≡ g k) → tree_by f id o ≡ tree_by g id o
agree_at f g id (Some (node.Scan item)) same = refl
agree_at f g id None same = refl
agree_at f g id (Some (node.Join m s l r)) same = elim (below_or_not l id) [
  | inl low ↦ elim (below_or_not r id) [
    | inl high ↦ ap (chosen (tree.Join m s (f l) (f r))) (both_below l r id low high) ∙ ap₂ (tree.Join m s) (same l low) (same r high) ∙ sym (ap (chosen (tree.Join m s (g l) (g r))) (both_below l r id low high))
    | inr high ↦ ap (λ b. chosen (tree.Join m s (f l) (f r)) (nat_lt l id && b)) high ∙ never (nat_lt l id) (tree.Join m s (f l) (f r)) (tree.Join m s (g l) (g r)) ∙ sym (ap (λ b. chosen (tree.Join m s (g l) (g r)) (nat_lt l id && b)) high)
  ]
  | inr low ↦ ap (λ b. chosen (tree.Join m s (f l) (f r)) (b && nat_lt r id)) low ∙ sym (ap (λ b. chosen (tree.Join m s (g l) (g r)) (b && nat_lt r id)) low)
]

agree : (m n : ℕ) (nodes : List PlanNode) (id : ℕ) → id < m → id < n → tree_within m nodes id ≡ tree_within n nodes id
unfolding tree_within
agree zero n nodes id low high = absurd (omega (arith, low))
agree (suc m) zero nodes id low high = absurd (omega (arith, high))
agree (suc m) (suc n) nodes id low high = agree_at (tree_within m nodes) (tree_within n nodes) id (slice_get nodes id) (λ k below. agree m n nodes k (omega (arith, below, low)) (omega (arith, below, high)))

pub tree_scan : (nodes : List PlanNode) (id i : ℕ) → slice_get nodes id ≡ Some (node.Scan i) → tree_at nodes id ≡ tree.Scan i
unfolding tree_at tree_within
tree_scan nodes id i is = ap (tree_by (tree_within id nodes) id) is

pub tree_join : (nodes : List PlanNode) (id : ℕ) (m : Method) (s : Step) (l r : ℕ) → slice_get nodes id ≡ Some (node.Join m s l r) → l < id → r < id → tree_at nodes id ≡ tree.Join m s (tree_at nodes l) (tree_at nodes r)
unfolding tree_at tree_within
tree_join nodes id m s l r is low high =
    ap (tree_by (tree_within id nodes) id) is
    ∙ ap (λ b. if b then tree.Join m s (tree_within id nodes l) (tree_within id nodes r) else tree.Scan 0) (both_below l r id low high)
    ∙ ap₂ (tree.Join m s) (agree id (suc l) nodes l low (omega arith)) (agree id (suc r) nodes r high (omega arith))

-- ---- legal trees

item_in : (problem : Problem) (nodes : List PlanNode) (id i : ℕ) (t : Tree) → IsTreeOf nodes id t → IsLegalTree problem t → slice_get nodes id ≡ Some (node.Scan i) → i < length problem.items
item_in problem nodes id i (tree.Scan k) named legal is =
    let same : k ≡ i = cc in
    subst (λ x. x < length problem.items) same legal
item_in problem nodes id i (tree.Join m s left right) (l, r, named, on_left, on_right) legal is = cc

pub legal_item : (problem : Problem) (nodes : List PlanNode) (id i : ℕ) → IsLegalAt problem nodes id → slice_get nodes id ≡ Some (node.Scan i) → i < length problem.items
legal_item problem nodes id i legal is = item_in problem nodes id i legal.tree legal.named legal.legal is

sides_of : (problem : Problem) (nodes : List PlanNode) (id : ℕ) (m : Method) (s : Step) (l r : ℕ) (t : Tree) → IsTreeOf nodes id t → IsLegalTree problem t → slice_get nodes id ≡ Some (node.Join m s l r)
    → IsLegalAt problem nodes l × IsLegalAt problem nodes r
sides_of problem nodes id m s l r (tree.Scan k) named legal is = cc
sides_of problem nodes id m s l r (tree.Join n z left right) (a, b, named, on_left, on_right) legal is =
    let left_is : a ≡ l = cc in
    let right_is : b ≡ r = cc in (
      record { tree = left; named = subst (λ x. IsTreeOf nodes x left) left_is on_left; legal = legal.2 },
      record { tree = right; named = subst (λ x. IsTreeOf nodes x right) right_is on_right; legal = legal.3 },
    )

pub legal_sides : (problem : Problem) (nodes : List PlanNode) (id : ℕ) (m : Method) (s : Step) (l r : ℕ) → IsLegalAt problem nodes id → slice_get nodes id ≡ Some (node.Join m s l r)
    → IsLegalAt problem nodes l × IsLegalAt problem nodes r
legal_sides problem nodes id m s l r legal is = sides_of problem nodes id m s l r legal.tree legal.named legal.legal is

-- ---- the tree of a number is the one that it names

pub named_scan : (nodes : List PlanNode) (id i : ℕ) → slice_get nodes id ≡ Some (node.Scan i) → IsTreeOf nodes id (tree_at nodes id)
named_scan nodes id i is = subst (λ t. IsTreeOf nodes id t) (sym (tree_scan nodes id i is)) is

pub named_join : (nodes : List PlanNode) (id : ℕ) (m : Method) (s : Step) (l r : ℕ) → slice_get nodes id ≡ Some (node.Join m s l r) → l < id → r < id
    → IsTreeOf nodes l (tree_at nodes l) → IsTreeOf nodes r (tree_at nodes r) → IsTreeOf nodes id (tree_at nodes id)
named_join nodes id m s l r is low high on_left on_right =
    subst (λ t. IsTreeOf nodes id t) (sym (tree_join nodes id m s l r is low high)) (l, r, is, on_left, on_right)

-- ---- the tree of a number in a pool

children_below : (nodes : List PlanNode) → IsPool nodes → (id : ℕ) (d : PlanNode) → slice_get nodes id ≡ Some d → HasChildrenBelow id d
children_below nodes pool id d is = subst (HasChildrenBelow id) (get_or_from_slice_get nodes id d d is) (pool id d (slice_get_within nodes id d is))

pub tree_named : (nodes : List PlanNode) → IsPool nodes → (id : ℕ) (t : Tree) → IsTreeOf nodes id t → tree_at nodes id ≡ t
tree_named nodes pool id (tree.Scan i) named = tree_scan nodes id i named
tree_named nodes pool id (tree.Join m s left right) (l, r, named, on_left, on_right) =
    let below = children_below nodes pool id (node.Join m s l r) named in
    tree_join nodes id m s l r named below.0 below.1 ∙ ap₂ (tree.Join m s) (tree_named nodes pool l left on_left) (tree_named nodes pool r right on_right)

-- The parts of a legal plan are legal plans, and cost no more.
use Rattle.std.proofs.Common.{◌≡◌, ◌∙◌, ap, ap₂, sym, refl, subst, ℕ, ◌+◌, ◌<◌, ◌≤◌, ◌^◌, List, Option, Some, bit_or, slice_get, length}
use Rattle.jp_cost.specs.Costs.{cost}
use Rattle.jp_cost.specs.Estimates.{estimate}
use Rattle.jp_cost.specs.TreeCosts.{scan_cost, tree_cost}
use Rattle.jp_cost.proofs.CostLaws.{tree_at_most}
use Rattle.jp_problem.specs.declared.types.Method.{Method}
use Rattle.jp_problem.specs.declared.types.Problem.{Problem}
use Rattle.jp_problem.specs.declared.types.Step.{Step}
use Rattle.jp_problem.specs.Made.{IsSearchable}
use Rattle.jp_problem.specs.Trees.{Tree, IsLegalTree, set_of}
use Rattle.jp_problem.specs.Trees as tree
use Rattle.jp_query.specs.Refs.{only}
use Rattle.jp_tree.specs.declared.pool.PlanNode.{PlanNode}
use Rattle.jp_tree.specs.declared.pool.PlanNode.TheVariants.{Scan, Join}
use Rattle.jp_tree.specs.Pools.{IsTreeOf}
use Rattle.jp_tree.proofs.PoolLaws.{named_below}
use Rattle.jp_session.specs.Costs.{IsLegalPlan, IsPricedAs}

-- ---- the two forms of a node

some_node : (a b : PlanNode) (o : Option PlanNode) → o ≡ Some a → o ≡ Some b → a ≡ b
some_node a b o e f = cc

scans : (i k : ℕ) → Scan i ≡ Scan k → i ≡ k
scans i k e = cc

clash : {X : Type 0} (i : ℕ) (m : Method) (s : Step) (l r : ℕ) → Scan i ≡ Join m s l r → X
clash i m s l r e = cc

-- the tree of a scan
pub record IsScan (problem : Problem) (t : Tree) (item : ℕ) : Type 0 where
  pub is : t ≡ tree.Scan item
  pub there : item < length problem.items

pub scan_is : (problem : Problem) (nodes : List PlanNode) (plan item : ℕ) (t : Tree) → slice_get nodes plan ≡ Some (Scan item) → IsTreeOf nodes plan t → t ≡ tree.Scan item
scan_is problem nodes plan item (tree.Scan i) e h = ap tree.Scan (scans i item (some_node (Scan i) (Scan item) (slice_get nodes plan) h e))
scan_is problem nodes plan item (tree.Join m s a b) e (l, r, h, x, y) = clash item m s l r (some_node (Scan item) (Join m s l r) (slice_get nodes plan) e h)

pub scan_there : (problem : Problem) (nodes : List PlanNode) (plan item : ℕ) → slice_get nodes plan ≡ Some (Scan item) → IsLegalPlan problem nodes plan → item < length problem.items
scan_there problem nodes plan item e p = subst (IsLegalTree problem) (scan_is problem nodes plan item p.tree e p.is) p.legal

-- the trees of a join's sides
pub record HasSides (problem : Problem) (nodes : List PlanNode) (t : Tree) (m : Method) (s : Step) (l r : ℕ) : Type 0 where
  pub left : Tree
  pub right : Tree
  pub is : t ≡ tree.Join m s left right
  pub on_left : IsTreeOf nodes l left
  pub on_right : IsTreeOf nodes r right

join_left : (m n : Method) (s z : Step) (l r a b : ℕ) → Join m s l r ≡ Join n z a b → l ≡ a
join_left m n s z l r a b e = cc

join_right : (m n : Method) (s z : Step) (l r a b : ℕ) → Join m s l r ≡ Join n z a b → r ≡ b
join_right m n s z l r a b e = cc

join_method : (m n : Method) (s z : Step) (l r a b : ℕ) → Join m s l r ≡ Join n z a b → m ≡ n
join_method m n s z l r a b e = cc

join_step : (m n : Method) (s z : Step) (l r a b : ℕ) → Join m s l r ≡ Join n z a b → s ≡ z
join_step m n s z l r a b e = cc

pub sides : (problem : Problem) (nodes : List PlanNode) (plan : ℕ) (m : Method) (s : Step) (l r : ℕ) (t : Tree) → slice_get nodes plan ≡ Some (Join m s l r) → IsTreeOf nodes plan t → HasSides problem nodes t m s l r
sides problem nodes plan m s l r (tree.Scan i) e h = clash i m s l r (some_node (Scan i) (Join m s l r) (slice_get nodes plan) h e)
sides problem nodes plan m s l r (tree.Join n z a b) e (x, y, h, on_a, on_b) =
    let same : Join n z x y ≡ Join m s l r = some_node (Join n z x y) (Join m s l r) (slice_get nodes plan) h e in
    record {
      left = a;
      right = b;
      is = ap₂ (λ k j. tree.Join k j a b) (join_method n m z s x y l r same) (join_step n m z s x y l r same);
      on_left = subst (λ i. IsTreeOf nodes i a) (join_left n m z s x y l r same) on_a;
      on_right = subst (λ i. IsTreeOf nodes i b) (join_right n m z s x y l r same) on_b;
    }

pub left_plan : (problem : Problem) (nodes : List PlanNode) (plan : ℕ) (m : Method) (s : Step) (l r : ℕ) → slice_get nodes plan ≡ Some (Join m s l r) → IsLegalPlan problem nodes plan → IsLegalPlan problem nodes l
left_plan problem nodes plan m s l r e p =
    let h = sides problem nodes plan m s l r p.tree e p.is in
    let legal = subst (IsLegalTree problem) h.is p.legal in
    record { tree = h.left; is = h.on_left; legal = legal.2 }

pub right_plan : (problem : Problem) (nodes : List PlanNode) (plan : ℕ) (m : Method) (s : Step) (l r : ℕ) → slice_get nodes plan ≡ Some (Join m s l r) → IsLegalPlan problem nodes plan → IsLegalPlan problem nodes r
right_plan problem nodes plan m s l r e p =
    let h = sides problem nodes plan m s l r p.tree e p.is in
    let legal = subst (IsLegalTree problem) h.is p.legal in
    record { tree = h.right; is = h.on_right; legal = legal.3 }

pub plan_below : (problem : Problem) (nodes : List PlanNode) (plan : ℕ) → IsLegalPlan problem nodes plan → plan < length nodes
plan_below problem nodes plan p = named_below nodes plan p.tree p.is

-- what it costs
pub plan_most : (problem : Problem) (nodes : List PlanNode) (plan : ℕ) → IsSearchable problem → (p : IsLegalPlan problem nodes plan) → tree_cost problem p.tree ≤ 2 ^ 126
plan_most problem nodes plan s p = tree_at_most problem s p.tree p.legal

pub priced_scan : (problem : Problem) (nodes : List PlanNode) (plan item set n : ℕ) → slice_get nodes plan ≡ Some (Scan item) → set ≡ only item → n ≡ scan_cost (slice_get problem.items item)
    → (t : Tree) → IsTreeOf nodes plan t → IsPricedAs problem t set n
priced_scan problem nodes plan item set n e covers costs t h =
    subst (λ u. IsPricedAs problem u set n) (sym (scan_is problem nodes plan item t e h)) (record { covers = covers; costs = costs })

pub priced_join : (problem : Problem) (nodes : List PlanNode) (plan : ℕ) (m : Method) (s : Step) (l r : ℕ) (ls lc rs rc set n step : ℕ) → slice_get nodes plan ≡ Some (Join m s l r)
    → ((t : Tree) → IsTreeOf nodes l t → IsPricedAs problem t ls lc) → ((t : Tree) → IsTreeOf nodes r t → IsPricedAs problem t rs rc)
    → set ≡ bit_or ls rs → step ≡ cost m (estimate problem ls) (estimate problem rs) → n ≡ lc + rc + step → (t : Tree) → IsTreeOf nodes plan t → IsPricedAs problem t set n
priced_join problem nodes plan m s l r ls lc rs rc set n step e on_l on_r covers steps costs t h =
    let k = sides problem nodes plan m s l r t e h in
    let a = on_l k.left k.on_left in
    let b = on_r k.right k.on_right in
    subst (λ u. IsPricedAs problem u set n) (sym k.is) (record {
      covers = covers ∙ ap₂ bit_or a.covers b.covers;
      costs = costs ∙ ap₂ (λ x y. x + y) (ap₂ (λ x y. x + y) a.costs b.costs) (steps ∙ ap₂ (λ x y. cost m (estimate problem x) (estimate problem y)) a.covers b.covers);
    })

-- the sums of a join's cost are no greater than that of the tree
pub sums_fit : (problem : Problem) (nodes : List PlanNode) (plan : ℕ) (m : Method) (s : Step) (l r ls lc rs rc step : ℕ) → IsSearchable problem → IsLegalPlan problem nodes plan → slice_get nodes plan ≡ Some (Join m s l r)
    → ((t : Tree) → IsTreeOf nodes l t → IsPricedAs problem t ls lc) → ((t : Tree) → IsTreeOf nodes r t → IsPricedAs problem t rs rc) → step ≡ cost m (estimate problem ls) (estimate problem rs) → lc + rc + step ≤ 2 ^ 126
sums_fit problem nodes plan m s l r ls lc rs rc step searchable p e on_l on_r steps =
    let whole = priced_join problem nodes plan m s l r ls lc rs rc (bit_or ls rs) (lc + rc + step) step e on_l on_r refl steps refl p.tree p.is in
    subst (λ n. n ≤ 2 ^ 126) (sym whole.costs) (plan_most problem nodes plan searchable p)

-- The tree of a number is one, and never changes.
use Rattle.std.proofs.Common.{◌≡◌, ◌<◌, sym, ◌∙◌, ap, ap₂, subst, ℕ, zero, suc, List, [], ◌∷◌, ◌++◌, length, Option, Some}
use Rattle.std.specs.Prelude.{slice_get}
use Rattle.std.proofs.lemmas.Option.{none-some, slice_get_within}
use Rattle.jp_problem.specs.declared.types.Method.{Method}
use Rattle.jp_problem.specs.declared.types.Step.{Step}
use Rattle.jp_problem.specs.Trees.{Tree}
use Rattle.jp_problem.specs.Trees as tree
use Rattle.jp_tree.specs.declared.pool.PlanNode.{PlanNode}
use Rattle.jp_tree.specs.declared.pool.PlanNode.TheVariants.{Scan, Join}
use Rattle.jp_tree.specs.Pools.{IsTreeOf}

stays : {X : Type 0} → (xs more : List X) (i : ℕ) (x : X) → slice_get xs i ≡ Some x → slice_get (xs ++ more) i ≡ Some x
stays [] more i x e = absurd (none-some x e)
stays (y ∷ xs) more zero x e = e
stays (y ∷ xs) more (suc i) x e = stays xs more i x e

pub tree_stays : (nodes more : List PlanNode) (id : ℕ) (t : Tree) → IsTreeOf nodes id t → IsTreeOf (nodes ++ more) id t
tree_stays nodes more id (tree.Scan item) e = stays nodes more id _ e
tree_stays nodes more id (tree.Join method step left right) (l, r, e, on_left, on_right) = (l, r, stays nodes more id _ e, tree_stays nodes more l left on_left, tree_stays nodes more r right on_right)

-- a number that names a tree is that of a node
pub named_below : (nodes : List PlanNode) (id : ℕ) (t : Tree) → IsTreeOf nodes id t → id < length nodes
named_below nodes id (tree.Scan i) e = slice_get_within nodes id (Scan i) e
named_below nodes id (tree.Join m k a b) (l, r, e, on_a, on_b) = slice_get_within nodes id (Join m k l r) e

-- ---- a number names one tree

some_node : (a b : PlanNode) (o : Option PlanNode) → o ≡ Some a → o ≡ Some b → a ≡ b
some_node a b o e f = cc

scan_is : (i k : ℕ) → Scan i ≡ Scan k → i ≡ k
scan_is i k e = cc

scan_not_join : {X : Type 0} (i : ℕ) (m : Method) (s : Step) (l r : ℕ) → Scan i ≡ Join m s l r → X
scan_not_join i m s l r e = cc

join_method : (m n : Method) (s z : Step) (l r a b : ℕ) → Join m s l r ≡ Join n z a b → m ≡ n
join_method m n s z l r a b e = cc

join_step : (m n : Method) (s z : Step) (l r a b : ℕ) → Join m s l r ≡ Join n z a b → s ≡ z
join_step m n s z l r a b e = cc

join_left : (m n : Method) (s z : Step) (l r a b : ℕ) → Join m s l r ≡ Join n z a b → l ≡ a
join_left m n s z l r a b e = cc

join_right : (m n : Method) (s z : Step) (l r a b : ℕ) → Join m s l r ≡ Join n z a b → r ≡ b
join_right m n s z l r a b e = cc

pub same_tree : (nodes : List PlanNode) (id : ℕ) (t u : Tree) → IsTreeOf nodes id t → IsTreeOf nodes id u → t ≡ u
same_tree nodes id (tree.Scan i) (tree.Scan k) e f = ap tree.Scan (scan_is i k (some_node (Scan i) (Scan k) (slice_get nodes id) e f))
same_tree nodes id (tree.Scan i) (tree.Join m s left right) e (l, r, f, on_left, on_right) = scan_not_join i m s l r (some_node (Scan i) (Join m s l r) (slice_get nodes id) e f)
same_tree nodes id (tree.Join m s left right) (tree.Scan i) (l, r, f, on_left, on_right) e = scan_not_join i m s l r (some_node (Scan i) (Join m s l r) (slice_get nodes id) e f)
same_tree nodes id (tree.Join m s left right) (tree.Join n z a b) (l, r, e, on_left, on_right) (k, q, f, on_a, on_b) =
    let one = some_node (Join m s l r) (Join n z k q) (slice_get nodes id) e f in
    let left_is = same_tree nodes l left a on_left (subst (λ x. IsTreeOf nodes x a) (sym (join_left m n s z l r k q one)) on_a) in
    let right_is = same_tree nodes r right b on_right (subst (λ x. IsTreeOf nodes x b) (sym (join_right m n s z l r k q one)) on_b) in
    ap (λ x. tree.Join x s left right) (join_method m n s z l r k q one) ∙ ap (λ x. tree.Join n x left right) (join_step m n s z l r k q one) ∙ ap₂ (tree.Join n z) left_is right_is

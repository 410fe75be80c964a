-- Legal trees: their sets, the kinds of their steps and their numbers.
use Rattle.std.proofs.Common.{◌≡◌, ◌∙◌, sym, ap₂, ℕ, List, Some}
use Rattle.jp_base.specs.Sets.{Has}
use Rattle.jp_base.proofs.MaskAlgebra.{in_left}
use Rattle.std.proofs.lemmas.Nat.Bits.{bit_at-pow_same}
use Rattle.jp_problem.specs.declared.types.Problem.{Problem}
use Rattle.jp_problem.specs.declared.types.Step.{Step}
use Rattle.jp_problem.specs.Legal.{IsLegalStep}
use Rattle.jp_problem.specs.LegalTests.{step_of}
use Rattle.jp_problem.specs.Trees.{Tree, Scan, Join, set_of, IsLegalTree}
use Rattle.jp_problem.proofs.LegalLaws.{step_says}
use Rattle.jp_tree.specs.declared.pool.PlanNode.{PlanNode}
use Rattle.jp_tree.specs.declared.pool.PlanNode.TheVariants as node
use Rattle.jp_tree.specs.Pools.{IsTreeOf}

-- a legal tree has an item
pub tree_item : (problem : Problem) (t : Tree) → IsLegalTree problem t → (i : ℕ) × Has (set_of t) i
tree_item problem (Scan i) legal = (i, bit_at-pow_same i)
tree_item problem (Join method kind left right) legal = let h = tree_item problem left legal.2 in (h.0, in_left (set_of left) (set_of right) h.0 h.1)

-- ---- kinds

-- a legal step of two sets has one kind
pub one_kind : (problem : Problem) (p q r s : ℕ) (k l : Step) → p ≡ r → q ≡ s → IsLegalStep problem p q k → IsLegalStep problem r s l → k ≡ l
one_kind problem p q r s k l same same' on_k on_l =
    some_is k l (sym ((step_says problem p q k).1 on_k) ∙ ap₂ (step_of problem.joins) same same' ∙ (step_says problem r s l).1 on_l)
  where
    some_is : (k l : Step) → Some k ≡ Some l → k ≡ l
    some_is k l e = cc

-- ---- roots

-- the tree whose root this node is
abbrev pub IsTreeBy : List PlanNode → PlanNode → Tree → Type 0
IsTreeBy nodes (node.Scan item) t = t ≡ Scan item
IsTreeBy nodes (node.Join method kind l r) t = (left : Tree) × (right : Tree) × IsTreeOf nodes l left × IsTreeOf nodes r right × (t ≡ Join method kind left right)

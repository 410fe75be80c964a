-- The nodes that the rules make, and the words and symbols that choose among them.
use Rattle.std.specs.Prelude.{ℕ, Bool, true, false, List, [], ◌∷◌, Option}
use Rattle.jp_ast.specs.declared.tree.Ast.{Ast}
use Rattle.jp_ast.specs.declared.tree.Ast.TheVariants as ast
use Rattle.jp_ast.specs.declared.tree.FromItem.{FromItem}
use Rattle.jp_ast.specs.declared.tree.FromItem.TheVariants as item
use Rattle.jp_ast.specs.declared.tree.Target.{Target}
use Rattle.jp_ast.specs.declared.tree.Select.{Select, roll-Select}
use Rattle.jp_ast.specs.declared.tree.CmpWord.{CmpWord}
use Rattle.jp_ast.specs.declared.tree.CmpWord.TheVariants as cmp
use Rattle.jp_ast.specs.declared.tree.IsWord.{IsWord}
use Rattle.jp_ast.specs.declared.tree.IsWord.TheVariants as test
use Rattle.jp_ast.specs.declared.tree.JoinWord.{JoinWord}
use Rattle.jp_ast.specs.declared.class.Class.{Class}
use Rattle.jp_ast.specs.declared.class.Class.TheVariants as k

-- ---- expressions

-- a member alone is itself, and more are one node
abbrev pub chain : (List Ast → Ast) → Ast → List Ast → Ast
chain node a [] = a
chain node a (b ∷ bs) = node (a ∷ b ∷ bs)

abbrev pub or_node : ℕ → List Ast → Ast
or_node at list = ast.Or list at

abbrev pub and_node : ℕ → List Ast → Ast
and_node at list = ast.And list at

abbrev pub concat_node : ℕ → List Ast → Ast
concat_node at parts = ast.Concat parts at

abbrev pub product_node : ℕ → List Ast → Ast
product_node at factors = ast.Product factors at

-- the first term is never subtracted
abbrev pub sum_of : ℕ → Ast → List (Bool × Ast) → Ast
sum_of at a [] = a
sum_of at a (b ∷ bs) = ast.Sum ((false, a) ∷ b ∷ bs) at

-- NOT in front of the plain form, at the place of its operand
abbrev pub negated_at : ℕ → Bool → Ast → Ast
negated_at at false plain = plain
negated_at at true plain = ast.Not plain at

-- `+` and `-`
abbrev pub is_sign : Class → Bool
is_sign k.Plus = true
is_sign k.Minus = true
is_sign _ = false

abbrev pub is_minus : Class → Bool
is_minus k.Minus = true
is_minus _ = false

abbrev pub is_comparison : Class → Bool
is_comparison k.Eq = true
is_comparison k.Ne = true
is_comparison k.Lt = true
is_comparison k.Le = true
is_comparison k.Gt = true
is_comparison k.Ge = true
is_comparison _ = false

abbrev pub comparison : Class → CmpWord
comparison k.Ne = cmp.Ne
comparison k.Lt = cmp.Lt
comparison k.Le = cmp.Le
comparison k.Gt = cmp.Gt
comparison k.Ge = cmp.Ge
comparison _ = cmp.Eq

-- what may stand behind IS
abbrev pub is_test : Class → Bool
is_test k.Null = true
is_test k.True = true
is_test k.False = true
is_test k.Unknown = true
is_test _ = false

abbrev pub test_word : Class → IsWord
test_word k.True = test.True
test_word k.False = test.False
test_word k.Unknown = test.Unknown
test_word _ = test.Null

-- ---- FROM

-- a join without its left side: its kind, its right side and its condition
abbrev pub Joined : Type 0
Joined = JoinWord × FromItem × Option Ast

-- joins that follow one another take what stands before them as their left side
abbrev pub join_chain : ℕ → FromItem → List Joined → FromItem
join_chain at left [] = left
join_chain at left (j ∷ joins) = join_chain at (item.Join j.0 left j.1 j.2 at) joins

-- ---- the select

abbrev pub select_of : Bool → List Target → List FromItem → Option Ast → Select
select_of distinct targets items cond = roll-Select (record { distinct = distinct; targets = targets; items = items; cond = cond })

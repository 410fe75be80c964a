-- The relations that a tree speaks of: those of its columns and placeholders, sublinks and sub-selects included, as a
-- mask in which bit i stands for relation i. A number from 64 on, which no typed expression has, is in no set.
use Rattle.std.specs.Prelude.{ℕ, ◌^◌, ◌%◌, Bool, List, map, fold, bit_or, Option, Some, None}
use Rattle.jp_query.specs.Layers.{Expr, JoinTree, Order, Output, Query, Expr-F, JoinTree-F, Order-F, Output-F, Query-F, fold-Expr, fold-JoinTree, fold-Order, fold-Output, fold-Query}

-- the set of one number
abbrev pub only : ℕ → ℕ
only i = 2 ^ i

abbrev pub union : List ℕ → ℕ
union = fold bit_or 0

-- the members of a set below 64
abbrev pub below_64 : ℕ → ℕ
below_64 set = set % 2 ^ 64

abbrev pub term_refs : Bool × ℕ → ℕ
term_refs term = term.1

abbrev pub arm_refs : ℕ × ℕ → ℕ
arm_refs arm = bit_or arm.0 arm.1

abbrev pub maybe_refs : Option ℕ → ℕ
maybe_refs None = 0
maybe_refs (Some set) = set

abbrev pub expr_refs : Expr-F ℕ ℕ ℕ ℕ ℕ → ℕ
expr_refs (Expr-F.Col rel col ty nulled) = below_64 (only rel)
expr_refs (Expr-F.Lit value ty) = 0
expr_refs (Expr-F.Place inner rels) = bit_or inner rels
expr_refs (Expr-F.Neg operand) = operand
expr_refs (Expr-F.Sum terms) = union (map term_refs terms)
expr_refs (Expr-F.Product factors) = union factors
expr_refs (Expr-F.Concat parts) = union parts
expr_refs (Expr-F.Compare op left right) = bit_or left right
expr_refs (Expr-F.Between operand low high) = bit_or (bit_or operand low) high
expr_refs (Expr-F.InList operand list) = bit_or operand (union list)
expr_refs (Expr-F.And members) = union members
expr_refs (Expr-F.Or members) = union members
expr_refs (Expr-F.Not operand) = operand
expr_refs (Expr-F.Test test operand) = operand
expr_refs (Expr-F.Coalesce members) = union members
expr_refs (Expr-F.Case operand arms otherwise) = bit_or (bit_or (maybe_refs operand) (union (map arm_refs arms))) (maybe_refs otherwise)
expr_refs (Expr-F.Exists sub query) = query
expr_refs (Expr-F.InSub sub operand query) = bit_or operand query

abbrev pub tree_refs : JoinTree-F ℕ ℕ ℕ ℕ ℕ → ℕ
tree_refs (JoinTree-F.Base rel name table) = 0
tree_refs (JoinTree-F.Sub rel name query) = query
tree_refs (JoinTree-F.Join kind left right on) = bit_or (bit_or left right) (union on)
tree_refs (JoinTree-F.From members conds) = bit_or (union members) (union conds)

abbrev pub order_refs : Order-F ℕ ℕ ℕ ℕ ℕ → ℕ
order_refs order = order.expr

abbrev pub output_refs : Output-F ℕ ℕ ℕ ℕ ℕ → ℕ
output_refs output = output.expr

abbrev pub query_refs : Query-F ℕ ℕ ℕ ℕ ℕ → ℕ
query_refs query = bit_or (bit_or (bit_or (union query.columns) query.tree) (union query.conds)) (union query.order)

abbrev pub refs_of : Expr → ℕ
refs_of = fold-Expr ℕ ℕ ℕ ℕ ℕ expr_refs tree_refs order_refs output_refs query_refs

abbrev pub refs_of_tree : JoinTree → ℕ
refs_of_tree = fold-JoinTree ℕ ℕ ℕ ℕ ℕ expr_refs tree_refs order_refs output_refs query_refs

abbrev pub refs_of_query : Query → ℕ
refs_of_query = fold-Query ℕ ℕ ℕ ℕ ℕ expr_refs tree_refs order_refs output_refs query_refs

abbrev pub refs_of_order : Order → ℕ
refs_of_order = fold-Order ℕ ℕ ℕ ℕ ℕ expr_refs tree_refs order_refs output_refs query_refs

abbrev pub refs_of_output : Output → ℕ
refs_of_output = fold-Output ℕ ℕ ℕ ℕ ℕ expr_refs tree_refs order_refs output_refs query_refs

abbrev pub refs_of_term : Bool × Expr → ℕ
refs_of_term term = refs_of term.1

abbrev pub refs_of_arm : Expr × Expr → ℕ
refs_of_arm arm = bit_or (refs_of arm.0) (refs_of arm.1)

abbrev pub refs_of_option : Option Expr → ℕ
refs_of_option None = 0
refs_of_option (Some expr) = refs_of expr

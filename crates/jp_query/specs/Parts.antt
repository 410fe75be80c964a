-- What stands directly inside one level of a tree, in the order in which it is written, and the lists that a tree
-- gathers from all its levels.
use Rattle.std.specs.Prelude.{ℕ, ◌+◌, ◌==◌, Bool, not, List, [], ◌∷◌, ◌++◌, map, filter, sum, Option, Some, None}
use Rattle.std.specs.List.{list_any}
use Rattle.jp_base.specs.declared.values.Ty.{Ty}
use Rattle.jp_query.specs.Refs.{only, union}
use Rattle.jp_query.specs.Joins.{join_rels}
use Rattle.jp_query.specs.Layers.{Expr, JoinTree, Query, Expr-F, JoinTree-F, Order-F, Output-F, Query-F, fold-Expr, fold-JoinTree, fold-Query}

abbrev pub all_in : {X : Type 0} → List (List X) → List X
all_in [] = []
all_in (xs ∷ more) = xs ++ all_in more

module _ {A : Type 0} where
  abbrev pub term_part : Bool × A → A
  term_part term = term.1

  abbrev pub arm_parts : List (A × A) → List A
  arm_parts [] = []
  arm_parts (arm ∷ arms) = arm.0 ∷ arm.1 ∷ arm_parts arms

  abbrev pub option_part : Option A → List A
  option_part (Some part) = part ∷ []
  option_part None = []

module _ {A B C D F : Type 0} where
  -- the expressions in an expression
  abbrev pub parts : Expr-F A B C D F → List A
  parts (Expr-F.Col rel col ty nulled) = []
  parts (Expr-F.Lit value ty) = []
  parts (Expr-F.Place inner rels) = inner ∷ []
  parts (Expr-F.Neg operand) = operand ∷ []
  parts (Expr-F.Sum terms) = map term_part terms
  parts (Expr-F.Product factors) = factors
  parts (Expr-F.Concat pieces) = pieces
  parts (Expr-F.Compare op left right) = left ∷ right ∷ []
  parts (Expr-F.Between operand low high) = operand ∷ low ∷ high ∷ []
  parts (Expr-F.InList operand list) = operand ∷ list
  parts (Expr-F.And members) = members
  parts (Expr-F.Or members) = members
  parts (Expr-F.Not operand) = operand ∷ []
  parts (Expr-F.Test test operand) = operand ∷ []
  parts (Expr-F.Coalesce members) = members
  parts (Expr-F.Case operand arms otherwise) = option_part operand ++ (arm_parts arms ++ option_part otherwise)
  parts (Expr-F.Exists sub query) = []
  parts (Expr-F.InSub sub operand query) = operand ∷ []

  -- the query of a sublink
  abbrev pub sublink_query : Expr-F A B C D F → Option F
  sublink_query (Expr-F.Exists sub query) = Some query
  sublink_query (Expr-F.InSub sub operand query) = Some query
  sublink_query _ = None

  -- the trees, the conditions and the query in a join tree
  abbrev pub trees : JoinTree-F A B C D F → List B
  trees (JoinTree-F.Base rel name table) = []
  trees (JoinTree-F.Sub rel name query) = []
  trees (JoinTree-F.Join kind left right on) = left ∷ right ∷ []
  trees (JoinTree-F.From members conds) = members

  abbrev pub conditions : JoinTree-F A B C D F → List A
  conditions (JoinTree-F.Base rel name table) = []
  conditions (JoinTree-F.Sub rel name query) = []
  conditions (JoinTree-F.Join kind left right on) = on
  conditions (JoinTree-F.From members conds) = conds

  abbrev pub leaf_query : JoinTree-F A B C D F → Option F
  leaf_query (JoinTree-F.Sub rel name query) = Some query
  leaf_query _ = None

-- All that the expressions and the leaves of a tree give, at every depth and in sublinks: `of_node` says what an
-- expression gives by itself, and `of_leaf` what a leaf gives.
module _ (X : Type 0) (of_node : Expr-F (List X) (List X) (List X) (List X) (List X) → List X) (of_leaf : JoinTree-F (List X) (List X) (List X) (List X) (List X) → List X) where
  abbrev pub expr_gives : Expr-F (List X) (List X) (List X) (List X) (List X) → List X
  expr_gives x = of_node x ++ (all_in (parts x) ++ all_in (option_part (sublink_query x)))

  abbrev pub tree_gives : JoinTree-F (List X) (List X) (List X) (List X) (List X) → List X
  tree_gives t = of_leaf t ++ (all_in (trees t) ++ (all_in (conditions t) ++ all_in (option_part (leaf_query t))))

  abbrev pub order_gives : Order-F (List X) (List X) (List X) (List X) (List X) → List X
  order_gives o = o.expr

  abbrev pub output_gives : Output-F (List X) (List X) (List X) (List X) (List X) → List X
  output_gives o = o.expr

  abbrev pub query_gives : Query-F (List X) (List X) (List X) (List X) (List X) → List X
  query_gives q = all_in q.columns ++ (q.tree ++ (all_in q.conds ++ all_in q.order))

  abbrev pub gathered : Expr → List X
  gathered = fold-Expr (List X) (List X) (List X) (List X) (List X) expr_gives tree_gives order_gives output_gives query_gives

  abbrev pub gathered_in_tree : JoinTree → List X
  gathered_in_tree = fold-JoinTree (List X) (List X) (List X) (List X) (List X) expr_gives tree_gives order_gives output_gives query_gives

  abbrev pub gathered_in_query : Query → List X
  gathered_in_query = fold-Query (List X) (List X) (List X) (List X) (List X) expr_gives tree_gives order_gives output_gives query_gives

module _ {X A B C D F : Type 0} where
  abbrev pub nothing_of_node : Expr-F A B C D F → List X
  nothing_of_node x = []

  abbrev pub nothing_of_leaf : JoinTree-F A B C D F → List X
  nothing_of_leaf t = []

-- ---- columns, placeholders, leaves

pub record ColumnRef : Type 0 where
  pub relation : ℕ
  pub column : ℕ
  pub type : Ty

module _ {A B C D F : Type 0} where
  abbrev pub node_column : Expr-F A B C D F → List ColumnRef
  node_column (Expr-F.Col rel col ty nulled) = record { relation = rel; column = col; type = ty } ∷ []
  node_column _ = []

  abbrev pub node_placeholder : Expr-F A B C D F → List ℕ
  node_placeholder (Expr-F.Place inner rels) = rels ∷ []
  node_placeholder _ = []

  -- a column, literal or operator, placeholders and sublinks among them
  abbrev pub one_node : Expr-F A B C D F → List (Unit {0})
  one_node x = tt ∷ []

  abbrev pub leaf_number : JoinTree-F A B C D F → List ℕ
  leaf_number (JoinTree-F.Base rel name table) = rel ∷ []
  leaf_number (JoinTree-F.Sub rel name query) = rel ∷ []
  leaf_number _ = []

  abbrev pub base_number : JoinTree-F A B C D F → List ℕ
  base_number (JoinTree-F.Base rel name table) = rel ∷ []
  base_number _ = []

  abbrev pub base_table : JoinTree-F A B C D F → List ℕ
  base_table (JoinTree-F.Base rel name table) = table ∷ []
  base_table _ = []

abbrev pub columns_in : Expr → List ColumnRef
columns_in = gathered ColumnRef node_column nothing_of_leaf

abbrev pub columns_in_query : Query → List ColumnRef
columns_in_query = gathered_in_query ColumnRef node_column nothing_of_leaf

abbrev pub placeholders_in_query : Query → List ℕ
placeholders_in_query = gathered_in_query ℕ node_placeholder nothing_of_leaf

-- the numbers of all leaves, of the base leaves alone, and the tables of the base leaves
abbrev pub leaves_in : Query → List ℕ
leaves_in = gathered_in_query ℕ nothing_of_node leaf_number

abbrev pub base_leaves_in : Query → List ℕ
base_leaves_in = gathered_in_query ℕ nothing_of_node base_number

abbrev pub tables_in : Query → List ℕ
tables_in = gathered_in_query ℕ nothing_of_node base_table

abbrev pub is_outside : List ℕ → ColumnRef → Bool
is_outside leaves column = not (list_any (◌==◌ column.relation) leaves)

-- An outer reference of a select: a column in it, at any depth, of a relation that is neither a leaf of it nor of a
-- select inside it.
abbrev pub outer_references : Query → List ColumnRef
outer_references query = filter (is_outside (leaves_in query)) (columns_in_query query)

-- ---- the relations of a tree: those of its leaves, without those in the right side of a Semi or Anti join

abbrev pub tree_rels : JoinTree-F (Unit {0}) ℕ (Unit {0}) (Unit {0}) (Unit {0}) → ℕ
tree_rels (JoinTree-F.Base rel name table) = only rel
tree_rels (JoinTree-F.Sub rel name query) = only rel
tree_rels (JoinTree-F.Join kind left right on) = join_rels kind left right
tree_rels (JoinTree-F.From members conds) = union members

abbrev pub rels_of : JoinTree → ℕ
rels_of = fold-JoinTree (Unit {0}) ℕ (Unit {0}) (Unit {0}) (Unit {0}) (λ x. tt) tree_rels (λ o. tt) (λ o. tt) (λ q. tt)

-- ---- the count of expression nodes: each column, literal and operator counts one, placeholders and sublinks among the
-- operators, at every depth, in sublinks and in sub-selects

abbrev pub expr_nodes : Expr-F ℕ ℕ ℕ ℕ ℕ → ℕ
expr_nodes x = 1 + (sum (parts x) + sum (option_part (sublink_query x)))

abbrev pub tree_nodes : JoinTree-F ℕ ℕ ℕ ℕ ℕ → ℕ
tree_nodes t = sum (trees t) + (sum (conditions t) + sum (option_part (leaf_query t)))

abbrev pub order_nodes : Order-F ℕ ℕ ℕ ℕ ℕ → ℕ
order_nodes o = o.expr

abbrev pub output_nodes : Output-F ℕ ℕ ℕ ℕ ℕ → ℕ
output_nodes o = o.expr

abbrev pub query_nodes : Query-F ℕ ℕ ℕ ℕ ℕ → ℕ
query_nodes q = sum q.columns + (q.tree + (sum q.conds + sum q.order))

abbrev pub nodes_in : Expr → ℕ
nodes_in = fold-Expr ℕ ℕ ℕ ℕ ℕ expr_nodes tree_nodes order_nodes output_nodes query_nodes

abbrev pub nodes_in_query : Query → ℕ
nodes_in_query = fold-Query ℕ ℕ ℕ ℕ ℕ expr_nodes tree_nodes order_nodes output_nodes query_nodes

-- The leaves of each part of a query, as the code lists them, and their printed names.
use Rattle.std.specs.Prelude.{ℕ, ◌==◌, ◌&&◌, Bool, nat_lt, find, List, [], ◌∷◌, ◌++◌, map, Option, Some, None, slice_get, if◌then◌else◌}
use Rattle.std.specs.List.{list_any}
use Rattle.std.specs.Fmt.{decimal}
use Rattle.std.specs.Str.{bytes_eq}
use Rattle.jp_catalog.specs.declared.types.Catalog.{Catalog}
use Rattle.jp_query.specs.declared.Expr.{Expr}
use Rattle.jp_query.specs.declared.Expr.TheFolds.{para-Expr, para-JoinTree}
use Rattle.jp_query.specs.declared.JoinTree.{JoinTree}
use Rattle.jp_query.specs.declared.Order.{Order}
use Rattle.jp_query.specs.declared.Output.{Output}
use Rattle.jp_query.specs.declared.Query.{Query}
use Rattle.jp_problem.specs.Blocks.{order_expr, output_expr}
use Rattle.jp_query.specs.Parts.{option_part}
use Rattle.jp_base.specs.declared.values.Ty.{Ty}
use Rattle.jp_prepared.specs.Names.{Leaf, column_name, Leaves, expr_leaves, tree_leaves, order_leaves, output_leaves, query_leaves, leaves_of}
use Rattle.jp_tree.specs.declared.prepared.RelName.{RelName}

-- a leaf with its name as it is written
abbrev pub as_name : Leaf → RelName
as_name leaf = record { rel = leaf.relation; name = leaf.name; columns = leaf.columns }

module _ (catalog : Catalog) where
  unfoldable pub expr_names : Expr → List RelName
  expr_names e = map as_name (para-Expr Leaves Leaves Leaves Leaves Leaves (expr_leaves catalog) (tree_leaves catalog) (order_leaves catalog) (output_leaves catalog) (query_leaves catalog) e)

  unfoldable pub tree_names : JoinTree → List RelName
  tree_names t = map as_name (para-JoinTree Leaves Leaves Leaves Leaves Leaves (expr_leaves catalog) (tree_leaves catalog) (order_leaves catalog) (output_leaves catalog) (query_leaves catalog) t)

  unfoldable pub query_names : Query → List RelName
  query_names q = map as_name (leaves_of catalog q)

  abbrev pub term_names : Bool × Expr → List RelName
  term_names term = expr_names term.1

  abbrev pub arm_names : Expr × Expr → List RelName
  arm_names arm = expr_names arm.0 ++ expr_names arm.1

  abbrev pub option_names : Option Expr → List RelName
  option_names (Some e) = expr_names e
  option_names None = []

  abbrev pub output_names : Output → List RelName
  output_names output = expr_names (output_expr output)

  abbrev pub order_names : Order → List RelName
  order_names order = expr_names (order_expr order)

-- the name of the column at a place, if there is one
abbrev pub column_at : List (List ℕ × Ty) → ℕ → List (List ℕ)
column_at columns at = map column_name (option_part (slice_get columns at))

-- ---- printed names

abbrev pub is_relation : ℕ → RelName → Bool
is_relation rel name = name.rel == rel

abbrev pub is_earlier : RelName → RelName → Bool
is_earlier leaf other = nat_lt other.rel leaf.rel && bytes_eq other.name leaf.name

abbrev pub printed_text : List RelName → RelName → List ℕ
printed_text leaves leaf = if list_any (is_earlier leaf) leaves then leaf.name ++ 95 ∷ decimal leaf.rel else leaf.name

abbrev pub printed : List RelName → RelName → RelName
printed leaves leaf = record { rel = leaf.rel; name = printed_text leaves leaf; columns = leaf.columns }

abbrev pub printed_first : List RelName → Option RelName → List RelName
printed_first leaves (Some leaf) = printed leaves leaf ∷ []
printed_first leaves None = []

abbrev pub printed_at : List RelName → ℕ → List RelName
printed_at leaves rel = printed_first leaves (find (is_relation rel) leaves)

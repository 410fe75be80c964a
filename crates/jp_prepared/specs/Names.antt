-- How the relations of a statement and their columns are printed.
use Rattle.std.specs.Prelude.{ℕ, zero, suc, ◌==◌, ◌&&◌, Bool, nat_lt, find, List, [], ◌∷◌, ◌++◌, map, Option, Some, None, slice_get, if◌then◌else◌}
use Rattle.std.specs.List.{flat_map, list_any}
use Rattle.std.specs.Fmt.{decimal}
use Rattle.std.specs.Str.{bytes_eq}
use Rattle.jp_base.specs.declared.values.Ty.{Ty}
use Rattle.jp_catalog.specs.declared.types.Catalog.{Catalog}
use Rattle.jp_catalog.specs.declared.types.TableDef.{TableDef}
use Rattle.jp_query.specs.declared.Expr.TheFolds.{para-Query}
use Rattle.jp_query.specs.declared.Output.{out-Output}
use Rattle.jp_query.specs.declared.Query.{out-Query}
use Rattle.jp_query.specs.declared.Expr.{Expr}
use Rattle.jp_query.specs.declared.Expr.TheOpen.{Expr-F, JoinTree-F, Order-F, Output-F, Query-F}
use Rattle.jp_query.specs.declared.JoinTree.{JoinTree}
use Rattle.jp_query.specs.declared.Order.{Order}
use Rattle.jp_query.specs.declared.Output.{Output}
use Rattle.jp_query.specs.declared.Query.{Query}
use Rattle.jp_query.specs.Parts.{all_in, parts, sublink_query, trees, conditions, leaf_query, option_part}
use Rattle.jp_tree.specs.declared.prepared.RelName.{RelName}

-- a leaf of a query: its number, its name as it is written, and the names of its columns
pub record Leaf : Type 0 where
  pub relation : ℕ
  pub name : List ℕ
  pub columns : List (List ℕ)

abbrev pub Leaves : Type 0
Leaves = List Leaf

abbrev pub column_name : List ℕ × Ty → List ℕ
column_name column = column.0

-- those of a table that is there
abbrev pub names_of_table : Option (List ℕ × TableDef) → List (List ℕ)
names_of_table (Some table) = map column_name table.1.columns
names_of_table None = []

abbrev pub output_name : Output → List ℕ
output_name output = (out-Output output).name

module _ (catalog : Catalog) where
  -- what stands beside each part
  abbrev pub leaves_beside : {A : Type 0} → A × Leaves → Leaves
  leaves_beside part = part.1

  abbrev pub leaf_here : JoinTree-F (Expr × Leaves) (JoinTree × Leaves) (Order × Leaves) (Output × Leaves) (Query × Leaves) → Leaves
  leaf_here (JoinTree-F.Base rel name table) = record { relation = rel; name = name; columns = names_of_table (slice_get catalog.tables table) } ∷ []
  leaf_here (JoinTree-F.Sub rel name query) = record { relation = rel; name = name; columns = map output_name (out-Query query.0).columns } ∷ []
  leaf_here _ = []

  abbrev pub expr_leaves : Expr-F (Expr × Leaves) (JoinTree × Leaves) (Order × Leaves) (Output × Leaves) (Query × Leaves) → Leaves
  expr_leaves x = all_in (map leaves_beside (parts x)) ++ all_in (map leaves_beside (option_part (sublink_query x)))

  abbrev pub tree_leaves : JoinTree-F (Expr × Leaves) (JoinTree × Leaves) (Order × Leaves) (Output × Leaves) (Query × Leaves) → Leaves
  tree_leaves t = leaf_here t ++ (all_in (map leaves_beside (trees t)) ++ (all_in (map leaves_beside (conditions t)) ++ all_in (map leaves_beside (option_part (leaf_query t)))))

  abbrev pub order_leaves : Order-F (Expr × Leaves) (JoinTree × Leaves) (Order × Leaves) (Output × Leaves) (Query × Leaves) → Leaves
  order_leaves o = o.expr.1

  abbrev pub output_leaves : Output-F (Expr × Leaves) (JoinTree × Leaves) (Order × Leaves) (Output × Leaves) (Query × Leaves) → Leaves
  output_leaves o = o.expr.1

  abbrev pub query_leaves : Query-F (Expr × Leaves) (JoinTree × Leaves) (Order × Leaves) (Output × Leaves) (Query × Leaves) → Leaves
  query_leaves q = all_in (map leaves_beside q.columns) ++ (q.tree.1 ++ (all_in (map leaves_beside q.conds) ++ all_in (map leaves_beside q.order)))

  -- the leaves of a query at every depth, in sublinks too, as often as they stand there
  abbrev pub leaves_of : Query → Leaves
  leaves_of = para-Query Leaves Leaves Leaves Leaves Leaves expr_leaves tree_leaves order_leaves output_leaves query_leaves

-- ---- printed names

abbrev pub is_leaf_of : ℕ → Leaf → Bool
is_leaf_of rel leaf = leaf.relation == rel

-- another relation, with a lesser number, of the same name
abbrev pub is_earlier_of_name : Leaf → Leaf → Bool
is_earlier_of_name leaf other = nat_lt other.relation leaf.relation && bytes_eq other.name leaf.name

-- its name; where an earlier relation has the same one, `_` and the relation's number behind it
abbrev pub printed_name : Leaves → Leaf → List ℕ
printed_name leaves leaf = if list_any (is_earlier_of_name leaf) leaves then leaf.name ++ 95 ∷ decimal leaf.relation else leaf.name

abbrev pub named : Leaves → Leaf → RelName
named leaves leaf = record { rel = leaf.relation; name = printed_name leaves leaf; columns = leaf.columns }

abbrev pub name_at : Leaves → ℕ → List RelName
name_at leaves rel = map (named leaves) (option_part (find (is_leaf_of rel) leaves))

-- the numbers below n, ascending
unfoldable pub below : ℕ → List ℕ
below zero = []
below (suc n) = below n ++ n ∷ []

-- of each relation of the query, ascending by its number
abbrev pub names_of : Catalog → Query → List RelName
names_of catalog query = flat_map (name_at (leaves_of catalog query)) (below 64)

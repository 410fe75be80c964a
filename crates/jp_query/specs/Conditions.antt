-- Which queries are typed and bounded. Each condition is a part with a name.
use Rattle.std.specs.Prelude.{ℕ, ◌≡◌, ◌<◌, ◌≤◌, ◌+◌, ◌-◌, ◌^◌, ◌==◌, ◌&&◌, ◌||◌, Bool, true, false, not, nat_le, bit_and, count_ones, length, List, [], ◌∷◌, ◌++◌, map, fold, All, Option, Some, None}
use Rattle.std.specs.List.{list_all, list_any}
use Rattle.jp_base.specs.declared.values.Ty.{Ty}
use Rattle.jp_query.specs.declared.Expr.TheFolds.{map-Expr, map-JoinTree}
use Rattle.jp_query.specs.Layers.{Expr, JoinTree, Query, Expr-F, JoinTree-F, Order-F, Output-F, Query-F, fold-Expr, fold-JoinTree, fold-Query}
use Rattle.jp_query.specs.Parts.{parts, sublink_query, trees, conditions, leaf_query, option_part, ColumnRef, node_column, node_placeholder, base_leaves_in, tables_in}
use Rattle.jp_query.specs.Refs.{only, union}
use Rattle.jp_query.specs.Scopes.{Column, Schema, Entry, Scope, BoundIn, EntriesIn, ColumnIn, ColumnsIn, visible_column, expr_bound, tree_entries}
use Rattle.jp_query.specs.Typing.{same_type, is_listed, typed_query, is_true_test}

-- ---- what holds at each place of a query, where its scope is what is visible there

-- what is asked of a column reference and of a placeholder's relations in the scope where they stand, of the scope itself
-- in which expressions stand, and of each expression's bound
pub record Tests : Type 0 where
  pub column : Scope → ColumnRef → Bool
  pub placeholder : Scope → ℕ → Bool
  pub scope : Scope → Bool
  pub bound : ℕ → Bool

-- A part's bound, entries or columns, and whether it and all that stands in it pass, by the scope in which it stands. ON
-- sees the relations of its join's two sides, the other expressions of a select those that its tree's tuples give rows to,
-- and both see those of the outer levels. A sub-select in FROM sees the outer levels alone.
pub record Judged (A : Type 0) : Type 0 where
  pub value : Scope → A
  pub passes : Scope → Bool

module _ {A : Type 0} where
  abbrev pub judged_value : Judged A → Scope → A
  judged_value judged = judged.value

  abbrev pub passes_in : Scope → Judged A → Bool
  passes_in scope judged = judged.passes scope

abbrev pub ExprLevel : Type 0
ExprLevel = Expr-F (Judged ℕ) (Judged (List Entry)) (Judged ℕ) (Judged Column) (Judged (List Column))

abbrev pub TreeLevel : Type 0
TreeLevel = JoinTree-F (Judged ℕ) (Judged (List Entry)) (Judged ℕ) (Judged Column) (Judged (List Column))

abbrev pub OrderLevel : Type 0
OrderLevel = Order-F (Judged ℕ) (Judged (List Entry)) (Judged ℕ) (Judged Column) (Judged (List Column))

abbrev pub OutputLevel : Type 0
OutputLevel = Output-F (Judged ℕ) (Judged (List Entry)) (Judged ℕ) (Judged Column) (Judged (List Column))

abbrev pub QueryLevel : Type 0
QueryLevel = Query-F (Judged ℕ) (Judged (List Entry)) (Judged ℕ) (Judged Column) (Judged (List Column))

-- the bound of an expression, from those of its parts
abbrev pub judged_bound : ExprLevel → BoundIn
judged_bound x = expr_bound (map-Expr (Judged ℕ) (Judged (List Entry)) (Judged ℕ) (Judged Column) (Judged (List Column)) BoundIn EntriesIn BoundIn ColumnIn ColumnsIn judged_value judged_value judged_value judged_value judged_value x)

abbrev pub judged_entries : Schema → TreeLevel → EntriesIn
judged_entries schema t = tree_entries schema (map-JoinTree (Judged ℕ) (Judged (List Entry)) (Judged ℕ) (Judged Column) (Judged (List Column)) BoundIn EntriesIn BoundIn ColumnIn ColumnsIn judged_value judged_value judged_value judged_value judged_value t)

-- the relations that the ON list or the condition list of a tree sees
abbrev pub all_entries : List (Judged (List Entry)) → Scope → List Entry
all_entries [] scope = []
all_entries (tree ∷ more) scope = tree.value scope ++ all_entries more scope

module _ (schema : Schema) (tests : Tests) where
  abbrev pub expr_judged : ExprLevel → Judged ℕ
  expr_judged x = record {
    value = judged_bound x;
    passes = λ scope. tests.bound (judged_bound x scope) && (list_all (tests.column scope) (node_column x) && (list_all (tests.placeholder scope) (node_placeholder x)
        && (list_all (passes_in scope) (parts x) && list_all (passes_in scope) (option_part (sublink_query x)))));
  }

  abbrev pub tree_passes : TreeLevel → Scope → Scope → Bool
  tree_passes t scope inner = tests.scope inner && (list_all (passes_in inner) (conditions t) && (list_all (passes_in scope) (trees t) && list_all (passes_in scope) (option_part (leaf_query t))))

  abbrev pub tree_judged : TreeLevel → Judged (List Entry)
  tree_judged t = record { value = judged_entries schema t; passes = λ scope. tree_passes t scope (all_entries (trees t) scope ++ scope) }

  abbrev pub order_judged : OrderLevel → Judged ℕ
  order_judged order = order.expr

  abbrev pub output_judged : OutputLevel → Judged Column
  output_judged output = record { value = λ scope. record { type = output.ty; bound = output.expr.value scope }; passes = output.expr.passes }

  abbrev pub query_passes : QueryLevel → Scope → Bool
  query_passes q inner = tests.scope inner && (list_all (passes_in inner) q.columns && (list_all (passes_in inner) q.conds && list_all (passes_in inner) q.order))

  abbrev pub judged_columns : QueryLevel → Scope → List Column
  judged_columns q inner = map (λ (c : Judged Column). c.value inner) q.columns

  abbrev pub query_judged : QueryLevel → Judged (List Column)
  query_judged q = record {
    value = λ scope. judged_columns q (q.tree.value scope ++ scope);
    passes = λ scope. q.tree.passes scope && query_passes q (q.tree.value scope ++ scope);
  }

  abbrev pub judged_expr : Expr → Judged ℕ
  judged_expr = fold-Expr (Judged ℕ) (Judged (List Entry)) (Judged ℕ) (Judged Column) (Judged (List Column)) expr_judged tree_judged order_judged output_judged query_judged

  abbrev pub judged_tree : JoinTree → Judged (List Entry)
  judged_tree = fold-JoinTree (Judged ℕ) (Judged (List Entry)) (Judged ℕ) (Judged Column) (Judged (List Column)) expr_judged tree_judged order_judged output_judged query_judged

  abbrev pub judged_query : Query → Judged (List Column)
  judged_query = fold-Query (Judged ℕ) (Judged (List Entry)) (Judged ℕ) (Judged Column) (Judged (List Column)) expr_judged tree_judged order_judged output_judged query_judged

-- every column, placeholder, scope and bound passes
abbrev pub all_pass : Tests
all_pass = record { column = λ scope c. true; placeholder = λ scope rels. true; scope = λ scope. true; bound = λ n. true }

-- the column's relation is visible, and that column of it has the type
abbrev pub has_type : Option Column → Ty → Bool
has_type (Some column) t = same_type column.type t
has_type None t = false

abbrev pub sees_column : Scope → ColumnRef → Bool
sees_column scope c = has_type (visible_column scope c.relation c.column) c.type

abbrev pub relation_of : Entry → ℕ
relation_of entry = entry.relation

-- each relation of the set is visible
abbrev pub sees_relations : Scope → ℕ → Bool
sees_relations scope rels = bit_and rels (union (map only (map relation_of scope))) == rels

abbrev pub are_distinct : List ℕ → Bool
are_distinct [] = true
are_distinct (n ∷ numbers) = not (list_any (◌==◌ n) numbers) && are_distinct numbers

abbrev pub has_distinct_numbers : Scope → Bool
has_distinct_numbers scope = are_distinct (map relation_of scope)

-- a number of 128 bits holds what has the bound
abbrev pub fits : ℕ → Bool
fits bound = nat_le bound (2 ^ 127 - 1)

abbrev pub knows_columns : Tests
knows_columns = record all_pass { column = sees_column }

abbrev pub knows_placeholders : Tests
knows_placeholders = record all_pass { placeholder = sees_relations }

abbrev pub tells_relations_apart : Tests
tells_relations_apart = record all_pass { scope = has_distinct_numbers }

abbrev pub keeps_bounds : Tests
keeps_bounds = record all_pass { bound = fits }

-- ---- the numbers of leaves

-- a leaf, with the numbers of the sublinks around it
pub record Leaf : Type 0 where
  pub number : ℕ
  pub sublinks : List ℕ

abbrev pub shares : List ℕ → List ℕ → Bool
shares xs ys = list_any (λ x. list_any (◌==◌ x) ys) xs

-- two leaves of different parts have one number only inside two sublinks of one number
abbrev pub leaf_is_apart : Leaf → Leaf → Bool
leaf_is_apart a b = not (a.number == b.number) || shares a.sublinks b.sublinks

abbrev pub are_apart : List Leaf → List Leaf → Bool
are_apart left right = list_all (λ a. list_all (leaf_is_apart a) right) left

pub record Leaves : Type 0 where
  pub leaves : List Leaf
  pub apart : Bool

abbrev pub no_leaves : Leaves
no_leaves = record { leaves = []; apart = true }

abbrev pub beside : Leaves → Leaves → Leaves
beside a b = record { leaves = a.leaves ++ b.leaves; apart = a.apart && (b.apart && are_apart a.leaves b.leaves) }

abbrev pub together : List Leaves → Leaves
together = fold beside no_leaves

abbrev pub leaf_inside : ℕ → Leaf → Leaf
leaf_inside sub leaf = record { number = leaf.number; sublinks = sub ∷ leaf.sublinks }

abbrev pub leaves_inside : ℕ → Leaves → Leaves
leaves_inside sub leaves = record { leaves = map (leaf_inside sub) leaves.leaves; apart = leaves.apart }

abbrev pub expr_leaves : Expr-F Leaves Leaves Leaves Leaves Leaves → Leaves
expr_leaves (Expr-F.Exists sub query) = leaves_inside sub query
expr_leaves (Expr-F.InSub sub operand query) = beside operand (leaves_inside sub query)
expr_leaves x = together (parts x)

abbrev pub leaf : ℕ → Leaves
leaf rel = record { leaves = record { number = rel; sublinks = [] } ∷ []; apart = true }

abbrev pub tree_leaves : JoinTree-F Leaves Leaves Leaves Leaves Leaves → Leaves
tree_leaves (JoinTree-F.Base rel name table) = leaf rel
tree_leaves (JoinTree-F.Sub rel name query) = beside (leaf rel) query
tree_leaves t = beside (together (trees t)) (together (conditions t))

abbrev pub order_leaves : Order-F Leaves Leaves Leaves Leaves Leaves → Leaves
order_leaves order = order.expr

abbrev pub output_leaves : Output-F Leaves Leaves Leaves Leaves Leaves → Leaves
output_leaves output = output.expr

abbrev pub query_leaves : Query-F Leaves Leaves Leaves Leaves Leaves → Leaves
query_leaves q = beside (beside (beside (together q.columns) q.tree) (together q.conds)) (together q.order)

abbrev pub judged_leaves : Query → Leaves
judged_leaves = fold-Query Leaves Leaves Leaves Leaves Leaves expr_leaves tree_leaves order_leaves output_leaves query_leaves

-- ---- each join tree, and each tree inside one, has at least one leaf

abbrev pub all_true : List Bool → Bool
all_true = list_all is_true_test

abbrev pub expr_rooted : Expr-F Bool Bool Bool Bool Bool → Bool
expr_rooted x = all_true (parts x) && all_true (option_part (sublink_query x))

abbrev pub tree_rooted : JoinTree-F Bool Bool Bool Bool Bool → Bool
tree_rooted (JoinTree-F.From members conds) = is_listed members && (all_true members && all_true conds)
tree_rooted t = all_true (trees t) && (all_true (conditions t) && all_true (option_part (leaf_query t)))

abbrev pub order_rooted : Order-F Bool Bool Bool Bool Bool → Bool
order_rooted order = order.expr

abbrev pub output_rooted : Output-F Bool Bool Bool Bool Bool → Bool
output_rooted output = output.expr

abbrev pub query_rooted : Query-F Bool Bool Bool Bool Bool → Bool
query_rooted q = all_true q.columns && (q.tree && (all_true q.conds && all_true q.order))

abbrev pub has_leaves : Query → Bool
has_leaves = fold-Query Bool Bool Bool Bool Bool expr_rooted tree_rooted order_rooted output_rooted query_rooted

-- ---- typed and bounded queries

-- Typed over a schema, inside the outer scope; a statement's query has the empty one.
pub record IsTyped (schema : Schema) (outer : Scope) (query : Query) : Type 0 where
  -- its expressions are typed, its outputs have their stated types, the members of its condition lists are booleans, and
  -- its leaves have numbers below 64
  pub expressions : (typed_query query).is_typed ≡ true
  -- each column names a relation that is visible at its place, and has the type of that relation's column
  pub columns : (judged_query schema knows_columns query).passes outer ≡ true
  -- the relations of each placeholder are visible at its place
  pub placeholders : (judged_query schema knows_placeholders query).passes outer ≡ true
  -- relations visible at one place have distinct numbers
  pub distinct : (judged_query schema tells_relations_apart query).passes outer ≡ true
  -- two leaves have one number only inside two sublinks of one number
  pub apart : (judged_leaves query).apart ≡ true
  -- each base leaf has the number of a table of the schema
  pub tables : All (λ table. table < length schema) (tables_in query)
  -- each join tree, and each tree inside one, has at least one leaf
  pub rooted : has_leaves query ≡ true
  -- the base leaves have at most 16 numbers together
  pub few : count_ones (union (map only (base_leaves_in query))) ≤ 16

-- no expression in it has a bound above 2 ^ 127 - 1
abbrev pub IsBounded : Schema → Scope → Query → Type 0
IsBounded schema outer query = (judged_query schema keeps_bounds query).passes outer ≡ true

abbrev pub IsBoundedExpr : Schema → Scope → Expr → Type 0
IsBoundedExpr schema scope e = (judged_expr schema keeps_bounds e).passes scope ≡ true

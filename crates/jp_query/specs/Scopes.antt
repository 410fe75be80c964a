-- Schemas, what is visible at a place of a query, and bounds of expressions.
use Rattle.std.specs.Prelude.{ℕ, ◌*◌, ◌==◌, max, nat_abs, List, [], ◌∷◌, ◌++◌, map, fold, sum, Option, Some, None, slice_get, if◌then◌else◌}
use Rattle.std.specs.List.{flat_map}
use Rattle.jp_base.specs.declared.values.Ty.{Ty}
use Rattle.jp_base.specs.declared.values.Value.{Value}
use Rattle.jp_base.specs.declared.values.Value.TheVariants as value
use Rattle.jp_query.specs.declared.JoinKind.{JoinKind}
use Rattle.jp_query.specs.declared.JoinKind.TheVariants as join
use Rattle.jp_query.specs.Layers.{Expr, JoinTree, Query, Expr-F, JoinTree-F, Order-F, Output-F, Query-F, fold-Expr, fold-JoinTree, fold-Query}
use Rattle.jp_query.specs.Parts.{term_part, option_part}

-- a column of a table or of a query's rows: its type, and a bound of its numbers' magnitudes
pub record Column : Type 0 where
  pub type : Ty
  pub bound : ℕ

-- a list of columns for each table of the catalogue, in its order
abbrev pub Schema : Type 0
Schema = List (List Column)

-- ---- what is visible

-- a visible relation, with its columns
pub record Entry : Type 0 where
  pub relation : ℕ
  pub columns : List Column

-- the relations that are visible at a place, those of inner levels first
abbrev pub Scope : Type 0
Scope = List Entry

abbrev pub visible_columns : Scope → ℕ → List Column
visible_columns [] rel = []
visible_columns (entry ∷ scope) rel = if entry.relation == rel then entry.columns else visible_columns scope rel

abbrev pub visible_column : Scope → ℕ → ℕ → Option Column
visible_column scope rel col = slice_get (visible_columns scope rel) col

abbrev pub bound_of_column : Option Column → ℕ
bound_of_column (Some column) = column.bound
bound_of_column None = 0

abbrev pub columns_of_table : Option (List Column) → List Column
columns_of_table (Some columns) = columns
columns_of_table None = []

-- ---- bounds: the greatest magnitude that an expression's number can have

-- what an expression, a tree, an output and a query have in the scope where they stand
abbrev pub BoundIn : Type 0
BoundIn = Scope → ℕ

abbrev pub EntriesIn : Type 0
EntriesIn = Scope → List Entry

abbrev pub ColumnIn : Type 0
ColumnIn = Scope → Column

abbrev pub ColumnsIn : Type 0
ColumnsIn = Scope → List Column

abbrev pub magnitude : Value → ℕ
magnitude (value.Num n) = nat_abs n
magnitude _ = 0

abbrev pub greatest : List ℕ → ℕ
greatest = fold max 0

abbrev pub product : List ℕ → ℕ
product = fold ◌*◌ 1

abbrev pub in_scope : {A : Type 0} → Scope → (Scope → A) → A
in_scope scope value = value scope

abbrev pub arm_result : {A : Type 0} → A × A → A
arm_result arm = arm.1

-- A literal has its value, NULL 0. A sum has the sum of the bounds, whatever its signs; a product their product; COALESCE
-- and CASE the greatest of their results. Texts and booleans have none.
abbrev pub expr_bound : Expr-F BoundIn EntriesIn BoundIn ColumnIn ColumnsIn → BoundIn
expr_bound (Expr-F.Col rel col ty nulled) scope = bound_of_column (visible_column scope rel col)
expr_bound (Expr-F.Lit v ty) scope = magnitude v
expr_bound (Expr-F.Place inner rels) scope = inner scope
expr_bound (Expr-F.Neg operand) scope = operand scope
expr_bound (Expr-F.Sum terms) scope = sum (map (in_scope scope) (map term_part terms))
expr_bound (Expr-F.Product factors) scope = product (map (in_scope scope) factors)
expr_bound (Expr-F.Coalesce members) scope = greatest (map (in_scope scope) members)
expr_bound (Expr-F.Case operand arms otherwise) scope = greatest (map (in_scope scope) (map arm_result arms ++ option_part otherwise))
expr_bound _ scope = 0

-- the entries of the relations that a join's tuples give rows to
abbrev pub join_entries : JoinKind → List Entry → List Entry → List Entry
join_entries join.Semi left right = left
join_entries join.Anti left right = left
join_entries _ left right = left ++ right

-- a leaf's columns are those of its table in the schema, or the outputs of its sub-select
abbrev pub tree_entries : Schema → JoinTree-F BoundIn EntriesIn BoundIn ColumnIn ColumnsIn → EntriesIn
tree_entries schema (JoinTree-F.Base rel name table) scope = record { relation = rel; columns = columns_of_table (slice_get schema table) } ∷ []
tree_entries schema (JoinTree-F.Sub rel name query) scope = record { relation = rel; columns = query scope } ∷ []
tree_entries schema (JoinTree-F.Join kind left right on) scope = join_entries kind (left scope) (right scope)
tree_entries schema (JoinTree-F.From members conds) scope = flat_map (in_scope scope) members

abbrev pub order_bound : Order-F BoundIn EntriesIn BoundIn ColumnIn ColumnsIn → BoundIn
order_bound order = order.expr

abbrev pub output_column : Output-F BoundIn EntriesIn BoundIn ColumnIn ColumnsIn → ColumnIn
output_column output scope = record { type = output.ty; bound = output.expr scope }

abbrev pub query_columns : Query-F BoundIn EntriesIn BoundIn ColumnIn ColumnsIn → ColumnsIn
query_columns query scope = map (in_scope (query.tree scope ++ scope)) query.columns

abbrev pub bound_of : Schema → Expr → BoundIn
bound_of schema = fold-Expr BoundIn EntriesIn BoundIn ColumnIn ColumnsIn expr_bound (tree_entries schema) order_bound output_column query_columns

abbrev pub entries_of : Schema → JoinTree → EntriesIn
entries_of schema = fold-JoinTree BoundIn EntriesIn BoundIn ColumnIn ColumnsIn expr_bound (tree_entries schema) order_bound output_column query_columns

abbrev pub columns_of_query : Schema → Query → ColumnsIn
columns_of_query schema = fold-Query BoundIn EntriesIn BoundIn ColumnIn ColumnsIn expr_bound (tree_entries schema) order_bound output_column query_columns

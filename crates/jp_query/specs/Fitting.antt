-- Environments and rows that fit: what expressions and queries are evaluated in, and what they give. Scopes are what is
-- visible where the expression or the query stands.
use Rattle.std.specs.Prelude.{◌≡◌, ℕ, ◌==◌, ⊤, Bool, true, not, List, [], ◌∷◌, ◌++◌, map, All, Option, Some, None}
use Rattle.std.specs.List.{list_any}
use Rattle.jp_base.specs.declared.values.Ty.{Ty}
use Rattle.jp_base.specs.declared.values.Value.{Value}
use Rattle.jp_base.specs.Values.{HasType}
use Rattle.jp_query.specs.Layers.{Expr, JoinTree, Query, Expr-F, fold-Expr}
use Rattle.jp_query.specs.Meaning.{Row, Env, cell_in}
use Rattle.jp_query.specs.Parts.{all_in, parts, ColumnRef, node_column, nothing_of_leaf, columns_in, gathered_in_tree, outer_references}
use Rattle.jp_query.specs.Scopes.{Column, Schema, Entry, Scope, visible_column}
use Rattle.jp_query.specs.Tables.{TableRows, IsCellOf, IsRowOf, Belong}
use Rattle.jp_query.specs.Conditions.{relation_of}

-- ---- cells

abbrev pub IsCellOfSome : Option Column → Value → Type 0
IsCellOfSome (Some column) cell = IsCellOf column cell
IsCellOfSome None cell = ⊤

-- The cell of a visible column is NULL or of the type of the relation's column, and a number lies within its bound. Of a
-- column that isn't visible, as one of a relation further inside, nothing is asked.
abbrev pub IsCellAt : Scope → Env → ColumnRef → Type 0
IsCellAt scope env c = IsCellOfSome (visible_column scope c.relation c.column) (cell_in (env c.relation) c.column)

-- ---- what stands outside the sublinks of an expression

abbrev pub expr_own_columns : Expr-F (List ColumnRef) (Unit {0}) (Unit {0}) (Unit {0}) (Unit {0}) → List ColumnRef
expr_own_columns x = node_column x ++ all_in (parts x)

abbrev pub own_columns : Expr → List ColumnRef
own_columns = fold-Expr (List ColumnRef) (Unit {0}) (Unit {0}) (Unit {0}) (Unit {0}) expr_own_columns (λ t. tt) (λ o. tt) (λ u. tt) (λ q. tt)

-- an IN over a query: its number, and the stated types of the query's outputs
pub record InQuery : Type 0 where
  pub number : ℕ
  pub outputs : List Ty

abbrev pub node_in : {A B C D : Type 0} → Expr-F A B C D (List Ty) → List InQuery
node_in (Expr-F.InSub sub operand outputs) = record { number = sub; outputs = outputs } ∷ []
node_in _ = []

abbrev pub expr_own_ins : Expr-F (List InQuery) (Unit {0}) (Unit {0}) Ty (List Ty) → List InQuery
expr_own_ins x = node_in x ++ all_in (parts x)

abbrev pub own_ins : Expr → List InQuery
own_ins = fold-Expr (List InQuery) (Unit {0}) (Unit {0}) Ty (List Ty) expr_own_ins (λ t. tt) (λ o. tt) (λ u. u.ty) (λ q. q.columns)

-- ---- environments

-- one value for each type, NULL or of the type
abbrev pub IsRowOfTypes : List Ty → Row → Type 0
IsRowOfTypes [] [] = ⊤
IsRowOfTypes (t ∷ types) (value ∷ row) = HasType t value × IsRowOfTypes types row
IsRowOfTypes _ _ = ⊥

abbrev pub IsLent : (ℕ → List Row) → InQuery → Type 0
IsLent rows in_query = All (IsRowOfTypes in_query.outputs) (rows in_query.number)

-- The environment fits an expression with rows lent for its sublinks.
pub record FitsLent (scope : Scope) (rows : ℕ → List Row) (expr : Expr) (env : Env) : Type 0 where
  -- the cell of each column outside the sublinks
  pub cells : All (IsCellAt scope env) (own_columns expr)
  -- the rows lent for each IN that stands in no other sublink: one value each, NULL or of the type of its query's output
  pub lent : All (IsLent rows) (own_ins expr)

-- The environment fits an expression with its sublinks in place.
pub record FitsInPlace (schema : Schema) (tables : TableRows) (scope : Scope) (expr : Expr) (env : Env) : Type 0 where
  -- the cell of each column at every depth, sublinks included
  pub cells : All (IsCellAt scope env) (columns_in expr)
  -- the tables that the sublinks read
  pub belong : Belong schema tables

-- the columns of a tree at every depth, sublinks and sub-selects included
abbrev pub columns_in_tree : JoinTree → List ColumnRef
columns_in_tree = gathered_in_tree ColumnRef node_column nothing_of_leaf

-- The environment fits a join tree, inside the outer scope.
pub record FitsTree (schema : Schema) (tables : TableRows) (outer : Scope) (tree : JoinTree) (env : Env) : Type 0 where
  -- the cell of each column at every depth, sublinks and sub-selects included
  pub cells : All (IsCellAt outer env) (columns_in_tree tree)
  -- the tables that it reads
  pub belong : Belong schema tables

-- The environment fits a query, inside the outer scope.
pub record FitsQuery (schema : Schema) (tables : TableRows) (outer : Scope) (query : Query) (env : Env) : Type 0 where
  -- the cell of each outer reference
  pub cells : All (IsCellAt outer env) (outer_references query)
  -- the tables that it reads
  pub belong : Belong schema tables

-- ---- tuples

-- no row, or one value for each column
abbrev pub IsRowFor : List Column → Option Row → Type 0
IsRowFor columns (Some row) = IsRowOf columns row
IsRowFor columns None = ⊤

abbrev pub IsEntryOf : Env → Entry → Type 0
IsEntryOf tuple entry = IsRowFor entry.columns (tuple entry.relation)

abbrev pub is_entry : List Entry → ℕ → Bool
is_entry entries rel = list_any (◌==◌ rel) (map relation_of entries)

-- A tuple of a tree with these entries, in an outer environment.
pub record FitsTuple (entries : List Entry) (env : Env) (tuple : Env) : Type 0 where
  -- the relation of each entry has no row or one of the entry's columns
  pub rows : All (IsEntryOf tuple) entries
  -- the other relations have the rows of the outer environment
  pub others : (rel : ℕ) → not (is_entry entries rel) ≡ true → tuple rel ≡ env rel

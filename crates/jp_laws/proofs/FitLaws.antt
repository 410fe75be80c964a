-- The laws of what fits, as functions' contracts have them.
use Rattle.std.proofs.Common.{◌≡◌, ℕ, Bool, true, false, not, List, [], ◌++◌, Some}
use Rattle.std.specs.Prelude.{All}
use Rattle.jp_base.specs.declared.values.Ty.{Ty}
use Rattle.jp_query.specs.declared.Expr.{Expr}
use Rattle.jp_query.specs.declared.JoinTree.{JoinTree}
use Rattle.jp_query.specs.declared.Query.{Query}
use Rattle.jp_query.specs.declared.Expr.TheFolds.{fold-Expr}
use Rattle.jp_query.specs.Meaning.{Row, Env, ValueIn, Tuples, SortKey, RowsIn, SublinkRows, in_place, given, no_tables, expr_value, tree_tuples, order_key, output_value, query_rows, value_of, value_given, tuples_of, meaning}
use Rattle.jp_query.specs.Parts.{ColumnRef, columns_in, columns_in_query, placeholders_in_query, leaves_in, outer_references}
use Rattle.jp_query.specs.Refs.{refs_of, refs_of_query}
use Rattle.jp_query.specs.Scopes.{Schema, Scope, Entry, bound_of, entries_of, columns_of_query}
use Rattle.jp_query.specs.Tables.{TableRows, IsCellOf, IsRowOf, Belong, rows_of_tables}
use Rattle.jp_query.specs.Typing.{IsTypedExpr, type_of, tree_is_typed, typed_query}
use Rattle.jp_query.specs.Conditions.{IsTyped, judged_expr, judged_tree, judged_query, knows_columns, tells_relations_apart}
use Rattle.jp_query.specs.Fitting.{IsCellAt, own_columns, FitsLent, FitsInPlace, FitsTree, FitsQuery, FitsTuple, IsEntryOf, is_entry, columns_in_tree}
use Rattle.jp_laws.specs.Referred.{placeholders_in, IsReferred, AreReferred}
use Rattle.jp_laws.proofs.EachPart.{Each, each_of, all_of_each, each_weaker}
use Rattle.jp_laws.proofs.ValuesFit.{value_fits}
use Rattle.jp_laws.proofs.JudgedLaws.{own_seen, sound}
use Rattle.jp_laws.proofs.OwnColumns.{own_of_all}
use Rattle.jp_laws.proofs.TuplesFit.{not_true, Fit, inner_cell}
use Rattle.jp_laws.proofs.RowsFit.{tree_fits, query_fits}
use Rattle.jp_laws.proofs.OuterLaws.{leaves_apart, outside_cells}
use Rattle.jp_laws.proofs.GatheredLaws.{columns_referred, places_referred, columns_referred_in, places_referred_in}

-- ---- values

value_fits_at : (schema : Schema) (scope : Scope) (subs : SublinkRows) (tables : ℕ → List Row) (expr : Expr) (env : Env) (t : Ty)
    → type_of expr ≡ Some t → (judged_expr schema knows_columns expr).passes scope ≡ true → Each (IsCellAt scope env) (own_columns expr)
    → IsCellOf (record { type = t; bound = bound_of schema expr scope }) (fold-Expr ValueIn Tuples SortKey ValueIn RowsIn (expr_value subs) (tree_tuples tables) order_key output_value query_rows expr env)
value_fits_at schema scope subs tables expr env t typed known cells =
    value_fits schema subs tables scope env expr (sound scope env (own_columns expr) (own_seen schema scope expr known) cells) t typed

pub by_cells : (schema : Schema) (scope : Scope) (tables : ℕ → List Row) (expr : Expr) (env : Env) (t : Ty) → type_of expr ≡ Some t → (judged_expr schema knows_columns expr).passes scope ≡ true → All (IsCellAt scope env) (own_columns expr)
    → IsCellOf (record { type = t; bound = bound_of schema expr scope }) (value_of tables expr env)
by_cells schema scope tables expr env t typed known cells = value_fits_at schema scope in_place tables expr env t typed known (each_of (IsCellAt scope env) (own_columns expr) cells)

pub with_lent : (schema : Schema) (scope : Scope) (rows : ℕ → List Row) (expr : Expr) (env : Env) (t : Ty) → type_of expr ≡ Some t → (judged_expr schema knows_columns expr).passes scope ≡ true → FitsLent scope rows expr env
    → IsCellOf (record { type = t; bound = bound_of schema expr scope }) (value_given rows expr env)
with_lent schema scope rows expr env t typed known fits = value_fits_at schema scope (given rows) no_tables expr env t typed known (each_of (IsCellAt scope env) (own_columns expr) fits.cells)

pub with_sublinks : (schema : Schema) (tables : TableRows) (scope : Scope) (expr : Expr) (env : Env) (t : Ty) → type_of expr ≡ Some t → (judged_expr schema knows_columns expr).passes scope ≡ true → FitsInPlace schema tables scope expr env
    → IsCellOf (record { type = t; bound = bound_of schema expr scope }) (value_of (rows_of_tables tables) expr env)
with_sublinks schema tables scope expr env t typed known fits = value_fits_at schema scope in_place (rows_of_tables tables) expr env t typed known (own_of_all (IsCellAt scope env) expr (each_of (IsCellAt scope env) (columns_in expr) fits.cells))

-- ---- tuples

is_not : (b : Bool) → (b ≡ true → ⊥) → not b ≡ true
is_not true h = absurd (h refl_true)
  where
    refl_true : true ≡ true
    refl_true = cc
is_not false h = cc

to_tuple : (entries : List Entry) (env tuple : Env) → Fit entries env tuple → FitsTuple entries env tuple
to_tuple entries env tuple f = record {
  rows = all_of_each (IsEntryOf tuple) entries f.rows;
  others = λ rel h. f.others rel (not_true (is_entry entries rel) h);
}

of_tuple : (entries : List Entry) (env tuple : Env) → FitsTuple entries env tuple → Fit entries env tuple
of_tuple entries env tuple f = record {
  rows = each_of (IsEntryOf tuple) entries f.rows;
  others = λ rel h. f.others rel (is_not (is_entry entries rel) h);
}

pub tuples_fit : (schema : Schema) (tables : TableRows) (outer : Scope) (tree : JoinTree) (env : Env)
    → tree_is_typed tree ≡ true → (judged_tree schema knows_columns tree).passes outer ≡ true → (judged_tree schema tells_relations_apart tree).passes outer ≡ true → FitsTree schema tables outer tree env
    → All (FitsTuple (entries_of schema tree outer) env) ((tuples_of (rows_of_tables tables) tree).tuples env)
tuples_fit schema tables outer tree env typed knows apart fits =
    let entries = entries_of schema tree outer in
    let found = (tuples_of (rows_of_tables tables) tree).tuples env in
    all_of_each (FitsTuple entries env) found (each_weaker (Fit entries env) (FitsTuple entries env) (to_tuple entries env) found
    ((tree_fits schema tables fits.belong tree).1 outer env typed knows apart (each_of (IsCellAt outer env) (columns_in_tree tree) fits.cells)))

pub cells_above : (entries : List Entry) (outer : Scope) (env tuple : Env) (columns : List ColumnRef) → FitsTuple entries env tuple → All (IsCellAt outer env) columns → All (IsCellAt (entries ++ outer) tuple) columns
cells_above entries outer env tuple columns fits cells = all_of_each (IsCellAt (entries ++ outer) tuple) columns (each_weaker (IsCellAt outer env) (IsCellAt (entries ++ outer) tuple) (inner_cell entries outer env tuple (of_tuple entries env tuple fits)) columns (each_of (IsCellAt outer env) columns cells))

-- ---- rows

outer_cells : (schema : Schema) (outer : Scope) (query : Query) (env : Env) → (judged_query schema tells_relations_apart query).passes outer ≡ true → All (IsCellAt outer env) (outer_references query) → Each (IsCellAt outer env) (columns_in_query query)
outer_cells schema outer query env apart cells = outside_cells outer env (leaves_in query) (leaves_apart schema query outer apart) (columns_in_query query) (each_of (IsCellAt outer env) (outer_references query) cells)

pub outer_suffice : (schema : Schema) (outer : Scope) (query : Query) (env : Env) → (judged_query schema tells_relations_apart query).passes outer ≡ true → All (IsCellAt outer env) (outer_references query) → All (IsCellAt outer env) (columns_in_query query)
outer_suffice schema outer query env apart cells = all_of_each (IsCellAt outer env) (columns_in_query query) (outer_cells schema outer query env apart cells)

pub rows_fit : (schema : Schema) (tables : TableRows) (outer : Scope) (query : Query) (env : Env)
    → (typed_query query).is_typed ≡ true → (judged_query schema knows_columns query).passes outer ≡ true → (judged_query schema tells_relations_apart query).passes outer ≡ true → FitsQuery schema tables outer query env
    → All (IsRowOf (columns_of_query schema query outer)) (meaning (rows_of_tables tables) query env)
rows_fit schema tables outer query env typed knows apart fits =
    all_of_each (IsRowOf (columns_of_query schema query outer)) (meaning (rows_of_tables tables) query env) (query_fits schema tables fits.belong query outer env typed knows apart (outer_cells schema outer query env apart fits.cells))

-- where nothing is visible outside, no cell is asked for
no_cells : (env : Env) (columns : List ColumnRef) → All (IsCellAt [] env) columns
no_cells env columns k d low = tt

pub statement_rows : (schema : Schema) (tables : TableRows) (query : Query) (env : Env) → IsTyped schema [] query → Belong schema tables
    → All (IsRowOf (columns_of_query schema query [])) (meaning (rows_of_tables tables) query env)
statement_rows schema tables query env typed belong = rows_fit schema tables [] query env typed.expressions typed.columns typed.distinct (record { cells = no_cells env (outer_references query); belong = belong })

-- ---- references

pub columns_below : (expr : Expr) → IsTypedExpr expr → All (IsReferred (refs_of expr)) (columns_in expr)
columns_below expr typed = all_of_each (IsReferred (refs_of expr)) (columns_in expr) (columns_referred expr typed)

pub places_below : (expr : Expr) → IsTypedExpr expr → All (AreReferred (refs_of expr)) (placeholders_in expr)
places_below expr typed = all_of_each (AreReferred (refs_of expr)) (placeholders_in expr) (places_referred expr typed)

pub columns_below_in : (query : Query) → (typed_query query).is_typed ≡ true → All (IsReferred (refs_of_query query)) (columns_in_query query)
columns_below_in query typed = all_of_each (IsReferred (refs_of_query query)) (columns_in_query query) (columns_referred_in query typed)

pub places_below_in : (query : Query) → (typed_query query).is_typed ≡ true → All (AreReferred (refs_of_query query)) (placeholders_in_query query)
places_below_in query typed = all_of_each (AreReferred (refs_of_query query)) (placeholders_in_query query) (places_referred_in query typed)

-- The bound that a judgement passes along is that of the expression, the entries are those of the tree, and the columns
-- those of the query.
use Rattle.std.proofs.Common.{◌≡◌, ap, refl, ℕ, List, [], ◌∷◌, ◌++◌, map}
use Rattle.jp_query.specs.declared.Expr.{Expr}
use Rattle.jp_query.specs.declared.JoinTree.{JoinTree}
use Rattle.jp_query.specs.declared.Query.{Query}
use Rattle.jp_query.specs.Scopes.{Column, Schema, Entry, Scope, BoundIn, EntriesIn, ColumnIn, ColumnsIn, in_scope, expr_bound, tree_entries, order_bound, output_column, query_columns, bound_of, entries_of, columns_of_query}
use Rattle.jp_query.specs.Conditions.{Tests, Judged, judged_value, expr_judged, tree_judged, order_judged, output_judged, query_judged, judged_expr, judged_tree, judged_query}
use Rattle.jp_induction.proofs.Rewriting.{fused_expr, fused_tree, fused_query}

module _ (schema : Schema) (tests : Tests) where
  each_column : (inner : Scope) (columns : List (Judged Column)) → map (λ (c : Judged Column). c.value inner) columns ≡ map (in_scope inner) (map judged_value columns)
  each_column inner [] = refl
  each_column inner (column ∷ columns) = ap (λ cs. column.value inner ∷ cs) (each_column inner columns)

  pub bound_judged : (e : Expr) → (judged_expr schema tests e).value ≡ bound_of schema e
  bound_judged = fused_expr (Judged ℕ) (Judged (List Entry)) (Judged ℕ) (Judged Column) (Judged (List Column)) BoundIn EntriesIn BoundIn ColumnIn ColumnsIn
      (expr_judged schema tests) (tree_judged schema tests) (order_judged schema tests) (output_judged schema tests) (query_judged schema tests)
      expr_bound (tree_entries schema) order_bound output_column query_columns
      judged_value judged_value judged_value judged_value judged_value
      (λ x. refl) (λ x. refl) (λ x. refl) (λ x. refl) (λ x i scope. each_column (x.tree.value scope ++ scope) x.columns i)

  pub entries_judged : (t : JoinTree) → (judged_tree schema tests t).value ≡ entries_of schema t
  entries_judged = fused_tree (Judged ℕ) (Judged (List Entry)) (Judged ℕ) (Judged Column) (Judged (List Column)) BoundIn EntriesIn BoundIn ColumnIn ColumnsIn
      (expr_judged schema tests) (tree_judged schema tests) (order_judged schema tests) (output_judged schema tests) (query_judged schema tests)
      expr_bound (tree_entries schema) order_bound output_column query_columns
      judged_value judged_value judged_value judged_value judged_value
      (λ x. refl) (λ x. refl) (λ x. refl) (λ x. refl) (λ x i scope. each_column (x.tree.value scope ++ scope) x.columns i)

  pub columns_judged : (q : Query) → (judged_query schema tests q).value ≡ columns_of_query schema q
  columns_judged = fused_query (Judged ℕ) (Judged (List Entry)) (Judged ℕ) (Judged Column) (Judged (List Column)) BoundIn EntriesIn BoundIn ColumnIn ColumnsIn
      (expr_judged schema tests) (tree_judged schema tests) (order_judged schema tests) (output_judged schema tests) (query_judged schema tests)
      expr_bound (tree_entries schema) order_bound output_column query_columns
      judged_value judged_value judged_value judged_value judged_value
      (λ x. refl) (λ x. refl) (λ x. refl) (λ x. refl) (λ x i scope. each_column (x.tree.value scope ++ scope) x.columns i)

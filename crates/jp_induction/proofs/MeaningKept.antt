-- The theorem on rewritings, for the meaning.
use Rattle.std.proofs.Common.{◌≡◌, ◌∙◌, ℕ, List, true}
use Rattle.jp_query.specs.declared.Expr.{Expr}
use Rattle.jp_query.specs.declared.JoinTree.{JoinTree}
use Rattle.jp_query.specs.declared.Order.{Order}
use Rattle.jp_query.specs.declared.Output.{Output}
use Rattle.jp_query.specs.declared.Query.{Query}
use Rattle.jp_query.specs.Meaning.{Row, ValueIn, Tuples, SortKey, RowsIn, in_place, expr_value, tree_tuples, order_key, output_value, query_rows, value_of, tuples_of, meaning}
use Rattle.jp_query.specs.Scopes.{Scope}
use Rattle.jp_induction.specs.Rewritings.{Rewriting, KeepsEachLevel, PlaceTests, AreHandedDown, KeepsEachTested, key_of, output_of, rewritten_expr, rewritten_tree, rewritten_query, expr_parts_rewritten, tree_parts_rewritten, order_parts_rewritten, output_parts_rewritten, query_parts_rewritten}
use Rattle.jp_induction.proofs.Meanings.{at_expr, at_tree, at_order, at_output, at_query}
use Rattle.jp_induction.proofs.Rewriting as plain
use Rattle.jp_induction.proofs.RewritingUnder as tested

module _ (tables : ℕ → List Row) (r : Rewriting) where
  pub value_kept : (x : Expr) → KeepsEachLevel tables r → value_of tables (rewritten_expr r x) ≡ value_of tables x
  value_kept x k = plain.fused_expr Expr JoinTree Order Output Query ValueIn Tuples SortKey ValueIn RowsIn r.expr r.tree r.order r.output r.query (expr_value in_place) (tree_tuples tables) order_key output_value query_rows (value_of tables) (tuples_of tables) (key_of tables) (output_of tables) (meaning tables)
      (λ y. k.expr y ∙ at_expr tables y) (λ y. k.tree y ∙ at_tree tables y) (λ y. k.order y ∙ at_order tables y) (λ y. k.output y ∙ at_output tables y) (λ y. k.query y ∙ at_query tables y) x

  pub tuples_kept : (x : JoinTree) → KeepsEachLevel tables r → tuples_of tables (rewritten_tree r x) ≡ tuples_of tables x
  tuples_kept x k = plain.fused_tree Expr JoinTree Order Output Query ValueIn Tuples SortKey ValueIn RowsIn r.expr r.tree r.order r.output r.query (expr_value in_place) (tree_tuples tables) order_key output_value query_rows (value_of tables) (tuples_of tables) (key_of tables) (output_of tables) (meaning tables)
      (λ y. k.expr y ∙ at_expr tables y) (λ y. k.tree y ∙ at_tree tables y) (λ y. k.order y ∙ at_order tables y) (λ y. k.output y ∙ at_output tables y) (λ y. k.query y ∙ at_query tables y) x

  pub rows_kept : (x : Query) → KeepsEachLevel tables r → meaning tables (rewritten_query r x) ≡ meaning tables x
  rows_kept x k = plain.fused_query Expr JoinTree Order Output Query ValueIn Tuples SortKey ValueIn RowsIn r.expr r.tree r.order r.output r.query (expr_value in_place) (tree_tuples tables) order_key output_value query_rows (value_of tables) (tuples_of tables) (key_of tables) (output_of tables) (meaning tables)
      (λ y. k.expr y ∙ at_expr tables y) (λ y. k.tree y ∙ at_tree tables y) (λ y. k.order y ∙ at_order tables y) (λ y. k.output y ∙ at_output tables y) (λ y. k.query y ∙ at_query tables y) x

  pub value_kept_where : (tests : PlaceTests) (scope : Scope) (x : Expr) → AreHandedDown tests → KeepsEachTested tables r tests → tests.expr scope x ≡ true → value_of tables (rewritten_expr r x) ≡ value_of tables x
  value_kept_where tests scope x down k = tested.same_expr Expr JoinTree Order Output Query ValueIn Tuples SortKey ValueIn RowsIn r.expr r.tree r.order r.output r.query (expr_value in_place) (tree_tuples tables) order_key output_value query_rows (value_of tables) (tuples_of tables) (key_of tables) (output_of tables) (meaning tables)
      Scope tests.inside tests.above (λ s y. tests.expr s y ≡ true) (λ s y. tests.tree s y ≡ true) (λ s y. tests.order s y ≡ true) (λ s y. tests.output s y ≡ true) (λ s y. tests.query s y ≡ true) down
      (λ s y c. k.expr s y c ∙ at_expr tables (expr_parts_rewritten r y)) (λ s y c. k.tree s y c ∙ at_tree tables (tree_parts_rewritten r y)) (λ s y c. k.order s y c ∙ at_order tables (order_parts_rewritten r y)) (λ s y c. k.output s y c ∙ at_output tables (output_parts_rewritten r y)) (λ s y c. k.query s y c ∙ at_query tables (query_parts_rewritten r y)) x scope

  pub tuples_kept_where : (tests : PlaceTests) (scope : Scope) (x : JoinTree) → AreHandedDown tests → KeepsEachTested tables r tests → tests.tree scope x ≡ true → tuples_of tables (rewritten_tree r x) ≡ tuples_of tables x
  tuples_kept_where tests scope x down k = tested.same_tree Expr JoinTree Order Output Query ValueIn Tuples SortKey ValueIn RowsIn r.expr r.tree r.order r.output r.query (expr_value in_place) (tree_tuples tables) order_key output_value query_rows (value_of tables) (tuples_of tables) (key_of tables) (output_of tables) (meaning tables)
      Scope tests.inside tests.above (λ s y. tests.expr s y ≡ true) (λ s y. tests.tree s y ≡ true) (λ s y. tests.order s y ≡ true) (λ s y. tests.output s y ≡ true) (λ s y. tests.query s y ≡ true) down
      (λ s y c. k.expr s y c ∙ at_expr tables (expr_parts_rewritten r y)) (λ s y c. k.tree s y c ∙ at_tree tables (tree_parts_rewritten r y)) (λ s y c. k.order s y c ∙ at_order tables (order_parts_rewritten r y)) (λ s y c. k.output s y c ∙ at_output tables (output_parts_rewritten r y)) (λ s y c. k.query s y c ∙ at_query tables (query_parts_rewritten r y)) x scope

  pub rows_kept_where : (tests : PlaceTests) (scope : Scope) (x : Query) → AreHandedDown tests → KeepsEachTested tables r tests → tests.query scope x ≡ true → meaning tables (rewritten_query r x) ≡ meaning tables x
  rows_kept_where tests scope x down k = tested.same_query Expr JoinTree Order Output Query ValueIn Tuples SortKey ValueIn RowsIn r.expr r.tree r.order r.output r.query (expr_value in_place) (tree_tuples tables) order_key output_value query_rows (value_of tables) (tuples_of tables) (key_of tables) (output_of tables) (meaning tables)
      Scope tests.inside tests.above (λ s y. tests.expr s y ≡ true) (λ s y. tests.tree s y ≡ true) (λ s y. tests.order s y ≡ true) (λ s y. tests.output s y ≡ true) (λ s y. tests.query s y ≡ true) down
      (λ s y c. k.expr s y c ∙ at_expr tables (expr_parts_rewritten r y)) (λ s y c. k.tree s y c ∙ at_tree tables (tree_parts_rewritten r y)) (λ s y c. k.order s y c ∙ at_order tables (order_parts_rewritten r y)) (λ s y c. k.output s y c ∙ at_output tables (output_parts_rewritten r y)) (λ s y c. k.query s y c ∙ at_query tables (query_parts_rewritten r y)) x scope

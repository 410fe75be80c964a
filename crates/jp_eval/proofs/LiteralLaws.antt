-- A literal of its type, with a number that 128 bits hold, can be evaluated everywhere.
use Rattle.std.proofs.Common.{◌≡◌, ◌∙◌, ap, sym, subst, ℕ, Bool, true, ◌&&◌, List, [], is_some}
use Rattle.std.specs.Prelude.{All}
use Rattle.jp_base.specs.declared.values.Ty.{Ty}
use Rattle.jp_base.specs.declared.values.Value.{Value}
use Rattle.jp_query.specs.declared.Expr.TheVariants as expr
use Rattle.jp_query.specs.Meaning.{Row, Env}
use Rattle.jp_query.specs.Parts.{ColumnRef}
use Rattle.jp_query.specs.Scopes.{Column, Entry, magnitude}
use Rattle.jp_query.specs.Typing.{Typed, TypedOutput, TypedQuery, is_literal, typed_if, expr_type, tree_typed, order_typed, output_typed, query_typed}
use Rattle.jp_query.specs.Conditions.{Tests, Judged, expr_judged, tree_judged, order_judged, output_judged, query_judged, judged_expr, knows_columns, keeps_bounds, fits}
use Rattle.jp_query.specs.Fitting.{InQuery, IsCellAt, IsLent, expr_own_columns, expr_own_ins}
use Rattle.jp_query.proofs.FoldLaws as laws
use Rattle.jp_laws.proofs.EachPart.{all_of_each}
use Rattle.jp_eval.specs.Evaluation.{CanEvaluate}

judged_literal : (tests : Tests) (v : Value) (t : Ty) → (judged_expr [] tests (expr.Lit v t)).passes [] ≡ (tests.bound (magnitude v) && true)
judged_literal tests v t = ap (λ (j : Judged ℕ). j.passes []) (laws.at-Lit (Judged ℕ) (Judged (List Entry)) (Judged ℕ) (Judged Column) (Judged (List Column)) (expr_judged [] tests) (tree_judged [] tests) (order_judged [] tests) (output_judged [] tests) (query_judged [] tests) v t)

pub literal_ready : (v : Value) (t : Ty) (rows : ℕ → List Row) (env : Env) → is_literal v t ≡ true → fits (magnitude v) ≡ true → CanEvaluate rows (expr.Lit v t) env
literal_ready v t rows env typed low = record {
  schema = [];
  scope = [];
  typed = ap is_some (laws.at-Lit Typed Bool Typed TypedOutput TypedQuery expr_type tree_typed order_typed output_typed query_typed v t) ∙ ap (λ b. is_some (typed_if b t)) typed;
  columns = judged_literal knows_columns v t;
  bounded = judged_literal keeps_bounds v t ∙ ap (λ b. b && true) low;
  fits = record {
    cells = subst (All (IsCellAt [] env)) (sym (laws.at-Lit (List ColumnRef) (Unit {0}) (Unit {0}) (Unit {0}) (Unit {0}) expr_own_columns (λ t. tt) (λ o. tt) (λ u. tt) (λ q. tt) v t)) (all_of_each (IsCellAt [] env) [] tt);
    lent = subst (All (IsLent rows)) (sym (laws.at-Lit (List InQuery) (Unit {0}) (Unit {0}) Ty (List Ty) expr_own_ins (λ t. tt) (λ o. tt) (λ u. u.ty) (λ q. q.columns) v t)) (all_of_each (IsLent rows) [] tt);
  };
}

use Rattle.std.proofs.Common.{◌≡◌, ◌∙◌, ap, sym, refl, subst, true, map, inl, inr, IfOk}
use Rattle.jp_query.specs.declared.Expr.TheOpen.{Expr-F}
use Rattle.jp_query.specs.declared.Expr.TheVariants as expr
use Rattle.jp_fold.specs.InBits.{arm_made, expr_made, operator_made, parts_made, is_strict}
use Rattle.jp_fold.proofs.Equations.{parts-Case, strict_as, operator_as, made-Between, made-InList, made-Not, made-Test, made-Coalesce, made-Case}
use Rattle.jp_fold.proofs.folding.+folding.Goals as goal

pub fold_parts-returns-in_ok-otherwise-in-Case : goal.fold_parts-returns-in_ok-otherwise-in-Case
fold_parts-returns-in_ok-otherwise-in-Case t c =
    (λ i. expr.Case (c.in_ok-operand-in-Case.ensures i) ((c.in_ok-arms-in-Case.ensures ∙ ap (map arm_made) c.as_slice-in-Case.ensures) i) (c.in_ok-otherwise-in-Case.ensures i))
    ∙ sym (parts-Case c.in-Case.operand c.in-Case.arms c.in-Case.otherwise) ∙ sym (ap parts_made c.in-Case.is)

pub fold_expr-returns-in_ok-level-in-Between-2 : goal.fold_expr-returns-in_ok-level-in-Between-2
fold_expr-returns-in_ok-level-in-Between-2 t c =
    let e = c.args.expr.now in
    let made : expr_made e ≡ operator_made (parts_made e) = elim c.in-Between.is [
      | inl w ↦ operator_as e (expr.Between w.0 w.1 w.2) w.3 (made-Between w.0 w.1 w.2)
      | inr k ↦ elim k [
        | inl w ↦ operator_as e (expr.InList w.0 w.1) w.2 (made-InList w.0 w.1)
        | inr k ↦ elim k [
          | inl w ↦ operator_as e (expr.Not w.0) w.1 (made-Not w.0)
          | inr k ↦ elim k [
            | inl w ↦ operator_as e (expr.Test w.0 w.1) w.2 (made-Test w.0 w.1)
            | inr k ↦ elim k [
              | inl w ↦ operator_as e (expr.Coalesce w.0) w.1 (made-Coalesce w.0)
              | inr w ↦ operator_as e (expr.Case w.0 w.1 w.2) w.3 (made-Case w.0 w.1 w.2)
            ]
          ]
        ]
      ]
    ] in
    subst (λ d. IfOk c.operator.result (λ e. e ≡ d)) (ap operator_made (c.in_ok-level-in-Between-2.ensures ∙ c.in_ok-level-in-Between.ensures) ∙ sym made) c.operator.ensures

pub fold_expr-strict-requires : goal.fold_expr-strict-requires
fold_expr-strict-requires t c =
    let e = c.args.expr.now in
    let kind : is_strict (parts_made e) ≡ true = elim c.in-Neg.is [
      | inl w ↦ strict_as (Expr-F.Neg w.0) e (expr.Neg w.0) w.1 (expr.rolls-Neg w.0) refl
      | inr k ↦ elim k [
        | inl w ↦ strict_as (Expr-F.Sum w.0) e (expr.Sum w.0) w.1 (expr.rolls-Sum w.0) refl
        | inr k ↦ elim k [
          | inl w ↦ strict_as (Expr-F.Product w.0) e (expr.Product w.0) w.1 (expr.rolls-Product w.0) refl
          | inr k ↦ elim k [
            | inl w ↦ strict_as (Expr-F.Concat w.0) e (expr.Concat w.0) w.1 (expr.rolls-Concat w.0) refl
            | inr w ↦ strict_as (Expr-F.Compare w.0 w.1 w.2) e (expr.Compare w.0 w.1 w.2) w.3 (expr.rolls-Compare w.0 w.1 w.2) refl
          ]
        ]
      ]
    ] in
    ap is_strict (c.in_ok-level-in-Neg-2.ensures ∙ c.in_ok-level-in-Neg.ensures) ∙ kind

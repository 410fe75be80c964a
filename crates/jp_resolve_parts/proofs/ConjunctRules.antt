-- The conjuncts of an AND and of another expression.
use Rattle.std.proofs.Common.{◌≡◌, ◌∙◌, ap, sym, subst, refl, true, false, List, [], ◌∷◌, map}
use Rattle.jp_query.specs.declared.Expr.{Expr, out-Expr}
use Rattle.jp_query.specs.declared.JoinTree.{JoinTree}
use Rattle.jp_query.specs.declared.Order.{Order}
use Rattle.jp_query.specs.declared.Output.{Output}
use Rattle.jp_query.specs.declared.Query.{Query}
use Rattle.jp_query.specs.declared.Expr.TheOpen.{Expr-F}
use Rattle.jp_query.specs.declared.Expr.TheVariants as expr
use Rattle.jp_query.specs.declared.Expr.TheViews.{roll-Expr, roll-out-Expr}
use Rattle.jp_query.specs.declared.Expr.TheFolds.{para-JoinTree, para-Order, para-Output, para-Query, para-roll-Expr}
use Rattle.jp_query.specs.Conjuncts.{expr_conjuncts, conjuncts, conjuncts_of_all, is_and}
use Rattle.jp_query.specs.Parts.{all_in}
use Rattle.jp_query.specs.Subexpressions.{Exprs, exprs_beside}
use Rattle.jp_laws.proofs.LevelLaws.{with_values, values_go}

abbrev of_tree : JoinTree → Unit {0}
of_tree = para-JoinTree Exprs (Unit {0}) (Unit {0}) (Unit {0}) (Unit {0}) expr_conjuncts (λ t. tt) (λ o. tt) (λ u. tt) (λ q. tt)

abbrev of_order : Order → Unit {0}
of_order = para-Order Exprs (Unit {0}) (Unit {0}) (Unit {0}) (Unit {0}) expr_conjuncts (λ t. tt) (λ o. tt) (λ u. tt) (λ q. tt)

abbrev of_output : Output → Unit {0}
of_output = para-Output Exprs (Unit {0}) (Unit {0}) (Unit {0}) (Unit {0}) expr_conjuncts (λ t. tt) (λ o. tt) (λ u. tt) (λ q. tt)

abbrev of_query : Query → Unit {0}
of_query = para-Query Exprs (Unit {0}) (Unit {0}) (Unit {0}) (Unit {0}) expr_conjuncts (λ t. tt) (λ o. tt) (λ u. tt) (λ q. tt)

abbrev beside : Expr-F Expr JoinTree Order Output Query → Expr-F (Expr × Exprs) (JoinTree × Unit {0}) (Order × Unit {0}) (Output × Unit {0}) (Query × Unit {0})
beside = with_values Exprs (Unit {0}) (Unit {0}) (Unit {0}) (Unit {0}) conjuncts of_tree of_order of_output of_query

conjuncts_at : (x : Expr-F Expr JoinTree Order Output Query) → conjuncts (roll-Expr x) ≡ expr_conjuncts (beside x)
conjuncts_at = para-roll-Expr Exprs (Unit {0}) (Unit {0}) (Unit {0}) (Unit {0}) expr_conjuncts (λ t. tt) (λ o. tt) (λ u. tt) (λ q. tt)

members : (es : List Expr) → map exprs_beside (map (λ e. (e, conjuncts e)) es) ≡ map conjuncts es
members [] = refl
members (e ∷ es) = ap (λ xs. conjuncts e ∷ xs) (members es)

true_false : true ≡ false → ⊥
true_false h = cc

alone : (x : Expr-F Expr JoinTree Order Output Query) → is_and x ≡ false → expr_conjuncts (beside x) ≡ roll-Expr x ∷ []
alone (Expr-F.And es) h = absurd (true_false h)
alone x h = ap (λ z. roll-Expr z ∷ []) (values_go Exprs (Unit {0}) (Unit {0}) (Unit {0}) (Unit {0}) conjuncts of_tree of_order of_output of_query x)

pub of_and : (es : List Expr) → conjuncts (expr.And es) ≡ conjuncts_of_all es
of_and es = ap conjuncts (sym (expr.rolls-And es)) ∙ conjuncts_at (Expr-F.And es) ∙ ap all_in (members es)

no_and : (x : Expr-F Expr JoinTree Order Output Query) → ((es : List Expr) → x ≡ Expr-F.And es → ⊥) → is_and x ≡ false
no_and (Expr-F.And es) h = absurd (h es refl)
no_and x h = refl

pub of_other : (e : Expr) → ((es : List Expr) → e ≡ expr.And es → ⊥) → conjuncts e ≡ e ∷ []
of_other e h = subst (λ z. conjuncts z ≡ z ∷ []) (roll-out-Expr e)
    (conjuncts_at (out-Expr e) ∙ alone (out-Expr e) (no_and (out-Expr e) (λ es q. h es (sym (roll-out-Expr e) ∙ ap roll-Expr q ∙ expr.rolls-And es))))

pub ruleset conjunct_rules = (of_and, of_other)

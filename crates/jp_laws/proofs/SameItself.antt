-- An expression is the same as itself.
use Rattle.std.proofs.Common.{◌≡◌, ◌∙◌, ap, subst, refl, Bool, true, List, [], ◌∷◌, map, Option, Some, None}
use Rattle.std.specs.Prelude.{◌&&◌, ◌==◌}
use Rattle.jp_base.specs.Values.{are_same}
use Rattle.jp_query.specs.declared.Expr.{Expr}
use Rattle.jp_query.specs.declared.JoinTree.{JoinTree}
use Rattle.jp_query.specs.declared.Order.{Order}
use Rattle.jp_query.specs.declared.Output.{Output}
use Rattle.jp_query.specs.declared.Query.{Query}
use Rattle.jp_query.specs.declared.Expr.TheOpen.{Expr-F}
use Rattle.jp_query.specs.declared.Expr.TheShapes.{former-Expr-Case-0}
use Rattle.jp_query.specs.declared.Expr.TheViews.{roll-Expr, out-roll-Expr}
use Rattle.jp_query.specs.declared.Expr.TheFolds.{map-Expr, ind-Expr}
use Rattle.jp_query.specs.Typing.{same_type}
use Rattle.jp_query.specs.Equality.{same_op, same_test, same_sign, same_each, same_part, same_term, same_arm, same_option, same_level, same_expr}
use Rattle.jp_laws.proofs.SameWords.{both_true, op_same, test_same, sign_same, type_same, value_same, number_same, at_level, Plain, tests, test_of_term, test_of_arm, test_of_option}

abbrev Good : Expr → Type 0
Good x = same_expr x x ≡ true

abbrev E : Type 0
E = (x : Expr) × Good x

abbrev Node : Type 0
Node = Expr-F E (JoinTree × Unit {0}) (Order × Unit {0}) (Output × Unit {0}) (Query × Unit {0})

abbrev bare : Node → Plain
bare = map-Expr E (JoinTree × Unit {0}) (Order × Unit {0}) (Output × Unit {0}) (Query × Unit {0}) Expr JoinTree Order Output Query (λ x. x.0) (λ x. x.0) (λ x. x.0) (λ x. x.0) (λ x. x.0)

each : (ys : List E) → same_each same_part (map same_expr (map (λ (y : E). y.0) ys)) (map (λ (y : E). y.0) ys) ≡ true
each [] = refl
each (y ∷ ys) = both_true (same_expr y.0 y.0) (same_each same_part (map same_expr (map (λ (y : E). y.0) ys)) (map (λ (y : E). y.0) ys)) y.1 (each ys)

terms : (ys : List (Bool × E)) → same_each same_term (map test_of_term (map (λ (y : Bool × E). (y.0, y.1.0)) ys)) (map (λ (y : Bool × E). (y.0, y.1.0)) ys) ≡ true
terms [] = refl
terms (y ∷ ys) = both_true (same_sign y.0 y.0 && same_expr y.1.0 y.1.0) (same_each same_term (map test_of_term (map (λ (y : Bool × E). (y.0, y.1.0)) ys)) (map (λ (y : Bool × E). (y.0, y.1.0)) ys)) (both_true (same_sign y.0 y.0) (same_expr y.1.0 y.1.0) (sign_same y.0) y.1.1) (terms ys)

arms : (ys : List (E × E)) → same_each same_arm (map test_of_arm (map (λ (y : E × E). (y.0.0, y.1.0)) ys)) (map (λ (y : E × E). (y.0.0, y.1.0)) ys) ≡ true
arms [] = refl
arms (y ∷ ys) = both_true (same_expr y.0.0 y.0.0 && same_expr y.1.0 y.1.0) (same_each same_arm (map test_of_arm (map (λ (y : E × E). (y.0.0, y.1.0)) ys)) (map (λ (y : E × E). (y.0.0, y.1.0)) ys)) (both_true (same_expr y.0.0 y.0.0) (same_expr y.1.0 y.1.0) y.0.1 y.1.1) (arms ys)

option : (y : Option E) → same_option (test_of_option ((former-Expr-Case-0).map E Expr (λ x. x.0) y)) ((former-Expr-Case-0).map E Expr (λ x. x.0) y) ≡ true
option None = refl
option (Some y) = y.1

good_at : (y : Node) → same_level (tests (bare y)) (bare y) ≡ true
unfolding same_level
good_at (Expr-F.Col rel col t nulled) = both_true (rel == rel) ((col == col) && (same_type t t && (nulled == nulled))) (number_same rel) (both_true (col == col) (same_type t t && (nulled == nulled)) (number_same col) (both_true (same_type t t) (nulled == nulled) (type_same t) (number_same nulled)))
good_at (Expr-F.Lit value t) = both_true (are_same value value) (same_type t t) (value_same value) (type_same t)
good_at (Expr-F.Place inner rels) = both_true (rels == rels) (same_expr inner.0 inner.0) (number_same rels) inner.1
good_at (Expr-F.Neg operand) = operand.1
good_at (Expr-F.Sum ys) = terms ys
good_at (Expr-F.Product factors) = each factors
good_at (Expr-F.Concat pieces) = each pieces
good_at (Expr-F.Compare op left right) = both_true (same_op op op) (same_expr left.0 left.0 && same_expr right.0 right.0) (op_same op) (both_true (same_expr left.0 left.0) (same_expr right.0 right.0) left.1 right.1)
good_at (Expr-F.Between operand low high) = both_true (same_expr operand.0 operand.0) (same_expr low.0 low.0 && same_expr high.0 high.0) operand.1 (both_true (same_expr low.0 low.0) (same_expr high.0 high.0) low.1 high.1)
good_at (Expr-F.InList operand list) = both_true (same_expr operand.0 operand.0) (same_each same_part (map same_expr (map (λ (y : E). y.0) list)) (map (λ (y : E). y.0) list)) operand.1 (each list)
good_at (Expr-F.And members) = each members
good_at (Expr-F.Or members) = each members
good_at (Expr-F.Not operand) = operand.1
good_at (Expr-F.Test test operand) = both_true (same_test test test) (same_expr operand.0 operand.0) (test_same test) operand.1
good_at (Expr-F.Coalesce members) = each members
good_at (Expr-F.Case operand ys otherwise) = both_true
    (same_option (test_of_option ((former-Expr-Case-0).map E Expr (λ x. x.0) operand)) ((former-Expr-Case-0).map E Expr (λ x. x.0) operand))
    (same_each same_arm (map test_of_arm (map (λ (y : E × E). (y.0.0, y.1.0)) ys)) (map (λ (y : E × E). (y.0.0, y.1.0)) ys) && same_option (test_of_option ((former-Expr-Case-0).map E Expr (λ x. x.0) otherwise)) ((former-Expr-Case-0).map E Expr (λ x. x.0) otherwise))
    (option operand)
    (both_true (same_each same_arm (map test_of_arm (map (λ (y : E × E). (y.0.0, y.1.0)) ys)) (map (λ (y : E × E). (y.0.0, y.1.0)) ys)) (same_option (test_of_option ((former-Expr-Case-0).map E Expr (λ x. x.0) otherwise)) ((former-Expr-Case-0).map E Expr (λ x. x.0) otherwise)) (arms ys) (option otherwise))
good_at (Expr-F.Exists sub query) = number_same sub
good_at (Expr-F.InSub sub operand query) = number_same sub

step : (y : Node) → Good (roll-Expr (bare y))
step y = at_level (bare y) (roll-Expr (bare y)) ∙ ap (same_level (tests (bare y))) (out-roll-Expr (bare y)) ∙ good_at y

pub same_as_itself : (x : Expr) → Good x
same_as_itself = ind-Expr Good (λ t. Unit {0}) (λ o. Unit {0}) (λ u. Unit {0}) (λ q. Unit {0})
    (λ x y e. subst (λ z. Good (roll-Expr z)) e (step y))
    (λ x y e. tt) (λ x y e. tt) (λ x y e. tt) (λ x y e. tt)

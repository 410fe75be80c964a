-- Whether each form of expression holds a sublink, by its parts.
use Rattle.std.proofs.Common.{◌≡◌, ◌∙◌, ap, sym, refl, ℕ, Bool, true, false, ◌||◌, List, [], ◌∷◌, ◌++◌, map, Option, Some, None}
use Rattle.std.specs.List.{list_any}
use Rattle.jp_base.specs.declared.values.Ty.{Ty}
use Rattle.jp_base.specs.declared.values.Value.{Value}
use Rattle.jp_query.specs.declared.CmpOp.{CmpOp}
use Rattle.jp_query.specs.declared.IsTest.{IsTest}
use Rattle.jp_query.specs.declared.Expr.{Expr}
use Rattle.jp_query.specs.declared.Expr.TheVariants as expr
use Rattle.jp_query.specs.declared.JoinTree.{JoinTree}
use Rattle.jp_query.specs.declared.Order.{Order}
use Rattle.jp_query.specs.declared.Output.{Output}
use Rattle.jp_query.specs.declared.Query.{Query}
use Rattle.jp_query.specs.declared.Expr.TheOpen.{Expr-F}
use Rattle.jp_query.specs.declared.Expr.TheShapes.{former-Expr-Case-0}
use Rattle.jp_query.specs.declared.Expr.TheViews.{roll-Expr}
use Rattle.jp_query.specs.declared.Expr.TheFolds.{fold-JoinTree, fold-Order, fold-Output, fold-Query, map-Expr, fold-roll-Expr}
use Rattle.jp_query.specs.Layers.{ExprLayer}
use Rattle.jp_query.specs.Parts.{term_part, arm_parts, option_part}
use Rattle.jp_query.specs.Typing.{is_true_test}
use Rattle.jp_problem.specs.Equalities.{expr_has_sublink, has_sublink}
use Rattle.jp_problem.specs.SublinkWords.{term_has_sublink, arm_has_sublink, option_has_sublink}

or_false : (b : Bool) → (b || false) ≡ b
or_false true = refl
or_false false = refl

pub or_assoc : (a b c : Bool) → ((a || b) || c) ≡ (a || (b || c))
or_assoc true b c = refl
or_assoc false b c = refl

any_mapped : (es : List Expr) → list_any is_true_test (map has_sublink es) ≡ list_any has_sublink es
any_mapped [] = refl
any_mapped (e ∷ es) = ap (λ b. has_sublink e || b) (any_mapped es)

any_terms : (terms : List (Bool × Expr)) → list_any is_true_test (map term_part (map (λ t. (t.0, has_sublink t.1)) terms)) ≡ list_any term_has_sublink terms
any_terms [] = refl
any_terms (t ∷ terms) = ap (λ b. has_sublink t.1 || b) (any_terms terms)

any_append : (xs ys : List Bool) → list_any is_true_test (xs ++ ys) ≡ (list_any is_true_test xs || list_any is_true_test ys)
any_append [] ys = refl
any_append (x ∷ xs) ys = ap (λ b. x || b) (any_append xs ys) ∙ sym (or_assoc x (list_any is_true_test xs) (list_any is_true_test ys))

any_arms : (arms : List (Expr × Expr)) → list_any is_true_test (arm_parts (map (λ a. (has_sublink a.0, has_sublink a.1)) arms)) ≡ list_any arm_has_sublink arms
any_arms [] = refl
any_arms (a ∷ arms) = ap (λ b. has_sublink a.0 || (has_sublink a.1 || b)) (any_arms arms) ∙ sym (or_assoc (has_sublink a.0) (has_sublink a.1) (list_any arm_has_sublink arms))

any_option : (o : Option Expr) → list_any is_true_test (option_part ((former-Expr-Case-0).map Expr Bool has_sublink o)) ≡ option_has_sublink o
any_option None = refl
any_option (Some e) = or_false (has_sublink e)

abbrev step : ExprLayer → Expr-F Bool (Unit {0}) (Unit {0}) (Unit {0}) (Unit {0})
step = map-Expr Expr JoinTree Order Output Query Bool (Unit {0}) (Unit {0}) (Unit {0}) (Unit {0}) has_sublink
    (fold-JoinTree Bool (Unit {0}) (Unit {0}) (Unit {0}) (Unit {0}) expr_has_sublink (λ t. tt) (λ o. tt) (λ u. tt) (λ q. tt))
    (fold-Order Bool (Unit {0}) (Unit {0}) (Unit {0}) (Unit {0}) expr_has_sublink (λ t. tt) (λ o. tt) (λ u. tt) (λ q. tt))
    (fold-Output Bool (Unit {0}) (Unit {0}) (Unit {0}) (Unit {0}) expr_has_sublink (λ t. tt) (λ o. tt) (λ u. tt) (λ q. tt))
    (fold-Query Bool (Unit {0}) (Unit {0}) (Unit {0}) (Unit {0}) expr_has_sublink (λ t. tt) (λ o. tt) (λ u. tt) (λ q. tt))

at : (x : ExprLayer) → has_sublink (roll-Expr x) ≡ expr_has_sublink (step x)
at = fold-roll-Expr Bool (Unit {0}) (Unit {0}) (Unit {0}) (Unit {0}) expr_has_sublink (λ t. tt) (λ o. tt) (λ u. tt) (λ q. tt)

pub in-Col : (rel col : ℕ) (ty : Ty) (nulled : ℕ) → has_sublink (expr.Col rel col ty nulled) ≡ false
in-Col rel col ty nulled = ap has_sublink (sym (expr.rolls-Col rel col ty nulled)) ∙ at (Expr-F.Col rel col ty nulled)

pub in-Lit : (value : Value) (ty : Ty) → has_sublink (expr.Lit value ty) ≡ false
in-Lit value ty = ap has_sublink (sym (expr.rolls-Lit value ty)) ∙ at (Expr-F.Lit value ty)

pub in-Place : (inner : Expr) (rels : ℕ) → has_sublink (expr.Place inner rels) ≡ has_sublink inner
in-Place inner rels = ap has_sublink (sym (expr.rolls-Place inner rels)) ∙ at (Expr-F.Place inner rels) ∙ or_false (has_sublink inner)

pub in-Neg : (operand : Expr) → has_sublink (expr.Neg operand) ≡ has_sublink operand
in-Neg operand = ap has_sublink (sym (expr.rolls-Neg operand)) ∙ at (Expr-F.Neg operand) ∙ or_false (has_sublink operand)

pub in-Sum : (terms : List (Bool × Expr)) → has_sublink (expr.Sum terms) ≡ list_any term_has_sublink terms
in-Sum terms = ap has_sublink (sym (expr.rolls-Sum terms)) ∙ at (Expr-F.Sum terms) ∙ any_terms terms

pub in-Product : (factors : List Expr) → has_sublink (expr.Product factors) ≡ list_any has_sublink factors
in-Product factors = ap has_sublink (sym (expr.rolls-Product factors)) ∙ at (Expr-F.Product factors) ∙ any_mapped factors

pub in-Concat : (pieces : List Expr) → has_sublink (expr.Concat pieces) ≡ list_any has_sublink pieces
in-Concat pieces = ap has_sublink (sym (expr.rolls-Concat pieces)) ∙ at (Expr-F.Concat pieces) ∙ any_mapped pieces

pub in-Compare : (op : CmpOp) (left right : Expr) → has_sublink (expr.Compare op left right) ≡ (has_sublink left || has_sublink right)
in-Compare op left right = ap has_sublink (sym (expr.rolls-Compare op left right)) ∙ at (Expr-F.Compare op left right) ∙ ap (λ b. has_sublink left || b) (or_false (has_sublink right))

pub in-Between : (operand low high : Expr) → has_sublink (expr.Between operand low high) ≡ (has_sublink operand || (has_sublink low || has_sublink high))
in-Between operand low high = ap has_sublink (sym (expr.rolls-Between operand low high)) ∙ at (Expr-F.Between operand low high) ∙ ap (λ b. has_sublink operand || (has_sublink low || b)) (or_false (has_sublink high))

pub in-InList : (operand : Expr) (list : List Expr) → has_sublink (expr.InList operand list) ≡ (has_sublink operand || list_any has_sublink list)
in-InList operand list = ap has_sublink (sym (expr.rolls-InList operand list)) ∙ at (Expr-F.InList operand list) ∙ ap (λ b. has_sublink operand || b) (any_mapped list)

pub in-And : (members : List Expr) → has_sublink (expr.And members) ≡ list_any has_sublink members
in-And members = ap has_sublink (sym (expr.rolls-And members)) ∙ at (Expr-F.And members) ∙ any_mapped members

pub in-Or : (members : List Expr) → has_sublink (expr.Or members) ≡ list_any has_sublink members
in-Or members = ap has_sublink (sym (expr.rolls-Or members)) ∙ at (Expr-F.Or members) ∙ any_mapped members

pub in-Not : (operand : Expr) → has_sublink (expr.Not operand) ≡ has_sublink operand
in-Not operand = ap has_sublink (sym (expr.rolls-Not operand)) ∙ at (Expr-F.Not operand) ∙ or_false (has_sublink operand)

pub in-Test : (test : IsTest) (operand : Expr) → has_sublink (expr.Test test operand) ≡ has_sublink operand
in-Test test operand = ap has_sublink (sym (expr.rolls-Test test operand)) ∙ at (Expr-F.Test test operand) ∙ or_false (has_sublink operand)

pub in-Coalesce : (members : List Expr) → has_sublink (expr.Coalesce members) ≡ list_any has_sublink members
in-Coalesce members = ap has_sublink (sym (expr.rolls-Coalesce members)) ∙ at (Expr-F.Coalesce members) ∙ any_mapped members

pub in-Case : (operand : Option Expr) (arms : List (Expr × Expr)) (otherwise : Option Expr) → has_sublink (expr.Case operand arms otherwise) ≡ (option_has_sublink operand || (list_any arm_has_sublink arms || option_has_sublink otherwise))
in-Case operand arms otherwise = ap has_sublink (sym (expr.rolls-Case operand arms otherwise)) ∙ at (Expr-F.Case operand arms otherwise)
    ∙ any_append (option_part ((former-Expr-Case-0).map Expr Bool has_sublink operand)) (arm_parts (map (λ a. (has_sublink a.0, has_sublink a.1)) arms) ++ option_part ((former-Expr-Case-0).map Expr Bool has_sublink otherwise))
    ∙ (λ i. any_option operand i || (any_append (arm_parts (map (λ a. (has_sublink a.0, has_sublink a.1)) arms)) (option_part ((former-Expr-Case-0).map Expr Bool has_sublink otherwise)) ∙ (λ j. any_arms arms j || any_option otherwise j)) i)

pub in-Exists : (sub : ℕ) (query : Query) → has_sublink (expr.Exists sub query) ≡ true
in-Exists sub query = ap has_sublink (sym (expr.rolls-Exists sub query)) ∙ at (Expr-F.Exists sub query)

pub in-InSub : (sub : ℕ) (operand : Expr) (query : Query) → has_sublink (expr.InSub sub operand query) ≡ true
in-InSub sub operand query = ap has_sublink (sym (expr.rolls-InSub sub operand query)) ∙ at (Expr-F.InSub sub operand query)

pub ruleset equations = (in-Col, in-Lit, in-Place, in-Neg, in-Sum, in-Product, in-Concat, in-Compare, in-Between, in-InList, in-And, in-Or, in-Not, in-Test, in-Coalesce, in-Case, in-Exists, in-InSub)

-- What each form of expression is printed as, by its parts.
use Rattle.std.proofs.Common.{◌≡◌, ◌∙◌, ap, ap₂, sym, refl, ℕ, Bool, true, false, List, [], ◌∷◌, ◌++◌, map, Option, Some, None, append_assoc, append-nil}
use Rattle.std.specs.Prelude.{codes, decimal}
use Rattle.std.specs.List.{flat_map}
use Rattle.jp_base.specs.declared.values.Ty.{Ty}
use Rattle.jp_base.specs.declared.values.Value.{Value}
use Rattle.jp_query.specs.declared.CmpOp.{CmpOp}
use Rattle.jp_query.specs.declared.IsTest.{IsTest}
use Rattle.jp_query.specs.declared.Expr.{Expr, out-Expr}
use Rattle.jp_query.specs.declared.Expr.TheVariants as expr
use Rattle.jp_query.specs.declared.JoinTree.{JoinTree}
use Rattle.jp_query.specs.declared.Order.{Order}
use Rattle.jp_query.specs.declared.Output.{Output}
use Rattle.jp_query.specs.declared.Query.{Query}
use Rattle.jp_query.specs.declared.Expr.TheOpen.{Expr-F}
use Rattle.jp_query.specs.declared.Expr.TheShapes.{former-Expr-Case-0}
use Rattle.jp_query.specs.declared.Expr.TheViews.{roll-Expr, roll-out-Expr}
use Rattle.jp_query.specs.declared.Expr.TheFolds.{fold-JoinTree, fold-Order, fold-Output, fold-Query, map-Expr, fold-roll-Expr}
use Rattle.jp_query.specs.Layers.{ExprLayer}
use Rattle.jp_explain.specs.Expressions.{Printed, Level, text_of, operand_of, term_operand, arm_of, arm_text, maybe_behind, terms_text, level_text, is_bare, as_operand, printed_level, printed, expr_text, operand_text, operand_term, printed_arm, printed_behind}
use Rattle.jp_explain.specs.Lists.{separated}
use Rattle.jp_explain.specs.Names.{Names, qualified, relation_names}
use Rattle.jp_explain.specs.Values.{value_text, comparison, test_words}

abbrev step : Names → ExprLayer → Level
step names = map-Expr Expr JoinTree Order Output Query Printed (Unit {0}) (Unit {0}) (Unit {0}) (Unit {0}) (printed names)
    (fold-JoinTree Printed (Unit {0}) (Unit {0}) (Unit {0}) (Unit {0}) (printed_level names) (λ t. tt) (λ o. tt) (λ u. tt) (λ q. tt))
    (fold-Order Printed (Unit {0}) (Unit {0}) (Unit {0}) (Unit {0}) (printed_level names) (λ t. tt) (λ o. tt) (λ u. tt) (λ q. tt))
    (fold-Output Printed (Unit {0}) (Unit {0}) (Unit {0}) (Unit {0}) (printed_level names) (λ t. tt) (λ o. tt) (λ u. tt) (λ q. tt))
    (fold-Query Printed (Unit {0}) (Unit {0}) (Unit {0}) (Unit {0}) (printed_level names) (λ t. tt) (λ o. tt) (λ u. tt) (λ q. tt))

pub at : (names : Names) (x : ExprLayer) → printed names (roll-Expr x) ≡ printed_level names (step names x)
at names = fold-roll-Expr Printed (Unit {0}) (Unit {0}) (Unit {0}) (Unit {0}) (printed_level names) (λ t. tt) (λ o. tt) (λ u. tt) (λ q. tt)

-- the text at an expression that is this level
text_at : (names : Names) (e : Expr) (x : ExprLayer) → roll-Expr x ≡ e → expr_text names e ≡ level_text names (step names x)
unfolding expr_text
text_at names e x is = ap (λ y. (printed names y).text) (sym is) ∙ ap text_of (at names x)

-- ---- lists of parts

texts : (names : Names) (es : List Expr) → map text_of (map (printed names) es) ≡ map (expr_text names) es
unfolding expr_text
texts names [] = refl
texts names (e ∷ es) = ap (λ xs. (printed names e).text ∷ xs) (texts names es)

operands : (names : Names) (es : List Expr) → map operand_of (map (printed names) es) ≡ map (operand_text names) es
unfolding operand_text
operands names [] = refl
operands names (e ∷ es) = ap (λ xs. (printed names e).operand ∷ xs) (operands names es)

terms_are : (names : Names) (ts : List (Bool × Expr)) → map term_operand (map (λ t. (t.0, printed names t.1)) ts) ≡ map (operand_term names) ts
unfolding operand_text
terms_are names [] = refl
terms_are names (t ∷ ts) = ap (λ xs. (t.0, (printed names t.1).operand) ∷ xs) (terms_are names ts)

arms_are : (names : Names) (arms : List (Expr × Expr)) → flat_map arm_of (map (λ a. (printed names a.0, printed names a.1)) arms) ≡ flat_map (printed_arm names) arms
unfolding expr_text
arms_are names [] = refl
arms_are names (a ∷ arms) = ap (λ xs. arm_text (printed names a.0).text (printed names a.1).text ++ xs) (arms_are names arms)

maybe_is : (names : Names) (mark : List ℕ) (o : Option Expr) → maybe_behind mark ((former-Expr-Case-0).map Expr Printed (printed names) o) ≡ printed_behind names mark o
unfolding expr_text
maybe_is names mark None = refl
maybe_is names mark (Some e) = refl

-- ---- each form

pub text-Col : (names : Names) (rel col : ℕ) (ty : Ty) (nulled : ℕ) → expr_text names (expr.Col rel col ty nulled) ≡ qualified names rel col
text-Col names rel col ty nulled = text_at names _ (Expr-F.Col rel col ty nulled) (expr.rolls-Col rel col ty nulled)

pub text-Lit : (names : Names) (value : Value) (ty : Ty) → expr_text names (expr.Lit value ty) ≡ value_text value
text-Lit names value ty = text_at names _ (Expr-F.Lit value ty) (expr.rolls-Lit value ty)

pub text-Place : (names : Names) (inner : Expr) (rels : ℕ) → expr_text names (expr.Place inner rels) ≡ codes "PH(" ++ (expr_text names inner ++ (codes "; " ++ (relation_names names rels ++ codes ")")))
unfolding expr_text
text-Place names inner rels = text_at names _ (Expr-F.Place inner rels) (expr.rolls-Place inner rels)

pub text-Neg : (names : Names) (operand : Expr) → expr_text names (expr.Neg operand) ≡ codes "-" ++ operand_text names operand
unfolding operand_text
text-Neg names operand = text_at names _ (Expr-F.Neg operand) (expr.rolls-Neg operand)

pub text-Sum : (names : Names) (terms : List (Bool × Expr)) → expr_text names (expr.Sum terms) ≡ terms_text true (map (operand_term names) terms)
text-Sum names terms = text_at names _ (Expr-F.Sum terms) (expr.rolls-Sum terms) ∙ ap (terms_text true) (terms_are names terms)

pub text-Product : (names : Names) (factors : List Expr) → expr_text names (expr.Product factors) ≡ separated (codes " * ") (map (operand_text names) factors)
text-Product names factors = text_at names _ (Expr-F.Product factors) (expr.rolls-Product factors) ∙ ap (separated (codes " * ")) (operands names factors)

pub text-Concat : (names : Names) (pieces : List Expr) → expr_text names (expr.Concat pieces) ≡ separated (codes " || ") (map (operand_text names) pieces)
text-Concat names pieces = text_at names _ (Expr-F.Concat pieces) (expr.rolls-Concat pieces) ∙ ap (separated (codes " || ")) (operands names pieces)

pub text-Compare : (names : Names) (op : CmpOp) (left right : Expr) → expr_text names (expr.Compare op left right) ≡ operand_text names left ++ (comparison op ++ operand_text names right)
unfolding operand_text
text-Compare names op left right = text_at names _ (Expr-F.Compare op left right) (expr.rolls-Compare op left right)

pub text-Between : (names : Names) (operand low high : Expr) → expr_text names (expr.Between operand low high) ≡ operand_text names operand ++ (codes " BETWEEN " ++ (operand_text names low ++ (codes " AND " ++ operand_text names high)))
unfolding operand_text
text-Between names operand low high = text_at names _ (Expr-F.Between operand low high) (expr.rolls-Between operand low high)

pub text-InList : (names : Names) (operand : Expr) (list : List Expr) → expr_text names (expr.InList operand list) ≡ operand_text names operand ++ (codes " IN (" ++ (separated (codes ", ") (map (expr_text names) list) ++ codes ")"))
unfolding operand_text
text-InList names operand list =
    text_at names _ (Expr-F.InList operand list) (expr.rolls-InList operand list) ∙ ap (λ xs. (printed names operand).operand ++ (codes " IN (" ++ (separated (codes ", ") xs ++ codes ")"))) (texts names list)

pub text-And : (names : Names) (members : List Expr) → expr_text names (expr.And members) ≡ separated (codes " AND ") (map (operand_text names) members)
text-And names members = text_at names _ (Expr-F.And members) (expr.rolls-And members) ∙ ap (separated (codes " AND ")) (operands names members)

pub text-Or : (names : Names) (members : List Expr) → expr_text names (expr.Or members) ≡ separated (codes " OR ") (map (operand_text names) members)
text-Or names members = text_at names _ (Expr-F.Or members) (expr.rolls-Or members) ∙ ap (separated (codes " OR ")) (operands names members)

pub text-Not : (names : Names) (operand : Expr) → expr_text names (expr.Not operand) ≡ codes "NOT " ++ operand_text names operand
unfolding operand_text
text-Not names operand = text_at names _ (Expr-F.Not operand) (expr.rolls-Not operand)

pub text-Test : (names : Names) (test : IsTest) (operand : Expr) → expr_text names (expr.Test test operand) ≡ operand_text names operand ++ test_words test
unfolding operand_text
text-Test names test operand = text_at names _ (Expr-F.Test test operand) (expr.rolls-Test test operand)

pub text-Coalesce : (names : Names) (members : List Expr) → expr_text names (expr.Coalesce members) ≡ codes "COALESCE(" ++ (separated (codes ", ") (map (expr_text names) members) ++ codes ")")
text-Coalesce names members =
    text_at names _ (Expr-F.Coalesce members) (expr.rolls-Coalesce members) ∙ ap (λ xs. codes "COALESCE(" ++ (separated (codes ", ") xs ++ codes ")")) (texts names members)

pub text-Case : (names : Names) (operand : Option Expr) (arms : List (Expr × Expr)) (otherwise : Option Expr)
    → expr_text names (expr.Case operand arms otherwise) ≡ codes "CASE" ++ (printed_behind names (codes " ") operand ++ (flat_map (printed_arm names) arms ++ (printed_behind names (codes " ELSE ") otherwise ++ codes " END")))
text-Case names operand arms otherwise =
    text_at names _ (Expr-F.Case operand arms otherwise) (expr.rolls-Case operand arms otherwise)
    ∙ (λ i. codes "CASE" ++ (maybe_is names (codes " ") operand i ++ (arms_are names arms i ++ (maybe_is names (codes " ELSE ") otherwise i ++ codes " END"))))

pub text-Exists : (names : Names) (sub : ℕ) (query : Query) → expr_text names (expr.Exists sub query) ≡ codes "EXISTS(#" ++ (decimal sub ++ codes ")")
text-Exists names sub query = text_at names _ (Expr-F.Exists sub query) (expr.rolls-Exists sub query)

pub text-InSub : (names : Names) (sub : ℕ) (operand : Expr) (query : Query) → expr_text names (expr.InSub sub operand query) ≡ operand_text names operand ++ (codes " IN (#" ++ (decimal sub ++ codes ")"))
unfolding operand_text
text-InSub names sub operand query = text_at names _ (Expr-F.InSub sub operand query) (expr.rolls-InSub sub operand query)

-- what is put at the end for a CASE
pub case_pushed : (names : Names) (operand : Option Expr) (arms : List (Expr × Expr)) (otherwise : Option Expr) (old first second third fourth last : List ℕ)
    → first ≡ old ++ codes "CASE" → second ≡ first ++ printed_behind names (codes " ") operand → third ≡ second ++ flat_map (printed_arm names) arms
    → fourth ≡ third ++ printed_behind names (codes " ELSE ") otherwise → last ≡ fourth ++ codes " END"
    → last ≡ old ++ expr_text names (expr.Case operand arms otherwise)
case_pushed names operand arms otherwise old first second third fourth last p q r s t =
    t ∙ ap (λ xs. xs ++ codes " END") (s ∙ ap (λ xs. xs ++ printed_behind names (codes " ELSE ") otherwise) (r ∙ ap (λ xs. xs ++ flat_map (printed_arm names) arms) (q ∙ ap (λ xs. xs ++ printed_behind names (codes " ") operand) p)))
    ∙ regrouped old (codes "CASE") (printed_behind names (codes " ") operand) (flat_map (printed_arm names) arms) (printed_behind names (codes " ELSE ") otherwise) (codes " END")
    ∙ ap (λ xs. old ++ xs) (sym (text-Case names operand arms otherwise))
  where
    regrouped : (o a b c d e : List ℕ) → ((((o ++ a) ++ b) ++ c) ++ d) ++ e ≡ o ++ (a ++ (b ++ (c ++ (d ++ e))))
    regrouped o a b c d e = simp append_assoc

-- what is put at the end for a part that may be missing
pub behind_some : (names : Names) (mark : List ℕ) (o : Option Expr) (e : Expr) (old middle last : List ℕ) → o ≡ Some e → middle ≡ old ++ mark → last ≡ middle ++ expr_text names e → last ≡ old ++ printed_behind names mark o
behind_some names mark o e old middle last is p q = q ∙ ap (λ xs. xs ++ expr_text names e) p ∙ append_assoc old mark (expr_text names e) ∙ ap (λ x. old ++ printed_behind names mark x) (sym is)

pub behind_none : (names : Names) (mark : List ℕ) (o : Option Expr) (old last : List ℕ) → o ≡ None → last ≡ old → last ≡ old ++ printed_behind names mark o
behind_none names mark o old last is p = p ∙ sym (append-nil old) ∙ ap (λ x. old ++ printed_behind names mark x) (sym is)

-- ---- operands

bare_step : (names : Names) (x : ExprLayer) → is_bare (step names x) ≡ is_bare x
bare_step names (Expr-F.Col rel col ty nulled) = refl
bare_step names (Expr-F.Lit value ty) = refl
bare_step names (Expr-F.Place inner rels) = refl
bare_step names (Expr-F.Neg operand) = refl
bare_step names (Expr-F.Sum terms) = refl
bare_step names (Expr-F.Product factors) = refl
bare_step names (Expr-F.Concat pieces) = refl
bare_step names (Expr-F.Compare op left right) = refl
bare_step names (Expr-F.Between operand low high) = refl
bare_step names (Expr-F.InList operand list) = refl
bare_step names (Expr-F.And members) = refl
bare_step names (Expr-F.Or members) = refl
bare_step names (Expr-F.Not operand) = refl
bare_step names (Expr-F.Test test operand) = refl
bare_step names (Expr-F.Coalesce members) = refl
bare_step names (Expr-F.Case operand arms otherwise) = refl
bare_step names (Expr-F.Exists sub query) = refl
bare_step names (Expr-F.InSub sub operand query) = refl

pub operand_is : (names : Names) (e : Expr) → operand_text names e ≡ as_operand (is_bare (out-Expr e)) (expr_text names e)
unfolding expr_text operand_text
operand_is names e =
    let x = out-Expr e in
    let is = roll-out-Expr e in
    ap (λ y. (printed names y).operand) (sym is) ∙ ap operand_of (at names x) ∙ ap₂ as_operand (bare_step names x) (sym (text_at names e x is))

pub ruleset equations = (text-Col, text-Lit, text-Place, text-Neg, text-Sum, text-Product, text-Concat, text-Compare, text-Between, text-InList, text-And, text-Or, text-Not, text-Test, text-Coalesce, text-Case, text-Exists, text-InSub, operand_is, append_assoc)

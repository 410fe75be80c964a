-- An expression as text. An operator stands between its operands, and an operand that is itself made by an operator stands
-- in parentheses.
use Rattle.std.specs.Prelude.{ℕ, Bool, true, false, List, [], ◌∷◌, ◌++◌, map, Option, Some, None, codes, decimal, if◌then◌else◌}
use Rattle.std.specs.List.{flat_map}
use Rattle.jp_query.specs.declared.Expr.{Expr}
use Rattle.jp_query.specs.declared.Expr.TheOpen.{Expr-F}
use Rattle.jp_query.specs.declared.Expr.TheFolds.{fold-Expr}
use Rattle.jp_explain.specs.Lists.{separated}
use Rattle.jp_explain.specs.Names.{Names, qualified, relation_names}
use Rattle.jp_explain.specs.Values.{value_text, comparison, test_words, sign}

-- an expression's text by itself, and as an operand
pub record Printed : Type 0 where
  pub text : List ℕ
  pub operand : List ℕ

abbrev pub Level : Type 0
Level = Expr-F Printed (Unit {0}) (Unit {0}) (Unit {0}) (Unit {0})

abbrev pub text_of : Printed → List ℕ
text_of part = part.text

abbrev pub operand_of : Printed → List ℕ
operand_of part = part.operand

-- the terms of a sum from one on, which is the first of all or isn't
abbrev pub terms_text : Bool → List (Bool × List ℕ) → List ℕ
terms_text first [] = []
terms_text first (term ∷ terms) = sign first term.0 ++ (term.1 ++ terms_text false terms)

abbrev pub term_operand : Bool × Printed → Bool × List ℕ
term_operand term = (term.0, term.1.operand)

-- ---- the parts of a CASE

abbrev pub arm_text : List ℕ → List ℕ → List ℕ
arm_text condition result = codes " WHEN " ++ (condition ++ (codes " THEN " ++ result))

abbrev pub arm_of : Printed × Printed → List ℕ
arm_of arm = arm_text arm.0.text arm.1.text

-- a part that may be missing, behind a mark
abbrev pub maybe_behind : List ℕ → Option Printed → List ℕ
maybe_behind mark (Some part) = mark ++ part.text
maybe_behind mark None = []

-- ---- one level

-- what its sublinks' queries hold isn't printed here
abbrev pub level_text : Names → Level → List ℕ
level_text names (Expr-F.Col rel col ty nulled) = qualified names rel col
level_text names (Expr-F.Lit value ty) = value_text value
level_text names (Expr-F.Place inner rels) = codes "PH(" ++ (inner.text ++ (codes "; " ++ (relation_names names rels ++ codes ")")))
level_text names (Expr-F.Neg operand) = codes "-" ++ operand.operand
level_text names (Expr-F.Sum terms) = terms_text true (map term_operand terms)
level_text names (Expr-F.Product factors) = separated (codes " * ") (map operand_of factors)
level_text names (Expr-F.Concat pieces) = separated (codes " || ") (map operand_of pieces)
level_text names (Expr-F.Compare op left right) = left.operand ++ (comparison op ++ right.operand)
level_text names (Expr-F.Between operand low high) = operand.operand ++ (codes " BETWEEN " ++ (low.operand ++ (codes " AND " ++ high.operand)))
level_text names (Expr-F.InList operand list) = operand.operand ++ (codes " IN (" ++ (separated (codes ", ") (map text_of list) ++ codes ")"))
level_text names (Expr-F.And members) = separated (codes " AND ") (map operand_of members)
level_text names (Expr-F.Or members) = separated (codes " OR ") (map operand_of members)
level_text names (Expr-F.Not operand) = codes "NOT " ++ operand.operand
level_text names (Expr-F.Test test operand) = operand.operand ++ test_words test
level_text names (Expr-F.Coalesce members) = codes "COALESCE(" ++ (separated (codes ", ") (map text_of members) ++ codes ")")
level_text names (Expr-F.Case operand arms otherwise) =
    codes "CASE" ++ (maybe_behind (codes " ") operand ++ (flat_map arm_of arms ++ (maybe_behind (codes " ELSE ") otherwise ++ codes " END")))
level_text names (Expr-F.Exists sub query) = codes "EXISTS(#" ++ (decimal sub ++ codes ")")
level_text names (Expr-F.InSub sub operand query) = operand.operand ++ (codes " IN (#" ++ (decimal sub ++ codes ")"))

-- a column, literal, placeholder, COALESCE, CASE or EXISTS stands without parentheses as an operand
abbrev pub is_bare : {A B C D F : Type 0} → Expr-F A B C D F → Bool
is_bare (Expr-F.Col rel col ty nulled) = true
is_bare (Expr-F.Lit value ty) = true
is_bare (Expr-F.Place inner rels) = true
is_bare (Expr-F.Coalesce members) = true
is_bare (Expr-F.Case operand arms otherwise) = true
is_bare (Expr-F.Exists sub query) = true
is_bare _ = false

abbrev pub in_parentheses : List ℕ → List ℕ
in_parentheses text = codes "(" ++ (text ++ codes ")")

abbrev pub as_operand : Bool → List ℕ → List ℕ
as_operand bare text = if bare then text else in_parentheses text

abbrev pub printed_level : Names → Level → Printed
printed_level names x = record { text = level_text names x; operand = as_operand (is_bare x) (level_text names x) }

-- ---- an expression

abbrev pub printed : Names → Expr → Printed
printed names = fold-Expr Printed (Unit {0}) (Unit {0}) (Unit {0}) (Unit {0}) (printed_level names) (λ t. tt) (λ o. tt) (λ u. tt) (λ q. tt)

unfoldable pub expr_text : Names → Expr → List ℕ
expr_text names e = (printed names e).text

unfoldable pub operand_text : Names → Expr → List ℕ
operand_text names e = (printed names e).operand

-- ---- parts of an expression by themselves

abbrev pub operand_term : Names → Bool × Expr → Bool × List ℕ
operand_term names term = (term.0, operand_text names term.1)

abbrev pub printed_arm : Names → Expr × Expr → List ℕ
printed_arm names arm = arm_text (expr_text names arm.0) (expr_text names arm.1)

abbrev pub printed_behind : Names → List ℕ → Option Expr → List ℕ
printed_behind names mark (Some e) = mark ++ expr_text names e
printed_behind names mark None = []

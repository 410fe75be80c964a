-- The examples, printed part by part.
use Rattle.std.proofs.Common.{◌≡◌, ◌∙◌, ap, ℕ, true, false, [], ◌∷◌, ◌++◌, Some, lit<}
use Rattle.std.specs.Prelude.{codes, negsuc}
use Rattle.std.specs.Str.{chars}
use Rattle.std.proofs.lemmas.Fmt.{decimal_digit}
use Rattle.jp_base.specs.declared.values.Ty.TheVariants as ty
use Rattle.jp_base.specs.declared.values.Value.TheVariants as value
use Rattle.jp_query.specs.declared.CmpOp.TheVariants as cmp
use Rattle.jp_query.specs.declared.IsTest.TheVariants as is
use Rattle.jp_query.specs.declared.Expr.TheOpen.{Expr-F}
use Rattle.jp_query.specs.declared.Expr.TheViews.{roll-Expr}
use Rattle.jp_query.specs.TreeExamples.{a, col, product, select, test}
use Rattle.jp_explain.specs.Expressions.{Printed, Level, expr_text, printed, printed_level, text_of}
use Rattle.jp_explain.specs.Names.{members_from}
use Rattle.jp_explain.proofs.TextLaws.{at}
use Rattle.jp_explain_tests.specs.Examples.{names, id, x, minus, null, difference, signed, simple_case, tested, placed, listed, sublinks, quote, quotes, below}

abbrev level : Level → Printed
level = printed_level names

-- ---- parts

col_is : (rel c : ℕ) → printed names (col rel c) ≡ level (Expr-F.Col rel c ty.Number 0)
col_is rel c = at names (Expr-F.Col rel c ty.Number 0)

abbrev product_at : Printed
product_at = level (Expr-F.Product (level (Expr-F.Col 0 0 ty.Number 0) ∷ level (Expr-F.Col 3 0 ty.Number 0) ∷ []))

product_is : printed names (product id (col 3 0)) ≡ product_at
product_is = at names (Expr-F.Product (id ∷ col 3 0 ∷ [])) ∙ (λ i. level (Expr-F.Product (col_is 0 0 i ∷ col_is 3 0 i ∷ [])))

abbrev difference_at : Printed
difference_at = level (Expr-F.Sum ((false, level (Expr-F.Col 0 1 ty.Number 0)) ∷ (true, product_at) ∷ []))

difference_is : printed names difference ≡ difference_at
difference_is = at names (Expr-F.Sum ((false, x) ∷ (true, product id (col 3 0)) ∷ [])) ∙ (λ i. level (Expr-F.Sum ((false, col_is 0 1 i) ∷ (true, product_is i) ∷ [])))

minus_id_is : printed names (minus id) ≡ level (Expr-F.Neg (level (Expr-F.Col 0 0 ty.Number 0)))
minus_id_is = at names (Expr-F.Neg id) ∙ (λ i. level (Expr-F.Neg (col_is 0 0 i)))

minus_x_is : printed names (minus x) ≡ level (Expr-F.Neg (level (Expr-F.Col 0 1 ty.Number 0)))
minus_x_is = at names (Expr-F.Neg x) ∙ (λ i. level (Expr-F.Neg (col_is 0 1 i)))

null_is : printed names null ≡ level (Expr-F.Lit value.Null ty.Number)
null_is = at names (Expr-F.Lit value.Null ty.Number)

-- ---- the examples

signed_is : printed names signed ≡ level (Expr-F.Compare cmp.Eq difference_at (level (Expr-F.Neg (level (Expr-F.Col 0 0 ty.Number 0)))))
signed_is = at names (Expr-F.Compare cmp.Eq difference (minus id)) ∙ (λ i. level (Expr-F.Compare cmp.Eq (difference_is i) (minus_id_is i)))

pub signed_text : expr_text names signed ≡ codes "(a.x - (a.id * b_3.y)) = (-a.id)"
unfolding expr_text
signed_text = ap text_of signed_is

abbrev case_at : Printed
case_at = level (Expr-F.Case (Some (level (Expr-F.Neg (level (Expr-F.Col 0 1 ty.Number 0))))) ((level (Expr-F.Col 0 0 ty.Number 0), difference_at) ∷ []) (Some (level (Expr-F.Lit value.Null ty.Number))))

case_is : printed names simple_case ≡ case_at
case_is = at names (Expr-F.Case (Some (minus x)) ((id, difference) ∷ []) (Some null)) ∙ (λ i. level (Expr-F.Case (Some (minus_x_is i)) ((col_is 0 0 i, difference_is i) ∷ []) (Some (null_is i))))

test_is : printed names (test is.NotNull simple_case) ≡ level (Expr-F.Test is.NotNull case_at)
test_is = at names (Expr-F.Test is.NotNull simple_case) ∙ (λ i. level (Expr-F.Test is.NotNull (case_is i)))

tested_is : printed names tested ≡ level (Expr-F.Not (level (Expr-F.Test is.NotNull case_at)))
tested_is = at names (Expr-F.Not (test is.NotNull simple_case)) ∙ (λ i. level (Expr-F.Not (test_is i)))

pub tested_text : expr_text names tested ≡ codes "NOT (CASE -a.x WHEN a.id THEN a.x - (a.id * b_3.y) ELSE NULL END IS NOT NULL)"
unfolding expr_text
tested_text = ap text_of tested_is

placed_is : printed names placed ≡ level (Expr-F.Place difference_at 9)
placed_is = at names (Expr-F.Place difference 9) ∙ (λ i. level (Expr-F.Place (difference_is i) 9))

listed_is : printed names listed ≡ level (Expr-F.InList (level (Expr-F.Place difference_at 9)) (difference_at ∷ level (Expr-F.Lit value.Null ty.Number) ∷ []))
listed_is = at names (Expr-F.InList placed (difference ∷ null ∷ [])) ∙ (λ i. level (Expr-F.InList (placed_is i) (difference_is i ∷ null_is i ∷ [])))

pub listed_text : expr_text names listed ≡ codes "PH(a.x - (a.id * b_3.y); a, b_3) IN (a.x - (a.id * b_3.y), NULL)"
unfolding expr_text members_from
listed_text = ap text_of listed_is

sublinks_is : printed names sublinks ≡ level (Expr-F.InSub 2 (level (Expr-F.Exists 1 tt)) tt)
sublinks_is = at names (Expr-F.InSub 2 (roll-Expr (Expr-F.Exists 1 (select id a []))) (select x a [])) ∙ (λ i. level (Expr-F.InSub 2 (at names (Expr-F.Exists 1 (select id a [])) i) tt))

pub sublinks_text : expr_text names sublinks ≡ codes "EXISTS(#1) IN (#2)"
unfolding expr_text
sublinks_text =
    ap text_of sublinks_is ∙ (λ i. (codes "EXISTS(#" ++ (decimal_digit 1 (lit< tt) i ++ codes ")")) ++ (codes " IN (#" ++ (decimal_digit 2 (lit< tt) i ++ codes ")")))

quote_is : printed names quote ≡ level (Expr-F.Lit (value.Text (codes "'")) ty.Text)
quote_is = at names (Expr-F.Lit (value.Text (codes "'")) ty.Text)

quotes_is : printed names quotes ≡ level (Expr-F.Concat (level (Expr-F.Lit (value.Text (codes "'")) ty.Text) ∷ level (Expr-F.Lit (value.Text (codes "'")) ty.Text) ∷ []))
quotes_is = at names (Expr-F.Concat (quote ∷ quote ∷ [])) ∙ (λ i. level (Expr-F.Concat (quote_is i ∷ quote_is i ∷ [])))

pub quotes_text : expr_text names quotes ≡ codes "'''' || ''''"
unfolding expr_text chars
quotes_text = ap text_of quotes_is

number_is : printed names (roll-Expr (Expr-F.Lit (value.Num (negsuc 6)) ty.Number)) ≡ level (Expr-F.Lit (value.Num (negsuc 6)) ty.Number)
number_is = at names (Expr-F.Lit (value.Num (negsuc 6)) ty.Number)

below_is : printed names below ≡ level (Expr-F.Compare cmp.Lt (level (Expr-F.Col 0 1 ty.Number 0)) (level (Expr-F.Lit (value.Num (negsuc 6)) ty.Number)))
below_is = at names (Expr-F.Compare cmp.Lt x (roll-Expr (Expr-F.Lit (value.Num (negsuc 6)) ty.Number))) ∙ (λ i. level (Expr-F.Compare cmp.Lt (col_is 0 1 i) (number_is i)))

pub below_text : expr_text names below ≡ codes "a.x < -7"
unfolding expr_text
below_text = ap text_of below_is ∙ (λ i. codes "a.x < -" ++ decimal_digit 7 (lit< tt) i)

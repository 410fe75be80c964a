-- Expressions that the definition is run on.
use Rattle.std.specs.Prelude.{true, false, negsuc, [], ◌∷◌, Some, codes}
use Rattle.jp_base.specs.declared.values.Ty.TheVariants as ty
use Rattle.jp_base.specs.declared.values.Value.TheVariants as value
use Rattle.jp_query.specs.declared.CmpOp.TheVariants as cmp
use Rattle.jp_query.specs.declared.IsTest.TheVariants as is
use Rattle.jp_query.specs.declared.Expr.{Expr}
use Rattle.jp_query.specs.declared.Expr.TheOpen.{Expr-F}
use Rattle.jp_query.specs.declared.Expr.TheViews.{roll-Expr}
use Rattle.jp_query.specs.TreeExamples.{a, col, equals, product, select, test}
use Rattle.jp_explain.specs.Names.{Names}

abbrev pub names : Names
names = record { rel = 0; name = codes "a"; columns = codes "id" ∷ codes "x" ∷ [] } ∷ record { rel = 3; name = codes "b_3"; columns = codes "y" ∷ [] } ∷ []

abbrev pub id : Expr
id = col 0 0

abbrev pub x : Expr
x = col 0 1

abbrev pub minus : Expr → Expr
minus operand = roll-Expr (Expr-F.Neg operand)

abbrev pub null : Expr
null = roll-Expr (Expr-F.Lit value.Null ty.Number)

-- x - (id * b_3.y)
abbrev pub difference : Expr
difference = roll-Expr (Expr-F.Sum ((false, x) ∷ (true, product id (col 3 0)) ∷ []))

-- (x - (id * b_3.y)) = (-id)
abbrev pub signed : Expr
signed = equals difference (minus id)

-- a CASE, which stands without parentheses as an operand, with parts that are no operands
abbrev pub simple_case : Expr
simple_case = roll-Expr (Expr-F.Case (Some (minus x)) ((id, difference) ∷ []) (Some null))

abbrev pub tested : Expr
tested = roll-Expr (Expr-F.Not (test is.NotNull simple_case))

-- a placeholder of the relations 0 and 3
abbrev pub placed : Expr
placed = roll-Expr (Expr-F.Place difference 9)

abbrev pub listed : Expr
listed = roll-Expr (Expr-F.InList placed (difference ∷ null ∷ []))

abbrev pub sublinks : Expr
sublinks = roll-Expr (Expr-F.InSub 2 (roll-Expr (Expr-F.Exists 1 (select id a []))) (select x a []))

abbrev pub quote : Expr
quote = roll-Expr (Expr-F.Lit (value.Text (codes "'")) ty.Text)

abbrev pub quotes : Expr
quotes = roll-Expr (Expr-F.Concat (quote ∷ quote ∷ []))

abbrev pub below : Expr
below = roll-Expr (Expr-F.Compare cmp.Lt x (roll-Expr (Expr-F.Lit (value.Num (negsuc 6)) ty.Number)))

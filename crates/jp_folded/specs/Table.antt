-- What a row of the table of worked expressions says, and the expressions in it that jp_folding's examples lack.
use Rattle.std.specs.Prelude.{◌≡◌, ℕ, true, false, List, [], ◌∷◌}
use Rattle.jp_base.specs.declared.values.Ty.TheVariants as ty
use Rattle.jp_base.specs.declared.values.Value.TheVariants as value
use Rattle.jp_query.specs.declared.CmpOp.TheVariants as cmp
use Rattle.jp_query.specs.declared.IsTest.{IsTest}
use Rattle.jp_query.specs.declared.Expr.{Expr}
use Rattle.jp_query.specs.declared.Query.{Query}
use Rattle.jp_query.specs.declared.Expr.TheOpen.{Expr-F}
use Rattle.jp_query.specs.declared.Expr.TheViews.{roll-Expr}
use Rattle.jp_query.specs.Nullness.{Surely, surely_of}
use Rattle.jp_query.specs.Nullness.Gone.{relations}
use Rattle.jp_folding.specs.Folding.{folded_expr}

-- ---- expressions

-- a number column of relation 0, and one of relation 1
abbrev pub x : Expr
x = roll-Expr (Expr-F.Col 0 0 ty.Number 0)

abbrev pub y : Expr
y = roll-Expr (Expr-F.Col 1 0 ty.Number 0)

-- a boolean column of relation 0, and one of relation 1
abbrev pub p : Expr
p = roll-Expr (Expr-F.Col 0 1 ty.Boolean 0)

abbrev pub q : Expr
q = roll-Expr (Expr-F.Col 1 1 ty.Boolean 0)

abbrev pub text : List ℕ → Expr
text s = roll-Expr (Expr-F.Lit (value.Text s) ty.Text)

abbrev pub no_text : Expr
no_text = roll-Expr (Expr-F.Lit value.Null ty.Text)

abbrev pub negative : Expr → Expr
negative operand = roll-Expr (Expr-F.Neg operand)

abbrev pub concat : Expr → Expr → Expr
concat left right = roll-Expr (Expr-F.Concat (left ∷ right ∷ []))

abbrev pub equals : Expr → Expr → Expr
equals left right = roll-Expr (Expr-F.Compare cmp.Eq left right)

abbrev pub between : Expr → Expr → Expr → Expr
between operand low high = roll-Expr (Expr-F.Between operand low high)

abbrev pub not : Expr → Expr
not operand = roll-Expr (Expr-F.Not operand)

abbrev pub test : IsTest → Expr → Expr
test t operand = roll-Expr (Expr-F.Test t operand)

abbrev pub place : Expr → ℕ → Expr
place inner rels = roll-Expr (Expr-F.Place inner rels)

abbrev pub exists : Query → Expr
exists query = roll-Expr (Expr-F.Exists 1 query)

-- ---- what surely holds where relation 0 is absent

abbrev pub is_null : Surely
is_null = record { null = true; not_true = true; not_false = true }

abbrev pub never_true : Surely
never_true = record { null = false; not_true = true; not_false = false }

abbrev pub never_false : Surely
never_false = record { null = false; not_true = false; not_false = true }

abbrev pub any_value : Surely
any_value = record { null = false; not_true = false; not_false = false }

-- an expression, what surely holds of it where relation 0 is absent, and what it is folded to
abbrev pub IsRow : Expr → Surely → Expr → Type 0
IsRow e surely folded = (surely_of (relations 1) e ≡ surely) × (folded_expr e ≡ folded)

abbrev pub Stays : Expr → Surely → Type 0
Stays e surely = IsRow e surely e

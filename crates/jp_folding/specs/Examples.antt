-- Small expressions, trees and queries that are folded.
use Rattle.std.specs.Prelude.{ℕ, pos, Bool, true, false, List, [], ◌∷◌, Option, Some, None}
use Rattle.jp_base.specs.declared.values.Ty.TheVariants as ty
use Rattle.jp_base.specs.declared.values.Value.TheVariants as value
use Rattle.jp_query.specs.declared.CmpOp.TheVariants as cmp
use Rattle.jp_query.specs.declared.JoinKind.{JoinKind}
use Rattle.jp_query.specs.declared.Expr.{Expr}
use Rattle.jp_query.specs.declared.JoinTree.{JoinTree}
use Rattle.jp_query.specs.declared.Query.{Query}
use Rattle.jp_query.specs.declared.Expr.TheOpen.{Expr-F, JoinTree-F}
use Rattle.jp_query.specs.declared.Expr.TheViews.{roll-Expr, roll-JoinTree, roll-Query}

abbrev pub number : ℕ → Expr
number n = roll-Expr (Expr-F.Lit (value.Num (pos n)) ty.Number)

abbrev pub null : Expr
null = roll-Expr (Expr-F.Lit value.Null ty.Number)

abbrev pub truth : Bool → Expr
truth b = roll-Expr (Expr-F.Lit (value.Bool b) ty.Boolean)

abbrev pub unknown : Expr
unknown = roll-Expr (Expr-F.Lit value.Null ty.Boolean)

abbrev pub column : Expr
column = roll-Expr (Expr-F.Col 0 0 ty.Number 0)

-- a boolean column
abbrev pub flag : ℕ → Expr
flag c = roll-Expr (Expr-F.Col 0 c ty.Boolean 0)

abbrev pub sum : Expr → Expr → Expr
sum left right = roll-Expr (Expr-F.Sum ((false, left) ∷ (false, right) ∷ []))

abbrev pub product : Expr → Expr → Expr
product left right = roll-Expr (Expr-F.Product (left ∷ right ∷ []))

abbrev pub and : List Expr → Expr
and members = roll-Expr (Expr-F.And members)

abbrev pub or : List Expr → Expr
or members = roll-Expr (Expr-F.Or members)

abbrev pub is_in : Expr → List Expr → Expr
is_in operand list = roll-Expr (Expr-F.InList operand list)

abbrev pub coalesce : List Expr → Expr
coalesce members = roll-Expr (Expr-F.Coalesce members)

abbrev pub case_when : Expr → Expr → Expr → Expr
case_when condition then otherwise = roll-Expr (Expr-F.Case None ((condition, then) ∷ []) (Some otherwise))

abbrev pub placeholder : Expr → Expr
placeholder inner = roll-Expr (Expr-F.Place inner 2)

abbrev pub table : ℕ → JoinTree
table rel = roll-JoinTree (JoinTree-F.Base rel [] rel)

abbrev pub join : JoinKind → JoinTree → JoinTree → List Expr → JoinTree
join kind left right on = roll-JoinTree (JoinTree-F.Join kind left right on)

abbrev pub select : JoinTree → List Expr → Query
select tree conds = roll-Query (record { columns = []; distinct = false; tree = tree; conds = conds; order = [] })

abbrev pub inner_select : ℕ → Query → JoinTree
inner_select rel query = roll-JoinTree (JoinTree-F.Sub rel [] query)

abbrev pub in_select : Expr → Query → Expr
in_select operand query = roll-Expr (Expr-F.InSub 1 operand query)

-- Constructors of the trees that the examples are written with.
use Rattle.std.specs.Prelude.{ℕ, pos, neg_ℤ, Bool, true, false, List, [], ◌∷◌, Option}
use Rattle.jp_base.specs.declared.values.Ty.{Ty}
use Rattle.jp_base.specs.declared.values.Ty.TheVariants as ty
use Rattle.jp_base.specs.declared.values.Value.{Value}
use Rattle.jp_base.specs.declared.values.Value.TheVariants as value
use Rattle.jp_query.specs.declared.Expr.TheViews.{roll-Expr, roll-JoinTree, roll-Order, roll-Output, roll-Query}
use Rattle.jp_query.specs.declared.CmpOp.{CmpOp}
use Rattle.jp_query.specs.declared.JoinKind.{JoinKind}
use Rattle.jp_query.specs.declared.Expr.{Expr}
use Rattle.jp_query.specs.declared.JoinTree.{JoinTree}
use Rattle.jp_query.specs.declared.Order.{Order}
use Rattle.jp_query.specs.declared.Output.{Output}
use Rattle.jp_query.specs.declared.Query.{Query}
use Rattle.jp_query.specs.declared.Expr.TheOpen.{Expr-F, JoinTree-F}

-- ---- values

abbrev pub number : ℕ → Value
number n = value.Num (pos n)

abbrev pub minus : ℕ → Value
minus n = value.Num (neg_ℤ (pos n))

abbrev pub null : Value
null = value.Null

-- ---- expressions

abbrev pub literal : Value → Expr
literal v = roll-Expr (Expr-F.Lit v ty.Number)

abbrev pub num : ℕ → Expr
num n = literal (number n)

abbrev pub nothing : Expr
nothing = literal null

abbrev pub truth : Value → Expr
truth v = roll-Expr (Expr-F.Lit v ty.Boolean)

abbrev pub yes : Expr
yes = truth (value.Bool true)

abbrev pub no : Expr
no = truth (value.Bool false)

abbrev pub unknown : Expr
unknown = truth null

abbrev pub text : List ℕ → Expr
text s = roll-Expr (Expr-F.Lit (value.Text s) ty.Text)

abbrev pub negative : Expr → Expr
negative operand = roll-Expr (Expr-F.Neg operand)

abbrev pub less : Expr → Expr → Expr
less left right = roll-Expr (Expr-F.Sum ((false, left) ∷ (true, right) ∷ []))

abbrev pub concat : Expr → Expr → Expr
concat left right = roll-Expr (Expr-F.Concat (left ∷ right ∷ []))

abbrev pub compare : CmpOp → Expr → Expr → Expr
compare op left right = roll-Expr (Expr-F.Compare op left right)

abbrev pub between : Expr → Expr → Expr → Expr
between operand low high = roll-Expr (Expr-F.Between operand low high)

abbrev pub in_list : Expr → List Expr → Expr
in_list operand list = roll-Expr (Expr-F.InList operand list)

abbrev pub in_query : ℕ → Expr → Query → Expr
in_query sub operand query = roll-Expr (Expr-F.InSub sub operand query)

abbrev pub not : Expr → Expr
not operand = roll-Expr (Expr-F.Not operand)

abbrev pub or : Expr → Expr → Expr
or left right = roll-Expr (Expr-F.Or (left ∷ right ∷ []))

abbrev pub coalesce : List Expr → Expr
coalesce members = roll-Expr (Expr-F.Coalesce members)

-- an arm of CASE
abbrev pub when : Expr → Expr → Expr × Expr
when first result = (first, result)

abbrev pub case : Option Expr → List (Expr × Expr) → Option Expr → Expr
case operand arms otherwise = roll-Expr (Expr-F.Case operand arms otherwise)

-- ---- join trees and queries

abbrev pub table : ℕ → ℕ → JoinTree
table rel n = roll-JoinTree (JoinTree-F.Base rel [] n)

abbrev pub sub_select : ℕ → Query → JoinTree
sub_select rel query = roll-JoinTree (JoinTree-F.Sub rel [] query)

abbrev pub join : JoinKind → JoinTree → JoinTree → List Expr → JoinTree
join kind left right on = roll-JoinTree (JoinTree-F.Join kind left right on)

abbrev pub from : List JoinTree → List Expr → JoinTree
from members conds = roll-JoinTree (JoinTree-F.From members conds)

abbrev pub output : Ty → Expr → Output
output t e = roll-Output (record { name = []; ty = t; expr = e })

abbrev pub numeric : Expr → Output
numeric = output ty.Number

abbrev pub item : Expr → Bool → Bool → Order
item e desc nulls_first = roll-Order (record { expr = e; desc = desc; nulls_first = nulls_first })

abbrev pub query : Bool → List Output → JoinTree → List Expr → List Order → Query
query distinct columns tree conds order = roll-Query (record { columns = columns; distinct = distinct; tree = tree; conds = conds; order = order })

-- SELECT .. FROM .. WHERE
abbrev pub select : List Output → JoinTree → List Expr → Query
select columns tree conds = query false columns tree conds []

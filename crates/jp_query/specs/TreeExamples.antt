-- Small trees that the conditions and tests are run on.
use Rattle.std.specs.Prelude.{ℕ, ◌^◌, pos, false, List, [], ◌∷◌, Option, Some, None}
use Rattle.jp_base.specs.declared.values.Value.TheVariants as value
use Rattle.jp_base.specs.declared.values.Ty.TheVariants as ty
use Rattle.jp_query.specs.declared.CmpOp.TheVariants as cmp
use Rattle.jp_query.specs.declared.IsTest.{IsTest}
use Rattle.jp_query.specs.declared.JoinKind.{JoinKind}
use Rattle.jp_query.specs.declared.Expr.TheViews.{roll-Expr, roll-JoinTree, roll-Order, roll-Output, roll-Query}
use Rattle.jp_query.specs.Layers.{Expr, JoinTree, Query, Expr-F, JoinTree-F}
use Rattle.jp_query.specs.Scopes.{Column, Schema}
use Rattle.jp_query.specs.Meaning.{Row}
use Rattle.jp_query.specs.Freshness.{Sublink}

-- two tables of two columns of 64-bit numbers
abbrev pub number_column : Column
number_column = record { type = ty.Number; bound = 2 ^ 63 }

abbrev pub schema : Schema
schema = (number_column ∷ number_column ∷ []) ∷ (number_column ∷ number_column ∷ []) ∷ []

abbrev pub col : ℕ → ℕ → Expr
col rel c = roll-Expr (Expr-F.Col rel c ty.Number 0)

abbrev pub one : Expr
one = roll-Expr (Expr-F.Lit (value.Num (pos 1)) ty.Number)

abbrev pub equals : Expr → Expr → Expr
equals left right = roll-Expr (Expr-F.Compare cmp.Eq left right)

abbrev pub test : IsTest → Expr → Expr
test t operand = roll-Expr (Expr-F.Test t operand)

abbrev pub product : Expr → Expr → Expr
product left right = roll-Expr (Expr-F.Product (left ∷ right ∷ []))

abbrev pub sum : Expr → Expr → Expr
sum left right = roll-Expr (Expr-F.Sum ((false, left) ∷ (false, right) ∷ []))

abbrev pub coalesce : Expr → Expr → Expr
coalesce left right = roll-Expr (Expr-F.Coalesce (left ∷ right ∷ []))

abbrev pub placeholder : Expr → ℕ → Expr
placeholder inner rels = roll-Expr (Expr-F.Place inner rels)

abbrev pub exists_by : ℕ → Query → Expr
exists_by sub query = roll-Expr (Expr-F.Exists sub query)

abbrev pub exists : Query → Expr
exists = exists_by 1

abbrev pub and : Expr → Expr → Expr
and left right = roll-Expr (Expr-F.And (left ∷ right ∷ []))

abbrev pub a : JoinTree
a = roll-JoinTree (JoinTree-F.Base 0 [] 0)

abbrev pub b : JoinTree
b = roll-JoinTree (JoinTree-F.Base 1 [] 1)

abbrev pub all : List JoinTree → JoinTree
all members = roll-JoinTree (JoinTree-F.From members [])

-- a join of a and b ON a.0 = b.1
abbrev pub a_with_b : JoinKind → JoinTree
a_with_b kind = roll-JoinTree (JoinTree-F.Join kind a b (equals (col 0 0) (col 1 1) ∷ []))

abbrev pub select : Expr → JoinTree → List Expr → Query
select e tree conds = roll-Query (record { columns = roll-Output (record { name = []; ty = ty.Number; expr = e }) ∷ []; distinct = false; tree = tree; conds = conds; order = [] })

-- SELECT 1 FROM b WHERE b.1 = a.0
abbrev pub inner_select : Query
inner_select = select one b (equals (col 1 1) (col 0 0) ∷ [])

-- SELECT e FROM a ORDER BY e
abbrev pub ordered_by_itself : Expr → Query
ordered_by_itself e = roll-Query (record {
  columns = roll-Output (record { name = []; ty = ty.Boolean; expr = e }) ∷ [];
  distinct = false;
  tree = a;
  conds = [];
  order = roll-Order (record { expr = e; desc = false; nulls_first = false }) ∷ [];
})

abbrev pub number_of : Sublink → ℕ
number_of sublink = sublink.number

-- one record of the first table, and no second table
abbrev pub some_tables : List (Option (List Row))
some_tables = Some ((value.Num (pos 1) ∷ value.Null ∷ []) ∷ []) ∷ None ∷ []

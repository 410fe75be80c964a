-- What folding makes of a query: literals are computed, AND and OR are made shorter, and no Right join is left. A step for
-- each level gets the level with its parts folded.
use Rattle.std.specs.Prelude.{ℕ, Bool, true, false, List, [], ◌∷◌, map, Option, Some, None, is_some, if◌then◌else◌}
use Rattle.std.specs.List.{list_all, list_any}
use Rattle.jp_base.specs.declared.values.Ty.{Ty}
use Rattle.jp_base.specs.declared.values.Ty.TheVariants as ty
use Rattle.jp_base.specs.declared.values.Value.{Value}
use Rattle.jp_base.specs.declared.values.Value.TheVariants as value
use Rattle.jp_query.specs.declared.JoinKind.TheVariants as join
use Rattle.jp_query.specs.declared.Expr.{Expr, out-Expr}
use Rattle.jp_query.specs.declared.JoinTree.{JoinTree}
use Rattle.jp_query.specs.declared.Order.{Order}
use Rattle.jp_query.specs.declared.Output.{Output}
use Rattle.jp_query.specs.declared.Query.{Query}
use Rattle.jp_query.specs.declared.Expr.TheOpen.{Expr-F, JoinTree-F, Query-F}
use Rattle.jp_query.specs.declared.Expr.TheViews.{roll-Expr, roll-JoinTree, roll-Order, roll-Output, roll-Query}
use Rattle.jp_query.specs.declared.Expr.TheFolds.{fold-Expr, fold-JoinTree, fold-Query}
use Rattle.jp_query.specs.Layers.{ExprLayer, JoinTreeLayer, QueryLayer}
use Rattle.jp_query.specs.Meaning.{no_tables, no_outer_rows, value_given}
use Rattle.jp_query.specs.Parts.{all_in, parts}
use Rattle.jp_query.specs.Typing.{Typed, type_of}

-- ---- literals

abbrev pub literal_at : ExprLayer → Option Value
literal_at (Expr-F.Lit v t) = Some v
literal_at x = None

-- the value of a literal, and none for other expressions
abbrev pub literal_of : Expr → Option Value
literal_of e = literal_at (out-Expr e)

abbrev pub is_literal : Expr → Bool
is_literal e = is_some (literal_of e)

abbrev pub is_null_of : Option Value → Bool
is_null_of (Some value.Null) = true
is_null_of _ = false

abbrev pub is_null : Expr → Bool
is_null e = is_null_of (literal_of e)

abbrev pub is_true_of : Option Value → Bool
is_true_of (Some (value.Bool b)) = b
is_true_of _ = false

abbrev pub is_true : Expr → Bool
is_true e = is_true_of (literal_of e)

abbrev pub is_false_of : Option Value → Bool
is_false_of (Some (value.Bool true)) = false
is_false_of (Some (value.Bool false)) = true
is_false_of _ = false

abbrev pub is_false : Expr → Bool
is_false e = is_false_of (literal_of e)

abbrev pub literal : Value → Ty → Expr
literal v t = roll-Expr (Expr-F.Lit v t)

abbrev pub truth_literal : Bool → Expr
truth_literal b = literal (value.Bool b) ty.Boolean

-- the type of a typed expression
abbrev pub type_or_text : Typed → Ty
type_or_text (Some t) = t
type_or_text None = ty.Text

abbrev pub type_at : ExprLayer → Ty
type_at x = type_or_text (type_of (roll-Expr x))

-- ---- operators

abbrev pub has_literals_alone : ExprLayer → Bool
has_literals_alone x = list_all is_literal (parts x)

-- an operator of literals becomes the literal that is made of it
abbrev pub if_made : (ExprLayer → Expr) → ExprLayer → Expr → Expr
if_made made x otherwise = if has_literals_alone x then made x else otherwise

-- an operator that is NULL where an operand is, with the type that is made of it
abbrev pub if_null_of : (ExprLayer → Ty) → ExprLayer → Expr
if_null_of type x = if list_any is_null (parts x) then literal value.Null (type x) else roll-Expr x

-- The literal of an operator of literals has its value and its type. It refers to nothing, so that it has one value
-- everywhere.
abbrev pub computed : ExprLayer → Expr
computed x = literal (value_given no_tables (roll-Expr x) no_outer_rows) (type_at x)

abbrev pub if_computed : ExprLayer → Expr → Expr
if_computed = if_made computed

abbrev pub if_null : ExprLayer → Expr
if_null = if_null_of type_at

-- ---- AND and OR

-- what a member of AND gives to it: nothing where it is TRUE, its members where it is an AND itself
abbrev pub and_at : ExprLayer → Expr → List Expr
and_at (Expr-F.And members) e = members
and_at (Expr-F.Lit (value.Bool true) t) e = []
and_at x e = e ∷ []

abbrev pub and_members : Expr → List Expr
and_members e = and_at (out-Expr e) e

abbrev pub or_at : ExprLayer → Expr → List Expr
or_at (Expr-F.Or members) e = members
or_at (Expr-F.Lit (value.Bool false) t) e = []
or_at x e = e ∷ []

abbrev pub or_members : Expr → List Expr
or_members e = or_at (out-Expr e) e

abbrev pub one_and : List Expr → Expr
one_and [] = truth_literal true
one_and (e ∷ []) = e
one_and members = roll-Expr (Expr-F.And members)

abbrev pub one_or : List Expr → Expr
one_or [] = truth_literal false
one_or (e ∷ []) = e
one_or members = roll-Expr (Expr-F.Or members)

abbrev pub folded_and : List Expr → Expr
folded_and members = if list_any is_false members then truth_literal false else one_and (all_in (map and_members members))

abbrev pub folded_or : List Expr → Expr
folded_or members = if list_any is_true members then truth_literal true else one_or (all_in (map or_members members))

-- ---- the steps

-- The steps, with what literal and what type are made of an operator. Columns, literals, placeholders and sublinks stay.
module _ (made : ExprLayer → Expr) (type : ExprLayer → Ty) where
  abbrev pub strict_by : ExprLayer → Expr
  strict_by x = if_made made x (if_null_of type x)

  abbrev pub expr_by : ExprLayer → Expr
  expr_by (Expr-F.Neg operand) = strict_by (Expr-F.Neg operand)
  expr_by (Expr-F.Sum terms) = strict_by (Expr-F.Sum terms)
  expr_by (Expr-F.Product factors) = strict_by (Expr-F.Product factors)
  expr_by (Expr-F.Concat pieces) = strict_by (Expr-F.Concat pieces)
  expr_by (Expr-F.Compare op left right) = strict_by (Expr-F.Compare op left right)
  expr_by (Expr-F.And members) = if_made made (Expr-F.And members) (folded_and members)
  expr_by (Expr-F.Or members) = if_made made (Expr-F.Or members) (folded_or members)
  expr_by (Expr-F.Col rel col t nulled) = roll-Expr (Expr-F.Col rel col t nulled)
  expr_by (Expr-F.Lit v t) = roll-Expr (Expr-F.Lit v t)
  expr_by (Expr-F.Place inner rels) = roll-Expr (Expr-F.Place inner rels)
  expr_by (Expr-F.Exists sub query) = roll-Expr (Expr-F.Exists sub query)
  expr_by (Expr-F.InSub sub operand query) = roll-Expr (Expr-F.InSub sub operand query)
  expr_by x = if_made made x (roll-Expr x)

  -- a list of conditions is folded as their AND
  abbrev pub conditions_by : List Expr → List Expr
  conditions_by members = and_members (expr_by (Expr-F.And members))

  abbrev pub tree_by : JoinTreeLayer → JoinTree
  tree_by (JoinTree-F.Join join.Right left right on) = roll-JoinTree (JoinTree-F.Join join.Left right left (conditions_by on))
  tree_by (JoinTree-F.Join kind left right on) = roll-JoinTree (JoinTree-F.Join kind left right (conditions_by on))
  tree_by (JoinTree-F.From members conds) = roll-JoinTree (JoinTree-F.From members (conditions_by conds))
  tree_by t = roll-JoinTree t

  abbrev pub query_by : QueryLayer → Query
  query_by q = roll-Query (record q { conds = conditions_by q.conds })

abbrev pub expr_folded : ExprLayer → Expr
expr_folded = expr_by computed type_at

abbrev pub conditions_folded : List Expr → List Expr
conditions_folded = conditions_by computed type_at

abbrev pub tree_folded : JoinTreeLayer → JoinTree
tree_folded = tree_by computed type_at

abbrev pub query_folded : QueryLayer → Query
query_folded = query_by computed type_at

abbrev pub folded_expr : Expr → Expr
folded_expr = fold-Expr Expr JoinTree Order Output Query expr_folded tree_folded roll-Order roll-Output query_folded

abbrev pub folded_tree : JoinTree → JoinTree
folded_tree = fold-JoinTree Expr JoinTree Order Output Query expr_folded tree_folded roll-Order roll-Output query_folded

abbrev pub folded : Query → Query
folded = fold-Query Expr JoinTree Order Output Query expr_folded tree_folded roll-Order roll-Output query_folded

-- The types of expressions, and which expressions are typed: whose operators have operands of the types that they take.
use Rattle.std.specs.Prelude.{◌≡◌, ◌&&◌, ◌^◌, Bool, true, false, nat_lt, List, [], ◌∷◌, ◌++◌, map, Option, Some, None, is_some, IsSome, if◌then◌else◌}
use Rattle.std.specs.List.{list_all}
use Rattle.jp_base.specs.declared.values.Ty.{Ty}
use Rattle.jp_base.specs.declared.values.Ty.TheVariants as ty
use Rattle.jp_base.specs.declared.values.Value.{Value}
use Rattle.jp_base.specs.declared.values.Value.TheVariants as value
use Rattle.jp_query.specs.declared.IsTest.{IsTest}
use Rattle.jp_query.specs.declared.IsTest.TheVariants as is
use Rattle.jp_query.specs.Layers.{Expr, JoinTree, Query, Expr-F, JoinTree-F, Order-F, Output-F, Query-F, fold-Expr, fold-JoinTree, fold-Query}
use Rattle.jp_query.specs.Parts.{term_part, option_part}
use Rattle.jp_query.specs.Scopes.{arm_result}

abbrev pub same_type : Ty → Ty → Bool
same_type ty.Number ty.Number = true
same_type ty.Boolean ty.Boolean = true
same_type ty.Text ty.Text = true
same_type _ _ = false

-- the type of an expression, or none where it isn't typed
abbrev pub Typed : Type 0
Typed = Option Ty

abbrev pub is_of : Ty → Typed → Bool
is_of t (Some type) = same_type t type
is_of t None = false

abbrev pub typed_if : Bool → Ty → Typed
typed_if test t = if test then Some t else None

abbrev pub is_listed : {A : Type 0} → List A → Bool
is_listed [] = false
is_listed (x ∷ xs) = true

-- at least one, and all of the type
abbrev pub are_all : Ty → List Typed → Bool
are_all t types = is_listed types && list_all (is_of t) types

-- the one type of at least one
abbrev pub one_type : List Typed → Typed
one_type [] = None
one_type (None ∷ types) = None
one_type (Some t ∷ types) = typed_if (list_all (is_of t) types) t

-- a literal is NULL or of its stated type
abbrev pub is_literal : Value → Ty → Bool
is_literal value.Null t = true
is_literal (value.Num n) t = same_type ty.Number t
is_literal (value.Bool b) t = same_type ty.Boolean t
is_literal (value.Text s) t = same_type ty.Text t

-- IS NULL takes every type, the other tests booleans
abbrev pub can_test : IsTest → Typed → Bool
can_test is.Null type = is_some type
can_test is.NotNull type = is_some type
can_test _ type = is_of ty.Boolean type

abbrev pub arm_when : {A : Type 0} → A × A → A
arm_when arm = arm.0

-- without an operand the arms' first expressions are conditions; with one they have its type
abbrev pub are_whens : Option Typed → List Typed → Bool
are_whens None whens = are_all ty.Boolean whens
are_whens (Some operand) whens = is_listed whens && is_some (one_type (operand ∷ whens))

-- Whether a query's expressions are typed, its outputs have their stated types and its condition lists, ON lists among
-- them, hold booleans; and the stated types of its outputs.
pub record TypedQuery : Type 0 where
  pub is_typed : Bool
  pub outputs : List Ty

pub record TypedOutput : Type 0 where
  pub is_typed : Bool
  pub type : Ty

-- the query of an IN has one output, of the operand's type
abbrev pub is_one_of : Typed → List Ty → Bool
is_one_of operand (t ∷ []) = is_of t operand
is_one_of operand _ = false

-- the relation numbers of a typed expression lie below 64, those of the leaves in its sublinks too
abbrev pub expr_type : Expr-F Typed Bool Typed TypedOutput TypedQuery → Typed
expr_type (Expr-F.Col rel col t nulled) = typed_if (nat_lt rel 64) t
expr_type (Expr-F.Lit v t) = typed_if (is_literal v t) t
expr_type (Expr-F.Place inner rels) = if nat_lt rels (2 ^ 64) then inner else None
expr_type (Expr-F.Neg operand) = typed_if (is_of ty.Number operand) ty.Number
expr_type (Expr-F.Sum terms) = typed_if (are_all ty.Number (map term_part terms)) ty.Number
expr_type (Expr-F.Product factors) = typed_if (are_all ty.Number factors) ty.Number
expr_type (Expr-F.Concat parts) = typed_if (are_all ty.Text parts) ty.Text
expr_type (Expr-F.Compare op left right) = typed_if (is_some (one_type (left ∷ right ∷ []))) ty.Boolean
expr_type (Expr-F.Between operand low high) = typed_if (is_some (one_type (operand ∷ low ∷ high ∷ []))) ty.Boolean
expr_type (Expr-F.InList operand list) = typed_if (is_listed list && is_some (one_type (operand ∷ list))) ty.Boolean
expr_type (Expr-F.And members) = typed_if (are_all ty.Boolean members) ty.Boolean
expr_type (Expr-F.Or members) = typed_if (are_all ty.Boolean members) ty.Boolean
expr_type (Expr-F.Not operand) = typed_if (is_of ty.Boolean operand) ty.Boolean
expr_type (Expr-F.Test test operand) = typed_if (can_test test operand) ty.Boolean
expr_type (Expr-F.Coalesce members) = one_type members
expr_type (Expr-F.Case operand arms otherwise) = if are_whens operand (map arm_when arms) then one_type (map arm_result arms ++ option_part otherwise) else None
expr_type (Expr-F.Exists sub query) = typed_if query.is_typed ty.Boolean
expr_type (Expr-F.InSub sub operand query) = typed_if (query.is_typed && is_one_of operand query.outputs) ty.Boolean

-- a list of conditions
abbrev pub are_conditions : List Typed → Bool
are_conditions members = list_all (is_of ty.Boolean) members

abbrev pub is_true_test : Bool → Bool
is_true_test b = b

abbrev pub tree_typed : JoinTree-F Typed Bool Typed TypedOutput TypedQuery → Bool
tree_typed (JoinTree-F.Base rel name table) = nat_lt rel 64
tree_typed (JoinTree-F.Sub rel name query) = nat_lt rel 64 && query.is_typed
tree_typed (JoinTree-F.Join kind left right on) = left && (right && are_conditions on)
tree_typed (JoinTree-F.From members conds) = list_all is_true_test members && are_conditions conds

abbrev pub order_typed : Order-F Typed Bool Typed TypedOutput TypedQuery → Typed
order_typed order = order.expr

abbrev pub output_typed : Output-F Typed Bool Typed TypedOutput TypedQuery → TypedOutput
output_typed output = record { is_typed = is_of output.ty output.expr; type = output.ty }

abbrev pub output_is_typed : TypedOutput → Bool
output_is_typed output = output.is_typed

abbrev pub output_type : TypedOutput → Ty
output_type output = output.type

abbrev pub query_typed : Query-F Typed Bool Typed TypedOutput TypedQuery → TypedQuery
query_typed query = record {
  is_typed = list_all output_is_typed query.columns && (query.tree && (are_conditions query.conds && list_all is_some query.order));
  outputs = map output_type query.columns;
}

abbrev pub type_of : Expr → Typed
type_of = fold-Expr Typed Bool Typed TypedOutput TypedQuery expr_type tree_typed order_typed output_typed query_typed

abbrev pub tree_is_typed : JoinTree → Bool
tree_is_typed = fold-JoinTree Typed Bool Typed TypedOutput TypedQuery expr_type tree_typed order_typed output_typed query_typed

abbrev pub typed_query : Query → TypedQuery
typed_query = fold-Query Typed Bool Typed TypedOutput TypedQuery expr_type tree_typed order_typed output_typed query_typed

abbrev pub IsTypedExpr : Expr → Type 0
IsTypedExpr expr = IsSome (type_of expr)

abbrev pub IsBoolean : Expr → Type 0
IsBoolean expr = type_of expr ≡ Some ty.Boolean

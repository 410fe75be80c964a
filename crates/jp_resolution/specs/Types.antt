-- Which operands a node takes, and what it then is. A node's operands are given first; then its type is judged, then its
-- bound, each at the node's place.
use Rattle.std.specs.Prelude.{ℕ, nat_abs, ℤ, ◌&&◌, Bool, true, false, List, [], ◌∷◌, ◌++◌, map, sum, Option, Some, None, option_map, Ok}
use Rattle.std.specs.List.{list_all}
use Rattle.jp_base.specs.declared.values.Ty.{Ty}
use Rattle.jp_base.specs.declared.values.Ty.TheVariants as ty
use Rattle.jp_base.specs.declared.values.Value.TheVariants as value
use Rattle.jp_ast.specs.declared.tree.CmpWord.TheVariants as word
use Rattle.jp_ast.specs.declared.tree.IsWord.TheVariants as test
use Rattle.jp_query.specs.declared.CmpOp.{CmpOp}
use Rattle.jp_query.specs.declared.CmpOp.TheVariants as cmp
use Rattle.jp_query.specs.declared.IsTest.{IsTest}
use Rattle.jp_query.specs.declared.IsTest.TheVariants as is
use Rattle.jp_query.specs.declared.Expr.{Expr}
use Rattle.jp_query.specs.declared.Expr.TheVariants as expr
use Rattle.jp_query.specs.Conditions.{fits}
use Rattle.jp_query.specs.Conjuncts.{conjuncts}
use Rattle.jp_query.specs.Parts.{option_part, term_part}
use Rattle.jp_query.specs.Scopes.{greatest, product, arm_result}
use Rattle.jp_query.specs.Typing.{same_type, arm_when}
use Rattle.jp_resolution.specs.Layers.{CmpWord, IsWord, TypedExpr}
use Rattle.jp_resolution.specs.declared.error.ResolveError.TheVariants.{TypeMismatch, NumberTooWide}
use Rattle.jp_resolution.specs.Answers.{Answer, ◌>>=◌, only_if}

-- ---- the type that an operand takes

abbrev pub takes_type : Ty → Option Ty → Bool
takes_type needed (Some type) = same_type needed type
takes_type needed None = true

-- A NULL literal takes every type, else the operand has the one that is needed.
abbrev pub can_be : Ty → TypedExpr → Bool
can_be needed operand = takes_type needed operand.ty

abbrev pub with_type : Ty → Expr → Option Ty → Expr
with_type needed e (Some type) = e
with_type needed e None = expr.Lit value.Null needed

-- A NULL literal takes the type that the node or condition needs in which it stands directly.
abbrev pub expr_as : Ty → TypedExpr → Expr
expr_as needed operand = with_type needed operand.expr operand.ty

abbrev pub or_type : Option Ty → Ty → Ty
or_type (Some type) other = type
or_type None other = other

-- The type that operands need which have to be of one: that of the first that is no NULL literal; text where all are.
abbrev pub common_type : List TypedExpr → Ty
common_type [] = ty.Text
common_type (operand ∷ operands) = or_type operand.ty (common_type operands)

-- whether the operands are of one type
abbrev pub are_of_one_type : List TypedExpr → Bool
are_of_one_type operands = list_all (can_be (common_type operands)) operands

-- Where nothing is needed, a NULL literal is a text.
abbrev pub own_type : TypedExpr → Ty
own_type e = or_type e.ty ty.Text

abbrev pub own_expr : TypedExpr → Expr
own_expr e = expr_as (own_type e) e

-- ---- what a node is

abbrev pub typed : Ty → Expr → ℕ → TypedExpr
typed type e bound = record { ty = Some type; expr = e; bound = bound }

-- texts and booleans have no numbers
abbrev pub truth : Expr → TypedExpr
truth e = typed ty.Boolean e 0

abbrev pub text : Expr → TypedExpr
text e = typed ty.Text e 0

abbrev pub bound_in : TypedExpr → ℕ
bound_in e = e.bound

-- the node where its operands have the types that it needs
abbrev pub typed_if : ℕ → Bool → TypedExpr → Answer TypedExpr
typed_if at passes node = only_if passes (TypeMismatch at) node

-- A bound above 2^127-1 is refused.
abbrev pub bounded : ℕ → TypedExpr → Answer TypedExpr
bounded at e = only_if (fits e.bound) (NumberTooWide at) e

-- ---- literals

-- A literal has its value as its bound.
abbrev pub number_literal : ℕ → ℤ → Answer TypedExpr
number_literal at n = bounded at (typed ty.Number (expr.Lit (value.Num n) ty.Number) (nat_abs n))

abbrev pub text_literal : List ℕ → Answer TypedExpr
text_literal bytes = Ok (text (expr.Lit (value.Text bytes) ty.Text))

abbrev pub truth_literal : Bool → Answer TypedExpr
truth_literal b = Ok (truth (expr.Lit (value.Bool b) ty.Boolean))

-- NULL has no type of its own.
abbrev pub null_literal : Answer TypedExpr
null_literal = Ok (record { ty = None; expr = expr.Lit value.Null ty.Text; bound = 0 })

-- ---- `+`, `-`, `*` need numbers

-- A sign leaves the bound; `+` leaves no node.
abbrev pub signed_expr : Bool → Expr → Expr
signed_expr true e = expr.Neg e
signed_expr false e = e

abbrev pub sign_node : ℕ → Bool → TypedExpr → Answer TypedExpr
sign_node at minus e = typed_if at (can_be ty.Number e) (typed ty.Number (signed_expr minus (expr_as ty.Number e)) e.bound)

abbrev pub term_as : Ty → Bool × TypedExpr → Bool × Expr
term_as needed term = (term.0, expr_as needed term.1)

-- A sum or difference has the sum of the bounds.
abbrev pub sum_node : ℕ → List (Bool × TypedExpr) → Answer TypedExpr
sum_node at terms = do
  node ← typed_if at (list_all (can_be ty.Number) (map term_part terms))
      (typed ty.Number (expr.Sum (map (term_as ty.Number) terms)) (sum (map bound_in (map term_part terms))))
  bounded at node

-- A product has the product of the bounds.
abbrev pub product_node : ℕ → List TypedExpr → Answer TypedExpr
product_node at factors = do
  node ← typed_if at (list_all (can_be ty.Number) factors) (typed ty.Number (expr.Product (map (expr_as ty.Number) factors)) (product (map bound_in factors)))
  bounded at node

-- ---- `||` needs texts

abbrev pub concat_node : ℕ → List TypedExpr → Answer TypedExpr
concat_node at parts = typed_if at (list_all (can_be ty.Text) parts) (text (expr.Concat (map (expr_as ty.Text) parts)))

-- ---- comparison, BETWEEN, IN and simple CASE need one type on all sides

abbrev pub op_of : CmpWord → CmpOp
op_of word.Eq = cmp.Eq
op_of word.Ne = cmp.Ne
op_of word.Lt = cmp.Lt
op_of word.Le = cmp.Le
op_of word.Gt = cmp.Gt
op_of word.Ge = cmp.Ge

abbrev pub comparison : CmpWord → Ty → TypedExpr × TypedExpr → TypedExpr
comparison op type sides = truth (expr.Compare (op_of op) (expr_as type sides.0) (expr_as type sides.1))

abbrev pub compare_node : ℕ → CmpWord → TypedExpr × TypedExpr → Answer TypedExpr
compare_node at op sides =
    let operands = sides.0 ∷ sides.1 ∷ [] in
    typed_if at (are_of_one_type operands) (comparison op (common_type operands) sides)

-- the operand, the low and the high end
abbrev pub range : Ty → TypedExpr × (TypedExpr × TypedExpr) → TypedExpr
range type parts = truth (expr.Between (expr_as type parts.0) (expr_as type parts.1.0) (expr_as type parts.1.1))

abbrev pub between_node : ℕ → TypedExpr × (TypedExpr × TypedExpr) → Answer TypedExpr
between_node at parts =
    let operands = parts.0 ∷ parts.1.0 ∷ parts.1.1 ∷ [] in
    typed_if at (are_of_one_type operands) (range (common_type operands) parts)

abbrev pub membership : Ty → TypedExpr × List TypedExpr → TypedExpr
membership type parts = truth (expr.InList (expr_as type parts.0) (map (expr_as type) parts.1))

abbrev pub in_list_node : ℕ → TypedExpr × List TypedExpr → Answer TypedExpr
in_list_node at parts =
    let operands = parts.0 ∷ parts.1 in
    typed_if at (are_of_one_type operands) (membership (common_type operands) parts)

-- ---- AND, OR, NOT and the tests of IS but IS NULL need booleans

abbrev pub booleans : List TypedExpr → List Expr
booleans operands = map (expr_as ty.Boolean) operands

abbrev pub and_node : ℕ → List TypedExpr → Answer TypedExpr
and_node at members = typed_if at (list_all (can_be ty.Boolean) members) (truth (expr.And (booleans members)))

abbrev pub or_node : ℕ → List TypedExpr → Answer TypedExpr
or_node at members = typed_if at (list_all (can_be ty.Boolean) members) (truth (expr.Or (booleans members)))

abbrev pub not_node : ℕ → TypedExpr → Answer TypedExpr
not_node at operand = typed_if at (can_be ty.Boolean operand) (truth (expr.Not (expr_as ty.Boolean operand)))

abbrev pub test_of : IsWord → Bool → IsTest
test_of test.Null false = is.Null
test_of test.Null true = is.NotNull
test_of test.True false = is.True
test_of test.True true = is.NotTrue
test_of test.False false = is.False
test_of test.False true = is.NotFalse
test_of test.Unknown false = is.Unknown
test_of test.Unknown true = is.NotUnknown

abbrev pub test_node : Ty → Bool → IsWord → TypedExpr → TypedExpr
test_node type negated word operand = truth (expr.Test (test_of word negated) (expr_as type operand))

-- IS NULL takes every type.
abbrev pub is_node : ℕ → Bool → IsWord → TypedExpr → Answer TypedExpr
is_node at negated test.Null operand = Ok (test_node (own_type operand) negated test.Null operand)
is_node at negated word operand = typed_if at (can_be ty.Boolean operand) (test_node ty.Boolean negated word operand)

-- ---- the results of COALESCE and CASE need one type, and the greatest of their bounds is the node's

abbrev pub coalesce_node : ℕ → List TypedExpr → Answer TypedExpr
coalesce_node at list =
    let type = common_type list in
    typed_if at (are_of_one_type list) (typed type (expr.Coalesce (map (expr_as type) list)) (greatest (map bound_in list)))

-- what CASE is made of: the operand, the arms and what stands behind ELSE
pub record CaseParts : Type 0 where
  pub operand : Option TypedExpr
  pub arms : List (TypedExpr × TypedExpr)
  pub otherwise : Option TypedExpr

-- Without an operand what stands behind WHEN is a condition; with one it is of the operand's type.
abbrev pub when_type : Option TypedExpr → List TypedExpr → Ty
when_type (Some operand) whens = common_type (operand ∷ whens)
when_type None whens = ty.Boolean

abbrev pub arm_as : Ty → Ty → TypedExpr × TypedExpr → Expr × Expr
arm_as when result arm = (expr_as when arm.0, expr_as result arm.1)

abbrev pub compared : CaseParts → List TypedExpr
compared parts = option_part parts.operand ++ map arm_when parts.arms

abbrev pub results : CaseParts → List TypedExpr
results parts = map arm_result parts.arms ++ option_part parts.otherwise

abbrev pub case_expr : Ty → Ty → CaseParts → Expr
case_expr when result parts = expr.Case (option_map (expr_as when) parts.operand) (map (arm_as when result) parts.arms) (option_map (expr_as result) parts.otherwise)

abbrev pub case_node : ℕ → CaseParts → Answer TypedExpr
case_node at parts =
    let when = when_type parts.operand (map arm_when parts.arms) in
    let result = common_type (results parts) in
    typed_if at (list_all (can_be when) (compared parts) && are_of_one_type (results parts))
    (typed result (case_expr when result parts) (greatest (map bound_in (results parts))))

-- ---- conditions

-- ON and WHERE need booleans. Their list has the members of their expression: those of an AND, taken apart at every depth,
-- else the expression alone.
abbrev pub condition : ℕ → TypedExpr → Answer (List Expr)
condition at e = only_if (can_be ty.Boolean e) (TypeMismatch at) (conjuncts (expr_as ty.Boolean e))

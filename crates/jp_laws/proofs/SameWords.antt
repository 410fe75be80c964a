-- What is the same is equal, of what expressions hold beside expressions; and the tests of a level.
use Rattle.std.proofs.Common.{◌≡◌, ap, refl, ℕ, Bool, true, false, [], ◌∷◌, Option, eq-eqb}
use Rattle.std.specs.Prelude.{◌&&◌, ◌==◌}
use Rattle.std.proofs.lemmas.Bool.{eqb-true}
use Rattle.jp_base.specs.declared.values.Ty.{Ty}
use Rattle.jp_base.specs.declared.values.Ty.TheVariants as ty
use Rattle.jp_base.specs.declared.values.Value.{Value}
use Rattle.jp_base.specs.Values.{are_same}
use Rattle.jp_query.specs.declared.CmpOp.{CmpOp}
use Rattle.jp_query.specs.declared.CmpOp.TheVariants as cmp
use Rattle.jp_query.specs.declared.IsTest.{IsTest}
use Rattle.jp_query.specs.declared.IsTest.TheVariants as is
use Rattle.jp_query.specs.declared.Expr.{Expr, out-Expr}
use Rattle.jp_query.specs.declared.JoinTree.{JoinTree}
use Rattle.jp_query.specs.declared.Order.{Order}
use Rattle.jp_query.specs.declared.Output.{Output}
use Rattle.jp_query.specs.declared.Query.{Query}
use Rattle.jp_query.specs.declared.Expr.TheOpen.{Expr-F}
use Rattle.jp_query.specs.declared.Expr.TheShapes.{former-Expr-Case-0}
use Rattle.jp_query.specs.declared.Expr.TheViews.{roll-Expr}
use Rattle.jp_query.specs.declared.Expr.TheFolds.{map-Expr, fold-roll-Expr}
use Rattle.jp_query.specs.Typing.{same_type}
use Rattle.jp_query.specs.Equality.{Same, same_op, same_test, same_sign, same_level, same_as, same_expr}
use Rattle.jp_laws.proofs.ValueLaws.{and_left, rows_equal, rows_same}

pub both_true : (a b : Bool) → a ≡ true → b ≡ true → (a && b) ≡ true
both_true true b p q = q
both_true false b p q = cc

pub false_true : false ≡ true → ⊥
false_true h = cc

-- ---- what is no expression

pub ops_equal : (a b : CmpOp) → same_op a b ≡ true → a ≡ b
ops_equal cmp.Eq cmp.Eq h = refl
ops_equal cmp.Ne cmp.Ne h = refl
ops_equal cmp.Lt cmp.Lt h = refl
ops_equal cmp.Le cmp.Le h = refl
ops_equal cmp.Gt cmp.Gt h = refl
ops_equal cmp.Ge cmp.Ge h = refl
ops_equal _ _ h = absurd (false_true h)

pub op_same : (a : CmpOp) → same_op a a ≡ true
op_same cmp.Eq = refl
op_same cmp.Ne = refl
op_same cmp.Lt = refl
op_same cmp.Le = refl
op_same cmp.Gt = refl
op_same cmp.Ge = refl

pub tests_equal : (a b : IsTest) → same_test a b ≡ true → a ≡ b
tests_equal is.Null is.Null h = refl
tests_equal is.NotNull is.NotNull h = refl
tests_equal is.True is.True h = refl
tests_equal is.NotTrue is.NotTrue h = refl
tests_equal is.False is.False h = refl
tests_equal is.NotFalse is.NotFalse h = refl
tests_equal is.Unknown is.Unknown h = refl
tests_equal is.NotUnknown is.NotUnknown h = refl
tests_equal _ _ h = absurd (false_true h)

pub test_same : (a : IsTest) → same_test a a ≡ true
test_same is.Null = refl
test_same is.NotNull = refl
test_same is.True = refl
test_same is.NotTrue = refl
test_same is.False = refl
test_same is.NotFalse = refl
test_same is.Unknown = refl
test_same is.NotUnknown = refl

pub signs_equal : (a b : Bool) → same_sign a b ≡ true → a ≡ b
signs_equal true true h = refl
signs_equal false false h = refl
signs_equal _ _ h = absurd (false_true h)

pub sign_same : (a : Bool) → same_sign a a ≡ true
sign_same true = refl
sign_same false = refl

pub types_equal : (a b : Ty) → same_type a b ≡ true → a ≡ b
types_equal ty.Number ty.Number h = refl
types_equal ty.Boolean ty.Boolean h = refl
types_equal ty.Text ty.Text h = refl
types_equal _ _ h = absurd (false_true h)

pub type_same : (a : Ty) → same_type a a ≡ true
type_same ty.Number = refl
type_same ty.Boolean = refl
type_same ty.Text = refl

pub values_equal : (a b : Value) → are_same a b ≡ true → a ≡ b
values_equal a b h = let e = rows_equal (a ∷ []) (b ∷ []) (both_true (are_same a b) true h refl) in cc

pub value_same : (a : Value) → are_same a a ≡ true
value_same a = and_left (are_same a a) true (rows_same (a ∷ []))

pub numbers_equal : (a b : ℕ) → (a == b) ≡ true → a ≡ b
numbers_equal a b h = eqb-true a b h

pub number_same : (a : ℕ) → (a == a) ≡ true
number_same a = eq-eqb a a refl

-- ---- levels

abbrev pub Plain : Type 0
Plain = Expr-F Expr JoinTree Order Output Query

abbrev pub Tests : Type 0
Tests = Expr-F Same (Unit {0}) (Unit {0}) (Unit {0}) (Unit {0})

abbrev pub tests : Plain → Tests
tests = map-Expr Expr JoinTree Order Output Query Same (Unit {0}) (Unit {0}) (Unit {0}) (Unit {0}) same_expr (λ t. tt) (λ o. tt) (λ u. tt) (λ q. tt)

pub at_level : (x : Plain) (b : Expr) → same_expr (roll-Expr x) b ≡ same_level (tests x) (out-Expr b)
at_level x b = ap (λ (f : Same). f b) (fold-roll-Expr Same (Unit {0}) (Unit {0}) (Unit {0}) (Unit {0}) same_as (λ t. tt) (λ o. tt) (λ u. tt) (λ q. tt) x)

abbrev pub test_of_term : Bool × Expr → Bool × Same
test_of_term term = (term.0, same_expr term.1)

abbrev pub test_of_arm : Expr × Expr → Same × Same
test_of_arm arm = (same_expr arm.0, same_expr arm.1)

abbrev pub test_of_option : Option Expr → Option Same
test_of_option = (former-Expr-Case-0).map Expr Same same_expr

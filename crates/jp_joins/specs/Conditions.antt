-- What a step asks of its caller.
use Rattle.std.specs.Prelude.{◌≡◌, ℕ, ◌↔◌, ◌⊎◌, false, List, [], ◌∷◌, All, Contains, Option, Some, None, length}
use Rattle.jp_query.specs.declared.Expr.{Expr}
use Rattle.jp_query.specs.declared.JoinKind.TheVariants as join
use Rattle.jp_query.specs.Typing.{IsBoolean}
use Rattle.jp_eval.specs.Evaluation.{CanEvaluate}
use Rattle.jp_problem.specs.declared.types.Step.{Step}
use Rattle.jp_problem.specs.declared.types.Step.TheVariants as step
use Rattle.jp_problem.specs.Equalities.{equals, has_sublink}
use Rattle.jp_frame.specs.Maps.{Map, at, both}
use Rattle.jp_joins.specs.Meant.{Meant, value_at}

-- an expression can be evaluated at a map
abbrev pub CanEvaluateAt : Meant → Map → Expr → Type 0
CanEvaluateAt meant m e = CanEvaluate (meant.sublink_rows m) e (meant.environment m)

abbrev pub sides : Option (Expr × Expr) → List Expr
sides (Some key) = key.0 ∷ key.1 ∷ []
sides None = []

-- all expressions of the step can be evaluated at a map
pub record CanTest (meant : Meant) (m : Map) : Type 0 where
  pub key : All (CanEvaluateAt meant m) (sides meant.key)
  pub on : All (CanEvaluateAt meant m) meant.on
  pub filters : All (CanEvaluateAt meant m) meant.filters

-- no place has a row in both
abbrev pub AreApart : Map → Map → Type 0
AreApart a b = (i r s : ℕ) → at a i ≡ Some r → at b i ≡ Some s → ⊥

-- A left and a right map: equally many places, none with a row in both, and the pair can be tested.
pub record CanPair (meant : Meant) (a b : Map) : Type 0 where
  pub wide : length a ≡ length b
  pub apart : AreApart a b
  pub test : CanTest meant (both a b)

-- What each method asks: the environment tells the kind of the step, and all expressions can be evaluated at each map that
-- the step takes or forms.
pub record CanJoin (meant : Meant) (asked : Step) (left right : List Map) : Type 0 where
  pub kind : (meant.kind ≡ join.Inner) ↔ (asked ≡ step.Inner)
  pub width : ℕ
  pub left_width : All (λ a. length a ≡ width) left
  pub right_width : All (λ b. length b ≡ width) right
  pub apart : All (λ a. All (AreApart a) right) left
  pub left_test : All (CanTest meant) left
  pub right_test : All (CanTest meant) right
  pub pair_test : All (λ a. All (λ b. CanTest meant (both a b)) right) left
  pub on_booleans : All IsBoolean meant.on
  pub filter_booleans : All IsBoolean meant.filters

-- What the methods that look tuples up by a key ask beside: the sides of the key hold no sublink, they are those of an
-- equality that a match makes true, and at each pair each side has the value that it has at its own map alone.
pub record CanLookUpBy (meant : Meant) (first second : Expr) (left right : List Map) : Type 0 where
  pub first_plain : has_sublink first ≡ false
  pub second_plain : has_sublink second ≡ false
  pub equality : Contains meant.on (equals first second) ⊎ Contains meant.on (equals second first)
  pub first_alone : All (λ a. All (λ b. value_at meant (both a b) first ≡ value_at meant a first) right) left
  pub second_alone : All (λ a. All (λ b. value_at meant (both a b) second ≡ value_at meant b second) right) left

pub record CanLookUp (meant : Meant) (left right : List Map) : Type 0 where
  pub first : Expr
  pub second : Expr
  pub key : meant.key ≡ Some (first, second)
  pub by : CanLookUpBy meant first second left right

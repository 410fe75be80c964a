-- Whether a term of a sum, an arm of a CASE or a part that may be missing holds a sublink.
use Rattle.std.specs.Prelude.{◌||◌, Bool, false, Option, Some, None}
use Rattle.jp_query.specs.declared.Expr.{Expr}
use Rattle.jp_problem.specs.Equalities.{has_sublink}

abbrev pub term_has_sublink : Bool × Expr → Bool
term_has_sublink term = has_sublink term.1

abbrev pub arm_has_sublink : Expr × Expr → Bool
arm_has_sublink arm = has_sublink arm.0 || has_sublink arm.1

abbrev pub option_has_sublink : Option Expr → Bool
option_has_sublink (Some e) = has_sublink e
option_has_sublink None = false

-- Which expressions have a `||` outside their sublinks: its text is the one value that no operand lends.
use Rattle.std.specs.Prelude.{Bool, true, ◌||◌}
use Rattle.std.specs.List.{list_any}
use Rattle.jp_query.specs.declared.Expr.{Expr}
use Rattle.jp_query.specs.declared.Expr.TheOpen.{Expr-F}
use Rattle.jp_query.specs.declared.Expr.TheFolds.{fold-Expr}
use Rattle.jp_query.specs.Parts.{parts}
use Rattle.jp_query.specs.Typing.{is_true_test}

abbrev pub concatenation_at : Expr-F Bool (Unit {0}) (Unit {0}) (Unit {0}) (Unit {0}) → Bool
concatenation_at (Expr-F.Concat pieces) = true
concatenation_at x = list_any is_true_test (parts x)

abbrev pub has_concatenation : Expr → Bool
has_concatenation = fold-Expr Bool (Unit {0}) (Unit {0}) (Unit {0}) (Unit {0}) concatenation_at (λ t. tt) (λ o. tt) (λ u. tt) (λ q. tt)

abbrev pub term_has_concatenation : Bool × Expr → Bool
term_has_concatenation term = has_concatenation term.1

abbrev pub arm_has_concatenation : Expr × Expr → Bool
arm_has_concatenation arm = has_concatenation arm.0 || has_concatenation arm.1

-- Equalities between expressions without sublinks.
use Rattle.std.specs.Prelude.{◌||◌, Bool, Option, Some, None, is_some}
use Rattle.std.specs.List.{list_any}
use Rattle.jp_query.specs.declared.CmpOp.TheVariants as cmp
use Rattle.jp_query.specs.declared.Expr.{Expr, out-Expr}
use Rattle.jp_query.specs.declared.Expr.TheVariants as expr
use Rattle.jp_query.specs.declared.Expr.TheOpen.{Expr-F}
use Rattle.jp_query.specs.declared.Expr.TheFolds.{fold-Expr}
use Rattle.jp_query.specs.Layers.{ExprLayer}
use Rattle.jp_query.specs.Parts.{parts, sublink_query}
use Rattle.jp_query.specs.Typing.{is_true_test}

-- the two sides of an equality
pub record Sides : Type 0 where
  pub first : Expr
  pub second : Expr

abbrev pub sides_at : ExprLayer → Option Sides
sides_at (Expr-F.Compare cmp.Eq first second) = Some (record { first = first; second = second })
sides_at _ = None

abbrev pub sides_of : Expr → Option Sides
sides_of e = sides_at (out-Expr e)

abbrev pub equals : Expr → Expr → Expr
equals first second = expr.Compare cmp.Eq first second

abbrev pub expr_has_sublink : Expr-F Bool (Unit {0}) (Unit {0}) (Unit {0}) (Unit {0}) → Bool
expr_has_sublink x = is_some (sublink_query x) || list_any is_true_test (parts x)

-- whether the expression holds a sublink
abbrev pub has_sublink : Expr → Bool
has_sublink = fold-Expr Bool (Unit {0}) (Unit {0}) (Unit {0}) (Unit {0}) expr_has_sublink (λ t. tt) (λ o. tt) (λ u. tt) (λ q. tt)

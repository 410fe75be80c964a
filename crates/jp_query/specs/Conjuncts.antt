-- The members of an AND, taken apart at every depth: `a AND (b AND c)` has the conjuncts a, b and c.
use Rattle.std.specs.Prelude.{◌≡◌, Bool, true, false, List, [], ◌∷◌, map}
use Rattle.jp_query.specs.declared.Expr.{out-Expr}
use Rattle.jp_query.specs.declared.Expr.TheFolds.{para-Expr}
use Rattle.jp_query.specs.Layers.{Expr, JoinTree, Order, Output, Query, ExprLayer, Expr-F}
use Rattle.jp_query.specs.Parts.{all_in}
use Rattle.jp_query.specs.Subexpressions.{Exprs, exprs_beside, whole}

abbrev pub expr_conjuncts : Expr-F (Expr × Exprs) (JoinTree × Unit {0}) (Order × Unit {0}) (Output × Unit {0}) (Query × Unit {0}) → Exprs
expr_conjuncts (Expr-F.And members) = all_in (map exprs_beside members)
expr_conjuncts x = whole x ∷ []

-- an AND gives its members' conjuncts, in order, and any other expression itself
abbrev pub conjuncts : Expr → Exprs
conjuncts = para-Expr Exprs (Unit {0}) (Unit {0}) (Unit {0}) (Unit {0}) expr_conjuncts (λ t. tt) (λ o. tt) (λ u. tt) (λ q. tt)

-- of a list of conditions
abbrev pub conjuncts_of_all : List Expr → Exprs
conjuncts_of_all conds = all_in (map conjuncts conds)

abbrev pub is_and : ExprLayer → Bool
is_and (Expr-F.And members) = true
is_and _ = false

abbrev pub IsNoAnd : Expr → Type 0
IsNoAnd expr = is_and (out-Expr expr) ≡ false

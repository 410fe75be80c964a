-- An expression without sublinks asks for no rows.
use Rattle.std.proofs.Common.{◌≡◌, ◌∙◌, ap, sym, subst, refl, ℕ, Bool, true, false, ◌||◌, List, [], ◌∷◌, ◌++◌, map}
use Rattle.std.specs.Prelude.{is_some}
use Rattle.std.specs.List.{list_any}
use Rattle.jp_query.specs.declared.Expr.{Expr}
use Rattle.jp_query.specs.declared.JoinTree.{JoinTree}
use Rattle.jp_query.specs.declared.Order.{Order}
use Rattle.jp_query.specs.declared.Output.{Output}
use Rattle.jp_query.specs.declared.Query.{Query}
use Rattle.jp_query.specs.declared.Expr.TheOpen.{Expr-F}
use Rattle.jp_query.specs.declared.Expr.TheViews.{roll-Expr}
use Rattle.jp_query.specs.declared.Expr.TheFolds.{fold-JoinTree, fold-Order, fold-Output, fold-Query, map-Expr, fold-roll-Expr, para-JoinTree, para-Order, para-Output, para-Query, para-roll-Expr}
use Rattle.jp_query.specs.Freshness.{ExprParts, Found, found_in, sublink_here, expr_found, tree_found, order_found, output_found, query_found}
use Rattle.jp_query.specs.Layers.{ExprLayer}
use Rattle.jp_query.specs.Meaning.{Row, Env, value_given}
use Rattle.jp_query.specs.Parts.{all_in, parts, sublink_query, option_part}
use Rattle.jp_query.specs.Subexpressions.{sublinks_of}
use Rattle.jp_query.specs.Typing.{is_true_test}
use Rattle.jp_induction.proofs.EachPart.{Each, parts_map}
use Rattle.jp_induction.proofs.Induction.{expr_alone}
use Rattle.jp_problem.specs.Equalities.{expr_has_sublink, has_sublink}
use Rattle.jp_joins.specs.Lending.{number_here, numbers_in}
use Rattle.jp_joins.proofs.SameRows.{numbers_at, values_same}

abbrev in_tree : JoinTree → Unit {0}
in_tree = fold-JoinTree Bool (Unit {0}) (Unit {0}) (Unit {0}) (Unit {0}) expr_has_sublink (λ t. tt) (λ o. tt) (λ u. tt) (λ q. tt)

abbrev in_order : Order → Unit {0}
in_order = fold-Order Bool (Unit {0}) (Unit {0}) (Unit {0}) (Unit {0}) expr_has_sublink (λ t. tt) (λ o. tt) (λ u. tt) (λ q. tt)

abbrev in_output : Output → Unit {0}
in_output = fold-Output Bool (Unit {0}) (Unit {0}) (Unit {0}) (Unit {0}) expr_has_sublink (λ t. tt) (λ o. tt) (λ u. tt) (λ q. tt)

abbrev in_query : Query → Unit {0}
in_query = fold-Query Bool (Unit {0}) (Unit {0}) (Unit {0}) (Unit {0}) expr_has_sublink (λ t. tt) (λ o. tt) (λ u. tt) (λ q. tt)

abbrev level : ExprLayer → Expr-F Bool (Unit {0}) (Unit {0}) (Unit {0}) (Unit {0})
level = map-Expr Expr JoinTree Order Output Query Bool (Unit {0}) (Unit {0}) (Unit {0}) (Unit {0}) has_sublink in_tree in_order in_output in_query

first_false : (a b : Bool) → (a || b) ≡ false → a ≡ false
first_false true b e = e
first_false false b e = refl

second_false : (a b : Bool) → (a || b) ≡ false → b ≡ false
second_false true b e = absurd (cc)
second_false false b e = e

here_none : (x : ExprLayer) → is_some (sublink_query (level x)) ≡ false → number_here x ≡ []
here_none (Expr-F.Exists sub query) e = absurd (cc)
here_none (Expr-F.InSub sub operand query) e = absurd (cc)
here_none x e = refl

abbrev Plain : Expr → Type 0
Plain e = has_sublink e ≡ false → numbers_in e ≡ []

module _ {X : Type 0} (f : Expr → List X) where
  -- each of the expressions that hold no sublink gives nothing
  parts_none : (es : List Expr) → Each (λ e. has_sublink e ≡ false → f e ≡ []) es → list_any is_true_test (map has_sublink es) ≡ false → all_in (map f es) ≡ []
  parts_none [] good h = refl
  parts_none (e ∷ es) good h = ap (λ ns. ns ++ all_in (map f es)) (good.0 (first_false (has_sublink e) (list_any is_true_test (map has_sublink es)) h)) ∙ parts_none es good.1 (second_false (has_sublink e) (list_any is_true_test (map has_sublink es)) h)

module _ (x : ExprLayer) (none : has_sublink (roll-Expr x) ≡ false) where
  at : (is_some (sublink_query (level x)) || list_any is_true_test (parts (level x))) ≡ false
  at = sym (fold-roll-Expr Bool (Unit {0}) (Unit {0}) (Unit {0}) (Unit {0}) expr_has_sublink (λ t. tt) (λ o. tt) (λ u. tt) (λ q. tt) x) ∙ none

  not_here : is_some (sublink_query (level x)) ≡ false
  not_here = first_false (is_some (sublink_query (level x))) (list_any is_true_test (parts (level x))) at

  not_in_parts : list_any is_true_test (map has_sublink (parts x)) ≡ false
  not_in_parts = ap (list_any is_true_test) (sym (parts_map has_sublink in_tree in_order in_output in_query x)) ∙ second_false (is_some (sublink_query (level x))) (list_any is_true_test (parts (level x))) at

step : (x : ExprLayer) → Each Plain (parts x) → Plain (roll-Expr x)
step x good none = numbers_at x ∙ ap (λ ns. ns ++ all_in (map numbers_in (parts x))) (here_none x (not_here x none)) ∙ parts_none numbers_in (parts x) good (not_in_parts x none)

plain_numbers : (e : Expr) → Plain e
plain_numbers = expr_alone Plain step

pub plain_value : (rows other : ℕ → List Row) (e : Expr) (env : Env) → has_sublink e ≡ false → value_given rows e env ≡ value_given other e env
plain_value rows other e env none = values_same rows other env e (subst (Each (λ k. rows k ≡ other k)) (sym (plain_numbers e none)) tt)

-- ---- such an expression has no sublinks

abbrev beside : Expr → Expr × Found
beside e = (e, sublinks_of e)

abbrev tree_beside : JoinTree → JoinTree × Found
tree_beside t = (t, para-JoinTree Found Found Found Found Found expr_found tree_found order_found output_found query_found t)

abbrev order_beside : Order → Order × Found
order_beside o = (o, para-Order Found Found Found Found Found expr_found tree_found order_found output_found query_found o)

abbrev output_beside : Output → Output × Found
output_beside u = (u, para-Output Found Found Found Found Found expr_found tree_found order_found output_found query_found u)

abbrev query_beside : Query → Query × Found
query_beside q = (q, para-Query Found Found Found Found Found expr_found tree_found order_found output_found query_found q)

abbrev with_found : ExprLayer → ExprParts
with_found = map-Expr Expr JoinTree Order Output Query (Expr × Found) (JoinTree × Found) (Order × Found) (Output × Found) (Query × Found) beside tree_beside order_beside output_beside query_beside

none_found_here : (x : ExprLayer) → is_some (sublink_query (level x)) ≡ false → (sublink_here (with_found x) ≡ []) × (option_part (sublink_query (with_found x)) ≡ [])
none_found_here (Expr-F.Exists sub query) e = absurd (cc)
none_found_here (Expr-F.InSub sub operand query) e = absurd (cc)
none_found_here x e = (refl, refl)

found_beside : (es : List Expr) → map found_in (map beside es) ≡ map sublinks_of es
found_beside [] = refl
found_beside (e ∷ es) = ap (λ fs. sublinks_of e ∷ fs) (found_beside es)

found_step : (x : ExprLayer) → Each (λ e. has_sublink e ≡ false → sublinks_of e ≡ []) (parts x) → has_sublink (roll-Expr x) ≡ false → sublinks_of (roll-Expr x) ≡ []
found_step x good none =
    let here = none_found_here x (not_here x none) in
    let inside : all_in (map found_in (parts (with_found x))) ≡ [] = ap (λ ps. all_in (map found_in ps)) (parts_map beside tree_beside order_beside output_beside query_beside x) ∙ ap all_in (found_beside (parts x)) ∙ parts_none sublinks_of (parts x) good (not_in_parts x none) in
    para-roll-Expr Found Found Found Found Found expr_found tree_found order_found output_found query_found x
    ∙ ap (λ fs. fs ++ (all_in (map found_in (parts (with_found x))) ++ all_in (map found_in (option_part (sublink_query (with_found x)))))) here.0
    ∙ ap (λ fs. fs ++ all_in (map found_in (option_part (sublink_query (with_found x))))) inside
    ∙ ap (λ qs. all_in (map found_in qs)) here.1

pub no_sublinks : (e : Expr) → has_sublink e ≡ false → sublinks_of e ≡ []
no_sublinks = expr_alone (λ e. has_sublink e ≡ false → sublinks_of e ≡ []) found_step

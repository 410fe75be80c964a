-- Given rows for the outermost sublinks give the value in place.
use Rattle.std.proofs.Common.{◌≡◌, ◌∙◌, ap, sym, subst, refl, ℕ, List, [], ◌++◌, map}
use Rattle.std.specs.Prelude.{All}
use Rattle.jp_query.specs.declared.Expr.{Expr}
use Rattle.jp_query.specs.declared.JoinTree.{JoinTree}
use Rattle.jp_query.specs.declared.Order.{Order}
use Rattle.jp_query.specs.declared.Output.{Output}
use Rattle.jp_query.specs.declared.Query.{Query}
use Rattle.jp_query.specs.declared.Expr.TheOpen.{Expr-F}
use Rattle.jp_query.specs.declared.Expr.TheViews.{roll-Expr}
use Rattle.jp_query.specs.declared.Expr.TheFolds.{fold-JoinTree, fold-Order, fold-Output, fold-Query, para-JoinTree, para-Order, para-Output, para-Query, map-Expr, fold-roll-Expr, para-roll-Expr}
use Rattle.jp_query.specs.Layers.{ExprLayer}
use Rattle.jp_query.specs.Parts.{all_in, parts}
use Rattle.jp_query.specs.Meaning.{Row, Env, ValueIn, Tuples, SortKey, RowsIn, in_place, given, no_tables, expr_value, tree_tuples, order_key, output_value, query_rows, value_of, value_given, tuples_of, meaning}
use Rattle.jp_query.specs.Outermost.{Outers, outers_in, Level, outer_here, expr_outers, outermost, IsGiven}
use Rattle.jp_induction.proofs.Between.{SameValue, OwnSame, value_same}
use Rattle.jp_induction.proofs.EachPart.{Each, each_of, each_left, each_right, each_both, each_in_all, each_mapped, parts_map}
use Rattle.jp_induction.proofs.Induction.{expr_alone}
use Rattle.jp_induction.proofs.Meanings.{key_of, output_of, at_expr}
use Rattle.jp_laws.proofs.BagLaws.{exists_bag, in_bag}

module _ (tables rows : ℕ → List Row) (env : Env) where
  abbrev given_tree : JoinTree → Tuples
  given_tree = fold-JoinTree ValueIn Tuples SortKey ValueIn RowsIn (expr_value (given rows)) (tree_tuples no_tables) order_key output_value query_rows

  abbrev given_order : Order → SortKey
  given_order = fold-Order ValueIn Tuples SortKey ValueIn RowsIn (expr_value (given rows)) (tree_tuples no_tables) order_key output_value query_rows

  abbrev given_output : Output → ValueIn
  given_output = fold-Output ValueIn Tuples SortKey ValueIn RowsIn (expr_value (given rows)) (tree_tuples no_tables) order_key output_value query_rows

  abbrev given_query : Query → RowsIn
  given_query = fold-Query ValueIn Tuples SortKey ValueIn RowsIn (expr_value (given rows)) (tree_tuples no_tables) order_key output_value query_rows

  abbrev beside : Expr → Expr × Outers
  beside x = (x, outermost x)

  abbrev tree_beside : JoinTree → JoinTree × Outers
  tree_beside x = (x, para-JoinTree Outers Outers Outers Outers Outers expr_outers (λ t. []) (λ o. []) (λ u. []) (λ q. []) x)

  abbrev order_beside : Order → Order × Outers
  order_beside x = (x, para-Order Outers Outers Outers Outers Outers expr_outers (λ t. []) (λ o. []) (λ u. []) (λ q. []) x)

  abbrev output_beside : Output → Output × Outers
  output_beside x = (x, para-Output Outers Outers Outers Outers Outers expr_outers (λ t. []) (λ o. []) (λ u. []) (λ q. []) x)

  abbrev query_beside : Query → Query × Outers
  query_beside x = (x, para-Query Outers Outers Outers Outers Outers expr_outers (λ t. []) (λ o. []) (λ u. []) (λ q. []) x)

  abbrev level : ExprLayer → Level
  level = map-Expr Expr JoinTree Order Output Query (Expr × Outers) (JoinTree × Outers) (Order × Outers) (Output × Outers) (Query × Outers) beside tree_beside order_beside output_beside query_beside

  abbrev Given : Outers → Type 0
  Given = Each (IsGiven tables rows env)

  abbrev Good : Expr → Type 0
  Good x = Given (outermost x) → value_given rows x env ≡ value_of tables x env

  own : (x : ExprLayer) → Given (outer_here (level x)) → OwnSame (value_given rows) (value_of tables) given_tree (tuples_of tables) given_order (key_of tables) given_output (output_of tables) given_query (meaning tables) (given rows) in_place env env x
  own (Expr-F.Exists sub query) w = exists_bag (rows sub) (meaning tables query env) w.0
  own (Expr-F.InSub sub operand query) w = λ v. in_bag v (rows sub) (meaning tables query env) w.0
  own (Expr-F.Col rel col ty nulled) w = refl
  own (Expr-F.Place inner rels) w = refl
  own x w = tt

  step : (x : ExprLayer) → Each Good (parts x) → Good (roll-Expr x)
  step x good w =
      let all : Given (outer_here (level x) ++ all_in (map outers_in (parts (level x)))) = subst Given (para-roll-Expr Outers Outers Outers Outers Outers expr_outers (λ t. []) (λ o. []) (λ u. []) (λ q. []) x) w in
      let inner : Each Given (map outers_in (map beside (parts x))) = subst (λ ys. Each Given (map outers_in ys)) (parts_map beside tree_beside order_beside output_beside query_beside x)
      (each_in_all (IsGiven tables rows env) (map outers_in (parts (level x))) (each_right (IsGiven tables rows env) (outer_here (level x)) (all_in (map outers_in (parts (level x)))) all)) in
      let each : Each (λ y. Given (outermost y)) (parts x) = each_mapped (λ y. Given (outers_in y)) beside (parts x) (each_mapped Given outers_in (map beside (parts x)) inner) in
      ap (λ (v : ValueIn). v env) (fold-roll-Expr ValueIn Tuples SortKey ValueIn RowsIn (expr_value (given rows)) (tree_tuples no_tables) order_key output_value query_rows x)
      ∙ value_same (value_given rows) (value_of tables) given_tree (tuples_of tables) given_order (key_of tables) given_output (output_of tables) given_query (meaning tables) (given rows) in_place env env x
      (each_both Good (λ y. Given (outermost y)) (SameValue (value_given rows) (value_of tables) env env) (λ y g v. g v) (parts x) good each)
      (own x (each_left (IsGiven tables rows env) (outer_here (level x)) (all_in (map outers_in (parts (level x)))) all))
      ∙ sym (ap (λ (v : ValueIn). v env) (at_expr tables x))

pub given_is_in_place : (tables rows : ℕ → List Row) (expr : Expr) (env : Env) → All (IsGiven tables rows env) (outermost expr) → value_given rows expr env ≡ value_of tables expr env
given_is_in_place tables rows expr env h = expr_alone (Good tables rows env) (step tables rows env) expr (each_of (IsGiven tables rows env) (outermost expr) h)

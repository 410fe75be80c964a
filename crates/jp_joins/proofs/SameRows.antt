-- What the rows of sublinks an expression asks for decide: its value, and whether it can be evaluated.
use Rattle.std.proofs.Common.{◌≡◌, ◌∙◌, ap, sym, subst, refl, ℕ, List, ◌++◌, map}
use Rattle.std.specs.Prelude.{All}
use Rattle.jp_base.specs.declared.values.Ty.{Ty}
use Rattle.jp_query.specs.declared.Expr.{Expr}
use Rattle.jp_query.specs.declared.JoinTree.{JoinTree}
use Rattle.jp_query.specs.declared.Order.{Order}
use Rattle.jp_query.specs.declared.Output.{Output}
use Rattle.jp_query.specs.declared.Query.{Query}
use Rattle.jp_query.specs.declared.Expr.TheOpen.{Expr-F}
use Rattle.jp_query.specs.declared.Expr.TheViews.{roll-Expr}
use Rattle.jp_query.specs.declared.Expr.TheFolds.{fold-JoinTree, fold-Order, fold-Output, fold-Query, map-Expr, fold-roll-Expr}
use Rattle.jp_query.specs.Layers.{ExprLayer}
use Rattle.jp_query.specs.Parts.{all_in, parts}
use Rattle.jp_query.specs.Operators.{among}
use Rattle.jp_query.specs.Meaning.{Row, Env, ValueIn, Tuples, SortKey, RowsIn, given, no_tables, first_of, is_row, expr_value, tree_tuples, order_key, output_value, query_rows, value_given}
use Rattle.jp_query.specs.Fitting.{InQuery, node_in, expr_own_ins, own_ins, IsRowOfTypes, IsLent}
use Rattle.jp_induction.proofs.Between.{SameValue, OwnSame, value_same}
use Rattle.jp_induction.proofs.EachPart.{Each, each_of, all_of_each, each_left, each_right, each_append, each_both, each_in_all, each_in_parts, each_mapped, each_map, parts_map}
use Rattle.jp_induction.proofs.Induction.{expr_alone}
use Rattle.jp_eval.specs.Evaluation.{CanEvaluate}
use Rattle.jp_joins.specs.Lending.{number_here, expr_numbers, numbers_in}

-- ---- the numbers at one level

abbrev numbers_of_tree : JoinTree → Unit {0}
numbers_of_tree = fold-JoinTree (List ℕ) (Unit {0}) (Unit {0}) (Unit {0}) (Unit {0}) expr_numbers (λ t. tt) (λ o. tt) (λ u. tt) (λ q. tt)

abbrev numbers_of_order : Order → Unit {0}
numbers_of_order = fold-Order (List ℕ) (Unit {0}) (Unit {0}) (Unit {0}) (Unit {0}) expr_numbers (λ t. tt) (λ o. tt) (λ u. tt) (λ q. tt)

abbrev numbers_of_output : Output → Unit {0}
numbers_of_output = fold-Output (List ℕ) (Unit {0}) (Unit {0}) (Unit {0}) (Unit {0}) expr_numbers (λ t. tt) (λ o. tt) (λ u. tt) (λ q. tt)

abbrev numbers_of_query : Query → Unit {0}
numbers_of_query = fold-Query (List ℕ) (Unit {0}) (Unit {0}) (Unit {0}) (Unit {0}) expr_numbers (λ t. tt) (λ o. tt) (λ u. tt) (λ q. tt)

here_same : (x : ExprLayer) → number_here (map-Expr Expr JoinTree Order Output Query (List ℕ) (Unit {0}) (Unit {0}) (Unit {0}) (Unit {0}) numbers_in numbers_of_tree numbers_of_order numbers_of_output numbers_of_query x) ≡ number_here x
here_same (Expr-F.Exists sub query) = refl
here_same (Expr-F.InSub sub operand query) = refl
here_same x = refl

pub numbers_at : (x : ExprLayer) → numbers_in (roll-Expr x) ≡ number_here x ++ all_in (map numbers_in (parts x))
unfolding numbers_in
numbers_at x = fold-roll-Expr (List ℕ) (Unit {0}) (Unit {0}) (Unit {0}) (Unit {0}) expr_numbers (λ t. tt) (λ o. tt) (λ u. tt) (λ q. tt) x
    ∙ ap (λ ns. ns ++ all_in (parts (map-Expr Expr JoinTree Order Output Query (List ℕ) (Unit {0}) (Unit {0}) (Unit {0}) (Unit {0}) numbers_in numbers_of_tree numbers_of_order numbers_of_output numbers_of_query x))) (here_same x)
    ∙ ap (λ ns. number_here x ++ all_in ns) (parts_map numbers_in numbers_of_tree numbers_of_order numbers_of_output numbers_of_query x)

-- ---- values

abbrev tree_by : (ℕ → List Row) → JoinTree → Tuples
tree_by rows = fold-JoinTree ValueIn Tuples SortKey ValueIn RowsIn (expr_value (given rows)) (tree_tuples no_tables) order_key output_value query_rows

abbrev order_by : (ℕ → List Row) → Order → SortKey
order_by rows = fold-Order ValueIn Tuples SortKey ValueIn RowsIn (expr_value (given rows)) (tree_tuples no_tables) order_key output_value query_rows

abbrev output_by : (ℕ → List Row) → Output → ValueIn
output_by rows = fold-Output ValueIn Tuples SortKey ValueIn RowsIn (expr_value (given rows)) (tree_tuples no_tables) order_key output_value query_rows

abbrev query_by : (ℕ → List Row) → Query → RowsIn
query_by rows = fold-Query ValueIn Tuples SortKey ValueIn RowsIn (expr_value (given rows)) (tree_tuples no_tables) order_key output_value query_rows

-- ---- the types of the rows lent for an IN

abbrev types_of_tree : JoinTree → Unit {0}
types_of_tree = fold-JoinTree (List InQuery) (Unit {0}) (Unit {0}) Ty (List Ty) expr_own_ins (λ t. tt) (λ o. tt) (λ u. u.ty) (λ q. q.columns)

abbrev types_of_order : Order → Unit {0}
types_of_order = fold-Order (List InQuery) (Unit {0}) (Unit {0}) Ty (List Ty) expr_own_ins (λ t. tt) (λ o. tt) (λ u. u.ty) (λ q. q.columns)

abbrev types_of_output : Output → Ty
types_of_output = fold-Output (List InQuery) (Unit {0}) (Unit {0}) Ty (List Ty) expr_own_ins (λ t. tt) (λ o. tt) (λ u. u.ty) (λ q. q.columns)

abbrev types_of : Query → List Ty
types_of = fold-Query (List InQuery) (Unit {0}) (Unit {0}) Ty (List Ty) expr_own_ins (λ t. tt) (λ o. tt) (λ u. u.ty) (λ q. q.columns)

abbrev ins_level : ExprLayer → Expr-F (List InQuery) (Unit {0}) (Unit {0}) Ty (List Ty)
ins_level = map-Expr Expr JoinTree Order Output Query (List InQuery) (Unit {0}) (Unit {0}) Ty (List Ty) own_ins types_of_tree types_of_order types_of_output types_of

module _ (rows other : ℕ → List Row) (env : Env) where
  abbrev Same : ℕ → Type 0
  Same number = rows number ≡ other number

  abbrev here_and_inner : ExprLayer → Type 0
  here_and_inner x = Each Same (number_here x) × Each (λ y. Each Same (numbers_in y)) (parts x)

  split : (x : ExprLayer) → Each Same (numbers_in (roll-Expr x)) → here_and_inner x
  split x w =
      let all : Each Same (number_here x ++ all_in (map numbers_in (parts x))) = subst (Each Same) (numbers_at x) w in (
        each_left Same (number_here x) (all_in (map numbers_in (parts x))) all,
        each_mapped (Each Same) numbers_in (parts x) (each_in_all Same (map numbers_in (parts x)) (each_right Same (number_here x) (all_in (map numbers_in (parts x))) all)),
      )

  abbrev Good : Expr → Type 0
  Good x = Each Same (numbers_in x) → value_given rows x env ≡ value_given other x env

  own : (x : ExprLayer) → Each Same (number_here x) → OwnSame (value_given rows) (value_given other) (tree_by rows) (tree_by other) (order_by rows) (order_by other) (output_by rows) (output_by other) (query_by rows) (query_by other) (given rows) (given other) env env x
  own (Expr-F.Exists sub query) w = ap is_row w.0
  own (Expr-F.InSub sub operand query) w = λ v. ap (λ rs. among v (map first_of rs)) w.0
  own (Expr-F.Col rel col ty nulled) w = refl
  own (Expr-F.Place inner rels) w = refl
  own x w = tt

  step : (x : ExprLayer) → Each Good (parts x) → Good (roll-Expr x)
  step x good w =
      let h = split x w in
      ap (λ (v : ValueIn). v env) (fold-roll-Expr ValueIn Tuples SortKey ValueIn RowsIn (expr_value (given rows)) (tree_tuples no_tables) order_key output_value query_rows x)
      ∙ value_same (value_given rows) (value_given other) (tree_by rows) (tree_by other) (order_by rows) (order_by other) (output_by rows) (output_by other) (query_by rows) (query_by other) (given rows) (given other) env env x
      (each_both Good (λ y. Each Same (numbers_in y)) (SameValue (value_given rows) (value_given other) env env) (λ y g v. g v) (parts x) good h.1)
      (own x h.0)
      ∙ sym (ap (λ (v : ValueIn). v env) (fold-roll-Expr ValueIn Tuples SortKey ValueIn RowsIn (expr_value (given other)) (tree_tuples no_tables) order_key output_value query_rows x))

  pub values_same : (x : Expr) → Each Same (numbers_in x) → value_given rows x env ≡ value_given other x env
  values_same = expr_alone Good step

  abbrev Lents : Expr → Type 0
  Lents x = Each Same (numbers_in x) → Each (IsLent rows) (own_ins x) → Each (IsLent other) (own_ins x)

  node_lent : (x : ExprLayer) → Each Same (number_here x) → Each (IsLent rows) (node_in (ins_level x)) → Each (IsLent other) (node_in (ins_level x))
  node_lent (Expr-F.InSub sub operand query) w h = (subst (All (IsRowOfTypes (types_of query))) w.0 h.0, tt)
  node_lent x w h = tt

  lents_step : (x : ExprLayer) → Each Lents (parts x) → Lents (roll-Expr x)
  lents_step x good w lent =
      let h = split x w in
      let at = fold-roll-Expr (List InQuery) (Unit {0}) (Unit {0}) Ty (List Ty) expr_own_ins (λ t. tt) (λ o. tt) (λ u. u.ty) (λ q. q.columns) x
      ∙ ap (λ is. node_in (ins_level x) ++ all_in is) (parts_map own_ins types_of_tree types_of_order types_of_output types_of x) in
      let all : Each (IsLent rows) (node_in (ins_level x) ++ all_in (map own_ins (parts x))) = subst (Each (IsLent rows)) at lent in
      let inner = each_mapped (Each (IsLent rows)) own_ins (parts x) (each_in_all (IsLent rows) (map own_ins (parts x)) (each_right (IsLent rows) (node_in (ins_level x)) (all_in (map own_ins (parts x))) all)) in
      let both = each_both (λ y. Each Same (numbers_in y)) (λ y. Each (IsLent rows) (own_ins y)) (λ y. Each Same (numbers_in y) × Each (IsLent rows) (own_ins y)) (λ y p q. (p, q)) (parts x) h.1 inner in
      let done = each_both Lents (λ y. Each Same (numbers_in y) × Each (IsLent rows) (own_ins y)) (λ y. Each (IsLent other) (own_ins y)) (λ y g p. g p.0 p.1) (parts x) good both in
      subst (Each (IsLent other)) (sym at)
      (each_append (IsLent other) (node_in (ins_level x)) (all_in (map own_ins (parts x))) (node_lent x h.0 (each_left (IsLent rows) (node_in (ins_level x)) (all_in (map own_ins (parts x))) all))
      (each_in_parts (IsLent other) (map own_ins (parts x)) (each_map (Each (IsLent other)) own_ins (parts x) done)))

  lents_same : (x : Expr) → Lents x
  lents_same = expr_alone Lents lents_step

  -- an expression that can be evaluated with some rows can be with others that are the same where it asks for them
  pub can_same : (x : Expr) → Each Same (numbers_in x) → CanEvaluate rows x env → CanEvaluate other x env
  can_same x w can = record {
    schema = can.schema;
    scope = can.scope;
    typed = can.typed;
    columns = can.columns;
    bounded = can.bounded;
    fits = record {
      cells = can.fits.cells;
      lent = all_of_each (IsLent other) (own_ins x) (lents_same x w (each_of (IsLent rows) (own_ins x) can.fits.lent));
    };
  }

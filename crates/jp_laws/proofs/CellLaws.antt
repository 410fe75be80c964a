-- Values, tuples and rows depend on the cells of columns and on which relations of placeholders are present, and on nothing
-- else of the environment.
use Rattle.std.proofs.Common.{◌≡◌, ◌∙◌, ap, sym, subst, refl, ℕ, List, [], ◌∷◌, map}
use Rattle.jp_query.specs.declared.Expr.{Expr}
use Rattle.jp_query.specs.declared.JoinTree.{JoinTree}
use Rattle.jp_query.specs.declared.Order.{Order}
use Rattle.jp_query.specs.declared.Output.{Output}
use Rattle.jp_query.specs.declared.Query.{Query}
use Rattle.jp_query.specs.declared.Expr.TheViews.{roll-Expr, roll-JoinTree, roll-Order, roll-Output, roll-Query}
use Rattle.jp_query.specs.declared.Expr.TheOpen.{Expr-F}
use Rattle.jp_query.specs.Layers.{ExprLayer, JoinTreeLayer, OrderLayer, OutputLayer, QueryLayer}
use Rattle.jp_query.specs.Meaning.{Row, Env, ValueIn, Tuples, SortKey, RowsIn, in_place, is_row, first_of, value_of, tuples_of, meaning}
use Rattle.jp_query.specs.Operators.{among}
use Rattle.jp_query.specs.Parts.{option_part, parts, sublink_query, trees, conditions, leaf_query, ColumnRef, node_column, node_placeholder}
use Rattle.jp_induction.specs.Alike.{Alike}
use Rattle.jp_induction.proofs.Between as between
use Rattle.jp_induction.proofs.EachPart.{Each, each_weaker, each_both}
use Rattle.jp_induction.proofs.Induction as induction
use Rattle.jp_induction.proofs.Meanings.{key_of, output_of, at_expr, at_tree, at_order, at_output, at_query}
use Rattle.jp_laws.specs.SameCells.{IsSameCell, IsSamePresence, AreTwins}
use Rattle.jp_laws.proofs.GatheredParts.{in_expr, in_tree, in_order, in_output, in_query, node_level, expr_has, tree_has, query_has, output_has, order_has}
use Rattle.jp_laws.proofs.TwinLaws.{twins_kept, twins_start, twins_leaf, twin_cell, twin_presence, any_same}

-- what is asked of two environments: the cells of the columns and the presence of the placeholders that a tree gathers
abbrev pub Sees : Env → Env → List ColumnRef → List ℕ → Type 0
Sees env other columns places = Each (IsSameCell env other) columns × Each (IsSamePresence env other) places

abbrev pub ExprSees : Env → Env → Expr → Type 0
ExprSees env other x = Sees env other (in_expr ColumnRef node_column x) (in_expr ℕ node_placeholder x)

abbrev pub TreeSees : Env → Env → JoinTree → Type 0
TreeSees env other x = Sees env other (in_tree ColumnRef node_column x) (in_tree ℕ node_placeholder x)

abbrev pub OrderSees : Env → Env → Order → Type 0
OrderSees env other x = Sees env other (in_order ColumnRef node_column x) (in_order ℕ node_placeholder x)

abbrev pub OutputSees : Env → Env → Output → Type 0
OutputSees env other x = Sees env other (in_output ColumnRef node_column x) (in_output ℕ node_placeholder x)

abbrev pub QuerySees : Env → Env → Query → Type 0
QuerySees env other x = Sees env other (in_query ColumnRef node_column x) (in_query ℕ node_placeholder x)

-- the parts of a list see what the whole does
both : {A : Type 0} (C : A → List ColumnRef) (P : A → List ℕ) (env other : Env) (xs : List A) → Each (λ x. Each (IsSameCell env other) (C x)) xs → Each (λ x. Each (IsSamePresence env other) (P x)) xs → Each (λ x. Sees env other (C x) (P x)) xs
both C P env other [] c w = tt
both C P env other (x ∷ xs) c w = ((c.0, w.0), both C P env other xs c.1 w.1)

-- twins see what their environments do
twins_see : (env other : Env) (n : ℕ) (u v : Env) → AreTwins n env other u v → (columns : List ColumnRef) (places : List ℕ) → Sees env other columns places → Sees u v columns places
twins_see env other n u v t columns places s = (each_weaker (IsSameCell env other) (IsSameCell u v) (twin_cell env other n u v t) columns s.0, each_weaker (IsSamePresence env other) (IsSamePresence u v) (twin_presence env other n u v t) places s.1)

module _ (tables : ℕ → List Row) where
  abbrev GoodExpr : Expr → Type 0
  GoodExpr x = (env other : Env) → ExprSees env other x → value_of tables x env ≡ value_of tables x other

  abbrev GoodTree : JoinTree → Type 0
  GoodTree x = (env other : Env) → TreeSees env other x → Alike (AreTwins (tuples_of tables x).rels env other) ((tuples_of tables x).tuples env) ((tuples_of tables x).tuples other)

  abbrev GoodOrder : Order → Type 0
  GoodOrder x = (env other : Env) → OrderSees env other x → (key_of tables x).key env ≡ (key_of tables x).key other

  abbrev GoodOutput : Output → Type 0
  GoodOutput x = (env other : Env) → OutputSees env other x → output_of tables x env ≡ output_of tables x other

  abbrev GoodQuery : Query → Type 0
  GoodQuery x = (env other : Env) → QuerySees env other x → meaning tables x env ≡ meaning tables x other

  module _ (env other : Env) where
    own : (x : ExprLayer) → Each (IsSameCell env other) (node_column (node_level ColumnRef node_column x)) → Each (IsSamePresence env other) (node_placeholder (node_level ℕ node_placeholder x)) → Each (λ q. meaning tables q env ≡ meaning tables q other) (option_part (sublink_query x))
        → between.OwnSame (value_of tables) (value_of tables) (tuples_of tables) (tuples_of tables) (key_of tables) (key_of tables) (output_of tables) (output_of tables) (meaning tables) (meaning tables) in_place in_place env other x
    own (Expr-F.Col rel col ty nulled) c w q = c.0
    own (Expr-F.Place inner rels) c w q = any_same env other rels w.0
    own (Expr-F.Exists sub query) c w q = λ i. is_row (q.0 i)
    own (Expr-F.InSub sub operand query) c w q = λ v i. among v (map first_of (q.0 i))
    own x c w q = tt

    conds_good : (xs : List Expr) → Each GoodExpr xs → Each (ExprSees env other) xs → Each (λ x. (n : ℕ) (u v : Env) → AreTwins n env other u v → value_of tables x u ≡ value_of tables x v) xs
    conds_good = each_both GoodExpr (ExprSees env other) (λ x. (n : ℕ) (u v : Env) → AreTwins n env other u v → value_of tables x u ≡ value_of tables x v)
        (λ x good s n u v t. good u v (twins_see env other n u v t (in_expr ColumnRef node_column x) (in_expr ℕ node_placeholder x) s))

  expr_step : (x : ExprLayer) → Each GoodExpr (parts x) → Each GoodQuery (option_part (sublink_query x)) → GoodExpr (roll-Expr x)
  expr_step x good subs env other s =
      let c = expr_has ColumnRef node_column (IsSameCell env other) x s.0 in
      let w = expr_has ℕ node_placeholder (IsSamePresence env other) x s.1 in
      let rows = each_both GoodQuery (QuerySees env other) (λ q. meaning tables q env ≡ meaning tables q other) (λ q g h. g env other h) (option_part (sublink_query x)) subs (both (in_query ColumnRef node_column) (in_query ℕ node_placeholder) env other (option_part (sublink_query x)) c.query w.query) in
      ap (λ (v : ValueIn). v env) (at_expr tables x)
      ∙ between.value_same (value_of tables) (value_of tables) (tuples_of tables) (tuples_of tables) (key_of tables) (key_of tables) (output_of tables) (output_of tables) (meaning tables) (meaning tables) in_place in_place env other x
      (each_both GoodExpr (ExprSees env other) (λ y. value_of tables y env ≡ value_of tables y other) (λ y g h. g env other h) (parts x) good (both (in_expr ColumnRef node_column) (in_expr ℕ node_placeholder) env other (parts x) c.exprs w.exprs))
      (own env other x c.node w.node rows)
      ∙ sym (ap (λ (v : ValueIn). v other) (at_expr tables x))

  tree_step : (x : JoinTreeLayer) → Each GoodTree (trees x) → Each GoodExpr (conditions x) → Each GoodQuery (option_part (leaf_query x)) → GoodTree (roll-JoinTree x)
  tree_step x sides conds leaf env other s =
      let c = tree_has ColumnRef node_column (IsSameCell env other) x s.0 in
      let w = tree_has ℕ node_placeholder (IsSamePresence env other) x s.1 in
      subst (λ (t : Tuples). Alike (AreTwins t.rels env other) (t.tuples env) (t.tuples other)) (sym (at_tree tables x))
      (between.tuples_same (λ n. AreTwins n env other) (twins_kept env other) (value_of tables) (value_of tables) (tuples_of tables) (tuples_of tables) (key_of tables) (key_of tables) (output_of tables) (output_of tables) (meaning tables) (meaning tables) env other tables (twins_start env other) (twins_leaf env other) x
      (each_both GoodTree (TreeSees env other) (between.SameTuples (λ n. AreTwins n env other) (twins_kept env other) (value_of tables) (value_of tables) (tuples_of tables) (tuples_of tables) (key_of tables) (key_of tables) (output_of tables) (output_of tables) (meaning tables) (meaning tables) env other) (λ t g h. (refl, g env other h)) (trees x) sides (both (in_tree ColumnRef node_column) (in_tree ℕ node_placeholder) env other (trees x) c.sides w.sides))
      (conds_good env other (conditions x) conds (both (in_expr ColumnRef node_column) (in_expr ℕ node_placeholder) env other (conditions x) c.conds w.conds))
      (each_both GoodQuery (QuerySees env other) (λ q. meaning tables q env ≡ meaning tables q other) (λ q g h. g env other h) (option_part (leaf_query x)) leaf (both (in_query ColumnRef node_column) (in_query ℕ node_placeholder) env other (option_part (leaf_query x)) c.query w.query))).1

  order_step : (x : OrderLayer) → GoodExpr x.expr → GoodOrder (roll-Order x)
  order_step x good env other s = ap (λ (k : SortKey). k.key env) (at_order tables x) ∙ good env other (order_has ColumnRef node_column (IsSameCell env other) x s.0, order_has ℕ node_placeholder (IsSamePresence env other) x s.1) ∙ sym (ap (λ (k : SortKey). k.key other) (at_order tables x))

  output_step : (x : OutputLayer) → GoodExpr x.expr → GoodOutput (roll-Output x)
  output_step x good env other s = ap (λ (v : ValueIn). v env) (at_output tables x) ∙ good env other (output_has ColumnRef node_column (IsSameCell env other) x s.0, output_has ℕ node_placeholder (IsSamePresence env other) x s.1) ∙ sym (ap (λ (v : ValueIn). v other) (at_output tables x))

  query_step : (x : QueryLayer) → Each GoodOutput x.columns → GoodTree x.tree → Each GoodExpr x.conds → Each GoodOrder x.order → GoodQuery (roll-Query x)
  query_step x columns tree conds order env other s =
      let c = query_has ColumnRef node_column (IsSameCell env other) x s.0 in
      let w = query_has ℕ node_placeholder (IsSamePresence env other) x s.1 in
      let J = AreTwins (tuples_of tables x.tree).rels env other in
      let n = (tuples_of tables x.tree).rels in
      ap (λ (v : RowsIn). v env) (at_query tables x)
      ∙ between.rows_same (value_of tables) (value_of tables) (tuples_of tables) (tuples_of tables) (key_of tables) (key_of tables) (output_of tables) (output_of tables) (meaning tables) (meaning tables) J env other x
      (each_both GoodOutput (OutputSees env other) (λ y. (u v : Env) → J u v → output_of tables y u ≡ output_of tables y v) (λ y g h u v t. g u v (twins_see env other n u v t (in_output ColumnRef node_column y) (in_output ℕ node_placeholder y) h)) x.columns columns (both (in_output ColumnRef node_column) (in_output ℕ node_placeholder) env other x.columns c.columns w.columns))
      (tree env other (c.tree, w.tree))
      (each_both GoodExpr (ExprSees env other) (λ y. (u v : Env) → J u v → value_of tables y u ≡ value_of tables y v) (λ y g h u v t. g u v (twins_see env other n u v t (in_expr ColumnRef node_column y) (in_expr ℕ node_placeholder y) h)) x.conds conds (both (in_expr ColumnRef node_column) (in_expr ℕ node_placeholder) env other x.conds c.conds w.conds))
      (each_both GoodOrder (OrderSees env other) (between.SameKey (value_of tables) (value_of tables) (tuples_of tables) (tuples_of tables) (key_of tables) (key_of tables) (output_of tables) (output_of tables) (meaning tables) (meaning tables) J) (λ y g h. (refl, λ u v t. g u v (twins_see env other n u v t (in_order ColumnRef node_column y) (in_order ℕ node_placeholder y) h))) x.order order (both (in_order ColumnRef node_column) (in_order ℕ node_placeholder) env other x.order c.order w.order))
      ∙ sym (ap (λ (v : RowsIn). v other) (at_query tables x))

  abbrev steps : induction.Steps GoodExpr GoodTree GoodOrder GoodOutput GoodQuery
  steps = record { expr = expr_step; tree = tree_step; order = order_step; output = output_step; query = query_step }

  pub value_by_cells : (x : Expr) → GoodExpr x
  value_by_cells = induction.at_expr GoodExpr GoodTree GoodOrder GoodOutput GoodQuery steps

  pub tuples_by_cells : (x : JoinTree) → GoodTree x
  tuples_by_cells = induction.at_tree GoodExpr GoodTree GoodOrder GoodOutput GoodQuery steps

  pub rows_by_cells : (x : Query) → GoodQuery x
  rows_by_cells = induction.at_query GoodExpr GoodTree GoodOrder GoodOutput GoodQuery steps

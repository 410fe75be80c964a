-- Values, tuples and rows depend on the relations that are referred to alone: their columns and placeholders are those of
-- these relations, or of numbers from 64 on, so two environments that agree on them have the same cells.
use Rattle.std.proofs.Common.{◌≡◌, ◌∙◌, ap, sym, subst, ℕ, ◌≤◌, ◌⊎◌, inl, inr, List, map, is_some}
use Rattle.std.specs.Prelude.{bit_or}
use Rattle.std.specs.Int.{bit_at}
use Rattle.std.proofs.lemmas.Bool.{cases_eq, cases_lt}
use Rattle.jp_base.specs.Sets.{Has, Within}
use Rattle.jp_base.proofs.SetLemmas.{has_or}
use Rattle.jp_query.specs.declared.Expr.{Expr}
use Rattle.jp_query.specs.declared.JoinTree.{JoinTree}
use Rattle.jp_query.specs.declared.Order.{Order}
use Rattle.jp_query.specs.declared.Output.{Output}
use Rattle.jp_query.specs.declared.Query.{Query}
use Rattle.jp_query.specs.declared.Expr.TheOpen.{Expr-F, JoinTree-F}
use Rattle.jp_query.specs.declared.Expr.TheViews.{roll-Expr, roll-JoinTree, roll-Query}
use Rattle.jp_query.specs.declared.Expr.TheFolds.{map-Expr, map-JoinTree, map-Query, fold-roll-Expr, fold-roll-JoinTree, fold-roll-Order, fold-roll-Output, fold-roll-Query}
use Rattle.jp_query.specs.Layers.{ExprLayer, JoinTreeLayer, QueryLayer}
use Rattle.jp_query.specs.Meaning.{Row, Env, cell_in, value_of, tuples_of, meaning}
use Rattle.jp_query.specs.Parts.{ColumnRef, node_column, node_placeholder, option_part, parts, sublink_query, trees, conditions, leaf_query}
use Rattle.jp_query.specs.Refs.{expr_refs, tree_refs, order_refs, output_refs, query_refs, refs_of, refs_of_tree, refs_of_query, refs_of_order, refs_of_output}
use Rattle.jp_induction.specs.Alike.{Alike}
use Rattle.jp_induction.proofs.Alike.{alike_weaker}
use Rattle.jp_induction.proofs.EachPart.{Each, each_weaker, each_both, each_mapped, parts_map, sublink_map, trees_map, conditions_map, leaf_map}
use Rattle.jp_induction.proofs.Induction as induction
use Rattle.jp_laws.specs.Agreement.{Agree}
use Rattle.jp_laws.specs.SameCells.{IsSameCell, IsSamePresence, AreTwins}
use Rattle.jp_laws.proofs.Agreeing.{has_only}
use Rattle.jp_base.proofs.MaskAlgebra.{right_within}
use Rattle.jp_laws.proofs.GatheredParts.{in_expr, in_tree, in_order, in_output, in_query, node_level, expr_made, tree_made, query_made, output_made, order_made}
use Rattle.jp_laws.proofs.GatheredLaws.{Inside, parts_inside, trees_inside, query_inside}
use Rattle.jp_laws.proofs.CellLaws.{Sees, value_by_cells, tuples_by_cells, rows_by_cells}

-- ---- what a tree gathers, by its references

abbrev expr_sets : ExprLayer → Expr-F ℕ ℕ ℕ ℕ ℕ
expr_sets = map-Expr Expr JoinTree Order Output Query ℕ ℕ ℕ ℕ ℕ refs_of refs_of_tree refs_of_order refs_of_output refs_of_query

abbrev tree_sets : JoinTreeLayer → JoinTree-F ℕ ℕ ℕ ℕ ℕ
tree_sets = map-JoinTree Expr JoinTree Order Output Query ℕ ℕ ℕ ℕ ℕ refs_of refs_of_tree refs_of_order refs_of_output refs_of_query

module _ (X : Type 0) (of_node : Expr-F (List X) (List X) (List X) (List X) (List X) → List X) (P : ℕ → X → Type 0) where
  abbrev Good : {A : Type 0} → (A → ℕ) → (A → List X) → A → Type 0
  Good refs gives x = (set : ℕ) → Within (refs x) set → Each (P set) (gives x)

  each_good : {A : Type 0} (refs : A → ℕ) (gives : A → List X) (set : ℕ) (xs : List A) → Each (Good refs gives) xs → Each (Inside set) (map refs xs) → Each (λ x. Each (P set) (gives x)) xs
  each_good refs gives set xs good w = each_both (Good refs gives) (λ x. Within (refs x) set) (λ x. Each (P set) (gives x)) (λ x g h. g set h) xs good (each_mapped (Inside set) refs xs w)

  module _ (node : (x : ExprLayer) (set : ℕ) → Within (expr_refs (expr_sets x)) set → Each (P set) (of_node (node_level X of_node x))) where
    abbrev ExprGood : Expr → Type 0
    ExprGood = Good refs_of (in_expr X of_node)

    abbrev TreeGood : JoinTree → Type 0
    TreeGood = Good refs_of_tree (in_tree X of_node)

    abbrev OrderGood : Order → Type 0
    OrderGood = Good refs_of_order (in_order X of_node)

    abbrev OutputGood : Output → Type 0
    OutputGood = Good refs_of_output (in_output X of_node)

    abbrev QueryGood : Query → Type 0
    QueryGood = Good refs_of_query (in_query X of_node)

    expr_step : (x : ExprLayer) → Each ExprGood (parts x) → Each QueryGood (option_part (sublink_query x)) → ExprGood (roll-Expr x)
    expr_step x exprs subs set w =
        let v = subst (λ n. Within n set) (fold-roll-Expr ℕ ℕ ℕ ℕ ℕ expr_refs tree_refs order_refs output_refs query_refs x) w in
        let inside = parts_inside (expr_sets x) set v in
        expr_made X of_node (P set) x (record {
          node = node x set v;
          exprs = each_good refs_of (in_expr X of_node) set (parts x) exprs (subst (Each (Inside set)) (parts_map refs_of refs_of_tree refs_of_order refs_of_output refs_of_query x) inside.0);
          query = each_good refs_of_query (in_query X of_node) set (option_part (sublink_query x)) subs (subst (Each (Inside set)) (sublink_map refs_of refs_of_tree refs_of_order refs_of_output refs_of_query x) inside.1);
        })

    tree_step : (x : JoinTreeLayer) → Each TreeGood (trees x) → Each ExprGood (conditions x) → Each QueryGood (option_part (leaf_query x)) → TreeGood (roll-JoinTree x)
    tree_step x sides conds leaf set w =
        let inside = trees_inside (tree_sets x) set (subst (λ n. Within n set) (fold-roll-JoinTree ℕ ℕ ℕ ℕ ℕ expr_refs tree_refs order_refs output_refs query_refs x) w) in
        tree_made X of_node (P set) x (record {
          sides = each_good refs_of_tree (in_tree X of_node) set (trees x) sides (subst (Each (Inside set)) (trees_map refs_of refs_of_tree refs_of_order refs_of_output refs_of_query x) inside.0);
          conds = each_good refs_of (in_expr X of_node) set (conditions x) conds (subst (Each (Inside set)) (conditions_map refs_of refs_of_tree refs_of_order refs_of_output refs_of_query x) inside.1);
          query = each_good refs_of_query (in_query X of_node) set (option_part (leaf_query x)) leaf (subst (Each (Inside set)) (leaf_map refs_of refs_of_tree refs_of_order refs_of_output refs_of_query x) inside.2);
        })

    query_step : (x : QueryLayer) → Each OutputGood x.columns → TreeGood x.tree → Each ExprGood x.conds → Each OrderGood x.order → QueryGood (roll-Query x)
    query_step x columns tree conds order set w =
        let inside = query_inside (map-Query Expr JoinTree Order Output Query ℕ ℕ ℕ ℕ ℕ refs_of refs_of_tree refs_of_order refs_of_output refs_of_query x) set (subst (λ n. Within n set) (fold-roll-Query ℕ ℕ ℕ ℕ ℕ expr_refs tree_refs order_refs output_refs query_refs x) w) in
        query_made X of_node (P set) x (record {
          columns = each_good refs_of_output (in_output X of_node) set x.columns columns inside.columns;
          tree = tree set inside.tree;
          conds = each_good refs_of (in_expr X of_node) set x.conds conds inside.conds;
          order = each_good refs_of_order (in_order X of_node) set x.order order inside.order;
        })

    abbrev steps : induction.Steps ExprGood TreeGood OrderGood OutputGood QueryGood
    steps = record {
      expr = expr_step;
      tree = tree_step;
      order = λ x good set w. order_made X of_node (P set) x (good set (subst (λ n. Within n set) (fold-roll-Order ℕ ℕ ℕ ℕ ℕ expr_refs tree_refs order_refs output_refs query_refs x) w));
      output = λ x good set w. output_made X of_node (P set) x (good set (subst (λ n. Within n set) (fold-roll-Output ℕ ℕ ℕ ℕ ℕ expr_refs tree_refs order_refs output_refs query_refs x) w));
      query = query_step;
    }

    pub expr_near : (x : Expr) → ExprGood x
    expr_near = induction.at_expr ExprGood TreeGood OrderGood OutputGood QueryGood steps

    pub tree_near : (x : JoinTree) → TreeGood x
    tree_near = induction.at_tree ExprGood TreeGood OrderGood OutputGood QueryGood steps

    pub query_near : (x : Query) → QueryGood x
    query_near = induction.at_query ExprGood TreeGood OrderGood OutputGood QueryGood steps

-- a column's relation is referred to, or no typed query has it
abbrev pub IsNear : ℕ → ColumnRef → Type 0
IsNear set c = Has set c.relation ⊎ (64 ≤ c.relation)

pub column_node : (x : ExprLayer) (set : ℕ) → Within (expr_refs (expr_sets x)) set → Each (IsNear set) (node_column (node_level ColumnRef node_column x))
column_node (Expr-F.Col rel col ty nulled) set w = (elim (cases_lt rel 64) [ inl low ↦ inl (w rel (has_only rel low)) | inr high ↦ inr high ], tt)
column_node x set w = tt

pub place_node : (x : ExprLayer) (set : ℕ) → Within (expr_refs (expr_sets x)) set → Each (Inside set) (node_placeholder (node_level ℕ node_placeholder x))
place_node (Expr-F.Place inner rels) set w = (right_within (refs_of inner) rels set w, tt)
place_node x set w = tt

-- ---- two environments that agree

module _ (set : ℕ) (env other : Env) (agree : Agree set env other) where
  agree_sees : (columns : List ColumnRef) (places : List ℕ) → Each (IsNear set) columns → Each (Inside set) places → Sees env other columns places
  agree_sees columns places c w = (
    each_weaker (IsNear set) (IsSameCell env other) (λ x h. ap (λ r. cell_in r x.column) (agree x.relation h)) columns c,
    each_weaker (Inside set) (IsSamePresence env other) (λ rels h i low m. ap is_some (agree i (inl (h i m)))) places w,
  )

  agree_twins : (rels : ℕ) (u v : Env) → AreTwins rels env other u v → Agree (bit_or set rels) u v
  agree_twins rels u v t i h = elim (cases_eq (bit_at rels i) 1) [
    | inl p ↦ t.own i p
    | inr n ↦ (t.others i n).0 ∙ agree i (outside n h) ∙ sym (t.others i n).1
  ]
    where
      outside : ¬ Has rels i → Has (bit_or set rels) i ⊎ (64 ≤ i) → Has set i ⊎ (64 ≤ i)
      outside n (inl p) = elim ((has_or set rels i).0 p) [ inl s ↦ inl s | inr r ↦ absurd (n r) ]
      outside n (inr q) = inr q

module _ (tables : ℕ → List Row) where
  pub value_depends : (expr : Expr) (env other : Env) → Agree (refs_of expr) env other → value_of tables expr env ≡ value_of tables expr other
  value_depends expr env other agree = value_by_cells tables expr env other (agree_sees (refs_of expr) env other agree (in_expr ColumnRef node_column expr) (in_expr ℕ node_placeholder expr)
      (expr_near ColumnRef node_column IsNear column_node expr (refs_of expr) (λ i h. h)) (expr_near ℕ node_placeholder Inside place_node expr (refs_of expr) (λ i h. h)))

  pub tree_depends : (tree : JoinTree) (set : ℕ) (env other : Env) → Within (refs_of_tree tree) set → Agree set env other → Alike (Agree (bit_or set (tuples_of tables tree).rels)) ((tuples_of tables tree).tuples env) ((tuples_of tables tree).tuples other)
  tree_depends tree set env other within agree = alike_weaker (agree_twins set env other agree (tuples_of tables tree).rels) (tuples_by_cells tables tree env other (agree_sees set env other agree (in_tree ColumnRef node_column tree) (in_tree ℕ node_placeholder tree)
      (tree_near ColumnRef node_column IsNear column_node tree set within) (tree_near ℕ node_placeholder Inside place_node tree set within)))

  pub rows_depend : (query : Query) (env other : Env) → Agree (refs_of_query query) env other → meaning tables query env ≡ meaning tables query other
  rows_depend query env other agree = rows_by_cells tables query env other (agree_sees (refs_of_query query) env other agree (in_query ColumnRef node_column query) (in_query ℕ node_placeholder query)
      (query_near ColumnRef node_column IsNear column_node query (refs_of_query query) (λ i h. h)) (query_near ℕ node_placeholder Inside place_node query (refs_of_query query) (λ i h. h)))

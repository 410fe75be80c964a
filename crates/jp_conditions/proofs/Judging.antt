-- What a judgement says of the parts of a level, each at its own place.
use Rattle.std.proofs.Common.{◌≡◌, ◌∙◌, ap, ap₂, subst, refl, ℕ, inl, inr, true, ◌&&◌, List, [], ◌∷◌, ◌++◌, map}
use Rattle.std.specs.List.{list_all}
use Rattle.jp_facts.proofs.Members.{In}
use Rattle.jp_induction.proofs.EachPart.{Each, each_both, each_mapped, parts_map, sublink_map, trees_map, conditions_map, leaf_map}
use Rattle.jp_query.specs.declared.Expr.{Expr}
use Rattle.jp_query.specs.declared.JoinTree.{JoinTree}
use Rattle.jp_query.specs.declared.Order.{Order}
use Rattle.jp_query.specs.declared.Output.{Output}
use Rattle.jp_query.specs.declared.Query.{Query}
use Rattle.jp_query.specs.declared.Expr.TheOpen.{Expr-F, JoinTree-F, Query-F}
use Rattle.jp_query.specs.declared.Expr.TheFolds.{fold-Expr, fold-JoinTree, fold-Order, fold-Output, map-Expr, map-JoinTree, map-Query, fold-roll-Expr, fold-roll-JoinTree, fold-roll-Order, fold-roll-Output, fold-roll-Query}
use Rattle.jp_query.specs.declared.Expr.TheViews.{roll-Expr, roll-JoinTree, roll-Order, roll-Output, roll-Query}
use Rattle.jp_query.specs.Layers.{ExprLayer, JoinTreeLayer, OrderLayer, OutputLayer, QueryLayer}
use Rattle.jp_query.specs.Conditions.{Tests, Judged, passes_in, judged_bound, all_entries, expr_judged, tree_judged, order_judged, output_judged, query_judged, judged_expr, judged_tree, judged_query, Leaves, expr_leaves, tree_leaves, order_leaves, output_leaves, query_leaves, judged_leaves}
use Rattle.jp_query.specs.Parts.{option_part, parts, sublink_query, trees, conditions, leaf_query, node_column, node_placeholder}
use Rattle.jp_query.specs.Scopes.{Column, Schema, Entry, Scope, entries_of}
use Rattle.jp_laws.proofs.JudgedLaws.{expr_passes, tree_passed, query_passed, judged_order_by, judged_output_by}
use Rattle.jp_laws.proofs.JudgedValues.{entries_judged}
use Rattle.jp_laws.proofs.ValueLaws.{and_left, and_right}

pub each_in : {A : Type 0} (P : A → Type 0) (xs : List A) (x : A) → Each P xs → In x xs → P x
each_in P [] x h m = absurd m
each_in P (y ∷ ys) x h (inl e) = subst P e h.0
each_in P (y ∷ ys) x h (inr m) = each_in P ys x h.1 m

pub each_pair : {A : Type 0} (P Q : A → Type 0) (xs : List A) → Each P xs → Each Q xs → Each (λ x. P x × Q x) xs
each_pair P Q xs p q = each_both P Q (λ x. P x × Q x) (λ x a b. (a, b)) xs p q

-- ---- the leaves of each type

abbrev pub expr_leaf_set : Expr → Leaves
expr_leaf_set = fold-Expr Leaves Leaves Leaves Leaves Leaves expr_leaves tree_leaves order_leaves output_leaves query_leaves

abbrev pub tree_leaf_set : JoinTree → Leaves
tree_leaf_set = fold-JoinTree Leaves Leaves Leaves Leaves Leaves expr_leaves tree_leaves order_leaves output_leaves query_leaves

abbrev pub order_leaf_set : Order → Leaves
order_leaf_set = fold-Order Leaves Leaves Leaves Leaves Leaves expr_leaves tree_leaves order_leaves output_leaves query_leaves

abbrev pub output_leaf_set : Output → Leaves
output_leaf_set = fold-Output Leaves Leaves Leaves Leaves Leaves expr_leaves tree_leaves order_leaves output_leaves query_leaves

abbrev pub leaves_level : ExprLayer → Expr-F Leaves Leaves Leaves Leaves Leaves
leaves_level = map-Expr Expr JoinTree Order Output Query Leaves Leaves Leaves Leaves Leaves expr_leaf_set tree_leaf_set order_leaf_set output_leaf_set judged_leaves

abbrev pub tree_leaves_level : JoinTreeLayer → JoinTree-F Leaves Leaves Leaves Leaves Leaves
tree_leaves_level = map-JoinTree Expr JoinTree Order Output Query Leaves Leaves Leaves Leaves Leaves expr_leaf_set tree_leaf_set order_leaf_set output_leaf_set judged_leaves

abbrev pub query_leaves_level : QueryLayer → Query-F Leaves Leaves Leaves Leaves Leaves
query_leaves_level = map-Query Expr JoinTree Order Output Query Leaves Leaves Leaves Leaves Leaves expr_leaf_set tree_leaf_set order_leaf_set output_leaf_set judged_leaves

-- ---- what is judged, at each place

module _ (schema : Schema) where
  -- the relations that the tuples of these trees give rows to
  abbrev pub all_of : Scope → List JoinTree → List Entry
  all_of s [] = []
  all_of s (t ∷ ts) = entries_of schema t s ++ all_of s ts

  module _ (tests : Tests) where
    abbrev judged_e : Expr → Judged ℕ
    judged_e = judged_expr schema tests

    abbrev judged_t : JoinTree → Judged (List Entry)
    judged_t = judged_tree schema tests

    abbrev judged_o : Order → Judged ℕ
    judged_o = judged_order_by schema tests

    abbrev judged_u : Output → Judged Column
    judged_u = judged_output_by schema tests

    abbrev judged_q : Query → Judged (List Column)
    judged_q = judged_query schema tests

    abbrev pub judged_level : ExprLayer → Expr-F (Judged ℕ) (Judged (List Entry)) (Judged ℕ) (Judged Column) (Judged (List Column))
    judged_level = map-Expr Expr JoinTree Order Output Query (Judged ℕ) (Judged (List Entry)) (Judged ℕ) (Judged Column) (Judged (List Column)) judged_e judged_t judged_o judged_u judged_q

    all_same : (s : Scope) (ts : List JoinTree) → all_entries (map judged_t ts) s ≡ all_of s ts
    all_same s [] = refl
    all_same s (t ∷ ts) = ap₂ ◌++◌ (ap (λ (e : Scope → List Entry). e s) (entries_judged schema tests t)) (all_same s ts)

    at_level : (s : Scope) (x : ExprLayer) → (judged_e (roll-Expr x)).passes s ≡ true → (expr_judged schema tests (judged_level x)).passes s ≡ true
    at_level s x h = subst (λ (j : Judged ℕ). j.passes s ≡ true) (fold-roll-Expr (Judged ℕ) (Judged (List Entry)) (Judged ℕ) (Judged Column) (Judged (List Column)) (expr_judged schema tests) (tree_judged schema tests) (order_judged schema tests) (output_judged schema tests) (query_judged schema tests) x) h

    pub own_columns : (s : Scope) (x : ExprLayer) → (judged_e (roll-Expr x)).passes s ≡ true → list_all (tests.column s) (node_column (judged_level x)) ≡ true
    own_columns s x h =
        let y = judged_level x in
        let rest = list_all (tests.placeholder s) (node_placeholder y) && (list_all (passes_in s) (parts y) && list_all (passes_in s) (option_part (sublink_query y))) in
        and_left (list_all (tests.column s) (node_column y)) rest (and_right (tests.bound (judged_bound y s)) (list_all (tests.column s) (node_column y) && rest) (at_level s x h))

    pub own_places : (s : Scope) (x : ExprLayer) → (judged_e (roll-Expr x)).passes s ≡ true → list_all (tests.placeholder s) (node_placeholder (judged_level x)) ≡ true
    own_places s x h =
        let y = judged_level x in
        let inner = list_all (passes_in s) (parts y) && list_all (passes_in s) (option_part (sublink_query y)) in
        let columns = list_all (tests.column s) (node_column y) in
        let places = list_all (tests.placeholder s) (node_placeholder y) in
        and_left places inner (and_right columns (places && inner) (and_right (tests.bound (judged_bound y s)) (columns && (places && inner)) (at_level s x h)))

    pub expr_down : (s : Scope) (x : ExprLayer) → (judged_e (roll-Expr x)).passes s ≡ true → Each (λ y. (judged_e y).passes s ≡ true) (parts x) × Each (λ y. (judged_q y).passes s ≡ true) (option_part (sublink_query x))
    expr_down s x h =
        let good = expr_passes schema tests s (judged_level x) (at_level s x h) in (
          each_mapped (λ (j : Judged ℕ). j.passes s ≡ true) judged_e (parts x) (subst (Each (λ (j : Judged ℕ). j.passes s ≡ true)) (parts_map judged_e judged_t judged_o judged_u judged_q x) good.parts),
          each_mapped (λ (j : Judged (List Column)). j.passes s ≡ true) judged_q (option_part (sublink_query x)) (subst (Each (λ (j : Judged (List Column)). j.passes s ≡ true)) (sublink_map judged_e judged_t judged_o judged_u judged_q x) good.sublinks),
        )

    pub record TreeDown (s : Scope) (x : JoinTreeLayer) : Type 0 where
      pub place : tests.scope (all_of s (trees x) ++ s) ≡ true
      pub sides : Each (λ y. (judged_t y).passes s ≡ true) (trees x)
      pub conds : Each (λ y. (judged_e y).passes (all_of s (trees x) ++ s) ≡ true) (conditions x)
      pub inner : Each (λ y. (judged_q y).passes s ≡ true) (option_part (leaf_query x))

    pub tree_down : (s : Scope) (x : JoinTreeLayer) → (judged_t (roll-JoinTree x)).passes s ≡ true → TreeDown s x
    tree_down s x h =
        let y = map-JoinTree Expr JoinTree Order Output Query (Judged ℕ) (Judged (List Entry)) (Judged ℕ) (Judged Column) (Judged (List Column)) judged_e judged_t judged_o judged_u judged_q x in
        let good = tree_passed schema tests s y (subst (λ (j : Judged (List Entry)). j.passes s ≡ true) (fold-roll-JoinTree (Judged ℕ) (Judged (List Entry)) (Judged ℕ) (Judged Column) (Judged (List Column)) (expr_judged schema tests) (tree_judged schema tests) (order_judged schema tests) (output_judged schema tests) (query_judged schema tests) x) h) in
        let sides = trees_map judged_e judged_t judged_o judged_u judged_q x in
        let seen = ap (λ list. all_entries list s) sides ∙ all_same s (trees x) in
        record {
          place = subst (λ list. tests.scope (list ++ s) ≡ true) seen good.place;
          sides = each_mapped (λ (j : Judged (List Entry)). j.passes s ≡ true) judged_t (trees x) (subst (Each (λ (j : Judged (List Entry)). j.passes s ≡ true)) sides good.inner);
          conds = each_mapped (λ (j : Judged ℕ). j.passes (all_of s (trees x) ++ s) ≡ true) judged_e (conditions x)
              (subst (Each (λ (j : Judged ℕ). j.passes (all_of s (trees x) ++ s) ≡ true)) (conditions_map judged_e judged_t judged_o judged_u judged_q x) (subst (λ list. Each (λ (j : Judged ℕ). j.passes (list ++ s) ≡ true) (conditions y)) seen good.conds));
          inner = each_mapped (λ (j : Judged (List Column)). j.passes s ≡ true) judged_q (option_part (leaf_query x)) (subst (Each (λ (j : Judged (List Column)). j.passes s ≡ true)) (leaf_map judged_e judged_t judged_o judged_u judged_q x) good.leaf);
        }

    pub record QueryDown (s : Scope) (q : QueryLayer) : Type 0 where
      pub place : tests.scope (entries_of schema q.tree s ++ s) ≡ true
      pub tree : (judged_t q.tree).passes s ≡ true
      pub columns : Each (λ y. (judged_u y).passes (entries_of schema q.tree s ++ s) ≡ true) q.columns
      pub conds : Each (λ y. (judged_e y).passes (entries_of schema q.tree s ++ s) ≡ true) q.conds
      pub order : Each (λ y. (judged_o y).passes (entries_of schema q.tree s ++ s) ≡ true) q.order

    pub query_down : (s : Scope) (q : QueryLayer) → (judged_q (roll-Query q)).passes s ≡ true → QueryDown s q
    query_down s q h =
        let y = map-Query Expr JoinTree Order Output Query (Judged ℕ) (Judged (List Entry)) (Judged ℕ) (Judged Column) (Judged (List Column)) judged_e judged_t judged_o judged_u judged_q q in
        let good = query_passed schema tests s y (subst (λ (j : Judged (List Column)). j.passes s ≡ true) (fold-roll-Query (Judged ℕ) (Judged (List Entry)) (Judged ℕ) (Judged Column) (Judged (List Column)) (expr_judged schema tests) (tree_judged schema tests) (order_judged schema tests) (output_judged schema tests) (query_judged schema tests) q) h) in
        let seen = ap (λ (e : Scope → List Entry). e s) (entries_judged schema tests q.tree) in
        record {
          place = subst (λ list. tests.scope (list ++ s) ≡ true) seen good.place;
          tree = good.tree;
          columns = each_mapped (λ (j : Judged Column). j.passes (entries_of schema q.tree s ++ s) ≡ true) judged_u q.columns (subst (λ list. Each (λ (j : Judged Column). j.passes (list ++ s) ≡ true) y.columns) seen good.columns);
          conds = each_mapped (λ (j : Judged ℕ). j.passes (entries_of schema q.tree s ++ s) ≡ true) judged_e q.conds (subst (λ list. Each (λ (j : Judged ℕ). j.passes (list ++ s) ≡ true) y.conds) seen good.conds);
          order = each_mapped (λ (j : Judged ℕ). j.passes (entries_of schema q.tree s ++ s) ≡ true) judged_o q.order (subst (λ list. Each (λ (j : Judged ℕ). j.passes (list ++ s) ≡ true) y.order) seen good.order);
        }

    pub order_down : (s : Scope) (x : OrderLayer) → (judged_o (roll-Order x)).passes s ≡ true → (judged_e x.expr).passes s ≡ true
    order_down s x h = subst (λ (j : Judged ℕ). j.passes s ≡ true) (fold-roll-Order (Judged ℕ) (Judged (List Entry)) (Judged ℕ) (Judged Column) (Judged (List Column)) (expr_judged schema tests) (tree_judged schema tests) (order_judged schema tests) (output_judged schema tests) (query_judged schema tests) x) h

    pub output_down : (s : Scope) (x : OutputLayer) → (judged_u (roll-Output x)).passes s ≡ true → (judged_e x.expr).passes s ≡ true
    output_down s x h = subst (λ (j : Judged Column). j.passes s ≡ true) (fold-roll-Output (Judged ℕ) (Judged (List Entry)) (Judged ℕ) (Judged Column) (Judged (List Column)) (expr_judged schema tests) (tree_judged schema tests) (order_judged schema tests) (output_judged schema tests) (query_judged schema tests) x) h

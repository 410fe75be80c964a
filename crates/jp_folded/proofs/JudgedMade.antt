-- A level passes a judgement where it passes by itself and its parts pass.
use Rattle.std.proofs.Common.{◌≡◌, ◌∙◌, ap, sym, subst, refl, ℕ, Bool, true, ◌&&◌, List, [], ◌∷◌, ◌++◌, map}
use Rattle.std.specs.List.{list_all}
use Rattle.jp_query.specs.declared.Expr.{Expr}
use Rattle.jp_query.specs.declared.JoinTree.{JoinTree}
use Rattle.jp_query.specs.declared.Order.{Order}
use Rattle.jp_query.specs.declared.Output.{Output}
use Rattle.jp_query.specs.declared.Query.{Query}
use Rattle.jp_query.specs.declared.Expr.TheOpen.{Expr-F, JoinTree-F}
use Rattle.jp_query.specs.declared.Expr.TheViews.{roll-Expr, roll-JoinTree, roll-Order, roll-Output, roll-Query}
use Rattle.jp_query.specs.declared.Expr.TheFolds.{map-Expr, map-JoinTree, fold-roll-Expr, fold-roll-JoinTree, fold-roll-Order, fold-roll-Output, fold-roll-Query}
use Rattle.jp_query.specs.Layers.{ExprLayer, JoinTreeLayer, OrderLayer, OutputLayer, QueryLayer}
use Rattle.jp_query.specs.Parts.{option_part, parts, sublink_query, trees, conditions, leaf_query, node_column, node_placeholder}
use Rattle.jp_query.specs.Scopes.{Column, Schema, Entry, Scope, EntriesIn, bound_of}
use Rattle.jp_query.specs.Conditions.{Tests, Judged, passes_in, judged_bound, expr_judged, tree_judged, order_judged, output_judged, query_judged, all_entries, judged_expr, judged_tree, judged_query}
use Rattle.jp_laws.proofs.EachPart.{Each, each_true, parts_map, sublink_map, trees_map, conditions_map, leaf_map}
use Rattle.jp_laws.proofs.ValueLaws.{and_left, and_right}
use Rattle.jp_laws.proofs.OwnColumns.{column_map}
use Rattle.jp_laws.proofs.JudgedLaws.{judged_order_by, judged_output_by}
use Rattle.jp_laws.proofs.JudgedValues.{bound_judged, entries_judged}
use Rattle.jp_folding.proofs.FineDown.{entries_beside, inside, above}

all_pass : {X : Type 0} (f : X → Bool) (xs : List X) → Each (λ x. f x ≡ true) xs → list_all f xs ≡ true
all_pass f [] h = refl
all_pass f (x ∷ xs) h = λ i. h.0 i && all_pass f xs h.1 i

all_mapped : {X Y : Type 0} (f : Y → Bool) (g : X → Y) (xs : List X) → Each (λ x. f (g x) ≡ true) xs → list_all f (map g xs) ≡ true
all_mapped f g [] h = refl
all_mapped f g (x ∷ xs) h = λ i. h.0 i && all_mapped f g xs h.1 i

module _ {A B C D F A' B' C' D' F' : Type 0} (a : A → A') (b : B → B') (c : C → C') (d : D → D') (q : F → F') where
  pub placeholder_map : (x : Expr-F A B C D F) → node_placeholder (map-Expr A B C D F A' B' C' D' F' a b c d q x) ≡ node_placeholder x
  placeholder_map (Expr-F.Place inner rels) = refl
  placeholder_map x = refl

module _ (schema : Schema) (tests : Tests) where
  abbrev pub Passes : Scope → Expr → Type 0
  Passes s e = (judged_expr schema tests e).passes s ≡ true

  abbrev pub PassesTree : Scope → JoinTree → Type 0
  PassesTree s t = (judged_tree schema tests t).passes s ≡ true

  abbrev pub PassesOrder : Scope → Order → Type 0
  PassesOrder s o = (judged_order_by schema tests o).passes s ≡ true

  abbrev pub PassesOutput : Scope → Output → Type 0
  PassesOutput s u = (judged_output_by schema tests u).passes s ≡ true

  abbrev pub PassesQuery : Scope → Query → Type 0
  PassesQuery s q = (judged_query schema tests q).passes s ≡ true

  abbrev level : ExprLayer → Expr-F (Judged ℕ) (Judged (List Entry)) (Judged ℕ) (Judged Column) (Judged (List Column))
  level = map-Expr Expr JoinTree Order Output Query (Judged ℕ) (Judged (List Entry)) (Judged ℕ) (Judged Column) (Judged (List Column)) (judged_expr schema tests) (judged_tree schema tests) (judged_order_by schema tests) (judged_output_by schema tests) (judged_query schema tests)

  abbrev tree_level : JoinTreeLayer → JoinTree-F (Judged ℕ) (Judged (List Entry)) (Judged ℕ) (Judged Column) (Judged (List Column))
  tree_level = map-JoinTree Expr JoinTree Order Output Query (Judged ℕ) (Judged (List Entry)) (Judged ℕ) (Judged Column) (Judged (List Column)) (judged_expr schema tests) (judged_tree schema tests) (judged_order_by schema tests) (judged_output_by schema tests) (judged_query schema tests)

  -- ---- an expression

  -- its own bound, as its judgement has it
  own_bound : (s : Scope) (x : ExprLayer) → judged_bound (level x) s ≡ bound_of schema (roll-Expr x) s
  own_bound s x = ap (λ (j : Judged ℕ). j.value s) (sym (fold-roll-Expr (Judged ℕ) (Judged (List Entry)) (Judged ℕ) (Judged Column) (Judged (List Column)) (expr_judged schema tests) (tree_judged schema tests) (order_judged schema tests) (output_judged schema tests) (query_judged schema tests) x))
      ∙ ap (λ (f : Scope → ℕ). f s) (bound_judged schema tests (roll-Expr x))

  pub record ExprPasses (s : Scope) (x : ExprLayer) : Type 0 where
    pub bound : tests.bound (bound_of schema (roll-Expr x) s) ≡ true
    pub columns : Each (λ c. tests.column s c ≡ true) (node_column x)
    pub places : Each (λ rels. tests.placeholder s rels ≡ true) (node_placeholder x)

  pub expr_own : (s : Scope) (x : ExprLayer) → Passes s (roll-Expr x) → ExprPasses s x
  expr_own s x h =
      let y = level x in
      let all = subst (λ (j : Judged ℕ). j.passes s ≡ true) (fold-roll-Expr (Judged ℕ) (Judged (List Entry)) (Judged ℕ) (Judged Column) (Judged (List Column)) (expr_judged schema tests) (tree_judged schema tests) (order_judged schema tests) (output_judged schema tests) (query_judged schema tests) x) h in
      let bound = tests.bound (judged_bound y s) in
      let columns = list_all (tests.column s) (node_column y) in
      let places = list_all (tests.placeholder s) (node_placeholder y) in
      let inner = list_all (passes_in s) (parts y) in
      let subs = list_all (passes_in s) (option_part (sublink_query y)) in
      let h1 = and_right bound (columns && (places && (inner && subs))) all in
      let h2 = and_right columns (places && (inner && subs)) h1 in
      record {
        bound = subst (λ n. tests.bound n ≡ true) (own_bound s x) (and_left bound (columns && (places && (inner && subs))) all);
        columns = subst (Each (λ c. tests.column s c ≡ true)) (column_map (judged_expr schema tests) (judged_tree schema tests) (judged_order_by schema tests) (judged_output_by schema tests) (judged_query schema tests) x) (each_true (tests.column s) (node_column y) (and_left columns (places && (inner && subs)) h1));
        places = subst (Each (λ c. tests.placeholder s c ≡ true)) (placeholder_map (judged_expr schema tests) (judged_tree schema tests) (judged_order_by schema tests) (judged_output_by schema tests) (judged_query schema tests) x) (each_true (tests.placeholder s) (node_placeholder y) (and_left places (inner && subs) h2));
      }

  pub expr_made : (s : Scope) (x : ExprLayer) → ExprPasses s x → Each (Passes s) (parts x) → Each (PassesQuery s) (option_part (sublink_query x)) → Passes s (roll-Expr x)
  expr_made s x own ps qs =
      let y = level x in
      let bound = subst (λ n. tests.bound n ≡ true) (sym (own_bound s x)) own.bound in
      let columns = ap (list_all (tests.column s)) (column_map (judged_expr schema tests) (judged_tree schema tests) (judged_order_by schema tests) (judged_output_by schema tests) (judged_query schema tests) x) ∙ all_pass (tests.column s) (node_column x) own.columns in
      let places = ap (list_all (tests.placeholder s)) (placeholder_map (judged_expr schema tests) (judged_tree schema tests) (judged_order_by schema tests) (judged_output_by schema tests) (judged_query schema tests) x) ∙ all_pass (tests.placeholder s) (node_placeholder x) own.places in
      let inner = ap (list_all (passes_in s)) (parts_map (judged_expr schema tests) (judged_tree schema tests) (judged_order_by schema tests) (judged_output_by schema tests) (judged_query schema tests) x) ∙ all_mapped (passes_in s) (judged_expr schema tests) (parts x) ps in
      let subs = ap (list_all (passes_in s)) (sublink_map (judged_expr schema tests) (judged_tree schema tests) (judged_order_by schema tests) (judged_output_by schema tests) (judged_query schema tests) x) ∙ all_mapped (passes_in s) (judged_query schema tests) (option_part (sublink_query x)) qs in
      subst (λ (j : Judged ℕ). j.passes s ≡ true) (sym (fold-roll-Expr (Judged ℕ) (Judged (List Entry)) (Judged ℕ) (Judged Column) (Judged (List Column)) (expr_judged schema tests) (tree_judged schema tests) (order_judged schema tests) (output_judged schema tests) (query_judged schema tests) x))
      (λ i. bound i && (columns i && (places i && (inner i && subs i))))

  -- ---- a tree and a query

  all_judged : (s : Scope) (ts : List JoinTree) → all_entries (map (judged_tree schema tests) ts) s ≡ entries_beside schema s ts
  all_judged s [] = refl
  all_judged s (t ∷ ts) = λ i. entries_judged schema tests t i s ++ all_judged s ts i

  pub tree_made : (s : Scope) (x : JoinTreeLayer) → tests.scope (inside schema s x) ≡ true → Each (Passes (inside schema s x)) (conditions x) → Each (PassesTree s) (trees x) → Each (PassesQuery s) (option_part (leaf_query x)) → PassesTree s (roll-JoinTree x)
  tree_made s x place conds sides leaf =
      let y = tree_level x in
      let seen : all_entries (trees y) s ++ s ≡ inside schema s x = ap (λ ts. all_entries ts s ++ s) (trees_map (judged_expr schema tests) (judged_tree schema tests) (judged_order_by schema tests) (judged_output_by schema tests) (judged_query schema tests) x) ∙ ap (λ es. es ++ s) (all_judged s (trees x)) in
      let inner = all_entries (trees y) s ++ s in
      let place' = subst (λ (o : Scope). tests.scope o ≡ true) (sym seen) place in
      let conds' = ap (list_all (passes_in inner)) (conditions_map (judged_expr schema tests) (judged_tree schema tests) (judged_order_by schema tests) (judged_output_by schema tests) (judged_query schema tests) x) ∙ all_mapped (passes_in inner) (judged_expr schema tests) (conditions x) (subst (λ (o : Scope). Each (λ p. (judged_expr schema tests p).passes o ≡ true) (conditions x)) (sym seen) conds) in
      let sides' = ap (list_all (passes_in s)) (trees_map (judged_expr schema tests) (judged_tree schema tests) (judged_order_by schema tests) (judged_output_by schema tests) (judged_query schema tests) x) ∙ all_mapped (passes_in s) (judged_tree schema tests) (trees x) sides in
      let leaf' = ap (list_all (passes_in s)) (leaf_map (judged_expr schema tests) (judged_tree schema tests) (judged_order_by schema tests) (judged_output_by schema tests) (judged_query schema tests) x) ∙ all_mapped (passes_in s) (judged_query schema tests) (option_part (leaf_query x)) leaf in
      subst (λ (j : Judged (List Entry)). j.passes s ≡ true) (sym (fold-roll-JoinTree (Judged ℕ) (Judged (List Entry)) (Judged ℕ) (Judged Column) (Judged (List Column)) (expr_judged schema tests) (tree_judged schema tests) (order_judged schema tests) (output_judged schema tests) (query_judged schema tests) x))
      (λ i. place' i && (conds' i && (sides' i && leaf' i)))

  pub order_made : (s : Scope) (x : OrderLayer) → Passes s x.expr → PassesOrder s (roll-Order x)
  order_made s x h = subst (λ (j : Judged ℕ). j.passes s ≡ true) (sym (fold-roll-Order (Judged ℕ) (Judged (List Entry)) (Judged ℕ) (Judged Column) (Judged (List Column)) (expr_judged schema tests) (tree_judged schema tests) (order_judged schema tests) (output_judged schema tests) (query_judged schema tests) x)) h

  pub output_made : (s : Scope) (x : OutputLayer) → Passes s x.expr → PassesOutput s (roll-Output x)
  output_made s x h = subst (λ (j : Judged Column). j.passes s ≡ true) (sym (fold-roll-Output (Judged ℕ) (Judged (List Entry)) (Judged ℕ) (Judged Column) (Judged (List Column)) (expr_judged schema tests) (tree_judged schema tests) (order_judged schema tests) (output_judged schema tests) (query_judged schema tests) x)) h

  pub query_place : (s : Scope) (x : QueryLayer) → PassesQuery s (roll-Query x) → tests.scope (above schema s x) ≡ true
  query_place s x h =
      let all = subst (λ (j : Judged (List Column)). j.passes s ≡ true) (fold-roll-Query (Judged ℕ) (Judged (List Entry)) (Judged ℕ) (Judged Column) (Judged (List Column)) (expr_judged schema tests) (tree_judged schema tests) (order_judged schema tests) (output_judged schema tests) (query_judged schema tests) x) h in
      let inner = (judged_tree schema tests x.tree).value s ++ s in
      let columns = list_all (passes_in inner) (map (judged_output_by schema tests) x.columns) in
      let conds = list_all (passes_in inner) (map (judged_expr schema tests) x.conds) in
      let order = list_all (passes_in inner) (map (judged_order_by schema tests) x.order) in
      let rest = and_right ((judged_tree schema tests x.tree).passes s) (tests.scope inner && (columns && (conds && order))) all in
      subst (λ (o : Scope). tests.scope o ≡ true) (ap (λ (e : EntriesIn). e s ++ s) (entries_judged schema tests x.tree)) (and_left (tests.scope inner) (columns && (conds && order)) rest)

  pub query_made : (s : Scope) (x : QueryLayer) → PassesTree s x.tree → tests.scope (above schema s x) ≡ true → Each (PassesOutput (above schema s x)) x.columns → Each (Passes (above schema s x)) x.conds → Each (PassesOrder (above schema s x)) x.order → PassesQuery s (roll-Query x)
  query_made s x tree place columns conds order =
      let seen : (judged_tree schema tests x.tree).value s ++ s ≡ above schema s x = ap (λ (e : EntriesIn). e s ++ s) (entries_judged schema tests x.tree) in
      let inner = (judged_tree schema tests x.tree).value s ++ s in
      let place' = subst (λ (o : Scope). tests.scope o ≡ true) (sym seen) place in
      let columns' = all_mapped (passes_in inner) (judged_output_by schema tests) x.columns (subst (λ (o : Scope). Each (λ p. (judged_output_by schema tests p).passes o ≡ true) x.columns) (sym seen) columns) in
      let conds' = all_mapped (passes_in inner) (judged_expr schema tests) x.conds (subst (λ (o : Scope). Each (λ p. (judged_expr schema tests p).passes o ≡ true) x.conds) (sym seen) conds) in
      let order' = all_mapped (passes_in inner) (judged_order_by schema tests) x.order (subst (λ (o : Scope). Each (λ p. (judged_order_by schema tests p).passes o ≡ true) x.order) (sym seen) order) in
      subst (λ (j : Judged (List Column)). j.passes s ≡ true) (sym (fold-roll-Query (Judged ℕ) (Judged (List Entry)) (Judged ℕ) (Judged Column) (Judged (List Column)) (expr_judged schema tests) (tree_judged schema tests) (order_judged schema tests) (output_judged schema tests) (query_judged schema tests) x))
      (λ i. tree i && (place' i && (columns' i && (conds' i && order' i))))

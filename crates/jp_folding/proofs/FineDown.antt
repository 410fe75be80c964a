-- That a tree is typed, knows its columns and tells its relations apart is handed down to its parts, with what is visible there.
use Rattle.std.proofs.Common.{◌≡◌, ◌∙◌, ap, sym, subst, refl, ℕ, Bool, true, List, [], ◌∷◌, ◌++◌, map, IsSome}
use Rattle.jp_query.specs.declared.Expr.{Expr}
use Rattle.jp_query.specs.declared.JoinTree.{JoinTree}
use Rattle.jp_query.specs.declared.Order.{Order}
use Rattle.jp_query.specs.declared.Output.{Output}
use Rattle.jp_query.specs.declared.Query.{Query}
use Rattle.jp_query.specs.declared.Expr.TheOpen.{Expr-F, JoinTree-F, Query-F}
use Rattle.jp_query.specs.declared.Expr.TheViews.{roll-Expr, roll-JoinTree, roll-Order, roll-Output, roll-Query}
use Rattle.jp_query.specs.declared.Expr.TheFolds.{map-Expr, map-JoinTree, map-Query, fold-roll-Expr, fold-roll-JoinTree, fold-roll-Order, fold-roll-Output, fold-roll-Query}
use Rattle.jp_query.specs.Layers.{ExprLayer, JoinTreeLayer, OrderLayer, OutputLayer, QueryLayer}
use Rattle.jp_query.specs.Parts.{option_part, parts, sublink_query, trees, conditions, leaf_query}
use Rattle.jp_query.specs.Scopes.{Column, Schema, Entry, Scope, EntriesIn, entries_of}
use Rattle.jp_query.specs.Typing.{type_of, tree_is_typed, typed_query}
use Rattle.jp_query.specs.Conditions.{Tests, Judged, expr_judged, tree_judged, order_judged, output_judged, query_judged, all_entries, relation_of, are_distinct, judged_expr, judged_tree, judged_query, knows_columns, tells_relations_apart}
use Rattle.jp_induction.specs.HandedDown.{HandsDown}
use Rattle.jp_laws.proofs.EachPart.{Each, each_mapped, parts_map, sublink_map, trees_map, conditions_map, leaf_map}
use Rattle.jp_laws.proofs.GatheredLaws.{IsTypedInner, IsTrueTree, IsTypedColumn, typed_order, typed_output}
use Rattle.jp_laws.proofs.JudgedLaws.{expr_passes, tree_passed, query_passed, judged_order_by, judged_output_by}
use Rattle.jp_laws.proofs.JudgedValues.{entries_judged}
use Rattle.jp_laws.proofs.TuplesFit.{joined_entries}
use Rattle.jp_folding.proofs.TypedDown.{typed_down}

pub three : {X : Type 0} (A B C P : X → Type 0) → ((x : X) → A x → B x → C x → P x) → (xs : List X) → Each A xs → Each B xs → Each C xs → Each P xs
three A B C P w [] a b c = tt
three A B C P w (x ∷ xs) a b c = (w x a.0 b.0 c.0, three A B C P w xs a.1 b.1 c.1)

module _ (schema : Schema) where
  abbrev pub entries_in : Scope → JoinTree → List Entry
  entries_in s t = entries_of schema t s

  -- the entries of a list of trees
  abbrev pub entries_beside : Scope → List JoinTree → List Entry
  entries_beside s ts = joined_entries (map (entries_in s) ts)

  -- ---- what passes a judgement

  module _ (tests : Tests) where
    all_judged : (s : Scope) (ts : List JoinTree) → all_entries (map (judged_tree schema tests) ts) s ≡ entries_beside s ts
    all_judged s [] = refl
    all_judged s (t ∷ ts) = λ i. entries_judged schema tests t i s ++ all_judged s ts i

    pub expr_parts : (s : Scope) (x : ExprLayer) → (judged_expr schema tests (roll-Expr x)).passes s ≡ true → Each (λ p. (judged_expr schema tests p).passes s ≡ true) (parts x) × Each (λ q. (judged_query schema tests q).passes s ≡ true) (option_part (sublink_query x))
    expr_parts s x h =
        let level = map-Expr Expr JoinTree Order Output Query (Judged ℕ) (Judged (List Entry)) (Judged ℕ) (Judged Column) (Judged (List Column)) (judged_expr schema tests) (judged_tree schema tests) (judged_order_by schema tests) (judged_output_by schema tests) (judged_query schema tests) x in
        let good = expr_passes schema tests s level (subst (λ (j : Judged ℕ). j.passes s ≡ true) (fold-roll-Expr (Judged ℕ) (Judged (List Entry)) (Judged ℕ) (Judged Column) (Judged (List Column)) (expr_judged schema tests) (tree_judged schema tests) (order_judged schema tests) (output_judged schema tests) (query_judged schema tests) x) h) in (
          each_mapped (λ (j : Judged ℕ). j.passes s ≡ true) (judged_expr schema tests) (parts x) (subst (Each (λ (j : Judged ℕ). j.passes s ≡ true)) (parts_map (judged_expr schema tests) (judged_tree schema tests) (judged_order_by schema tests) (judged_output_by schema tests) (judged_query schema tests) x) good.parts),
          each_mapped (λ (j : Judged (List Column)). j.passes s ≡ true) (judged_query schema tests) (option_part (sublink_query x)) (subst (Each (λ (j : Judged (List Column)). j.passes s ≡ true)) (sublink_map (judged_expr schema tests) (judged_tree schema tests) (judged_order_by schema tests) (judged_output_by schema tests) (judged_query schema tests) x) good.sublinks),
        )

    pub record TreeParts (s : Scope) (x : JoinTreeLayer) : Type 0 where
      pub place : tests.scope (entries_beside s (trees x) ++ s) ≡ true
      pub sides : Each (λ t. (judged_tree schema tests t).passes s ≡ true) (trees x)
      pub conds : Each (λ p. (judged_expr schema tests p).passes (entries_beside s (trees x) ++ s) ≡ true) (conditions x)
      pub leaf : Each (λ q. (judged_query schema tests q).passes s ≡ true) (option_part (leaf_query x))

    pub tree_parts : (s : Scope) (x : JoinTreeLayer) → (judged_tree schema tests (roll-JoinTree x)).passes s ≡ true → TreeParts s x
    tree_parts s x h =
        let level = map-JoinTree Expr JoinTree Order Output Query (Judged ℕ) (Judged (List Entry)) (Judged ℕ) (Judged Column) (Judged (List Column)) (judged_expr schema tests) (judged_tree schema tests) (judged_order_by schema tests) (judged_output_by schema tests) (judged_query schema tests) x in
        let good = tree_passed schema tests s level (subst (λ (j : Judged (List Entry)). j.passes s ≡ true) (fold-roll-JoinTree (Judged ℕ) (Judged (List Entry)) (Judged ℕ) (Judged Column) (Judged (List Column)) (expr_judged schema tests) (tree_judged schema tests) (order_judged schema tests) (output_judged schema tests) (query_judged schema tests) x) h) in
        let seen : all_entries (trees level) s ++ s ≡ entries_beside s (trees x) ++ s = ap (λ ts. all_entries ts s ++ s) (trees_map (judged_expr schema tests) (judged_tree schema tests) (judged_order_by schema tests) (judged_output_by schema tests) (judged_query schema tests) x) ∙ ap (λ es. es ++ s) (all_judged s (trees x)) in
        let conds = each_mapped (λ (j : Judged ℕ). j.passes (all_entries (trees level) s ++ s) ≡ true) (judged_expr schema tests) (conditions x) (subst (Each (λ (j : Judged ℕ). j.passes (all_entries (trees level) s ++ s) ≡ true)) (conditions_map (judged_expr schema tests) (judged_tree schema tests) (judged_order_by schema tests) (judged_output_by schema tests) (judged_query schema tests) x) good.conds) in
        record {
          place = subst (λ (o : Scope). tests.scope o ≡ true) seen good.place;
          sides = each_mapped (λ (j : Judged (List Entry)). j.passes s ≡ true) (judged_tree schema tests) (trees x) (subst (Each (λ (j : Judged (List Entry)). j.passes s ≡ true)) (trees_map (judged_expr schema tests) (judged_tree schema tests) (judged_order_by schema tests) (judged_output_by schema tests) (judged_query schema tests) x) good.inner);
          conds = subst (λ (o : Scope). Each (λ p. (judged_expr schema tests p).passes o ≡ true) (conditions x)) seen conds;
          leaf = each_mapped (λ (j : Judged (List Column)). j.passes s ≡ true) (judged_query schema tests) (option_part (leaf_query x)) (subst (Each (λ (j : Judged (List Column)). j.passes s ≡ true)) (leaf_map (judged_expr schema tests) (judged_tree schema tests) (judged_order_by schema tests) (judged_output_by schema tests) (judged_query schema tests) x) good.leaf);
        }

    pub order_part : (s : Scope) (x : OrderLayer) → (judged_order_by schema tests (roll-Order x)).passes s ≡ true → (judged_expr schema tests x.expr).passes s ≡ true
    order_part s x h = subst (λ (j : Judged ℕ). j.passes s ≡ true) (fold-roll-Order (Judged ℕ) (Judged (List Entry)) (Judged ℕ) (Judged Column) (Judged (List Column)) (expr_judged schema tests) (tree_judged schema tests) (order_judged schema tests) (output_judged schema tests) (query_judged schema tests) x) h

    pub output_part : (s : Scope) (x : OutputLayer) → (judged_output_by schema tests (roll-Output x)).passes s ≡ true → (judged_expr schema tests x.expr).passes s ≡ true
    output_part s x h = subst (λ (j : Judged Column). j.passes s ≡ true) (fold-roll-Output (Judged ℕ) (Judged (List Entry)) (Judged ℕ) (Judged Column) (Judged (List Column)) (expr_judged schema tests) (tree_judged schema tests) (order_judged schema tests) (output_judged schema tests) (query_judged schema tests) x) h

    pub record QueryParts (s : Scope) (x : QueryLayer) : Type 0 where
      pub tree : (judged_tree schema tests x.tree).passes s ≡ true
      pub columns : Each (λ u. (judged_output_by schema tests u).passes (entries_in s x.tree ++ s) ≡ true) x.columns
      pub conds : Each (λ p. (judged_expr schema tests p).passes (entries_in s x.tree ++ s) ≡ true) x.conds
      pub order : Each (λ o. (judged_order_by schema tests o).passes (entries_in s x.tree ++ s) ≡ true) x.order

    pub query_parts : (s : Scope) (x : QueryLayer) → (judged_query schema tests (roll-Query x)).passes s ≡ true → QueryParts s x
    query_parts s x h =
        let level = map-Query Expr JoinTree Order Output Query (Judged ℕ) (Judged (List Entry)) (Judged ℕ) (Judged Column) (Judged (List Column)) (judged_expr schema tests) (judged_tree schema tests) (judged_order_by schema tests) (judged_output_by schema tests) (judged_query schema tests) x in
        let good = query_passed schema tests s level (subst (λ (j : Judged (List Column)). j.passes s ≡ true) (fold-roll-Query (Judged ℕ) (Judged (List Entry)) (Judged ℕ) (Judged Column) (Judged (List Column)) (expr_judged schema tests) (tree_judged schema tests) (order_judged schema tests) (output_judged schema tests) (query_judged schema tests) x) h) in
        let above : (judged_tree schema tests x.tree).value s ++ s ≡ entries_in s x.tree ++ s = ap (λ (e : EntriesIn). e s ++ s) (entries_judged schema tests x.tree) in
        record {
          tree = good.tree;
          columns = subst (λ (o : Scope). Each (λ u. (judged_output_by schema tests u).passes o ≡ true) x.columns) above (each_mapped (λ (j : Judged Column). j.passes ((judged_tree schema tests x.tree).value s ++ s) ≡ true) (judged_output_by schema tests) x.columns good.columns);
          conds = subst (λ (o : Scope). Each (λ p. (judged_expr schema tests p).passes o ≡ true) x.conds) above (each_mapped (λ (j : Judged ℕ). j.passes ((judged_tree schema tests x.tree).value s ++ s) ≡ true) (judged_expr schema tests) x.conds good.conds);
          order = subst (λ (o : Scope). Each (λ u. (judged_order_by schema tests u).passes o ≡ true) x.order) above (each_mapped (λ (j : Judged ℕ). j.passes ((judged_tree schema tests x.tree).value s ++ s) ≡ true) (judged_order_by schema tests) x.order good.order);
        }

  -- ---- the three conditions together

  pub record FineExpr (s : Scope) (x : Expr) : Type 0 where
    pub typed : IsSome (type_of x)
    pub knows : (judged_expr schema knows_columns x).passes s ≡ true
    pub apart : (judged_expr schema tells_relations_apart x).passes s ≡ true

  pub record FineTree (s : Scope) (x : JoinTree) : Type 0 where
    pub typed : tree_is_typed x ≡ true
    pub knows : (judged_tree schema knows_columns x).passes s ≡ true
    pub apart : (judged_tree schema tells_relations_apart x).passes s ≡ true

  pub record FineOrder (s : Scope) (x : Order) : Type 0 where
    pub typed : IsSome (typed_order x)
    pub knows : (judged_order_by schema knows_columns x).passes s ≡ true
    pub apart : (judged_order_by schema tells_relations_apart x).passes s ≡ true

  pub record FineOutput (s : Scope) (x : Output) : Type 0 where
    pub typed : (typed_output x).is_typed ≡ true
    pub knows : (judged_output_by schema knows_columns x).passes s ≡ true
    pub apart : (judged_output_by schema tells_relations_apart x).passes s ≡ true

  pub record FineQuery (s : Scope) (x : Query) : Type 0 where
    pub typed : (typed_query x).is_typed ≡ true
    pub knows : (judged_query schema knows_columns x).passes s ≡ true
    pub apart : (judged_query schema tells_relations_apart x).passes s ≡ true

  abbrev pub inside : Scope → JoinTreeLayer → Scope
  inside s x = entries_beside s (trees x) ++ s

  abbrev pub above : Scope → QueryLayer → Scope
  above s x = entries_in s x.tree ++ s

  exprs : (s : Scope) (xs : List Expr) → Each (λ x. IsSome (type_of x)) xs → Each (λ x. (judged_expr schema knows_columns x).passes s ≡ true) xs → Each (λ x. (judged_expr schema tells_relations_apart x).passes s ≡ true) xs → Each (FineExpr s) xs
  exprs s = three (λ x. IsSome (type_of x)) (λ x. (judged_expr schema knows_columns x).passes s ≡ true) (λ x. (judged_expr schema tells_relations_apart x).passes s ≡ true) (FineExpr s) (λ x a b c. record { typed = a; knows = b; apart = c })

  queries : (s : Scope) (xs : List Query) → Each (λ x. (typed_query x).is_typed ≡ true) xs → Each (λ x. (judged_query schema knows_columns x).passes s ≡ true) xs → Each (λ x. (judged_query schema tells_relations_apart x).passes s ≡ true) xs → Each (FineQuery s) xs
  queries s = three (λ x. (typed_query x).is_typed ≡ true) (λ x. (judged_query schema knows_columns x).passes s ≡ true) (λ x. (judged_query schema tells_relations_apart x).passes s ≡ true) (FineQuery s) (λ x a b c. record { typed = a; knows = b; apart = c })

  -- relations that are visible in a tree have numbers of their own
  pub told_apart : (s : Scope) (x : JoinTreeLayer) → FineTree s (roll-JoinTree x) → are_distinct (map relation_of (inside s x)) ≡ true
  told_apart s x c = (tree_parts tells_relations_apart s x c.apart).place

  pub fine_down : HandsDown Scope inside above FineExpr FineTree FineOrder FineOutput FineQuery
  fine_down = record {
    expr = λ s x c.
        let typed = typed_down.expr tt x c.typed in
        let knows = expr_parts knows_columns s x c.knows in
        let apart = expr_parts tells_relations_apart s x c.apart in
        (exprs s (parts x) typed.0 knows.0 apart.0, queries s (option_part (sublink_query x)) typed.1 knows.1 apart.1);
    tree = λ s x c.
        let typed = typed_down.tree tt x c.typed in
        let knows = tree_parts knows_columns s x c.knows in
        let apart = tree_parts tells_relations_apart s x c.apart in (
          three (λ t. tree_is_typed t ≡ true) (λ t. (judged_tree schema knows_columns t).passes s ≡ true) (λ t. (judged_tree schema tells_relations_apart t).passes s ≡ true) (FineTree s) (λ t a b d. record { typed = a; knows = b; apart = d }) (trees x) typed.0 knows.sides apart.sides,
          exprs (inside s x) (conditions x) typed.1 knows.conds apart.conds,
          queries s (option_part (leaf_query x)) typed.2 knows.leaf apart.leaf,
        );
    order = λ s x c. record { typed = typed_down.order tt x c.typed; knows = order_part knows_columns s x c.knows; apart = order_part tells_relations_apart s x c.apart };
    output = λ s x c. record { typed = typed_down.output tt x c.typed; knows = output_part knows_columns s x c.knows; apart = output_part tells_relations_apart s x c.apart };
    query = λ s x c.
        let typed = typed_down.query tt x c.typed in
        let knows = query_parts knows_columns s x c.knows in
        let apart = query_parts tells_relations_apart s x c.apart in (
          three (λ u. (typed_output u).is_typed ≡ true) (λ u. (judged_output_by schema knows_columns u).passes (above s x) ≡ true) (λ u. (judged_output_by schema tells_relations_apart u).passes (above s x) ≡ true) (FineOutput (above s x)) (λ u a b d. record { typed = a; knows = b; apart = d }) x.columns typed.0 knows.columns apart.columns,
          record { typed = typed.1; knows = knows.tree; apart = apart.tree },
          exprs (above s x) x.conds typed.2 knows.conds apart.conds,
          three (λ o. IsSome (typed_order o)) (λ o. (judged_order_by schema knows_columns o).passes (above s x) ≡ true) (λ o. (judged_order_by schema tells_relations_apart o).passes (above s x) ≡ true) (FineOrder (above s x)) (λ o a b d. record { typed = a; knows = b; apart = d }) x.order typed.3 knows.order apart.order,
        );
  }

-- The leaves of each block of a statement are leaves of the folded query.
use Rattle.std.proofs.Common.{◌≡◌, ◌∙◌, ap, sym, subst, refl, ℕ, zero, suc, ◌≤◌, inl, inr, false, List, [], ◌∷◌, ◌++◌, map, Some, None, arith}
use Rattle.std.specs.List.{flat_map}
use Rattle.jp_facts.proofs.Members.{In, to_in, in_append_left, in_append_right, from_append, from_flat_map}
use Rattle.jp_query.specs.declared.Expr.{Expr}
use Rattle.jp_query.specs.declared.JoinKind.{JoinKind}
use Rattle.jp_query.specs.declared.JoinTree.{JoinTree, out-JoinTree, roll-out-JoinTree}
use Rattle.jp_query.specs.declared.JoinTree.TheVariants as tree
use Rattle.jp_query.specs.declared.Order.{Order, out-Order, roll-out-Order}
use Rattle.jp_query.specs.declared.Output.{Output, out-Output, roll-out-Output}
use Rattle.jp_query.specs.declared.Query.{Query, out-Query, roll-out-Query}
use Rattle.jp_query.specs.declared.Expr.TheOpen.{JoinTree-F}
use Rattle.jp_query.specs.declared.Expr.TheViews.{roll-Expr, roll-JoinTree}
use Rattle.jp_query.specs.Layers.{ExprLayer, JoinTreeLayer}
use Rattle.jp_query.specs.Outermost.{Outer, outermost}
use Rattle.jp_query.specs.Parts.{all_in, option_part, parts, sublink_query, trees, conditions, leaf_query}
use Rattle.jp_induction.proofs.EachPart.{Each}
use Rattle.jp_problem.specs.Blocks.{block_exprs, listed_exprs, output_expr, order_expr}
use Rattle.jp_problem.specs.InnerBlocks.{blocks_at, blocks_of_item, exprs_at, exprs_of_item, side_block}
use Rattle.jp_problem.specs.Shapes.{block_shape, shape_of, exprs_in}
use Rattle.jp_conditions.proofs.Judging.{each_in}
use Rattle.jp_prepared.specs.Sources.{Source, IsSourceAt, AreSources, IsUsedBy, items_of_block, queries_of_items, sublinks_of_block}
use Rattle.jp_prepared.proofs.Counted.{each_by}
use Rattle.jp_prepared.proofs.ItemForms.{NotFull}
use Rattle.jp_prepared.proofs.LeafTrees as lists
use Rattle.jp_prepared.proofs.LeafTrees.{OfSome, from_some, no_own, leaf_here}
use Rattle.jp_prepared.proofs.Reached as reached
use Rattle.jp_prepared.proofs.SameLeaves.{trees_in_expr, trees_in_tree, trees_in_order, trees_in_output, trees_in_query}

module _ (Root : JoinTree → Type 0) where
  abbrev HE : Unit {0} → Expr → Type 0
  HE s e = (u : JoinTree) → In u (trees_in_expr e) → Root u

  abbrev HT : Unit {0} → JoinTree → Type 0
  HT s t = (u : JoinTree) → In u (trees_in_tree t) → Root u

  abbrev pub HQ : Unit {0} → Query → Type 0
  HQ s q = (u : JoinTree) → In u (trees_in_query q) → Root u

  abbrev inside : Unit {0} → JoinTreeLayer → Unit {0}
  inside s t = s

  pub expr_down : (s : Unit {0}) (x : ExprLayer) → HE s (roll-Expr x) → Each (HE s) (parts x) × Each (HQ s) (option_part (sublink_query x))
  expr_down s x h =
      let es = all_in (map trees_in_expr (parts x)) in
      let qs = all_in (map trees_in_query (option_part (sublink_query x))) in
      let all = λ (u : JoinTree) (m : In u (es ++ qs)). h u (subst (In u) (sym (lists.at_expr JoinTree no_own leaf_here x)) m) in (
        each_by (HE s) (parts x) (λ e m u k. all u (in_append_left u es qs (from_some trees_in_expr (parts x) u (e, m, k)))),
        each_by (HQ s) (option_part (sublink_query x)) (λ q m u k. all u (in_append_right u es qs (from_some trees_in_query (option_part (sublink_query x)) u (q, m, k)))),
      )

  pub tree_down : (s : Unit {0}) (t : JoinTreeLayer) → HT s (roll-JoinTree t) → Each (HT s) (trees t) × Each (HE s) (conditions t) × Each (HQ s) (option_part (leaf_query t))
  tree_down s t h =
      let own = leaf_here (lists.tree_level JoinTree no_own leaf_here t) in
      let ts = all_in (map trees_in_tree (trees t)) in
      let cs = all_in (map trees_in_expr (conditions t)) in
      let qs = all_in (map trees_in_query (option_part (leaf_query t))) in
      let all = λ (u : JoinTree) (m : In u (own ++ (ts ++ (cs ++ qs)))). h u (subst (In u) (sym (lists.at_tree JoinTree no_own leaf_here t)) m) in (
        each_by (HT s) (trees t) (λ x m u k. all u (in_append_right u own (ts ++ (cs ++ qs)) (in_append_left u ts (cs ++ qs) (from_some trees_in_tree (trees t) u (x, m, k))))),
        each_by (HE s) (conditions t) (λ x m u k. all u (in_append_right u own (ts ++ (cs ++ qs)) (in_append_right u ts (cs ++ qs) (in_append_left u cs qs (from_some trees_in_expr (conditions t) u (x, m, k)))))),
        each_by (HQ s) (option_part (leaf_query t)) (λ x m u k. all u (in_append_right u own (ts ++ (cs ++ qs)) (in_append_right u ts (cs ++ qs) (in_append_right u cs qs (from_some trees_in_query (option_part (leaf_query t)) u (x, m, k)))))),
      )

  join_down : (s : Unit {0}) (kind : JoinKind) (left right : JoinTree) (on : List Expr) → NotFull kind → HT s (tree.Join kind left right on) → HT s left × HT s right × Each (HE s) on
  join_down s kind left right on apart h = let d = tree_down s (JoinTree-F.Join kind left right on) (subst (HT s) (sym (tree.rolls-Join kind left right on)) h) in (d.0.0, d.0.1.0, d.1)

  from_down : (s : Unit {0}) (members : List JoinTree) (conds : List Expr) → HT s (tree.From members conds) → Each (HT s) members × Each (HE s) conds
  from_down s members conds h = let d = tree_down s (JoinTree-F.From members conds) (subst (HT s) (sym (tree.rolls-From members conds)) h) in (d.0, d.1)

  -- ---- of a block

  pub record Parts (q : Query) : Type 0 where
    pub columns : Each (λ u. (t : JoinTree) → In t (trees_in_output u) → Root t) (out-Query q).columns
    pub inner : HT tt (out-Query q).tree
    pub conds : Each (HE tt) (out-Query q).conds
    pub order : Each (λ o. (t : JoinTree) → In t (trees_in_order o) → Root t) (out-Query q).order

  pub query_down : (q : Query) → HQ tt q → Parts q
  query_down q h =
      let l = out-Query q in
      let us = all_in (map trees_in_output l.columns) in
      let ts = trees_in_tree l.tree in
      let cs = all_in (map trees_in_expr l.conds) in
      let os = all_in (map trees_in_order l.order) in
      let are = sym (ap trees_in_query (roll-out-Query q)) ∙ lists.at_query JoinTree no_own leaf_here l in
      let all = λ (u : JoinTree) (m : In u (us ++ (ts ++ (cs ++ os)))). h u (subst (In u) (sym are) m) in
      record {
        columns = each_by (λ u. (t : JoinTree) → In t (trees_in_output u) → Root t) l.columns (λ x m u k. all u (in_append_left u us (ts ++ (cs ++ os)) (from_some trees_in_output l.columns u (x, m, k))));
        inner = λ u k. all u (in_append_right u us (ts ++ (cs ++ os)) (in_append_left u ts (cs ++ os) k));
        conds = each_by (HE tt) l.conds (λ x m u k. all u (in_append_right u us (ts ++ (cs ++ os)) (in_append_right u ts (cs ++ os) (in_append_left u cs os (from_some trees_in_expr l.conds u (x, m, k))))));
        order = each_by (λ o. (t : JoinTree) → In t (trees_in_order o) → Root t) l.order (λ x m u k. all u (in_append_right u us (ts ++ (cs ++ os)) (in_append_right u ts (cs ++ os) (in_append_right u cs os (from_some trees_in_order l.order u (x, m, k))))));
      }

  items_held : (q : Query) → HQ tt q → Each (HT tt) (items_of_block q)
  items_held q h = reached.items_reached inside HE HT HQ expr_down join_down from_down (out-Query q).tree tt (query_down q h).inner

  blocks_held : (x : JoinTreeLayer) → HT tt (roll-JoinTree x) → Each (HQ tt) (blocks_at x)
  blocks_held (JoinTree-F.Base rel name table) h = tt
  blocks_held (JoinTree-F.Sub rel name query) h = ((tree_down tt (JoinTree-F.Sub rel name query) h).2.0, tt)
  blocks_held (JoinTree-F.Join kind left right on) h = let d = (tree_down tt (JoinTree-F.Join kind left right on) h).0 in (side left d.0, (side right d.1.0, tt))
    where
      side : (t : JoinTree) → HT tt t → HQ tt (side_block t)
      side t k u m = k u (last (trees_in_tree t) (subst (In u) (lists.at_query JoinTree no_own leaf_here (record { columns = []; distinct = false; tree = t; conds = []; order = [] })) m))
        where
          last : (xs : List JoinTree) → In u (xs ++ []) → In u xs
          last xs w = elim (from_append u xs [] w) [ inl a ↦ a | inr gone ↦ absurd gone ]
  blocks_held (JoinTree-F.From members conds) h = tt

  on_held : (x : JoinTreeLayer) → HT tt (roll-JoinTree x) → (e : Expr) → In e (exprs_at x) → HE tt e
  on_held (JoinTree-F.Join kind left right on) h e m = each_in (HE tt) on e (tree_down tt (JoinTree-F.Join kind left right on) h).1 m
  on_held (JoinTree-F.Base rel name table) h e gone = absurd gone
  on_held (JoinTree-F.Sub rel name query) h e gone = absurd gone
  on_held (JoinTree-F.From members conds) h e gone = absurd gone

  opened : (t : JoinTree) → HT tt t → HT tt (roll-JoinTree (out-JoinTree t))
  opened t h = subst (HT tt) (sym (roll-out-JoinTree t)) h

  shape_held : (q : Query) → HQ tt q → (e : Expr) → In e (exprs_in (shape_of (out-Query q).tree)) → HE tt e
  shape_held q h e m = (each_in (λ x. (s : Unit {0}) × HE s x) (exprs_in (shape_of (out-Query q).tree)) e (reached.exprs_reached inside HE HT HQ expr_down join_down from_down (out-Query q).tree tt (query_down q h).inner) m).1

  output_held : (us : List Output) → Each (λ u. (t : JoinTree) → In t (trees_in_output u) → Root t) us → (e : Expr) → In e (map output_expr us) → HE tt e
  output_held [] h e m t k = absurd m
  output_held (u ∷ us) h e (inl same) t k = h.0 t (subst (In t) (sym (lists.at_output JoinTree no_own leaf_here (out-Output u)) ∙ ap trees_in_output (roll-out-Output u)) (subst (λ x. In t (trees_in_expr x)) (sym same) k))
  output_held (u ∷ us) h e (inr m) t k = output_held us h.1 e m t k

  order_held : (os : List Order) → Each (λ o. (t : JoinTree) → In t (trees_in_order o) → Root t) os → (e : Expr) → In e (map order_expr os) → HE tt e
  order_held [] h e m t k = absurd m
  order_held (o ∷ os) h e (inl same) t k = h.0 t (subst (In t) (sym (lists.at_order JoinTree no_own leaf_here (out-Order o)) ∙ ap trees_in_order (roll-out-Order o)) (subst (λ x. In t (trees_in_expr x)) (sym same) k))
  order_held (o ∷ os) h e (inr m) t k = order_held os h.1 e m t k

  expr_held : (q : Query) → HQ tt q → (e : Expr) → In e (block_exprs q ++ flat_map exprs_of_item (items_of_block q)) → HE tt e
  expr_held q h e m =
      let l = out-Query q in
      let p = query_down q h in
      elim (from_append e (block_exprs q) (flat_map exprs_of_item (items_of_block q)) m) [
        | inl k ↦ elim (from_append e (exprs_in (block_shape q)) (listed_exprs q) k) [
          | inl a ↦ elim (from_append e (exprs_in (shape_of l.tree)) l.conds a) [ inl b ↦ shape_held q h e b | inr b ↦ each_in (HE tt) l.conds e p.conds b ]
          | inr a ↦ elim (from_append e (map output_expr l.columns) (map order_expr l.order) a) [ inl b ↦ output_held l.columns p.columns e b | inr b ↦ order_held l.order p.order e b ]
        ]
        | inr k ↦ (let f = from_flat_map exprs_of_item e (items_of_block q) k in on_held (out-JoinTree f.0) (opened f.0 (each_in (HT tt) (items_of_block q) f.0 (items_held q h) f.1)) e f.2)
      ]

  used_held : (q : Query) → HQ tt q → (inner : Source) → IsUsedBy q inner → HQ tt inner.query
  used_held q h inner (inl item) =
      let f = from_flat_map blocks_of_item item.0 (items_of_block q) (to_in item.0 (queries_of_items q) item.1) in
      subst (λ (x : Source). HQ tt x.query) (sym item.2) (each_in (HQ tt) (blocks_of_item f.0) item.0 (blocks_held (out-JoinTree f.0) (opened f.0 (each_in (HT tt) (items_of_block q) f.0 (items_held q h) f.1))) f.2)
  used_held q h inner (inr sublink) =
      let exprs = block_exprs q ++ flat_map exprs_of_item (items_of_block q) in
      let f = from_flat_map outermost sublink.0 exprs (to_in sublink.0 (sublinks_of_block q) sublink.1) in
      subst (λ (x : Source). HQ tt x.query) (sym sublink.2) (each_in (λ (o : Outer). HQ tt o.query) (outermost f.0) sublink.0 (reached.sublinks_reached inside HE HT HQ expr_down join_down from_down f.0 tt (expr_held q h f.0 f.1)) f.2)

  module _ (query : Query) (sources : List Source) (are : AreSources query sources) (top : HQ tt query) where
    unsome : (a b : Source) → Some a ≡ Some b → a ≡ b
    unsome a b e = cc

    below : (n number : ℕ) (source : Source) → number ≤ n → IsSourceAt sources number source → HQ tt source.query
    below n zero source low at = subst (λ (x : Source). HQ tt x.query) (unsome (record { query = query; sub = None }) source (sym are.statement ∙ at)) top
    below zero (suc number) source low at = absurd (omega (arith, low))
    below (suc n) (suc number) source low at = let by = are.used (suc number) source (omega arith) at in used_held by.1.query (below n by.0 by.1 (omega (arith, low, by.2)) by.3) source by.4

    -- a leaf that is an item of a block
    leaf_held : (t : JoinTree) → HT tt t → (x : JoinTreeLayer) → roll-JoinTree x ≡ t → In t (leaf_here (lists.tree_level JoinTree no_own leaf_here x)) → Root t
    leaf_held t h x rolls m = h t (subst (λ y. In t (trees_in_tree y)) rolls (subst (In t) (sym (lists.at_tree JoinTree no_own leaf_here x)) (in_append_left t (leaf_here (lists.tree_level JoinTree no_own leaf_here x)) (all_in (map trees_in_tree (trees x)) ++ (all_in (map trees_in_expr (conditions x)) ++ all_in (map trees_in_query (option_part (leaf_query x))))) m)))

    item_held : (number : ℕ) (source : Source) (t : JoinTree) → IsSourceAt sources number source → In t (items_of_block source.query) → HT tt t
    item_held number source t at m = each_in (HT tt) (items_of_block source.query) t (items_held source.query (below number number source (omega arith) at)) m

    pub base_held : (number : ℕ) (source : Source) (rel : ℕ) (name : List ℕ) (table : ℕ) → IsSourceAt sources number source → In (tree.Base rel name table) (items_of_block source.query) → Root (tree.Base rel name table)
    base_held number source rel name table at m = leaf_held (tree.Base rel name table) (item_held number source (tree.Base rel name table) at m) (JoinTree-F.Base rel name table) (tree.rolls-Base rel name table) (inl refl)

    pub sub_held : (number : ℕ) (source : Source) (rel : ℕ) (name : List ℕ) (q : Query) → IsSourceAt sources number source → In (tree.Sub rel name q) (items_of_block source.query) → Root (tree.Sub rel name q)
    sub_held number source rel name q at m = leaf_held (tree.Sub rel name q) (item_held number source (tree.Sub rel name q) at m) (JoinTree-F.Sub rel name q) (tree.rolls-Sub rel name q) (inl refl)

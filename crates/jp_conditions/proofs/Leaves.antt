-- The leaves in a part of a level are among those of the level.
use Rattle.std.proofs.Common.{◌≡◌, sym, subst, ℕ, inl, inr, List, [], ◌∷◌, fold}
use Rattle.jp_facts.proofs.Members.{In, in_append_left, in_append_right, in_map}
use Rattle.jp_query.specs.declared.Expr.TheOpen.{Expr-F, JoinTree-F, Query-F}
use Rattle.jp_query.specs.Conditions.{Leaf, Leaves, no_leaves, beside, together, leaf_inside, leaves_inside, leaf, expr_leaves, tree_leaves, query_leaves}
use Rattle.jp_query.specs.Parts.{parts, option_part, sublink_query, trees, conditions, leaf_query}

-- a leaf of this number is among them
abbrev pub HasLeaf : Leaves → ℕ → Type 0
HasLeaf all rel = (l : Leaf) × In l all.leaves × (l.number ≡ rel)

module _ (rel : ℕ) where
  pub of_first : (a b : Leaves) → HasLeaf a rel → HasLeaf (beside a b) rel
  of_first a b h = (h.0, in_append_left h.0 a.leaves b.leaves h.1, h.2)

  pub of_second : (a b : Leaves) → HasLeaf b rel → HasLeaf (beside a b) rel
  of_second a b h = (h.0, in_append_right h.0 a.leaves b.leaves h.1, h.2)

  pub of_inside : (sub : ℕ) (a : Leaves) → HasLeaf a rel → HasLeaf (leaves_inside sub a) rel
  of_inside sub a h = (leaf_inside sub h.0, in_map (leaf_inside sub) h.0 a.leaves h.1, h.2)

  of_start : (start : Leaves) (list : List Leaves) → HasLeaf start rel → HasLeaf (fold beside start list) rel
  of_start start [] h = h
  of_start start (a ∷ list) h = of_start (beside start a) list (of_first start a h)

  of_list : (start : Leaves) (list : List Leaves) (a : Leaves) → In a list → HasLeaf a rel → HasLeaf (fold beside start list) rel
  of_list start [] a m h = absurd m
  of_list start (b ∷ list) a (inl e) h = of_start (beside start b) list (of_second start b (subst (λ x. HasLeaf x rel) (sym e) h))
  of_list start (b ∷ list) a (inr m) h = of_list (beside start b) list a m h

  pub of_together : (list : List Leaves) (a : Leaves) → In a list → HasLeaf a rel → HasLeaf (together list) rel
  of_together list a m h = of_list no_leaves list a m h

  -- ---- levels

  pub part_leaf : (y : Expr-F Leaves Leaves Leaves Leaves Leaves) (a : Leaves) → In a (parts y) → HasLeaf a rel → HasLeaf (expr_leaves y) rel
  part_leaf (Expr-F.Exists sub query) a m h = absurd m
  part_leaf (Expr-F.InSub sub operand query) a (inl e) h = of_first operand (leaves_inside sub query) (subst (λ x. HasLeaf x rel) (sym e) h)
  part_leaf (Expr-F.InSub sub operand query) a (inr m) h = absurd m
  part_leaf y a m h = of_together (parts y) a m h

  pub sublink_leaf : (y : Expr-F Leaves Leaves Leaves Leaves Leaves) (a : Leaves) → In a (option_part (sublink_query y)) → HasLeaf a rel → HasLeaf (expr_leaves y) rel
  sublink_leaf (Expr-F.Exists sub query) a (inl e) h = of_inside sub query (subst (λ x. HasLeaf x rel) (sym e) h)
  sublink_leaf (Expr-F.Exists sub query) a (inr m) h = absurd m
  sublink_leaf (Expr-F.InSub sub operand query) a (inl e) h = of_second operand (leaves_inside sub query) (of_inside sub query (subst (λ x. HasLeaf x rel) (sym e) h))
  sublink_leaf (Expr-F.InSub sub operand query) a (inr m) h = absurd m
  sublink_leaf y a m h = absurd m

  pub tree_leaf : (t : JoinTree-F Leaves Leaves Leaves Leaves Leaves) (a : Leaves) → In a (trees t) → HasLeaf a rel → HasLeaf (tree_leaves t) rel
  tree_leaf (JoinTree-F.Base r name table) a m h = absurd m
  tree_leaf (JoinTree-F.Sub r name query) a m h = absurd m
  tree_leaf (JoinTree-F.Join kind left right on) a m h = of_first (together (left ∷ right ∷ [])) (together on) (of_together (left ∷ right ∷ []) a m h)
  tree_leaf (JoinTree-F.From members conds) a m h = of_first (together members) (together conds) (of_together members a m h)

  pub condition_leaf : (t : JoinTree-F Leaves Leaves Leaves Leaves Leaves) (a : Leaves) → In a (conditions t) → HasLeaf a rel → HasLeaf (tree_leaves t) rel
  condition_leaf (JoinTree-F.Base r name table) a m h = absurd m
  condition_leaf (JoinTree-F.Sub r name query) a m h = absurd m
  condition_leaf (JoinTree-F.Join kind left right on) a m h = of_second (together (left ∷ right ∷ [])) (together on) (of_together on a m h)
  condition_leaf (JoinTree-F.From members conds) a m h = of_second (together members) (together conds) (of_together conds a m h)

  pub inner_leaf : (t : JoinTree-F Leaves Leaves Leaves Leaves Leaves) (a : Leaves) → In a (option_part (leaf_query t)) → HasLeaf a rel → HasLeaf (tree_leaves t) rel
  inner_leaf (JoinTree-F.Base r name table) a m h = absurd m
  inner_leaf (JoinTree-F.Sub r name query) a (inl e) h = of_second (leaf r) query (subst (λ x. HasLeaf x rel) (sym e) h)
  inner_leaf (JoinTree-F.Sub r name query) a (inr m) h = absurd m
  inner_leaf (JoinTree-F.Join kind left right on) a m h = absurd m
  inner_leaf (JoinTree-F.From members conds) a m h = absurd m

  pub column_leaf : (q : Query-F Leaves Leaves Leaves Leaves Leaves) (a : Leaves) → In a q.columns → HasLeaf a rel → HasLeaf (query_leaves q) rel
  column_leaf q a m h = of_first (beside (beside (together q.columns) q.tree) (together q.conds)) (together q.order) (of_first (beside (together q.columns) q.tree) (together q.conds) (of_first (together q.columns) q.tree (of_together q.columns a m h)))

  pub from_leaf : (q : Query-F Leaves Leaves Leaves Leaves Leaves) → HasLeaf q.tree rel → HasLeaf (query_leaves q) rel
  from_leaf q h = of_first (beside (beside (together q.columns) q.tree) (together q.conds)) (together q.order) (of_first (beside (together q.columns) q.tree) (together q.conds) (of_second (together q.columns) q.tree h))

  pub where_leaf : (q : Query-F Leaves Leaves Leaves Leaves Leaves) (a : Leaves) → In a q.conds → HasLeaf a rel → HasLeaf (query_leaves q) rel
  where_leaf q a m h = of_first (beside (beside (together q.columns) q.tree) (together q.conds)) (together q.order) (of_second (beside (together q.columns) q.tree) (together q.conds) (of_together q.conds a m h))

  pub order_leaf : (q : Query-F Leaves Leaves Leaves Leaves Leaves) (a : Leaves) → In a q.order → HasLeaf a rel → HasLeaf (query_leaves q) rel
  order_leaf q a m h = of_second (beside (beside (together q.columns) q.tree) (together q.conds)) (together q.order) (of_together q.order a m h)

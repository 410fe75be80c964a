-- The leaves of a query at every depth, as trees, and the sublinks around them.
use Rattle.std.proofs.Common.{◌≡◌, ◌∙◌, ap, sym, subst, refl, inl, inr, List, [], ◌∷◌, ◌++◌, map}
use Rattle.jp_facts.proofs.Members.{In, in_append_left, in_append_right, from_append}
use Rattle.jp_query.specs.declared.Expr.{Expr}
use Rattle.jp_query.specs.declared.JoinTree.{JoinTree}
use Rattle.jp_query.specs.declared.JoinTree.TheVariants as tree
use Rattle.jp_query.specs.declared.Order.{Order}
use Rattle.jp_query.specs.declared.Output.{Output}
use Rattle.jp_query.specs.declared.Query.{Query}
use Rattle.jp_query.specs.declared.Expr.TheOpen.{Expr-F, JoinTree-F, Order-F, Output-F, Query-F}
use Rattle.jp_query.specs.declared.Expr.TheViews.{roll-Expr, roll-JoinTree, roll-Order, roll-Output, roll-Query}
use Rattle.jp_query.specs.declared.Expr.TheFolds.{map-Expr, map-JoinTree, para-Expr, para-JoinTree, para-Order, para-Output, para-Query, para-roll-Expr, para-roll-JoinTree, para-roll-Order, para-roll-Output, para-roll-Query}
use Rattle.jp_query.specs.Layers.{ExprLayer, JoinTreeLayer, OrderLayer, OutputLayer, QueryLayer}
use Rattle.jp_query.specs.Parts.{all_in, option_part, parts, sublink_query, trees, conditions, leaf_query}
use Rattle.jp_induction.proofs.EachPart.{parts_map, sublink_map, trees_map, conditions_map, leaf_map}

-- a member of one of these lists
module _ {A X : Type 0} (f : A → List X) where
  abbrev pub OfSome : List A → X → Type 0
  OfSome list x = (a : A) × In a list × In x (f a)

  pub to_some : (list : List A) (x : X) → In x (all_in (map f list)) → OfSome list x
  to_some [] x h = absurd h
  to_some (a ∷ list) x h = elim (from_append x (f a) (all_in (map f list)) h) [ inl k ↦ (a, inl refl, k) | inr k ↦ (let r = to_some list x k in (r.0, inr r.1, r.2)) ]

  pub from_some : (list : List A) (x : X) → OfSome list x → In x (all_in (map f list))
  from_some [] x h = absurd h.1
  from_some (a ∷ list) x h = elim h.1 [
    | inl same ↦ in_append_left x (f a) (all_in (map f list)) (subst (λ c. In x (f c)) (sym same) h.2)
    | inr rest ↦ in_append_right x (f a) (all_in (map f list)) (from_some list x (h.0, rest, h.2))
  ]

-- ---- lists that are gathered with the levels as they are

module _ (X : Type 0) (own : Expr-F (Expr × List X) (JoinTree × List X) (Order × List X) (Output × List X) (Query × List X) → List X) (leaf : JoinTree-F (Expr × List X) (JoinTree × List X) (Order × List X) (Output × List X) (Query × List X) → List X) where
  abbrev second : {A : Type 0} → A × List X → List X
  second part = part.1

  abbrev expr_step : Expr-F (Expr × List X) (JoinTree × List X) (Order × List X) (Output × List X) (Query × List X) → List X
  expr_step x = own x ++ (all_in (map second (parts x)) ++ all_in (map second (option_part (sublink_query x))))

  abbrev tree_step : JoinTree-F (Expr × List X) (JoinTree × List X) (Order × List X) (Output × List X) (Query × List X) → List X
  tree_step t = leaf t ++ (all_in (map second (trees t)) ++ (all_in (map second (conditions t)) ++ all_in (map second (option_part (leaf_query t)))))

  abbrev order_step : Order-F (Expr × List X) (JoinTree × List X) (Order × List X) (Output × List X) (Query × List X) → List X
  order_step o = o.expr.1

  abbrev output_step : Output-F (Expr × List X) (JoinTree × List X) (Order × List X) (Output × List X) (Query × List X) → List X
  output_step u = u.expr.1

  abbrev query_step : Query-F (Expr × List X) (JoinTree × List X) (Order × List X) (Output × List X) (Query × List X) → List X
  query_step q = all_in (map second q.columns) ++ (q.tree.1 ++ (all_in (map second q.conds) ++ all_in (map second q.order)))

  abbrev pub in_expr : Expr → List X
  in_expr = para-Expr (List X) (List X) (List X) (List X) (List X) expr_step tree_step order_step output_step query_step

  abbrev pub in_tree : JoinTree → List X
  in_tree = para-JoinTree (List X) (List X) (List X) (List X) (List X) expr_step tree_step order_step output_step query_step

  abbrev pub in_order : Order → List X
  in_order = para-Order (List X) (List X) (List X) (List X) (List X) expr_step tree_step order_step output_step query_step

  abbrev pub in_output : Output → List X
  in_output = para-Output (List X) (List X) (List X) (List X) (List X) expr_step tree_step order_step output_step query_step

  abbrev pub in_query : Query → List X
  in_query = para-Query (List X) (List X) (List X) (List X) (List X) expr_step tree_step order_step output_step query_step

  abbrev e2 : Expr → Expr × List X
  e2 x = (x, in_expr x)

  abbrev t2 : JoinTree → JoinTree × List X
  t2 x = (x, in_tree x)

  abbrev o2 : Order → Order × List X
  o2 x = (x, in_order x)

  abbrev u2 : Output → Output × List X
  u2 x = (x, in_output x)

  abbrev q2 : Query → Query × List X
  q2 x = (x, in_query x)

  abbrev pub expr_level : ExprLayer → Expr-F (Expr × List X) (JoinTree × List X) (Order × List X) (Output × List X) (Query × List X)
  expr_level = map-Expr Expr JoinTree Order Output Query (Expr × List X) (JoinTree × List X) (Order × List X) (Output × List X) (Query × List X) e2 t2 o2 u2 q2

  abbrev pub tree_level : JoinTreeLayer → JoinTree-F (Expr × List X) (JoinTree × List X) (Order × List X) (Output × List X) (Query × List X)
  tree_level = map-JoinTree Expr JoinTree Order Output Query (Expr × List X) (JoinTree × List X) (Order × List X) (Output × List X) (Query × List X) e2 t2 o2 u2 q2

  seconds : {A : Type 0} (f : A → List X) (xs : List A) → map second (map (λ x. (x, f x)) xs) ≡ map f xs
  seconds f [] = refl
  seconds f (x ∷ xs) = ap (λ ys. f x ∷ ys) (seconds f xs)

  pub at_expr : (x : ExprLayer) → in_expr (roll-Expr x) ≡ own (expr_level x) ++ (all_in (map in_expr (parts x)) ++ all_in (map in_query (option_part (sublink_query x))))
  at_expr x =
      let ps = ap (map second) (parts_map e2 t2 o2 u2 q2 x) ∙ seconds in_expr (parts x) in
      let qs = ap (map second) (sublink_map e2 t2 o2 u2 q2 x) ∙ seconds in_query (option_part (sublink_query x)) in
      para-roll-Expr (List X) (List X) (List X) (List X) (List X) expr_step tree_step order_step output_step query_step x ∙ (λ i. own (expr_level x) ++ (all_in (ps i) ++ all_in (qs i)))

  pub at_tree : (t : JoinTreeLayer) → in_tree (roll-JoinTree t) ≡ leaf (tree_level t) ++ (all_in (map in_tree (trees t)) ++ (all_in (map in_expr (conditions t)) ++ all_in (map in_query (option_part (leaf_query t)))))
  at_tree t =
      let ts = ap (map second) (trees_map e2 t2 o2 u2 q2 t) ∙ seconds in_tree (trees t) in
      let cs = ap (map second) (conditions_map e2 t2 o2 u2 q2 t) ∙ seconds in_expr (conditions t) in
      let qs = ap (map second) (leaf_map e2 t2 o2 u2 q2 t) ∙ seconds in_query (option_part (leaf_query t)) in
      para-roll-JoinTree (List X) (List X) (List X) (List X) (List X) expr_step tree_step order_step output_step query_step t ∙ (λ i. leaf (tree_level t) ++ (all_in (ts i) ++ (all_in (cs i) ++ all_in (qs i))))

  pub at_order : (o : OrderLayer) → in_order (roll-Order o) ≡ in_expr o.expr
  at_order o = para-roll-Order (List X) (List X) (List X) (List X) (List X) expr_step tree_step order_step output_step query_step o

  pub at_output : (u : OutputLayer) → in_output (roll-Output u) ≡ in_expr u.expr
  at_output u = para-roll-Output (List X) (List X) (List X) (List X) (List X) expr_step tree_step order_step output_step query_step u

  pub at_query : (q : QueryLayer) → in_query (roll-Query q) ≡ all_in (map in_output q.columns) ++ (in_tree q.tree ++ (all_in (map in_expr q.conds) ++ all_in (map in_order q.order)))
  at_query q =
      let us = seconds in_output q.columns in
      let cs = seconds in_expr q.conds in
      let os = seconds in_order q.order in
      para-roll-Query (List X) (List X) (List X) (List X) (List X) expr_step tree_step order_step output_step query_step q ∙ (λ i. all_in (us i) ++ (in_tree q.tree ++ (all_in (cs i) ++ all_in (os i))))

-- ---- leaves as trees

abbrev pub no_own : {A B C D F X : Type 0} → Expr-F A B C D F → List X
no_own x = []

abbrev pub leaf_here : {A B C D X : Type 0} → JoinTree-F A B C D (Query × X) → List JoinTree
leaf_here (JoinTree-F.Base rel name table) = tree.Base rel name table ∷ []
leaf_here (JoinTree-F.Sub rel name query) = tree.Sub rel name query.0 ∷ []
leaf_here t = []

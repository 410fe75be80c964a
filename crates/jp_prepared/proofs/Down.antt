-- Conditions that are handed down to the parts of a tree, one for each field of what a typed and bounded query is.
use Rattle.std.proofs.Common.{◌≡◌, ◌∙◌, sym, subst, refl, Bool, true, ◌&&◌, List, [], ◌∷◌, ◌++◌, map, fold}
use Rattle.std.proofs.lemmas.Bool.{and_parts}
use Rattle.jp_query.specs.declared.Expr.{Expr}
use Rattle.jp_query.specs.declared.JoinTree.{JoinTree}
use Rattle.jp_query.specs.declared.Order.{Order}
use Rattle.jp_query.specs.declared.Output.{Output}
use Rattle.jp_query.specs.declared.Query.{Query}
use Rattle.jp_query.specs.declared.Expr.TheOpen.{Expr-F, JoinTree-F}
use Rattle.jp_query.specs.declared.Expr.TheFolds.{fold-Expr, fold-JoinTree, fold-Order, fold-Output, fold-Query, map-Expr, map-JoinTree, map-Query, fold-roll-Expr, fold-roll-JoinTree, fold-roll-Order, fold-roll-Output, fold-roll-Query}
use Rattle.jp_query.specs.Conditions.{Tests, Leaves, leaf, no_leaves, beside, together, leaves_inside, are_apart, expr_leaves, tree_leaves, order_leaves, output_leaves, query_leaves, judged_expr, judged_tree, judged_query, judged_leaves, all_true, order_rooted, output_rooted, query_rooted}
use Rattle.jp_query.specs.Typing.{is_true_test}
use Rattle.jp_query.specs.Layers.{JoinTreeLayer, QueryLayer}
use Rattle.jp_query.specs.Parts.{all_in, option_part, parts, sublink_query, trees, conditions, leaf_query, expr_gives, tree_gives, order_gives, output_gives, query_gives, gathered, gathered_in_tree, gathered_in_query}
use Rattle.jp_query.specs.Scopes.{Schema, Scope}
use Rattle.jp_induction.specs.HandedDown.{HandsDown}
use Rattle.jp_laws.proofs.EachPart.{Each, each_left, each_right, each_both, each_true, each_in_all, each_mapped, parts_map, sublink_map, trees_map, conditions_map, leaf_map}
use Rattle.jp_laws.proofs.JudgedLaws.{judged_order_by, judged_output_by}
use Rattle.jp_folding.proofs.FineDown.{inside, above, expr_parts, tree_parts, order_part, output_part, query_parts}
use Rattle.jp_conditions.proofs.Judging.{expr_leaf_set, tree_leaf_set, order_leaf_set, output_leaf_set, leaves_level, tree_leaves_level, query_leaves_level}

-- ---- two conditions together

module _ {X : Type 0} (P Q : X → Type 0) where
  pairs : (xs : List X) → Each P xs → Each Q xs → Each (λ x. P x × Q x) xs
  pairs xs p q = each_both P Q (λ x. P x × Q x) (λ x a b. (a, b)) xs p q

module _ {S : Type 0} {inside : S → JoinTreeLayer → S} {above : S → QueryLayer → S} {CE DE : S → Expr → Type 0} {CT DT : S → JoinTree → Type 0} {CO DO : S → Order → Type 0} {CU DU : S → Output → Type 0} {CQ DQ : S → Query → Type 0} where
  pub both_down : HandsDown S inside above CE CT CO CU CQ → HandsDown S inside above DE DT DO DU DQ → HandsDown S inside above (λ s x. CE s x × DE s x) (λ s x. CT s x × DT s x) (λ s x. CO s x × DO s x) (λ s x. CU s x × DU s x) (λ s x. CQ s x × DQ s x)
  both_down c d = record {
    expr = λ s x h. let a = c.expr s x h.0 in let b = d.expr s x h.1 in (pairs (CE s) (DE s) (parts x) a.0 b.0, pairs (CQ s) (DQ s) (option_part (sublink_query x)) a.1 b.1);
    tree = λ s t h. let a = c.tree s t h.0 in let b = d.tree s t h.1 in
        (pairs (CT s) (DT s) (trees t) a.0 b.0, pairs (CE (inside s t)) (DE (inside s t)) (conditions t) a.1 b.1, pairs (CQ s) (DQ s) (option_part (leaf_query t)) a.2 b.2);
    order = λ s o h. (c.order s o h.0, d.order s o h.1);
    output = λ s u h. (c.output s u h.0, d.output s u h.1);
    query = λ s q h. let a = c.query s q h.0 in let b = d.query s q h.1 in
        (pairs (CU (above s q)) (DU (above s q)) q.columns a.0 b.0, (a.1, b.1), pairs (CE (above s q)) (DE (above s q)) q.conds a.2 b.2, pairs (CO (above s q)) (DO (above s q)) q.order a.3 b.3);
  }

-- ---- what passes a judgement

module _ (schema : Schema) where
  pub judged_down : (tests : Tests) → HandsDown Scope (inside schema) (above schema) (λ s x. (judged_expr schema tests x).passes s ≡ true) (λ s x. (judged_tree schema tests x).passes s ≡ true) (λ s x. (judged_order_by schema tests x).passes s ≡ true) (λ s x. (judged_output_by schema tests x).passes s ≡ true) (λ s x. (judged_query schema tests x).passes s ≡ true)
  judged_down tests = record {
    expr = expr_parts schema tests;
    tree = λ s t h. let p = tree_parts schema tests s t h in (p.sides, p.conds, p.leaf);
    order = order_part schema tests;
    output = output_part schema tests;
    query = λ s q h. let p = query_parts schema tests s q h in (p.columns, p.tree, p.conds, p.order);
  }

-- ---- tests of all parts

module _ (e : Expr-F Bool Bool Bool Bool Bool → Bool) (t : JoinTree-F Bool Bool Bool Bool Bool → Bool) where
  abbrev pub tested_expr : Expr → Bool
  tested_expr = fold-Expr Bool Bool Bool Bool Bool e t order_rooted output_rooted query_rooted

  abbrev pub tested_tree : JoinTree → Bool
  tested_tree = fold-JoinTree Bool Bool Bool Bool Bool e t order_rooted output_rooted query_rooted

  abbrev pub tested_order : Order → Bool
  tested_order = fold-Order Bool Bool Bool Bool Bool e t order_rooted output_rooted query_rooted

  abbrev pub tested_output : Output → Bool
  tested_output = fold-Output Bool Bool Bool Bool Bool e t order_rooted output_rooted query_rooted

  abbrev pub tested_query : Query → Bool
  tested_query = fold-Query Bool Bool Bool Bool Bool e t order_rooted output_rooted query_rooted

  module _ {A : Type 0} (f : A → Bool) where
    each_passes : (xs : List A) (ys : List Bool) → ys ≡ map f xs → all_true ys ≡ true → Each (λ x. f x ≡ true) xs
    each_passes xs ys are h = each_mapped (λ b. b ≡ true) f xs (subst (Each (λ b. b ≡ true)) are (each_true is_true_test ys h))

  module _ {S : Type 0} (inside : S → JoinTreeLayer → S) (above : S → QueryLayer → S) (at_expr : (x : Expr-F Bool Bool Bool Bool Bool) → e x ≡ true → (all_true (parts x) ≡ true) × (all_true (option_part (sublink_query x)) ≡ true))
      (at_tree : (x : JoinTree-F Bool Bool Bool Bool Bool) → t x ≡ true → (all_true (trees x) ≡ true) × (all_true (conditions x) ≡ true) × (all_true (option_part (leaf_query x)) ≡ true)) where
    pub tested_down : HandsDown S inside above (λ s x. tested_expr x ≡ true) (λ s x. tested_tree x ≡ true) (λ s x. tested_order x ≡ true) (λ s x. tested_output x ≡ true) (λ s x. tested_query x ≡ true)
    tested_down = record {
      expr = λ s x h.
          let y = map-Expr Expr JoinTree Order Output Query Bool Bool Bool Bool Bool tested_expr tested_tree tested_order tested_output tested_query x in
          let p = at_expr y (sym (fold-roll-Expr Bool Bool Bool Bool Bool e t order_rooted output_rooted query_rooted x) ∙ h) in (
            each_passes tested_expr (parts x) (parts y) (parts_map tested_expr tested_tree tested_order tested_output tested_query x) p.0,
            each_passes tested_query (option_part (sublink_query x)) (option_part (sublink_query y)) (sublink_map tested_expr tested_tree tested_order tested_output tested_query x) p.1,
          );
      tree = λ s x h.
          let y = map-JoinTree Expr JoinTree Order Output Query Bool Bool Bool Bool Bool tested_expr tested_tree tested_order tested_output tested_query x in
          let p = at_tree y (sym (fold-roll-JoinTree Bool Bool Bool Bool Bool e t order_rooted output_rooted query_rooted x) ∙ h) in (
            each_passes tested_tree (trees x) (trees y) (trees_map tested_expr tested_tree tested_order tested_output tested_query x) p.0,
            each_passes tested_expr (conditions x) (conditions y) (conditions_map tested_expr tested_tree tested_order tested_output tested_query x) p.1,
            each_passes tested_query (option_part (leaf_query x)) (option_part (leaf_query y)) (leaf_map tested_expr tested_tree tested_order tested_output tested_query x) p.2,
          );
      order = λ s x h. sym (fold-roll-Order Bool Bool Bool Bool Bool e t order_rooted output_rooted query_rooted x) ∙ h;
      output = λ s x h. sym (fold-roll-Output Bool Bool Bool Bool Bool e t order_rooted output_rooted query_rooted x) ∙ h;
      query = λ s x h.
          let p = and_parts (all_true (map tested_output x.columns)) (tested_tree x.tree && (all_true (map tested_expr x.conds) && all_true (map tested_order x.order))) (sym (fold-roll-Query Bool Bool Bool Bool Bool e t order_rooted output_rooted query_rooted x) ∙ h) in
          let r = and_parts (tested_tree x.tree) (all_true (map tested_expr x.conds) && all_true (map tested_order x.order)) p.1 in
          let l = and_parts (all_true (map tested_expr x.conds)) (all_true (map tested_order x.order)) r.1 in
          (each_passes tested_output x.columns (map tested_output x.columns) refl p.0, r.0, each_passes tested_expr x.conds (map tested_expr x.conds) refl l.0, each_passes tested_order x.order (map tested_order x.order) refl l.1);
    }

-- ---- what all that is gathered is

module _ (X : Type 0) (of_node : Expr-F (List X) (List X) (List X) (List X) (List X) → List X) (of_leaf : JoinTree-F (List X) (List X) (List X) (List X) (List X) → List X) where
  abbrev pub in_expr : Expr → List X
  in_expr = gathered X of_node of_leaf

  abbrev pub in_tree : JoinTree → List X
  in_tree = gathered_in_tree X of_node of_leaf

  abbrev pub in_query : Query → List X
  in_query = gathered_in_query X of_node of_leaf

  abbrev pub in_order : Order → List X
  in_order = fold-Order (List X) (List X) (List X) (List X) (List X) (expr_gives X of_node of_leaf) (tree_gives X of_node of_leaf) (order_gives X of_node of_leaf) (output_gives X of_node of_leaf) (query_gives X of_node of_leaf)

  abbrev pub in_output : Output → List X
  in_output = fold-Output (List X) (List X) (List X) (List X) (List X) (expr_gives X of_node of_leaf) (tree_gives X of_node of_leaf) (order_gives X of_node of_leaf) (output_gives X of_node of_leaf) (query_gives X of_node of_leaf)

  module _ (P : X → Type 0) where
    each_one : {A : Type 0} (f : A → List X) (xs : List A) (ys : List (List X)) → ys ≡ map f xs → Each P (all_in ys) → Each (λ x. Each P (f x)) xs
    each_one f xs ys are h = each_mapped (Each P) f xs (subst (Each (Each P)) are (each_in_all P ys h))

    pub gathered_down : {S : Type 0} (inside : S → JoinTreeLayer → S) (above : S → QueryLayer → S) → HandsDown S inside above (λ s x. Each P (in_expr x)) (λ s x. Each P (in_tree x)) (λ s x. Each P (in_order x)) (λ s x. Each P (in_output x)) (λ s x. Each P (in_query x))
    gathered_down inside above = record {
      expr = λ s x h.
          let y = map-Expr Expr JoinTree Order Output Query (List X) (List X) (List X) (List X) (List X) in_expr in_tree in_order in_output in_query x in
          let all = subst (Each P) {y = expr_gives X of_node of_leaf y} (fold-roll-Expr (List X) (List X) (List X) (List X) (List X) (expr_gives X of_node of_leaf) (tree_gives X of_node of_leaf) (order_gives X of_node of_leaf) (output_gives X of_node of_leaf) (query_gives X of_node of_leaf) x) h in
          let rest = each_right P (of_node y) (all_in (parts y) ++ all_in (option_part (sublink_query y))) all in (
            each_one in_expr (parts x) (parts y) (parts_map in_expr in_tree in_order in_output in_query x) (each_left P (all_in (parts y)) (all_in (option_part (sublink_query y))) rest),
            each_one in_query (option_part (sublink_query x)) (option_part (sublink_query y)) (sublink_map in_expr in_tree in_order in_output in_query x) (each_right P (all_in (parts y)) (all_in (option_part (sublink_query y))) rest),
          );
      tree = λ s x h.
          let y = map-JoinTree Expr JoinTree Order Output Query (List X) (List X) (List X) (List X) (List X) in_expr in_tree in_order in_output in_query x in
          let all = subst (Each P) {y = tree_gives X of_node of_leaf y} (fold-roll-JoinTree (List X) (List X) (List X) (List X) (List X) (expr_gives X of_node of_leaf) (tree_gives X of_node of_leaf) (order_gives X of_node of_leaf) (output_gives X of_node of_leaf) (query_gives X of_node of_leaf) x) h in
          let most = all_in (conditions y) ++ all_in (option_part (leaf_query y)) in
          let rest = each_right P (of_leaf y) (all_in (trees y) ++ most) all in
          let last = each_right P (all_in (trees y)) most rest in (
            each_one in_tree (trees x) (trees y) (trees_map in_expr in_tree in_order in_output in_query x) (each_left P (all_in (trees y)) most rest),
            each_one in_expr (conditions x) (conditions y) (conditions_map in_expr in_tree in_order in_output in_query x) (each_left P (all_in (conditions y)) (all_in (option_part (leaf_query y))) last),
            each_one in_query (option_part (leaf_query x)) (option_part (leaf_query y)) (leaf_map in_expr in_tree in_order in_output in_query x) (each_right P (all_in (conditions y)) (all_in (option_part (leaf_query y))) last),
          );
      order = λ s x h. subst (Each P) (fold-roll-Order (List X) (List X) (List X) (List X) (List X) (expr_gives X of_node of_leaf) (tree_gives X of_node of_leaf) (order_gives X of_node of_leaf) (output_gives X of_node of_leaf) (query_gives X of_node of_leaf) x) h;
      output = λ s x h. subst (Each P) (fold-roll-Output (List X) (List X) (List X) (List X) (List X) (expr_gives X of_node of_leaf) (tree_gives X of_node of_leaf) (order_gives X of_node of_leaf) (output_gives X of_node of_leaf) (query_gives X of_node of_leaf) x) h;
      query = λ s x h.
          let all = subst (Each P) {y = query_gives X of_node of_leaf (map-Query Expr JoinTree Order Output Query (List X) (List X) (List X) (List X) (List X) in_expr in_tree in_order in_output in_query x)}
          (fold-roll-Query (List X) (List X) (List X) (List X) (List X) (expr_gives X of_node of_leaf) (tree_gives X of_node of_leaf) (order_gives X of_node of_leaf) (output_gives X of_node of_leaf) (query_gives X of_node of_leaf) x) h in
          let last = all_in (map in_expr x.conds) ++ all_in (map in_order x.order) in
          let rest = each_right P (all_in (map in_output x.columns)) (in_tree x.tree ++ last) all in
          let more = each_right P (in_tree x.tree) last rest in (
            each_one in_output x.columns (map in_output x.columns) refl (each_left P (all_in (map in_output x.columns)) (in_tree x.tree ++ last) all),
            each_left P (in_tree x.tree) last rest,
            each_one in_expr x.conds (map in_expr x.conds) refl (each_left P (all_in (map in_expr x.conds)) (all_in (map in_order x.order)) more),
            each_one in_order x.order (map in_order x.order) refl (each_right P (all_in (map in_expr x.conds)) (all_in (map in_order x.order)) more),
          );
    }

-- ---- leaves that are told apart

abbrev IsApart : Leaves → Type 0
IsApart l = l.apart ≡ true

two_apart : (a b : Leaves) → IsApart (beside a b) → IsApart a × IsApart b
two_apart a b h = let p = and_parts a.apart (b.apart && are_apart a.leaves b.leaves) h in (p.0, (and_parts b.apart (are_apart a.leaves b.leaves) p.1).0)

list_apart : (start : Leaves) (list : List Leaves) → IsApart (fold beside start list) → IsApart start × Each IsApart list
list_apart start [] h = (h, tt)
list_apart start (a ∷ list) h = let p = list_apart (beside start a) list h in let both = two_apart start a p.0 in (both.0, (both.1, p.1))

all_apart : (list : List Leaves) → IsApart (together list) → Each IsApart list
all_apart list h = (list_apart no_leaves list h).1

expr_apart : (x : Expr-F Leaves Leaves Leaves Leaves Leaves) → IsApart (expr_leaves x) → Each IsApart (parts x) × Each IsApart (option_part (sublink_query x))
expr_apart (Expr-F.Exists sub query) h = (tt, (h, tt))
expr_apart (Expr-F.InSub sub operand query) h = let p = two_apart operand (leaves_inside sub query) h in ((p.0, tt), (p.1, tt))
expr_apart (Expr-F.Col rel col ty nulled) h = (tt, tt)
expr_apart (Expr-F.Lit value ty) h = (tt, tt)
expr_apart x h = (all_apart (parts x) h, tt)

tree_apart : (t : JoinTree-F Leaves Leaves Leaves Leaves Leaves) → IsApart (tree_leaves t) → Each IsApart (trees t) × Each IsApart (conditions t) × Each IsApart (option_part (leaf_query t))
tree_apart (JoinTree-F.Base rel name table) h = (tt, tt, tt)
tree_apart (JoinTree-F.Sub rel name query) h = (tt, tt, ((two_apart (leaf rel) query h).1, tt))
tree_apart (JoinTree-F.Join kind left right on) h = let p = two_apart (together (left ∷ right ∷ [])) (together on) h in (all_apart (left ∷ right ∷ []) p.0, all_apart on p.1, tt)
tree_apart (JoinTree-F.From members conds) h = let p = two_apart (together members) (together conds) h in (all_apart members p.0, all_apart conds p.1, tt)

below : {A : Type 0} (f : A → Leaves) (xs : List A) (ys : List Leaves) → ys ≡ map f xs → Each IsApart ys → Each (λ x. IsApart (f x)) xs
below f xs ys are h = each_mapped IsApart f xs (subst (Each IsApart) are h)

pub apart_down : {S : Type 0} (inside : S → JoinTreeLayer → S) (above : S → QueryLayer → S) → HandsDown S inside above (λ s x. (expr_leaf_set x).apart ≡ true) (λ s x. (tree_leaf_set x).apart ≡ true) (λ s x. (order_leaf_set x).apart ≡ true) (λ s x. (output_leaf_set x).apart ≡ true) (λ s x. (judged_leaves x).apart ≡ true)
apart_down inside above = record {
  expr = λ s x h.
      let y = leaves_level x in
      let p = expr_apart y (subst IsApart (fold-roll-Expr Leaves Leaves Leaves Leaves Leaves expr_leaves tree_leaves order_leaves output_leaves query_leaves x) h) in (
        below expr_leaf_set (parts x) (parts y) (parts_map expr_leaf_set tree_leaf_set order_leaf_set output_leaf_set judged_leaves x) p.0,
        below judged_leaves (option_part (sublink_query x)) (option_part (sublink_query y)) (sublink_map expr_leaf_set tree_leaf_set order_leaf_set output_leaf_set judged_leaves x) p.1,
      );
  tree = λ s x h.
      let y = tree_leaves_level x in
      let p = tree_apart y (subst IsApart (fold-roll-JoinTree Leaves Leaves Leaves Leaves Leaves expr_leaves tree_leaves order_leaves output_leaves query_leaves x) h) in (
        below tree_leaf_set (trees x) (trees y) (trees_map expr_leaf_set tree_leaf_set order_leaf_set output_leaf_set judged_leaves x) p.0,
        below expr_leaf_set (conditions x) (conditions y) (conditions_map expr_leaf_set tree_leaf_set order_leaf_set output_leaf_set judged_leaves x) p.1,
        below judged_leaves (option_part (leaf_query x)) (option_part (leaf_query y)) (leaf_map expr_leaf_set tree_leaf_set order_leaf_set output_leaf_set judged_leaves x) p.2,
      );
  order = λ s x h. subst IsApart (fold-roll-Order Leaves Leaves Leaves Leaves Leaves expr_leaves tree_leaves order_leaves output_leaves query_leaves x) h;
  output = λ s x h. subst IsApart (fold-roll-Output Leaves Leaves Leaves Leaves Leaves expr_leaves tree_leaves order_leaves output_leaves query_leaves x) h;
  query = λ s x h.
      let y = query_leaves_level x in
      let p = two_apart (beside (beside (together y.columns) y.tree) (together y.conds)) (together y.order) (subst IsApart (fold-roll-Query Leaves Leaves Leaves Leaves Leaves expr_leaves tree_leaves order_leaves output_leaves query_leaves x) h) in
      let q = two_apart (beside (together y.columns) y.tree) (together y.conds) p.0 in
      let r = two_apart (together y.columns) y.tree q.0 in (
        below output_leaf_set x.columns y.columns refl (all_apart y.columns r.0),
        r.1,
        below expr_leaf_set x.conds y.conds refl (all_apart y.conds q.1),
        below order_leaf_set x.order y.order refl (all_apart y.order p.1),
      );
}

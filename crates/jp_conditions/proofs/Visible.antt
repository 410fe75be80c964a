-- A relation to which an expression refers is visible where the expression stands, or is that of a leaf inside it.
use Rattle.std.proofs.Common.{◌≡◌, sym, subst, refl, ℕ, ◌⊎◌, inl, inr, true, List, [], ◌∷◌, ◌++◌, map, eq-eqb}
use Rattle.std.specs.Prelude.{◌==◌, slice_get, if◌then◌else◌}
use Rattle.std.specs.List.{list_all}
use Rattle.std.proofs.lemmas.Bool.{cases_eq, ne_eqb}
use Rattle.jp_base.specs.Sets.{Has}
use Rattle.jp_base.specs.declared.values.Ty.{Ty}
use Rattle.jp_facts.proofs.Members.{In, in_map, from_map, any_in}
use Rattle.jp_induction.specs.HandedDown.{HandsDown}
use Rattle.jp_induction.proofs.EachPart.{Each, parts_map, sublink_map, trees_map, conditions_map, leaf_map}
use Rattle.jp_induction.proofs.HandedDown as handed
use Rattle.jp_query.specs.declared.Expr.{Expr}
use Rattle.jp_query.specs.declared.JoinTree.{JoinTree}
use Rattle.jp_query.specs.declared.Order.{Order}
use Rattle.jp_query.specs.declared.Output.{Output}
use Rattle.jp_query.specs.declared.Query.{Query}
use Rattle.jp_query.specs.declared.Expr.TheOpen.{Expr-F, JoinTree-F}
use Rattle.jp_query.specs.declared.Expr.TheFolds.{map-Expr, map-JoinTree, map-Query, fold-roll-Expr, fold-roll-JoinTree, fold-roll-Order, fold-roll-Output, fold-roll-Query}
use Rattle.jp_query.specs.declared.Expr.TheViews.{roll-Expr, roll-JoinTree, roll-Order, roll-Output, roll-Query}
use Rattle.jp_query.specs.Layers.{ExprLayer, JoinTreeLayer, OrderLayer, OutputLayer, QueryLayer}
use Rattle.jp_query.specs.Conditions.{judged_expr, judged_tree, judged_query, has_type, sees_column, sees_relations, relation_of, knows_columns, knows_placeholders, Leaves, expr_leaves, tree_leaves, order_leaves, output_leaves, query_leaves, judged_leaves}
use Rattle.jp_query.specs.Parts.{option_part, parts, sublink_query, trees, conditions, leaf_query, node_column, node_placeholder}
use Rattle.jp_query.specs.Refs.{only, union, expr_refs, tree_refs, order_refs, output_refs, query_refs, refs_of, refs_of_tree, refs_of_order, refs_of_output, refs_of_query}
use Rattle.jp_query.specs.Scopes.{Schema, Scope, visible_columns, visible_column, entries_of}
use Rattle.jp_laws.proofs.JudgedLaws.{judged_order_by, judged_output_by}
use Rattle.jp_laws.proofs.TuplesFit.{InEntries, is_first, is_later, in_either}
use Rattle.jp_laws.proofs.ValueLaws.{and_left}
use Rattle.jp_problem.proofs.SetTests.{is_within_says}
use Rattle.jp_problem.proofs.UnionLaws.{has_union}
use Rattle.jp_strict.proofs.SharedSets.{in_one}
use Rattle.jp_conditions.proofs.Entering.{entry_leaf}
use Rattle.jp_conditions.proofs.Judging.{each_in, each_pair, expr_leaf_set, tree_leaf_set, order_leaf_set, output_leaf_set, leaves_level, tree_leaves_level, query_leaves_level, all_of, judged_level, own_columns, own_places, expr_down, tree_down, query_down, order_down, output_down}
use Rattle.jp_conditions.proofs.Leaves.{HasLeaf, part_leaf, sublink_leaf, tree_leaf, condition_leaf, inner_leaf, column_leaf, from_leaf, where_leaf, order_leaf}
use Rattle.jp_conditions.proofs.References.{InOne, Own, Referring, referring, TreeReferring, tree_referring, QueryReferring, query_referring}
use Rattle.jp_conditions.proofs.Spans.{has_only}

-- ---- what a seen column and a seen placeholder say

seen_entry : (s : Scope) (rel col : ℕ) (t : Ty) → has_type (visible_column s rel col) t ≡ true → InEntries s rel
seen_entry [] rel col t e = cc
seen_entry (entry ∷ s) rel col t e = elim (cases_eq entry.relation rel) [
  | inl same ↦ subst (InEntries (entry ∷ s)) same (is_first entry s)
  | inr other ↦ is_later entry s rel (seen_entry s rel col t (subst (λ b. has_type (slice_get (if b then entry.columns else visible_columns s rel) col) t ≡ true) (ne_eqb entry.relation rel other) e))
]

seen_relation : (s : Scope) (rels rel : ℕ) → sees_relations s rels ≡ true → Has rels rel → InEntries s rel
seen_relation s rels rel e h =
    let all = union (map only (map relation_of s)) in
    let found = (has_union (map only (map relation_of s)) rel).0 ((is_within_says rels all).0 e rel h) in
    let one = from_map only found.0 (map relation_of s) found.1 in
    let same = has_only one.0 rel (subst (λ n. Has n rel) (sym one.2) found.2) in
    any_in (◌==◌ rel) one.0 (map relation_of s) one.1 (eq-eqb rel one.0 same)

module _ (schema : Schema) (rel : ℕ) where
  abbrev ExprFine : Scope → Expr → Type 0
  ExprFine s x = ((judged_expr schema knows_columns x).passes s ≡ true) × ((judged_expr schema knows_placeholders x).passes s ≡ true)

  abbrev TreeFine : Scope → JoinTree → Type 0
  TreeFine s x = ((judged_tree schema knows_columns x).passes s ≡ true) × ((judged_tree schema knows_placeholders x).passes s ≡ true)

  abbrev OrderFine : Scope → Order → Type 0
  OrderFine s x = ((judged_order_by schema knows_columns x).passes s ≡ true) × ((judged_order_by schema knows_placeholders x).passes s ≡ true)

  abbrev OutputFine : Scope → Output → Type 0
  OutputFine s x = ((judged_output_by schema knows_columns x).passes s ≡ true) × ((judged_output_by schema knows_placeholders x).passes s ≡ true)

  abbrev QueryFine : Scope → Query → Type 0
  QueryFine s x = ((judged_query schema knows_columns x).passes s ≡ true) × ((judged_query schema knows_placeholders x).passes s ≡ true)

  abbrev inside : Scope → JoinTreeLayer → Scope
  inside s x = all_of schema s (trees x) ++ s

  abbrev above : Scope → QueryLayer → Scope
  above s q = entries_of schema q.tree s ++ s

  down : HandsDown Scope inside above ExprFine TreeFine OrderFine OutputFine QueryFine
  down = record {
    expr = λ s x c.
        let a = expr_down schema knows_columns s x c.0 in
        let b = expr_down schema knows_placeholders s x c.1 in (
          each_pair (λ y. (judged_expr schema knows_columns y).passes s ≡ true) (λ y. (judged_expr schema knows_placeholders y).passes s ≡ true) (parts x) a.0 b.0,
          each_pair (λ y. (judged_query schema knows_columns y).passes s ≡ true) (λ y. (judged_query schema knows_placeholders y).passes s ≡ true) (option_part (sublink_query x)) a.1 b.1,
        );
    tree = λ s x c.
        let a = tree_down schema knows_columns s x c.0 in
        let b = tree_down schema knows_placeholders s x c.1 in (
          each_pair (λ y. (judged_tree schema knows_columns y).passes s ≡ true) (λ y. (judged_tree schema knows_placeholders y).passes s ≡ true) (trees x) a.sides b.sides,
          each_pair (λ y. (judged_expr schema knows_columns y).passes (inside s x) ≡ true) (λ y. (judged_expr schema knows_placeholders y).passes (inside s x) ≡ true) (conditions x) a.conds b.conds,
          each_pair (λ y. (judged_query schema knows_columns y).passes s ≡ true) (λ y. (judged_query schema knows_placeholders y).passes s ≡ true) (option_part (leaf_query x)) a.inner b.inner,
        );
    order = λ s x c. (order_down schema knows_columns s x c.0, order_down schema knows_placeholders s x c.1);
    output = λ s x c. (output_down schema knows_columns s x c.0, output_down schema knows_placeholders s x c.1);
    query = λ s q c.
        let a = query_down schema knows_columns s q c.0 in
        let b = query_down schema knows_placeholders s q c.1 in (
          each_pair (λ y. (judged_output_by schema knows_columns y).passes (above s q) ≡ true) (λ y. (judged_output_by schema knows_placeholders y).passes (above s q) ≡ true) q.columns a.columns b.columns,
          (a.tree, b.tree),
          each_pair (λ y. (judged_expr schema knows_columns y).passes (above s q) ≡ true) (λ y. (judged_expr schema knows_placeholders y).passes (above s q) ≡ true) q.conds a.conds b.conds,
          each_pair (λ y. (judged_order_by schema knows_columns y).passes (above s q) ≡ true) (λ y. (judged_order_by schema knows_placeholders y).passes (above s q) ≡ true) q.order a.order b.order,
        );
  }

  -- ---- the claim at each type

  abbrev Seen : Scope → Leaves → ℕ → Type 0
  Seen s leaves refs = Has refs rel → InEntries s rel ⊎ HasLeaf leaves rel

  abbrev PE : Scope → Expr → Type 0
  PE s x = Seen s (expr_leaf_set x) (refs_of x)

  abbrev PT : Scope → JoinTree → Type 0
  PT s x = Seen s (tree_leaf_set x) (refs_of_tree x)

  abbrev PO : Scope → Order → Type 0
  PO s x = Seen s (order_leaf_set x) (refs_of_order x)

  abbrev PU : Scope → Output → Type 0
  PU s x = Seen s (output_leaf_set x) (refs_of_output x)

  abbrev PQ : Scope → Query → Type 0
  PQ s x = Seen s (judged_leaves x) (refs_of_query x)

  -- one of several parts
  module _ {A : Type 0} (refs : A → ℕ) (leaves : A → Leaves) (s : Scope) where
    from_part : (xs : List A) (sets : List ℕ) → sets ≡ map refs xs → Each (λ x. Seen s (leaves x) (refs x)) xs → InOne rel sets → InEntries s rel ⊎ ((a : Leaves) × In a (map leaves xs) × HasLeaf a rel)
    from_part xs sets e each h =
        let found = from_map refs h.0 xs (subst (In h.0) e h.1) in
        elim (each_in (λ x. Seen s (leaves x) (refs x)) xs found.0 each found.1 (subst (λ n. Has n rel) (sym found.2) h.2)) [
          | inl p ↦ inl p
          | inr l ↦ inr (leaves found.0, in_map leaves found.0 xs found.1, l)
        ]

  abbrev refs_level : ExprLayer → Expr-F ℕ ℕ ℕ ℕ ℕ
  refs_level = map-Expr Expr JoinTree Order Output Query ℕ ℕ ℕ ℕ ℕ refs_of refs_of_tree refs_of_order refs_of_output refs_of_query

  abbrev tree_refs_level : JoinTreeLayer → JoinTree-F ℕ ℕ ℕ ℕ ℕ
  tree_refs_level = map-JoinTree Expr JoinTree Order Output Query ℕ ℕ ℕ ℕ ℕ refs_of refs_of_tree refs_of_order refs_of_output refs_of_query

  own_seen : (s : Scope) (x : ExprLayer) → list_all (sees_column s) (node_column (judged_level schema knows_columns x)) ≡ true → list_all (sees_relations s) (node_placeholder (judged_level schema knows_placeholders x)) ≡ true → Own rel (refs_level x) → InEntries s rel
  own_seen s (Expr-F.Col r col ty nulled) columns places h =
      subst (InEntries s) (sym (in_one r rel h)) (seen_entry s r col ty (and_left (sees_column s (record { relation = r; column = col; type = ty })) true columns))
  own_seen s (Expr-F.Place inner rels) columns places h = seen_relation s rels rel (and_left (sees_relations s rels) true places) h
  own_seen s x columns places h = absurd h

  expr_step : (s : Scope) (x : ExprLayer) → ExprFine s (roll-Expr x) → Each (PE s) (parts x) → Each (PQ s) (option_part (sublink_query x)) → PE s (roll-Expr x)
  expr_step s x c exprs queries h = subst (λ l. InEntries s rel ⊎ HasLeaf l rel) (sym (fold-roll-Expr Leaves Leaves Leaves Leaves Leaves expr_leaves tree_leaves order_leaves output_leaves query_leaves x))
      (by (referring rel (refs_level x) (subst (λ n. Has n rel) (fold-roll-Expr ℕ ℕ ℕ ℕ ℕ expr_refs tree_refs order_refs output_refs query_refs x) h)))
    where
      by : Referring rel (refs_level x) → InEntries s rel ⊎ HasLeaf (expr_leaves (leaves_level x)) rel
      by (Referring.own p) = inl (own_seen s x (own_columns schema knows_columns s x c.0) (own_places schema knows_placeholders s x c.1) p)
      by (Referring.part p) = elim (from_part refs_of expr_leaf_set s (parts x) (parts (refs_level x)) (parts_map refs_of refs_of_tree refs_of_order refs_of_output refs_of_query x) exprs p) [
        | inl q ↦ inl q
        | inr q ↦ inr (part_leaf rel (leaves_level x) q.0 (subst (In q.0) (sym (parts_map expr_leaf_set tree_leaf_set order_leaf_set output_leaf_set judged_leaves x)) q.1) q.2)
      ]
      by (Referring.sublink p) = elim (from_part refs_of_query judged_leaves s (option_part (sublink_query x)) (option_part (sublink_query (refs_level x))) (sublink_map refs_of refs_of_tree refs_of_order refs_of_output refs_of_query x) queries p) [
        | inl q ↦ inl q
        | inr q ↦ inr (sublink_leaf rel (leaves_level x) q.0 (subst (In q.0) (sym (sublink_map expr_leaf_set tree_leaf_set order_leaf_set output_leaf_set judged_leaves x)) q.1) q.2)
      ]

  -- an entry of one of these trees is a leaf of it
  entry_of_some : (s : Scope) (ts : List JoinTree) → InEntries (all_of schema s ts) rel → (a : Leaves) × In a (map tree_leaf_set ts) × HasLeaf a rel
  entry_of_some s [] h = cc
  entry_of_some s (t ∷ ts) h = elim (in_either (entries_of schema t s) (all_of schema s ts) rel h) [
    | inl p ↦ (tree_leaf_set t, inl refl, entry_leaf schema s t rel p)
    | inr p ↦ (let k = entry_of_some s ts p in (k.0, inr k.1, k.2))
  ]

  tree_step : (s : Scope) (x : JoinTreeLayer) → TreeFine s (roll-JoinTree x) → Each (PT s) (trees x) → Each (PE (inside s x)) (conditions x) → Each (PQ s) (option_part (leaf_query x)) → PT s (roll-JoinTree x)
  tree_step s x c sides conds queries h = subst (λ l. InEntries s rel ⊎ HasLeaf l rel) (sym (fold-roll-JoinTree Leaves Leaves Leaves Leaves Leaves expr_leaves tree_leaves order_leaves output_leaves query_leaves x))
      (by (tree_referring rel (tree_refs_level x) (subst (λ n. Has n rel) (fold-roll-JoinTree ℕ ℕ ℕ ℕ ℕ expr_refs tree_refs order_refs output_refs query_refs x) h)))
    where
      in_side : (a : Leaves) → In a (map tree_leaf_set (trees x)) → HasLeaf a rel → HasLeaf (tree_leaves (tree_leaves_level x)) rel
      in_side a m l = tree_leaf rel (tree_leaves_level x) a (subst (In a) (sym (trees_map expr_leaf_set tree_leaf_set order_leaf_set output_leaf_set judged_leaves x)) m) l

      by : TreeReferring rel (tree_refs_level x) → InEntries s rel ⊎ HasLeaf (tree_leaves (tree_leaves_level x)) rel
      by (TreeReferring.side p) = elim (from_part refs_of_tree tree_leaf_set s (trees x) (trees (tree_refs_level x)) (trees_map refs_of refs_of_tree refs_of_order refs_of_output refs_of_query x) sides p) [
        | inl q ↦ inl q
        | inr q ↦ inr (in_side q.0 q.1 q.2)
      ]
      by (TreeReferring.cond p) = elim (from_part refs_of expr_leaf_set (inside s x) (conditions x) (conditions (tree_refs_level x)) (conditions_map refs_of refs_of_tree refs_of_order refs_of_output refs_of_query x) conds p) [
        | inl q ↦ elim (in_either (all_of schema s (trees x)) s rel q) [ inl r ↦ (let k = entry_of_some s (trees x) r in inr (in_side k.0 k.1 k.2)) | inr r ↦ inl r ]
        | inr q ↦ inr (condition_leaf rel (tree_leaves_level x) q.0 (subst (In q.0) (sym (conditions_map expr_leaf_set tree_leaf_set order_leaf_set output_leaf_set judged_leaves x)) q.1) q.2)
      ]
      by (TreeReferring.inner p) = elim (from_part refs_of_query judged_leaves s (option_part (leaf_query x)) (option_part (leaf_query (tree_refs_level x))) (leaf_map refs_of refs_of_tree refs_of_order refs_of_output refs_of_query x) queries p) [
        | inl q ↦ inl q
        | inr q ↦ inr (inner_leaf rel (tree_leaves_level x) q.0 (subst (In q.0) (sym (leaf_map expr_leaf_set tree_leaf_set order_leaf_set output_leaf_set judged_leaves x)) q.1) q.2)
      ]

  query_step : (s : Scope) (q : QueryLayer) → QueryFine s (roll-Query q) → Each (PU (above s q)) q.columns → PT s q.tree → Each (PE (above s q)) q.conds → Each (PO (above s q)) q.order → PQ s (roll-Query q)
  query_step s q c columns tree conds order h = subst (λ l. InEntries s rel ⊎ HasLeaf l rel) (sym (fold-roll-Query Leaves Leaves Leaves Leaves Leaves expr_leaves tree_leaves order_leaves output_leaves query_leaves q))
      (by (query_referring rel (map-Query Expr JoinTree Order Output Query ℕ ℕ ℕ ℕ ℕ refs_of refs_of_tree refs_of_order refs_of_output refs_of_query q) (subst (λ n. Has n rel) (fold-roll-Query ℕ ℕ ℕ ℕ ℕ expr_refs tree_refs order_refs output_refs query_refs q) h)))
    where
      outside : InEntries (entries_of schema q.tree s ++ s) rel → InEntries s rel ⊎ HasLeaf (query_leaves (query_leaves_level q)) rel
      outside e = elim (in_either (entries_of schema q.tree s) s rel e) [ inl r ↦ inr (from_leaf rel (query_leaves_level q) (entry_leaf schema s q.tree rel r)) | inr r ↦ inl r ]

      by : QueryReferring rel (map-Query Expr JoinTree Order Output Query ℕ ℕ ℕ ℕ ℕ refs_of refs_of_tree refs_of_order refs_of_output refs_of_query q) → InEntries s rel ⊎ HasLeaf (query_leaves (query_leaves_level q)) rel
      by (QueryReferring.column p) = elim (from_part refs_of_output output_leaf_set (above s q) q.columns (map refs_of_output q.columns) refl columns p) [ inl r ↦ outside r | inr r ↦ inr (column_leaf rel (query_leaves_level q) r.0 r.1 r.2) ]
      by (QueryReferring.tree p) = elim (tree p) [ inl r ↦ inl r | inr r ↦ inr (from_leaf rel (query_leaves_level q) r) ]
      by (QueryReferring.where_cond p) = elim (from_part refs_of expr_leaf_set (above s q) q.conds (map refs_of q.conds) refl conds p) [ inl r ↦ outside r | inr r ↦ inr (where_leaf rel (query_leaves_level q) r.0 r.1 r.2) ]
      by (QueryReferring.order p) = elim (from_part refs_of_order order_leaf_set (above s q) q.order (map refs_of_order q.order) refl order p) [ inl r ↦ outside r | inr r ↦ inr (order_leaf rel (query_leaves_level q) r.0 r.1 r.2) ]

  order_step : (s : Scope) (x : OrderLayer) → OrderFine s (roll-Order x) → PE s x.expr → PO s (roll-Order x)
  order_step s x c good h = subst (λ l. InEntries s rel ⊎ HasLeaf l rel) (sym (fold-roll-Order Leaves Leaves Leaves Leaves Leaves expr_leaves tree_leaves order_leaves output_leaves query_leaves x)) (good (subst (λ n. Has n rel) (fold-roll-Order ℕ ℕ ℕ ℕ ℕ expr_refs tree_refs order_refs output_refs query_refs x) h))

  output_step : (s : Scope) (x : OutputLayer) → OutputFine s (roll-Output x) → PE s x.expr → PU s (roll-Output x)
  output_step s x c good h = subst (λ l. InEntries s rel ⊎ HasLeaf l rel) (sym (fold-roll-Output Leaves Leaves Leaves Leaves Leaves expr_leaves tree_leaves order_leaves output_leaves query_leaves x)) (good (subst (λ n. Has n rel) (fold-roll-Output ℕ ℕ ℕ ℕ ℕ expr_refs tree_refs order_refs output_refs query_refs x) h))

  steps : handed.StepsUnder Scope inside above ExprFine TreeFine OrderFine OutputFine QueryFine down PE PT PO PU PQ
  steps = record { expr = expr_step; tree = tree_step; order = order_step; output = output_step; query = query_step }

  pub seen_or_inside : (s : Scope) (e : Expr) → (judged_expr schema knows_columns e).passes s ≡ true → (judged_expr schema knows_placeholders e).passes s ≡ true → Has (refs_of e) rel → InEntries s rel ⊎ HasLeaf (expr_leaf_set e) rel
  seen_or_inside s e columns places = handed.under_expr Scope inside above ExprFine TreeFine OrderFine OutputFine QueryFine down PE PT PO PU PQ steps e s (columns, places)

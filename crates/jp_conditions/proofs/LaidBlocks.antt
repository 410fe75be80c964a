-- The outline of every block is laid: what typed, distinct and rooted queries give of their items, joins and clauses.
use Rattle.std.proofs.Common.{◌≡◌, ◌∙◌, ap, sym, subst, refl, ℕ, ◌+◌, ◌<◌, inl, inr, Bool, true, ◌&&◌, List, [], ◌∷◌, ◌++◌, map, length, Some, arith}
use Rattle.std.specs.Prelude.{slice_get}
use Rattle.std.proofs.lemmas.Bool.{and_parts}
use Rattle.std.proofs.lemmas.List.{length-map}
use Rattle.jp_base.specs.Sets.{Has, Within}
use Rattle.jp_facts.proofs.Members.{In, Distinct, to_in, from_in, in_map, in_append_left, in_append_right}
use Rattle.jp_induction.proofs.EachPart.{Each}
use Rattle.jp_query.specs.declared.Expr.{Expr}
use Rattle.jp_query.specs.declared.JoinTree.{JoinTree}
use Rattle.jp_query.specs.declared.Query.{Query, out-Query, roll-out-Query}
use Rattle.jp_query.specs.declared.Expr.TheOpen.{Query-F}
use Rattle.jp_query.specs.Conditions.{Tests, Leaves, judged_expr, judged_query, knows_columns, knows_placeholders, are_apart, together, expr_leaves, tree_leaves, order_leaves, output_leaves, query_leaves, expr_rooted, tree_rooted, order_rooted, output_rooted, query_rooted}
use Rattle.jp_query.specs.Conditions.{beside as leaves_beside}
use Rattle.jp_query.specs.OwnLeaves.{own_leaves}
use Rattle.jp_query.specs.Parts.{all_in, leaves_in, rels_of}
use Rattle.jp_query.specs.Scopes.{entries_of}
use Rattle.jp_query.specs.Typing.{Typed, TypedOutput, TypedQuery, are_conditions, type_of, tree_is_typed, expr_type, tree_typed, order_typed, output_typed, query_typed}
use Rattle.jp_query.proofs.FoldLaws as laws
use Rattle.jp_laws.proofs.LeafLaws.{own_in_query, rels_are_own}
use Rattle.jp_laws.proofs.OuterLaws.{NotIn, leaves_apart}
use Rattle.jp_laws.proofs.TuplesFit.{InEntries}
use Rattle.jp_problem.specs.declared.types.Placed.{Placed}
use Rattle.jp_problem.specs.Blocks.{known_rels, item_rels, outline_of, top}
use Rattle.jp_problem.specs.Made.{IsBlock}
use Rattle.jp_problem.specs.Sets.{span}
use Rattle.jp_problem.specs.Shapes.{shape_of, block_shape, items_in, count_joins, exprs_in}
use Rattle.jp_conditions.proofs.Bounds.{Laid, LiesInRegion}
use Rattle.jp_conditions.proofs.Entering.{own_leaf, own_found, are_rels}
use Rattle.jp_conditions.proofs.Judging.{each_in, expr_leaf_set, tree_leaf_set, output_leaf_set, query_leaves_level, QueryDown, query_down}
use Rattle.jp_conditions.proofs.Laying.{known_low, one_place, Seen, joins_seen, clauses_seen, Foreign, seen, mapped_place}
use Rattle.jp_conditions.proofs.Leaves.{HasLeaf, of_together}
use Rattle.jp_conditions.proofs.Places.{sides_of, stands, numbered}
use Rattle.jp_conditions.proofs.Shaping.{is_rooted, HasItems, has_items, own_items, among_items}
use Rattle.jp_conditions.proofs.Sheltered.{Sheltered, told, none_inside}
use Rattle.jp_conditions.proofs.Sighting.{Sees, SeenBy, sees, tree_seen}
use Rattle.jp_conditions.proofs.Spans.{has_span}
use Rattle.jp_conditions.proofs.Standing.{Standing}

own_at : (xs : List JoinTree) (t : JoinTree) (n : ℕ) → In t xs → In n (own_leaves t) → In n (all_in (map own_leaves xs))
own_at [] t n m h = absurd m
own_at (x ∷ xs) t n (inl e) h = in_append_left n (own_leaves x) (all_in (map own_leaves xs)) (subst (λ u. In n (own_leaves u)) (sym e) h)
own_at (x ∷ xs) t n (inr m) h = in_append_right n (own_leaves x) (all_in (map own_leaves xs)) (own_at xs t n m h)

-- what a query's leaves being apart says of its tree and its conditions
record Apart (columns : List Leaves) (inner : Leaves) (above : List Leaves) : Type 0 where
  tree : inner.apart ≡ true
  conds : are_apart (leaves_beside (together columns) inner).leaves (together above).leaves ≡ true

apart_level : (q : Query-F Leaves Leaves Leaves Leaves Leaves) → (query_leaves q).apart ≡ true → Apart q.columns q.tree q.conds
apart_level q h =
    let columns = together q.columns in
    let conds = together q.conds in
    let order = together q.order in
    let two = leaves_beside columns q.tree in
    let three = leaves_beside two conds in
    let outer = and_parts three.apart (order.apart && are_apart three.leaves order.leaves) h in
    let middle = and_parts two.apart (conds.apart && are_apart two.leaves conds.leaves) outer.0 in
    let inner = and_parts columns.apart (q.tree.apart && are_apart columns.leaves q.tree.leaves) middle.0 in
    record {
      tree = (and_parts q.tree.apart (are_apart columns.leaves q.tree.leaves) inner.1).0;
      conds = (and_parts conds.apart (are_apart two.leaves conds.leaves) middle.1).1;
    }

module _ (query : Query) (block : IsBlock query) where
  abbrev tree : JoinTree
  tree = (out-Query query).tree

  abbrev conds : List Expr
  conds = (out-Query query).conds

  abbrev items : List JoinTree
  items = items_in (shape_of tree)

  -- ---- what the conditions on the query say of its tree and its conditions

  pub typed_parts : (tree_is_typed tree ≡ true) × (are_conditions (map type_of conds) ≡ true)
  typed_parts =
      let typed = and_parts _ _ (sym (ap (λ (t : TypedQuery). t.is_typed) (laws.at-Query Typed Bool Typed TypedOutput TypedQuery expr_type tree_typed order_typed output_typed query_typed query)) ∙ block.typed.expressions) in
      let rest = and_parts _ _ typed.1 in
      (rest.0, (and_parts _ _ rest.1).0)

  down : (tests : Tests) → (judged_query block.schema tests query).passes block.outer ≡ true → QueryDown block.schema tests block.outer (out-Query query)
  down tests h = query_down block.schema tests block.outer (out-Query query) (subst (λ q. (judged_query block.schema tests q).passes block.outer ≡ true) (sym (roll-out-Query query)) h)

  leaf_parts : Apart (map output_leaf_set (out-Query query).columns) (tree_leaf_set tree) (map expr_leaf_set conds)
  leaf_parts = apart_level (query_leaves_level (out-Query query)) (sym (ap (λ (l : Leaves). l.apart) (laws.at-Query Leaves Leaves Leaves Leaves Leaves expr_leaves tree_leaves order_leaves output_leaves query_leaves query)) ∙ block.typed.apart)

  sheltered : Sheltered (own_leaves tree) (exprs_in (shape_of tree)) (tree_leaf_set tree)
  sheltered = told tree leaf_parts.tree

  pub with_leaves : is_rooted tree ≡ true
  with_leaves =
      let parts = and_parts _ _ (sym (laws.at-Query Bool Bool Bool Bool Bool expr_rooted tree_rooted order_rooted output_rooted query_rooted query) ∙ block.typed.rooted) in
      (and_parts _ _ parts.1).0

  pub leaves_told_apart : (tree_leaf_set tree).apart ≡ true
  leaves_told_apart = leaf_parts.tree

  pub rooted : HasItems (shape_of tree)
  rooted = has_items tree with_leaves

  -- ---- items have relations of their own

  own_of : (t : JoinTree) (rel : ℕ) → In t items → Has (rels_of t) rel → In rel (own_leaves tree)
  own_of t rel m h = subst (In rel) (sym (own_items tree)) (own_at items t rel m (to_in rel (own_leaves t) (rels_are_own t rel h)))

  pub one : (j k : ℕ) (t u : JoinTree) (rel : ℕ) → slice_get items j ≡ Some t → slice_get items k ≡ Some u → Has (rels_of t) rel → Has (rels_of u) rel → j ≡ k
  one j k t u rel e f h m =
      one_place items (subst Distinct (own_items tree) sheltered.distinct) j k t u rel e f (to_in rel (own_leaves t) (rels_are_own t rel h)) (to_in rel (own_leaves u) (rels_are_own u rel m))

  outside : (rel : ℕ) → InEntries block.outer rel → Foreign items one rel
  outside rel e t m h =
      let leaf = own_in_query query rel (from_in rel (own_leaves tree) (own_of t rel m h)) in
      each_in (NotIn block.outer) (leaves_in query) rel (leaves_apart block.schema query block.outer block.typed.distinct) (to_in rel (leaves_in query) leaf) e

  hidden : (e : Expr) (rel : ℕ) → In e (exprs_in (shape_of tree)) → HasLeaf (expr_leaf_set e) rel → Foreign items one rel
  hidden e rel m leaf t k h = sheltered.away e rel m (own_of t rel k h) leaf

  hidden_above : (e : Expr) (rel : ℕ) → In e conds → HasLeaf (expr_leaf_set e) rel → Foreign items one rel
  hidden_above e rel m leaf t k h =
      let before = together (map output_leaf_set (out-Query query).columns) in
      let found = own_found tree rel (own_of t rel k h) in
      let inside = of_together rel (map expr_leaf_set conds) (expr_leaf_set e) (in_map expr_leaf_set e conds m) leaf in
      none_inside rel (leaves_beside before (tree_leaf_set tree)).leaves (together (map expr_leaf_set conds)).leaves inside.0 leaf_parts.conds (in_append_right (own_leaf rel) before.leaves (tree_leaf_set tree).leaves found) inside.1 inside.2

  -- ---- what the expressions of the block see

  tree_by : SeenBy (Foreign items one) (shape_of tree)
  tree_by =
      let c = down knows_columns block.typed.columns in
      let d = down knows_placeholders block.typed.placeholders in
      tree_seen block.schema block.outer (Foreign items one) outside tree c.tree d.tree typed_parts.0 hidden

  conds_by : (es : List Expr) → ((e : Expr) → In e es → In e conds) → Each (λ e. (judged_expr block.schema knows_columns e).passes (entries_of block.schema tree block.outer ++ block.outer) ≡ true) es → Each (λ e. (judged_expr block.schema knows_placeholders e).passes (entries_of block.schema tree block.outer ++ block.outer) ≡ true) es
      → Each (Sees (Foreign items one) (shape_of tree)) es
  conds_by [] sub columns places = tt
  conds_by (e ∷ es) sub columns places = (
    sees block.schema block.outer (Foreign items one) outside (shape_of tree) (entries_of block.schema tree block.outer) e (λ rel p. among_items tree rel ((are_rels block.schema block.outer tree rel).1 p)) columns.0 places.0 (λ rel l. hidden_above e rel (sub e (inl refl)) l),
    conds_by es (λ x m. sub x (inr m)) columns.1 places.1,
  )

  pub block_seen : Seen (map known_rels items) (block_shape query) top
  block_seen =
      let c = down knows_columns block.typed.columns in
      let d = down knows_placeholders block.typed.placeholders in
      seen items one (block_shape query) top (λ k t e. subst (λ n. slice_get items n ≡ Some t) (omega arith) e) (tree_by, conds_by conds (λ e m. m) c.conds d.conds, typed_parts.1)

  -- ---- the outline

  pub same_length : length items ≡ length (outline_of query).rels
  same_length = sym (length-map items known_rels)

  standing : Standing (span 0 (length (outline_of query).rels)) 0 (0 + count_joins (shape_of tree)) 0 (map sides_of (outline_of query).joins)
  standing = subst (λ n. Standing (span 0 n) 0 (0 + count_joins (shape_of tree)) 0 (map sides_of (outline_of query).joins)) same_length (stands (item_rels (block_shape query)) (block_shape query) top rooted.rooted)

  clause_lies : (c : Placed) → In c (outline_of query).clauses → LiesInRegion (span 0 (length (outline_of query).rels)) (map sides_of (outline_of query).joins) c.region c.uses
  clause_lies c h = elim (clauses_seen (item_rels (block_shape query)) (block_shape query) top block_seen c h).lies [
    | inl p ↦ inl (p.0, subst (λ n. Within c.uses (span 0 n)) same_length p.1)
    | inr p ↦ inr (sides_of p.0, in_map sides_of p.0 (outline_of query).joins p.1, p.2, p.3)
  ]

  pub laid : Laid (outline_of query) (span 0 (length (outline_of query).rels))
  laid = record {
    high = 0 + count_joins (shape_of tree);
    some = (0, (has_span 0 (length (outline_of query).rels) 0).1 (omega arith, omega (arith, rooted.some, same_length)));
    numbered = numbered (item_rels (block_shape query)) (block_shape query) top;
    standing = standing;
    uses = λ w h. (joins_seen (item_rels (block_shape query)) (block_shape query) top block_seen w h).uses;
    uses_of_on = λ w h. (joins_seen (item_rels (block_shape query)) (block_shape query) top block_seen w h).uses_of_on;
    typed = λ w h. (joins_seen (item_rels (block_shape query)) (block_shape query) top block_seen w h).typed;
    clauses = clause_lies;
    typed_clauses = λ c h. (clauses_seen (item_rels (block_shape query)) (block_shape query) top block_seen c h).typed;
    uses_of_expr = λ c h. (clauses_seen (item_rels (block_shape query)) (block_shape query) top block_seen c h).uses_of_expr;
  }

  -- the relations of items lie below 64
  pub low : (k r : ℕ) → slice_get (outline_of query).rels k ≡ Some r → (i : ℕ) → Has r i → i < 64
  low k r e i h = let place = mapped_place known_rels items k r e in known_low (rels_of place.0) i (subst (λ n. Has n i) (sym place.2) h)

-- What a typed and bounded query without a Right join says of each place in it, and that it says so of each block that it uses.
use Rattle.std.proofs.Common.{◌≡◌, ◌∙◌, ap, sym, subst, refl, ℕ, ◌<◌, ◌≤◌, inl, inr, Bool, true, false, ◌&&◌, List, [], ◌∷◌, ◌++◌, map, length, IsSome, arith}
use Rattle.std.specs.Prelude.{count_ones}
use Rattle.std.proofs.lemmas.Bool.{and_parts}
use Rattle.std.proofs.lemmas.Bool.{cases_eq}
use Rattle.std.proofs.lemmas.List.{append_assoc, append-nil}
use Rattle.std.proofs.lemmas.Nat.Bits.{bit_at-pow_other}
use Rattle.jp_base.specs.Sets.{Has, Within}
use Rattle.jp_facts.proofs.Members.{In, in_map, from_map}
use Rattle.jp_query.specs.declared.Expr.{Expr}
use Rattle.jp_query.specs.declared.JoinTree.{JoinTree}
use Rattle.jp_query.specs.declared.JoinTree.TheVariants as tree
use Rattle.jp_query.specs.declared.JoinKind.{JoinKind}
use Rattle.jp_query.specs.declared.Order.{Order}
use Rattle.jp_query.specs.declared.Output.{Output}
use Rattle.jp_query.specs.declared.Query.{Query}
use Rattle.jp_query.specs.declared.Expr.TheOpen.{Expr-F, JoinTree-F}
use Rattle.jp_query.specs.declared.Expr.TheFolds.{fold-roll-Query}
use Rattle.jp_query.specs.Conditions.{Judged, Leaf, Leaves, no_leaves, Tests, IsTyped, IsBounded, are_apart, are_distinct, relation_of, beside, expr_leaves, tree_leaves, order_leaves, output_leaves, query_leaves, judged_leaves, expr_judged, tree_judged, order_judged, output_judged, query_judged, judged_expr, judged_tree, judged_query, knows_columns, knows_placeholders, tells_relations_apart, keeps_bounds, all_true, expr_rooted, tree_rooted, order_rooted, output_rooted, query_rooted, has_leaves}
use Rattle.jp_query.specs.Layers.{QueryLayer}
use Rattle.jp_query.specs.NoRight.{is_no_right, expr_without_right, tree_without_right, HasNoRight}
use Rattle.jp_query.specs.Parts.{parts, sublink_query, trees, conditions, leaf_query, option_part, base_leaves_in, base_number, base_table, nothing_of_node, tables_in, expr_gives, tree_gives, order_gives, output_gives, query_gives}
use Rattle.jp_query.specs.Refs.{only, union}
use Rattle.jp_query.specs.Scopes.{Column, Schema, Entry, Scope, entries_of}
use Rattle.jp_query.specs.Typing.{is_listed, Typed, TypedOutput, TypedQuery, expr_type, tree_typed, order_typed, output_typed, query_typed, type_of, tree_is_typed, typed_query}
use Rattle.jp_induction.specs.HandedDown.{HandsDown}
use Rattle.jp_laws.proofs.EachPart.{Each, each_of, all_of_each, each_append}
use Rattle.jp_laws.proofs.GatheredLaws.{typed_order, typed_output}
use Rattle.jp_laws.proofs.JudgedLaws.{judged_order_by, judged_output_by}
use Rattle.jp_laws.proofs.JudgedValues.{entries_judged}
use Rattle.jp_laws.proofs.TuplesFit.{distinct_ends, apart_later}
use Rattle.jp_folding.proofs.FineDown.{inside, above, tree_parts}
use Rattle.jp_folding.proofs.TypedDown.{typed_down}
use Rattle.jp_problem.specs.InnerBlocks.{side_block}
use Rattle.jp_problem.proofs.UnionLaws.{has_union}
use Rattle.jp_conditions.proofs.Judging.{expr_leaf_set, tree_leaf_set, order_leaf_set, output_leaf_set}
use Rattle.jp_conditions.proofs.Spans.{has_itself}
use Rattle.jp_prepared.proofs.Ones.{fewer_ones}
use Rattle.jp_prepared.proofs.Down.{both_down, judged_down, tested_expr, tested_tree, tested_order, tested_output, tested_down, in_expr, in_tree, in_order, in_output, gathered_down, apart_down}

both : (a b : Bool) → a ≡ true → b ≡ true → (a && b) ≡ true
both a b h k = λ i. h i && k i

-- ---- tests of all parts

rooted_expr : (x : Expr-F Bool Bool Bool Bool Bool) → expr_rooted x ≡ true → (all_true (parts x) ≡ true) × (all_true (option_part (sublink_query x)) ≡ true)
rooted_expr x h = and_parts (all_true (parts x)) (all_true (option_part (sublink_query x))) h

all_pass_in : (t : JoinTree-F Bool Bool Bool Bool Bool) → (all_true (trees t) && (all_true (conditions t) && all_true (option_part (leaf_query t)))) ≡ true → (all_true (trees t) ≡ true) × (all_true (conditions t) ≡ true) × (all_true (option_part (leaf_query t)) ≡ true)
all_pass_in t h =
    let p = and_parts (all_true (trees t)) (all_true (conditions t) && all_true (option_part (leaf_query t))) h in
    let q = and_parts (all_true (conditions t)) (all_true (option_part (leaf_query t))) p.1 in
    (p.0, q.0, q.1)

rooted_tree : (t : JoinTree-F Bool Bool Bool Bool Bool) → tree_rooted t ≡ true → (all_true (trees t) ≡ true) × (all_true (conditions t) ≡ true) × (all_true (option_part (leaf_query t)) ≡ true)
rooted_tree (JoinTree-F.From members conds) h =
    let p = and_parts (is_listed members) (all_true members && all_true conds) h in
    let q = and_parts (all_true members) (all_true conds) p.1 in
    (q.0, q.1, refl)
rooted_tree t h = all_pass_in t h

right_tree : (t : JoinTree-F Bool Bool Bool Bool Bool) → tree_without_right t ≡ true → (all_true (trees t) ≡ true) × (all_true (conditions t) ≡ true) × (all_true (option_part (leaf_query t)) ≡ true)
right_tree (JoinTree-F.Join kind left right on) h =
    let p = and_parts (is_no_right kind) (left && (right && all_true on)) h in
    let q = and_parts left (right && all_true on) p.1 in
    let r = and_parts right (all_true on) q.1 in
    (both left (right && true) q.0 (both right true r.0 refl), r.1, refl)
right_tree t h = all_pass_in t h

-- ---- at each place

module _ (schema : Schema) (bases : ℕ) where
  abbrev Base : ℕ → Type 0
  Base n = Has bases n

  abbrev Table : ℕ → Type 0
  Table n = n < length schema

  abbrev pub ExprPlaced : Scope → Expr → Type 0
  ExprPlaced s x =
      ((((judged_expr schema knows_columns x).passes s ≡ true) × ((judged_expr schema knows_placeholders x).passes s ≡ true)) × (((judged_expr schema tells_relations_apart x).passes s ≡ true) × ((judged_expr schema keeps_bounds x).passes s ≡ true)))
      × (((IsSome (type_of x) × (tested_expr expr_rooted tree_rooted x ≡ true)) × ((tested_expr expr_without_right tree_without_right x ≡ true) × ((expr_leaf_set x).apart ≡ true))) × (Each Table (in_expr ℕ nothing_of_node base_table x) × Each Base (in_expr ℕ nothing_of_node base_number x)))

  abbrev pub TreePlaced : Scope → JoinTree → Type 0
  TreePlaced s x =
      ((((judged_tree schema knows_columns x).passes s ≡ true) × ((judged_tree schema knows_placeholders x).passes s ≡ true)) × (((judged_tree schema tells_relations_apart x).passes s ≡ true) × ((judged_tree schema keeps_bounds x).passes s ≡ true)))
      × ((((tree_is_typed x ≡ true) × (tested_tree expr_rooted tree_rooted x ≡ true)) × ((tested_tree expr_without_right tree_without_right x ≡ true) × ((tree_leaf_set x).apart ≡ true))) × (Each Table (in_tree ℕ nothing_of_node base_table x) × Each Base (in_tree ℕ nothing_of_node base_number x)))

  abbrev pub OrderPlaced : Scope → Order → Type 0
  OrderPlaced s x =
      ((((judged_order_by schema knows_columns x).passes s ≡ true) × ((judged_order_by schema knows_placeholders x).passes s ≡ true)) × (((judged_order_by schema tells_relations_apart x).passes s ≡ true) × ((judged_order_by schema keeps_bounds x).passes s ≡ true)))
      × (((IsSome (typed_order x) × (tested_order expr_rooted tree_rooted x ≡ true)) × ((tested_order expr_without_right tree_without_right x ≡ true) × ((order_leaf_set x).apart ≡ true))) × (Each Table (in_order ℕ nothing_of_node base_table x) × Each Base (in_order ℕ nothing_of_node base_number x)))

  abbrev pub OutputPlaced : Scope → Output → Type 0
  OutputPlaced s x =
      ((((judged_output_by schema knows_columns x).passes s ≡ true) × ((judged_output_by schema knows_placeholders x).passes s ≡ true)) × (((judged_output_by schema tells_relations_apart x).passes s ≡ true) × ((judged_output_by schema keeps_bounds x).passes s ≡ true)))
      × (((((typed_output x).is_typed ≡ true) × (tested_output expr_rooted tree_rooted x ≡ true)) × ((tested_output expr_without_right tree_without_right x ≡ true) × ((output_leaf_set x).apart ≡ true))) × (Each Table (in_output ℕ nothing_of_node base_table x) × Each Base (in_output ℕ nothing_of_node base_number x)))

  abbrev pub QueryPlaced : Scope → Query → Type 0
  QueryPlaced s x =
      ((((judged_query schema knows_columns x).passes s ≡ true) × ((judged_query schema knows_placeholders x).passes s ≡ true)) × (((judged_query schema tells_relations_apart x).passes s ≡ true) × ((judged_query schema keeps_bounds x).passes s ≡ true)))
      × (((((typed_query x).is_typed ≡ true) × (has_leaves x ≡ true)) × (HasNoRight x × ((judged_leaves x).apart ≡ true))) × (Each Table (tables_in x) × Each Base (base_leaves_in x)))

  typed_at_places : HandsDown Scope (inside schema) (above schema) (λ s x. IsSome (type_of x)) (λ s x. tree_is_typed x ≡ true) (λ s x. IsSome (typed_order x)) (λ s x. (typed_output x).is_typed ≡ true) (λ s x. (typed_query x).is_typed ≡ true)
  typed_at_places = record {
    expr = λ s x h. typed_down.expr tt x h;
    tree = λ s x h. typed_down.tree tt x h;
    order = λ s x h. typed_down.order tt x h;
    output = λ s x h. typed_down.output tt x h;
    query = λ s x h. typed_down.query tt x h;
  }

  pub placed_down : HandsDown Scope (inside schema) (above schema) ExprPlaced TreePlaced OrderPlaced OutputPlaced QueryPlaced
  placed_down =
      both_down (both_down (both_down (judged_down schema knows_columns) (judged_down schema knows_placeholders)) (both_down (judged_down schema tells_relations_apart) (judged_down schema keeps_bounds)))
      (both_down (both_down (both_down typed_at_places (tested_down expr_rooted tree_rooted (inside schema) (above schema) rooted_expr rooted_tree)) (both_down (tested_down expr_without_right tree_without_right (inside schema) (above schema) rooted_expr right_tree) (apart_down (inside schema) (above schema))))
      (both_down (gathered_down ℕ nothing_of_node base_table Table (inside schema) (above schema)) (gathered_down ℕ nothing_of_node base_number Base (inside schema) (above schema))))

  -- ---- a side of a Full join

  abbrev side_level : JoinTree → QueryLayer
  side_level t = record { columns = []; distinct = false; tree = t; conds = []; order = [] }

  side_passes : (tests : Tests) (s : Scope) (t : JoinTree) → (judged_tree schema tests t).passes s ≡ true → tests.scope (entries_of schema t s ++ s) ≡ true → (judged_query schema tests (side_block t)).passes s ≡ true
  side_passes tests s t h place =
      let at = subst (λ (es : List Entry). tests.scope (es ++ s) ≡ true) (sym (ap (λ (e : Scope → List Entry). e s) (entries_judged schema tests t))) place in
      subst (λ (j : Judged (List Column)). j.passes s ≡ true) (sym (fold-roll-Query (Judged ℕ) (Judged (List Entry)) (Judged ℕ) (Judged Column) (Judged (List Column)) (expr_judged schema tests) (tree_judged schema tests) (order_judged schema tests) (output_judged schema tests) (query_judged schema tests) (side_level t)))
      (both ((judged_tree schema tests t).passes s) (tests.scope ((judged_tree schema tests t).value s ++ s) && true) h (both (tests.scope ((judged_tree schema tests t).value s ++ s)) true at refl))

  side_has : (P : ℕ → Type 0) (ns : List ℕ) → Each P ns → Each P (ns ++ [])
  side_has P ns h = each_append P ns [] h tt

  pub side_placed : (s : Scope) (t : JoinTree) → TreePlaced s t → are_distinct (map relation_of (entries_of schema t s ++ s)) ≡ true → QueryPlaced s (side_block t)
  side_placed s t h distinct = (
    ((side_passes knows_columns s t h.0.0.0 refl, side_passes knows_placeholders s t h.0.0.1 refl), (side_passes tells_relations_apart s t h.0.1.0 distinct, side_passes keeps_bounds s t h.0.1.1 refl)),
    (
      (
        (
          ap (λ (q : TypedQuery). q.is_typed) (fold-roll-Query Typed Bool Typed TypedOutput TypedQuery expr_type tree_typed order_typed output_typed query_typed (side_level t)) ∙ both (tree_is_typed t) true h.1.0.0.0 refl,
          fold-roll-Query Bool Bool Bool Bool Bool expr_rooted tree_rooted order_rooted output_rooted query_rooted (side_level t) ∙ both (tested_tree expr_rooted tree_rooted t) true h.1.0.0.1 refl,
        ),
        (
          fold-roll-Query Bool Bool Bool Bool Bool expr_without_right tree_without_right order_rooted output_rooted query_rooted (side_level t) ∙ both (tested_tree expr_without_right tree_without_right t) true h.1.0.1.0 refl,
          ap (λ (l : Leaves). l.apart) (fold-roll-Query Leaves Leaves Leaves Leaves Leaves expr_leaves tree_leaves order_leaves output_leaves query_leaves (side_level t)) ∙ alone (tree_leaf_set t) h.1.0.1.1,
        ),
      ),
      (
        subst (Each Table) (sym (fold-roll-Query (List ℕ) (List ℕ) (List ℕ) (List ℕ) (List ℕ) (expr_gives ℕ nothing_of_node base_table) (tree_gives ℕ nothing_of_node base_table) (order_gives ℕ nothing_of_node base_table) (output_gives ℕ nothing_of_node base_table) (query_gives ℕ nothing_of_node base_table) (side_level t))) (side_has Table (in_tree ℕ nothing_of_node base_table t) h.1.1.0),
        subst (Each Base) (sym (fold-roll-Query (List ℕ) (List ℕ) (List ℕ) (List ℕ) (List ℕ) (expr_gives ℕ nothing_of_node base_number) (tree_gives ℕ nothing_of_node base_number) (order_gives ℕ nothing_of_node base_number) (output_gives ℕ nothing_of_node base_number) (query_gives ℕ nothing_of_node base_number) (side_level t))) (side_has Base (in_tree ℕ nothing_of_node base_number t) h.1.1.1),
      ),
    ),
  )
    where
      beside_none : (xs : List Leaf) → are_apart xs [] ≡ true
      beside_none [] = refl
      beside_none (x ∷ xs) = beside_none xs

      alone : (l : Leaves) → l.apart ≡ true → (beside (beside (beside no_leaves l) no_leaves) no_leaves).apart ≡ true
      alone l h =
          both ((l.apart && true) && are_apart l.leaves []) (are_apart (l.leaves ++ []) []) (both (l.apart && true) (are_apart l.leaves []) (both l.apart true h refl) (beside_none l.leaves)) (beside_none (l.leaves ++ []))

  -- the relations of each side are told apart from the outer ones
  pub sides_distinct : (s : Scope) (kind : JoinKind) (left right : JoinTree) (on : List Expr) → TreePlaced s (tree.Join kind left right on)
      → (are_distinct (map relation_of (entries_of schema left s ++ s)) ≡ true) × (are_distinct (map relation_of (entries_of schema right s ++ s)) ≡ true)
  sides_distinct s kind left right on h =
      let p = tree_parts schema tells_relations_apart s (JoinTree-F.Join kind left right on) (subst (λ t. (judged_tree schema tells_relations_apart t).passes s ≡ true) (sym (tree.rolls-Join kind left right on)) h.0.1.0) in
      let l = entries_of schema left s in
      let r = entries_of schema right s in
      let whole = subst (λ (es : List Entry). are_distinct (map relation_of es) ≡ true) (append_assoc l (r ++ []) s) p.place in (
        distinct_ends l (r ++ []) s whole,
        subst (λ (es : List Entry). are_distinct (map relation_of (es ++ s)) ≡ true) (append-nil r) (apart_later l ((r ++ []) ++ s) whole),
      )

  -- ---- from and to the conditions on a query

  is_only : (rel i : ℕ) → Has (only rel) i → i ≡ rel
  is_only rel i h = elim (cases_eq i rel) [ inl e ↦ e | inr n ↦ absurd (omega (arith, bit_at-pow_other rel i n, h)) ]

  among_bases : (q : Query) → Each Base (base_leaves_in q) → Within (union (map only (base_leaves_in q))) bases
  among_bases q h i has =
      let some = (has_union (map only (base_leaves_in q)) i).0 has in
      let number = from_map only some.0 (base_leaves_in q) some.1 in
      subst Base (sym (is_only number.0 i (subst (λ set. Has set i) (sym number.2) some.2))) (member (base_leaves_in q) number.0 h number.1)
    where
      member : (ns : List ℕ) (n : ℕ) → Each Base ns → In n ns → Base n
      member [] n h k = absurd k
      member (m ∷ ns) n h (inl e) = subst Base e h.0
      member (m ∷ ns) n h (inr k) = member ns n h.1 k

  pub typed_there : count_ones bases ≤ 16 → (s : Scope) (q : Query) → QueryPlaced s q → IsTyped schema s q
  typed_there few s q h = record {
    expressions = h.1.0.0.0;
    columns = h.0.0.0;
    placeholders = h.0.0.1;
    distinct = h.0.1.0;
    apart = h.1.0.1.1;
    tables = all_of_each Table (tables_in q) h.1.1.0;
    rooted = h.1.0.0.1;
    few = omega (arith, few, fewer_ones (union (map only (base_leaves_in q))) bases (among_bases q h.1.1.1));
  }

pub placed_there : (schema : Schema) (s : Scope) (q : Query) → IsTyped schema s q → IsBounded schema s q → HasNoRight q → QueryPlaced schema (union (map only (base_leaves_in q))) s q
placed_there schema s q typed bounded no_right = (
  ((typed.columns, typed.placeholders), (typed.distinct, bounded)),
  (((typed.expressions, typed.rooted), (no_right, typed.apart)), (each_of (λ n. n < length schema) (tables_in q) typed.tables, has_all (base_leaves_in q) (λ n h. h))),
)
  where
    has_all : (ns : List ℕ) → ((n : ℕ) → In n ns → In n (base_leaves_in q)) → Each (λ n. Has (union (map only (base_leaves_in q))) n) ns
    has_all [] sub = tt
    has_all (n ∷ ns) sub = ((has_union (map only (base_leaves_in q)) n).1 (only n, in_map only n (base_leaves_in q) (sub n (inl refl)), has_itself n), has_all ns (λ m h. sub m (inr h)))

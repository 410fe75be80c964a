-- The tuples of a block as it is written are, as a bag, those that its tree means.
use Rattle.std.proofs.Common.{◌≡◌, ◌∙◌, ap, ap₂, sym, subst, refl, ℕ, ◌+◌, ◌<◌, inl, inr, ◌&&◌, Bool, true, List, [], ◌∷◌, ◌++◌, map, filter, fold, length, Some, None, arith}
use Rattle.std.specs.Prelude.{slice_get, if◌then◌else◌}
use Rattle.std.specs.Int.{bit_at}
use Rattle.std.specs.List.{flat_map, list_all}
use Rattle.std.specs.List.Sorted.{IsPermutation}
use Rattle.std.specs.Option.{option_map}
use Rattle.std.proofs.lemmas.Bool.{and_parts, ne_eqb}
use Rattle.std.proofs.lemmas.List.Elements.{filter-append}
use Rattle.std.proofs.lemmas.List.Sorted.{IsPermutation-refl}
use Rattle.std.proofs.lemmas.Option.{slice_get-map, slice_get_within}
use Rattle.sqlite_keyed.proofs.ListLemmas.{IsPermutation-filter}
use Rattle.jp_base.specs.Sets.{Has}
use Rattle.jp_facts.proofs.Members.{In, from_map, from_flat_map}
use Rattle.jp_induction.proofs.EachPart.{Each}
use Rattle.jp_query.specs.declared.Expr.{Expr}
use Rattle.jp_query.specs.declared.JoinKind.{JoinKind}
use Rattle.jp_query.specs.declared.JoinKind.TheVariants as join
use Rattle.jp_query.specs.declared.JoinTree.{JoinTree}
use Rattle.jp_query.specs.declared.JoinTree.TheVariants as tree
use Rattle.jp_query.specs.declared.Query.{Query, out-Query}
use Rattle.jp_query.specs.Conditions.{all_true}
use Rattle.jp_query.specs.InOrder.{passing_tuples}
use Rattle.jp_query.specs.Meaning.{Row, Env, ValueIn, Tuples, holds, with_rows, pairs, join_tuples, extended, with_member, combined, value_of, tuples_of}
use Rattle.jp_query.specs.NoRight.{expr_without_right, tree_without_right, order_without_right, output_without_right, query_without_right, has_no_right_in_tree, has_no_right_in_expr, is_no_right}
use Rattle.jp_query.specs.Parts.{rels_of}
use Rattle.jp_query.specs.Refs.{below_64}
use Rattle.jp_query.specs.Typing.{tree_is_typed, is_true_test}
use Rattle.jp_query.proofs.FoldLaws as laws
use Rattle.jp_query.proofs.RelsLaw.{rels_same}
use Rattle.jp_laws.proofs.JoinBags.{join_bag}
use Rattle.jp_problem.specs.declared.types.Place.{Place}
use Rattle.jp_problem.specs.Blocks.{rels_at, known_rels, item_rels, behind, in_right_side, items_at, top}
use Rattle.jp_problem.specs.Made.{IsBlock}
use Rattle.jp_problem.specs.Shapes.{Shape, nothing, item, beside, filtered, together, joined, shape_of, block_shape, items_in}
use Rattle.jp_problem.proofs.ShapeLaws.{at_base, at_sub, at_join, at_from}
use Rattle.jp_conditions.proofs.Forms.{by_form}
use Rattle.jp_conditions.proofs.Items.{rels_of_set}
use Rattle.jp_conditions.proofs.LaidBlocks.{one, typed_parts}
use Rattle.jp_conditions.proofs.Laying.{low_bits, known_has, mapped_place, first_part, second_part}
use Rattle.jp_conditions.proofs.Numbers.{at_place}
use Rattle.jp_conditions.proofs.Shaping.{OfItems, of_left, of_right, among_items}
use Rattle.jp_conditions.proofs.Spans.{has_span}
use Rattle.jp_framed.specs.Environments.{Setting, Sublinks, source_at, HasNoOwnRows}
use Rattle.jp_framed.proofs.MapRows.{from_rels}
use Rattle.jp_spine.specs.ItemTuples.{in_place_over, HoldItems}
use Rattle.jp_spine.specs.Written.{rels_of_number, written_tuples}
use Rattle.jp_spine.proofs.ListLaws.{kept_all, flat_same}
use Rattle.jp_spine.proofs.Outside.{inner_swapped, left_swapped, semi_swapped, anti_swapped}
use Rattle.jp_spine.proofs.TreeTuples.{at_tree_join, at_tree_from, tree_out, tree_low, both_typed, members_typed}

pub low_known : (x i : ℕ) → i < 64 → Has x i → Has (below_64 x) i
low_known x i low h = low_bits x i low ∙ h

module _ (tables : ℕ → List Row) (outer : Env) (sources : List (List Env)) (all : List JoinTree)
    (one_item : (j k : ℕ) (t u : JoinTree) (rel : ℕ) → slice_get all j ≡ Some t → slice_get all k ≡ Some u → Has (rels_of t) rel → Has (rels_of u) rel → j ≡ k)
    (clear : HasNoOwnRows (map known_rels all) outer)
    (of_item : (i : ℕ) (t : JoinTree) → slice_get all i ≡ Some t → IsPermutation (map (with_rows (rels_of_number (map known_rels all) i) outer) (source_at sources i)) ((tuples_of tables t).tuples outer)) where
  abbrev pub rels : List ℕ
  rels = map known_rels all

  abbrev pub setting : Setting
  setting = record { sources = sources; sublinks = Sublinks.in_place tables; outer = outer }

  abbrev pub W : Shape → Place → List Env
  W = written_tuples rels setting

  abbrev pub X : JoinTree → List Env
  X t = (tuples_of tables t).tuples outer

  abbrev pub N : JoinTree → ℕ
  N t = (tuples_of tables t).rels

  abbrev pub Stands : ℕ → List JoinTree → Type 0
  Stands first xs = (k : ℕ) (t : JoinTree) → slice_get xs k ≡ Some t → slice_get all (first + k) ≡ Some t

  -- what holds of a list of tuples that a shape has
  record Listed (shape : Shape) (at : Place) (xs : List Env) : Type 0 where
    same : IsPermutation (W shape at) xs
    out : (x : Env) → In x xs → (rel : ℕ) → (OfItems shape rel → ⊥) → x rel ≡ outer rel

  pub record Meant (t : JoinTree) : Type 0 where
    pub typed : tree_is_typed t ≡ true
    pub same : (at : Place) → Stands at.items (items_in (shape_of t)) → IsPermutation (W (shape_of t) at) (X t)

  outside : (t : JoinTree) → (x : Env) → In x (X t) → (rel : ℕ) → (OfItems (shape_of t) rel → ⊥) → x rel ≡ outer rel
  outside t x h rel none = tree_out tables outer t x h rel (λ p. none (among_items t rel (subst (λ n. Has n rel) (rels_same tables t) p)))

  -- ---- a tree behind a shape

  module _ (s : Shape) (t : JoinTree) (at : Place) (stands : Stands at.items (items_in s ++ items_in (shape_of t))) where
    abbrev R : ℕ
    R = items_at (behind s at) (shape_of t)

    abbrev wide : ℕ
    wide = rels_at rels R

    stands_left : Stands at.items (items_in s)
    stands_left = first_part all one_item at.items (items_in s) (items_in (shape_of t)) stands

    stands_right : Stands (at.items + length (items_in s)) (items_in (shape_of t))
    stands_right = second_part all one_item at.items (items_in s) (items_in (shape_of t)) stands

    wider : ((i : ℕ) → Has (N t) i → i < 64) → (rel : ℕ) → Has (N t) rel → Has (rels_at rels R) rel
    wider low rel h =
        let found = among_items t rel (subst (λ n. Has n rel) (rels_same tables t) h) in
        let k = at_place (items_in (shape_of t)) found.0 found.1 in
        let here = stands_right k.0 found.0 k.1 in
        let inside = slice_get_within (items_in (shape_of t)) k.0 found.0 k.1 in
        rels_of_set rels R (at.items + length (items_in s) + k.0) (known_rels found.0) (slice_get-map known_rels all (at.items + length (items_in s) + k.0) ∙ ap (option_map known_rels) here)
        ((has_span (at.items + length (items_in s)) (length (items_in (shape_of t))) (at.items + length (items_in s) + k.0)).1 (omega arith, omega (arith, inside))) rel (low_known (rels_of found.0) rel (low rel h) found.2)

    -- a relation of the tree's items has no row around, and isn't one of the shape's
    clear_there : (rel : ℕ) → Has (rels_at rels R) rel → outer rel ≡ None
    clear_there rel h = let found = from_rels 0 rels R rel h in clear found.0 found.1 rel found.2 found.4

    not_left : (rel : ℕ) → Has (rels_at rels R) rel → OfItems s rel → ⊥
    not_left rel h left =
        let found = from_rels 0 rels R rel h in
        let there = mapped_place known_rels all found.0 found.1 found.2 in
        let mine = known_has (rels_of there.0) rel (subst (λ n. Has n rel) (sym there.2) found.4) in
        let k = at_place (items_in s) left.0 left.1 in
        let same = one_item (at.items + k.0) found.0 left.0 there.0 rel (stands_left k.0 left.0 k.1) there.1 left.2 mine in
        let span = (has_span (at.items + length (items_in s)) (length (items_in (shape_of t))) (0 + found.0)).0 found.3 in
        let inside = slice_get_within (items_in s) k.0 left.0 k.1 in
        omega (arith, same, span.0, inside)

    module _ (xs : List Env) (left : Listed s at xs) (m : Meant t) where
      left_none : (u : Env) → In u xs → (rel : ℕ) → Has (rels_at rels R) rel → u rel ≡ None
      left_none u h rel p = left.out u h rel (not_left rel p) ∙ clear_there rel p

      right_none : (v : Env) → In v (X t) → (rel : ℕ) → Has (rels_at rels R) rel → ¬ Has (N t) rel → v rel ≡ None
      right_none v h rel p n = tree_out tables outer t v h rel n ∙ clear_there rel p

      moved : (kind : JoinKind) (on : List ValueIn) (l : ℕ) → join_tuples kind on l xs (rels_at rels R) (X t) ≡ join_tuples kind on l xs (N t) (X t) → (here : Place) → here.items ≡ at.items + length (items_in s)
          → IsPermutation (join_tuples kind on l (W s at) (rels_at rels R) (W (shape_of t) here)) (join_tuples kind on l xs (N t) (X t))
      moved kind on l e here is = subst (λ ys. IsPermutation (join_tuples kind on l (W s at) (rels_at rels R) (W (shape_of t) here)) ys) e
          (join_bag kind on l (rels_at rels R) (W s at) xs (W (shape_of t) here) (X t) left.same (m.same here (subst (λ n. Stands n (items_in (shape_of t))) (sym is) stands_right)))

      inner_moved : (on : List ValueIn) (l : ℕ) → IsPermutation (join_tuples join.Inner on l (W s at) (rels_at rels R) (W (shape_of t) (behind s at))) (join_tuples join.Inner on l xs (N t) (X t))
      inner_moved on l = moved join.Inner on l (inner_swapped on l (rels_at rels R) (N t) xs (X t) (wider (tree_low tables t m.typed)) left_none right_none) (behind s at) refl

      left_moved : (on : List ValueIn) (l : ℕ) → IsPermutation (join_tuples join.Left on l (W s at) (rels_at rels R) (W (shape_of t) (in_right_side s (shape_of t) at))) (join_tuples join.Left on l xs (N t) (X t))
      left_moved on l = moved join.Left on l (left_swapped on l (rels_at rels R) (N t) xs (X t) (wider (tree_low tables t m.typed)) left_none right_none) (in_right_side s (shape_of t) at) refl

      semi_moved : (on : List ValueIn) (l : ℕ) → IsPermutation (join_tuples join.Semi on l (W s at) (rels_at rels R) (W (shape_of t) (in_right_side s (shape_of t) at))) (join_tuples join.Semi on l xs (N t) (X t))
      semi_moved on l = moved join.Semi on l (semi_swapped on l (rels_at rels R) (N t) xs (X t) (wider (tree_low tables t m.typed)) left_none right_none) (in_right_side s (shape_of t) at) refl

      anti_moved : (on : List ValueIn) (l : ℕ) → IsPermutation (join_tuples join.Anti on l (W s at) (rels_at rels R) (W (shape_of t) (in_right_side s (shape_of t) at))) (join_tuples join.Anti on l xs (N t) (X t))
      anti_moved on l = moved join.Anti on l (anti_swapped on l (rels_at rels R) (N t) xs (X t) (wider (tree_low tables t m.typed)) left_none right_none) (in_right_side s (shape_of t) at) refl

  -- ---- each form of tree

  item_same : (t : JoinTree) → shape_of t ≡ item t → (at : Place) → Stands at.items (items_in (shape_of t)) → IsPermutation (W (shape_of t) at) (X t)
  item_same t e at p =
      let q = subst (λ s. Stands at.items (items_in s)) e p in
      subst (λ s. IsPermutation (W s at) (X t)) (sym e) (of_item at.items t (subst (λ n. slice_get all n ≡ Some t) (omega arith) (q 0 t refl)))

  each_pair : (n : ℕ) (vs : List Env) (u : Env) → pairs [] n vs u ≡ map (with_rows n u) vs
  each_pair n vs u = kept_all (holds []) (map (with_rows n u) vs) (λ x. refl)

  inner_filtered : (on : List ValueIn) (n : ℕ) (vs us : List Env) → filter (holds on) (flat_map (pairs [] n vs) us) ≡ flat_map (pairs on n vs) us
  inner_filtered on n vs [] = refl
  inner_filtered on n vs (u ∷ us) = filter-append (holds on) (pairs [] n vs u) (flat_map (pairs [] n vs) us) ∙ ap₂ ◌++◌ (ap (filter (holds on)) (each_pair n vs u)) (inner_filtered on n vs us)

  module _ (left right : JoinTree) (on : List Expr) (a : Meant left) (b : Meant right) where
    abbrev values : List ValueIn
    values = map (value_of tables) on

    first : (at : Place) → Stands at.items (items_in (shape_of left) ++ items_in (shape_of right)) → Listed (shape_of left) at (X left)
    first at p = record { same = a.same at (first_part all one_item at.items (items_in (shape_of left)) (items_in (shape_of right)) p); out = outside left }

    joined_same : (kind : JoinKind) → is_no_right kind ≡ true → (at : Place) → Stands at.items (items_in (joined kind (tree.Join kind left right on) (shape_of left) (shape_of right) on))
        → IsPermutation (W (joined kind (tree.Join kind left right on) (shape_of left) (shape_of right) on) at) (join_tuples kind (map (value_of tables) on) (N left) (X left) (N right) (X right))
    joined_same join.Inner ok at p =
        subst (λ ys. IsPermutation (W (filtered (beside (shape_of left) (shape_of right)) on) at) ys) (inner_filtered values (N right) (X right) (X left))
        (IsPermutation-filter (holds values) (W (beside (shape_of left) (shape_of right)) at) (join_tuples join.Inner [] 0 (X left) (N right) (X right)) (inner_moved (shape_of left) right at p (X left) (first at p) b [] 0))
    joined_same join.Left ok at p = left_moved (shape_of left) right at p (X left) (first at p) b values (N left)
    joined_same join.Semi ok at p = semi_moved (shape_of left) right at p (X left) (first at p) b values (N left)
    joined_same join.Anti ok at p = anti_moved (shape_of left) right at p (X left) (first at p) b values (N left)
    joined_same join.Right ok at p = cc
    joined_same join.Full ok at p =
        subst (λ (t : Tuples). IsPermutation (W (item (tree.Join join.Full left right on)) at) (t.tuples outer)) (at_tree_join tables join.Full left right on)
        (of_item at.items (tree.Join join.Full left right on) (subst (λ n. slice_get all n ≡ Some (tree.Join join.Full left right on)) (omega arith) (p 0 (tree.Join join.Full left right on) refl)))

    join_meant : (kind : JoinKind) → is_no_right kind ≡ true → tree_is_typed (tree.Join kind left right on) ≡ true → Meant (tree.Join kind left right on)
    join_meant kind ok typed =
        let e = at_tree_join tables kind left right on in
        let s = at_join kind left right on in
        record {
          typed = typed;
          same = λ at p. subst (λ (t : Tuples). IsPermutation (W (shape_of (tree.Join kind left right on)) at) (t.tuples outer)) (sym e)
              (subst (λ x. IsPermutation (W x at) (join_tuples kind values (N left) (X left) (N right) (X right))) (sym s) (joined_same kind ok at (subst (λ x. Stands at.items (items_in x)) s p)));
        }

  -- ---- FROM lists

  prefix : (first : ℕ) (ts : List JoinTree) (s : Shape) → Stands first (items_in (fold beside s (map shape_of ts))) → Stands first (items_in s)
  prefix first [] s p = p
  prefix first (t ∷ ts) s p = first_part all one_item first (items_in s) (items_in (shape_of t)) (prefix first ts (beside s (shape_of t)) p)

  member_has : (s : Shape) (t : JoinTree) (at : Place) → Stands at.items (items_in s ++ items_in (shape_of t)) → (xs : List Env) → Listed s at xs → Meant t → Listed (beside s (shape_of t)) at (with_member outer xs (tuples_of tables t))
  member_has s t at p xs h m = record {
    same = subst (IsPermutation (W (beside s (shape_of t)) at)) (flat_same (pairs [] (N t) (X t)) (extended (tuples_of tables t) outer) xs (λ u k. each_pair (N t) (X t) u)) (inner_moved s t at p xs h m [] 0);
    out = λ x k rel none.
        let u = from_flat_map (extended (tuples_of tables t) outer) x xs k in
        let v = from_map (with_rows (N t) u.0) x (X t) u.2 in
        let not_there : ¬ Has (N t) rel = λ q. none (of_right s (shape_of t) rel (among_items t rel (subst (λ n. Has n rel) (rels_same tables t) q))) in
        ap (λ (z : Env). z rel) (sym v.2) ∙ ap (λ c. if c then v.0 rel else u.0 rel) (ne_eqb (bit_at (N t) rel) 1 not_there) ∙ h.out u.0 u.1 rel (λ q. none (of_left s (shape_of t) rel q));
  }

  members_same : (ts : List JoinTree) (s : Shape) (xs : List Env) (at : Place) → Stands at.items (items_in (fold beside s (map shape_of ts))) → Each Meant ts → Listed s at xs
      → IsPermutation (W (fold beside s (map shape_of ts)) at) (fold (with_member outer) xs (map (tuples_of tables) ts))
  members_same [] s xs at p each h = h.same
  members_same (t ∷ ts) s xs at p each h = members_same ts (beside s (shape_of t)) (with_member outer xs (tuples_of tables t)) at p each.1 (member_has s t at (prefix at.items ts (beside s (shape_of t)) p) xs h each.0)

  start : (at : Place) → Listed nothing at (outer ∷ [])
  start at = record { same = IsPermutation-refl (outer ∷ []); out = λ x h rel none. elim h [ inl e ↦ ap (λ (z : Env). z rel) (sym e) | inr gone ↦ absurd gone ] }

  from_meant : (members : List JoinTree) (conds : List Expr) → Each Meant members → tree_is_typed (tree.From members conds) ≡ true → Meant (tree.From members conds)
  from_meant members conds each typed =
      let e = at_tree_from tables members conds in
      let s = at_from members conds in
      let ts = map (tuples_of tables) members in
      let test = holds (map (value_of tables) conds) in
      record {
        typed = typed;
        same = λ at p. subst (λ (t : Tuples). IsPermutation (W (shape_of (tree.From members conds)) at) (t.tuples outer)) (sym e)
            (subst (λ x. IsPermutation (W x at) (filter test (combined ts outer))) (sym s)
            (IsPermutation-filter test (W (together (map shape_of members)) at) (combined ts outer) (members_same members nothing (outer ∷ []) at (subst (λ x. Stands at.items (items_in x)) s p) each (start at))));
      }

  -- ---- every typed tree without a Right join

  abbrev pub Claim : JoinTree → Type 0
  Claim t = tree_is_typed t ≡ true → has_no_right_in_tree t ≡ true → Meant t

  each_meant : (ts : List JoinTree) → Each Claim ts → list_all is_true_test (map tree_is_typed ts) ≡ true → all_true (map has_no_right_in_tree ts) ≡ true → Each Meant ts
  each_meant [] each e f = tt
  each_meant (t ∷ ts) each e f =
      let a = and_parts (tree_is_typed t) (list_all is_true_test (map tree_is_typed ts)) e in
      let b = and_parts (has_no_right_in_tree t) (all_true (map has_no_right_in_tree ts)) f in
      (each.0 a.0 b.0, each_meant ts each.1 a.1 b.1)

  leaf_claim : (t : JoinTree) → shape_of t ≡ item t → Claim t
  leaf_claim t e typed no_right = record { typed = typed; same = item_same t e }

  join_claim : (kind : JoinKind) (left right : JoinTree) (on : List Expr) → Claim left → Claim right → Claim (tree.Join kind left right on)
  join_claim kind left right on p q typed no_right =
      let a = both_typed kind left right on typed in
      let b = and_parts (is_no_right kind) (has_no_right_in_tree left && (has_no_right_in_tree right && all_true (map has_no_right_in_expr on))) (sym (laws.at-Join Bool Bool Bool Bool Bool expr_without_right tree_without_right order_without_right output_without_right query_without_right kind left right on) ∙ no_right) in
      let c = and_parts (has_no_right_in_tree left) (has_no_right_in_tree right && all_true (map has_no_right_in_expr on)) b.1 in
      join_meant left right on (p a.0 c.0) (q a.1 (and_parts (has_no_right_in_tree right) (all_true (map has_no_right_in_expr on)) c.1).0) kind b.0 typed

  from_claim : (members : List JoinTree) (conds : List Expr) → Each Claim members → Claim (tree.From members conds)
  from_claim members conds each typed no_right =
      let b = and_parts (all_true (map has_no_right_in_tree members)) _ (sym (laws.at-From Bool Bool Bool Bool Bool expr_without_right tree_without_right order_without_right output_without_right query_without_right members conds) ∙ no_right) in
      from_meant members conds (each_meant members each (members_typed members conds typed) b.0) typed

  pub meant : (t : JoinTree) → Claim t
  meant = by_form Claim (record { base = λ rel name table. leaf_claim (tree.Base rel name table) (at_base rel name table); sub = λ rel name query. leaf_claim (tree.Sub rel name query) (at_sub rel name query); join = join_claim; from = from_claim })

-- ---- a block

module _ (tables : ℕ → List Row) (query : Query) (sources : List (List Env)) (outer : Env) (is_block : IsBlock query) (clear : HasNoOwnRows (item_rels (block_shape query)) outer) (hold : HoldItems tables query sources outer) where
  no_right : has_no_right_in_tree (out-Query query).tree ≡ true
  no_right =
      let e = sym (laws.at-Query Bool Bool Bool Bool Bool expr_without_right tree_without_right order_without_right output_without_right query_without_right query) ∙ is_block.no_right in
      (and_parts (has_no_right_in_tree (out-Query query).tree) _ (and_parts _ _ e).1).0

  tree_meant : Meant tables outer sources (items_in (block_shape query)) (one query is_block) clear hold (out-Query query).tree
  tree_meant = meant tables outer sources (items_in (block_shape query)) (one query is_block) clear hold (out-Query query).tree (typed_parts query is_block).0 no_right

  pub block_meant : IsPermutation (written_tuples (item_rels (block_shape query)) (in_place_over tables sources outer) (block_shape query) top) (passing_tuples tables query outer)
  block_meant = IsPermutation-filter (holds (map (value_of tables) (out-Query query).conds)) (written_tuples (item_rels (block_shape query)) (in_place_over tables sources outer) (shape_of (out-Query query).tree) top) ((tuples_of tables (out-Query query).tree).tuples outer)
      (tree_meant.same top (λ k t e. subst (λ n. slice_get (items_in (block_shape query)) n ≡ Some t) (omega arith) e))

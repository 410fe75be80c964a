-- The rows that the plans give for an item of a block hold the item: seen at its relations they are its tuples.
use Rattle.std.proofs.Common.{◌≡◌, ◌∙◌, ap, ap₂, sym, subst, refl, ℕ, ◌<◌, inl, inr, true, false, List, [], ◌∷◌, ◌++◌, map, filter, Some, None, eq-eqb}
use mathlib.Core.Path.{fun_ext}
use Rattle.std.specs.Prelude.{slice_get, if◌then◌else◌}
use Rattle.std.specs.List.{flat_map}
use Rattle.std.specs.List.Sorted.{IsPermutation}
use Rattle.std.proofs.lemmas.Bool.{ne_eqb}
use Rattle.std.proofs.lemmas.List.Sorted.{IsPermutation-refl, IsPermutation-sym, IsPermutation-map}
use Rattle.jp_base.specs.Sets.{Has}
use Rattle.jp_facts.proofs.Members.{In, Distinct, in_append_left, in_append_right, in_flat_map}
use Rattle.jp_catalog.specs.Sound.{IsSound}
use Rattle.jp_catalog.specs.declared.types.Catalog.{Catalog}
use Rattle.jp_query.specs.declared.Expr.{Expr}
use Rattle.jp_query.specs.declared.Expr.TheOpen.{JoinTree-F}
use Rattle.jp_query.specs.declared.JoinKind.{JoinKind}
use Rattle.jp_query.specs.declared.JoinKind.TheVariants as join
use Rattle.jp_query.specs.declared.JoinTree.{JoinTree, out-JoinTree}
use Rattle.jp_query.specs.declared.JoinTree.TheVariants as tree
use Rattle.jp_query.specs.declared.Query.{Query, out-roll-Query}
use Rattle.jp_query.specs.InOrder.{passing_tuples}
use Rattle.jp_query.specs.Layers.{QueryLayer}
use Rattle.jp_query.specs.Meaning.{Row, Env, Tuples, no_outer_rows, holds, with_row, with_rows, join_tuples, value_of, tuples_of, meaning}
use Rattle.jp_query.specs.OwnLeaves.{own_leaves}
use Rattle.jp_query.specs.Parts.{rels_of}
use Rattle.jp_query.specs.Refs.{only, union}
use Rattle.jp_query.specs.Typing.{tree_is_typed}
use Rattle.jp_query.proofs.RelsLaw.{rels_same}
use Rattle.jp_laws.proofs.JoinBags.{join_bag}
use Rattle.jp_problem.specs.declared.types.Item.{Item}
use Rattle.jp_problem.specs.Blocks.{known_rels, block_exprs}
use Rattle.jp_problem.specs.InnerBlocks.{side_block, exprs_at, exprs_of_item}
use Rattle.jp_problem.specs.Shapes.{shape_of, items_in, exprs_in}
use Rattle.jp_problem.specs.Trees.{Tree}
use Rattle.jp_conditions.proofs.Judging.{expr_leaf_set, tree_leaf_set}
use Rattle.jp_conditions.proofs.Laying.{known_has}
use Rattle.jp_conditions.proofs.Spans.{has_only, has_itself}
use Rattle.jp_frame.proofs.Sets.{decide_has}
use Rattle.jp_framed.proofs.MapRows.{overlaid, left_alone}
use Rattle.jp_spine.proofs.ListLaws.{kept_all}
use Rattle.jp_spine.proofs.MeaningLaws.{low_known}
use Rattle.jp_spine.proofs.TreeTuples.{at_tree_base, at_tree_sub, at_tree_join, tree_out, tree_low, both_typed}
use Rattle.jp_tree.specs.declared.prepared.Block.{Block}
use Rattle.jp_tree.specs.declared.prepared.Prepared.{Prepared}
use Rattle.jp_prepared.specs.Planned.{IsItem, IsInner, IsPrepared}
use Rattle.jp_prepared.specs.Sources.{Source, IsSourceAt, items_of_block, of_item}
use Rattle.jp_prepared.proofs.CostBound.{as_written}
use Rattle.jp_prepared.proofs.ItemForms.{IsItemTree, HasItemForm}
use Rattle.jp_prepared.proofs.ItemLaws.{have_rels}
use Rattle.jp_prepared.proofs.PreparedBlocks as blocks
use Rattle.jp_lists.specs.Lists.{Listing, listed_value, only_rows, rels_of_some, rels_of_block, item_source}
use Rattle.jp_listed.proofs.Clear.{ClearOf, IsClear, join_sheltered, side_leaf, left_clear, right_clear, select_clear}
use Rattle.jp_listed.proofs.FullJoins.{wide_rows, wide_without, full_same}
use Rattle.jp_listed.proofs.Relations.{union_own, own_is_leaf, tuples_own, tuples_union}
use Rattle.jp_listed.proofs.Sublinks.{IsGood, value_same}
use Rattle.jp_listed.proofs.TreeLists.{holds_same}

-- ---- rows seen at the relations of an item

-- of a row that is kept at these relations alone
restored : (rels : ℕ) (outer x y : Env) → ((rel : ℕ) → Has rels rel → x rel ≡ y rel) → ((rel : ℕ) → ¬ Has rels rel → y rel ≡ outer rel) → with_rows rels outer (only_rows rels x) ≡ y
restored rels outer x y own others = fun_ext (λ rel. elim (decide_has rels rel) [
  | inl p ↦ overlaid rels outer (only_rows rels x) rel p ∙ overlaid rels no_outer_rows x rel p ∙ own rel p
  | inr n ↦ left_alone rels outer (only_rows rels x) rel n ∙ sym (others rel n)
])

all_restored : (rels : ℕ) (outer : Env) (xs all : List Env) → ((x : Env) → In x xs → In x all) → ((x : Env) → In x all → (rel : ℕ) → ¬ Has rels rel → x rel ≡ outer rel) → map (with_rows rels outer) (map (only_rows rels) xs) ≡ xs
all_restored rels outer [] all sub out = refl
all_restored rels outer (x ∷ xs) all sub out = ap₂ ◌∷◌ (restored rels outer x x (λ rel p. refl) (out x (sub x (inl refl)))) (all_restored rels outer xs all (λ y m. sub y (inr m)) out)

-- an item of one relation
module _ (rels rel : ℕ) (has : Has rels rel) (alone : (r : ℕ) → Has rels r → r ≡ rel) (outer : Env) where
  row_restored : (row : Row) → with_rows rels outer (only_rows rels (with_row no_outer_rows rel row)) ≡ with_row outer rel row
  row_restored row = restored rels outer (with_row no_outer_rows rel row) (with_row outer rel row)
      (λ r p. let same = alone r p in ap (λ b. if b then Some row else None) (eq-eqb r rel same) ∙ sym (ap (λ b. if b then Some row else outer r) (eq-eqb r rel same)))
      (λ r n. ap (λ b. if b then Some row else outer r) (ne_eqb r rel (λ e. n (subst (Has rels) (sym e) has))))

  rows_restored : (rows : List Row) → map (with_rows rels outer) (map (only_rows rels) (map (with_row no_outer_rows rel) rows)) ≡ map (with_row outer rel) rows
  rows_restored [] = refl
  rows_restored (row ∷ rows) = ap₂ ◌∷◌ (row_restored row) (rows_restored rows)

module _ (tables : ℕ → List Row) (leaf : JoinTree) (typed : tree_is_typed leaf ≡ true) where
  -- what isn't among the item's relations isn't among those of its tuples
  unknown : (rel : ℕ) → ¬ Has (known_rels leaf) rel → ¬ Has (tuples_of tables leaf).rels rel
  unknown rel none h = none (low_known (rels_of leaf) rel (tree_low tables leaf typed rel h) (subst (λ n. Has n rel) (rels_same tables leaf) h))

  module _ (rel : ℕ) (one : (tuples_of tables leaf).rels ≡ only rel) where
    has_rel : Has (known_rels leaf) rel
    has_rel =
        let h : Has (tuples_of tables leaf).rels rel = subst (λ n. Has n rel) (sym one) (has_itself rel) in
        low_known (rels_of leaf) rel (tree_low tables leaf typed rel h) (subst (λ n. Has n rel) (rels_same tables leaf) h)

    only_rel : (r : ℕ) → Has (known_rels leaf) r → r ≡ rel
    only_rel r p = has_only rel r (subst (λ n. Has n r) (sym (rels_same tables leaf) ∙ one) (known_has (rels_of leaf) r p))

    leaf_rows : (outer : Env) (rows : List Row) → map (with_rows (known_rels leaf) outer) (map (only_rows (known_rels leaf)) (map (with_row no_outer_rows rel) rows)) ≡ map (with_row outer rel) rows
    leaf_rows outer rows = rows_restored (known_rels leaf) rel has_rel only_rel outer rows

distinct_parts : {X : Type 0} (xs ys : List X) (x : X) → Distinct (xs ++ ys) → In x xs → In x ys → ⊥
distinct_parts [] ys x d h k = absurd h
distinct_parts (z ∷ xs) ys x d (inl e) k = d.0 (subst (λ w. In w (xs ++ ys)) (sym e) (in_append_right x xs ys k))
distinct_parts (z ∷ xs) ys x d (inr h) k = distinct_parts xs ys x d.1 h k

-- ---- a side of a Full join

abbrev side_level : JoinTree → QueryLayer
side_level t = record { columns = []; distinct = false; tree = t; conds = []; order = [] }

side_passing : (tables : ℕ → List Row) (t : JoinTree) (outer : Env) → passing_tuples tables (side_block t) outer ≡ (tuples_of tables t).tuples outer
side_passing tables t outer =
    ap (λ (x : QueryLayer). filter (holds (map (value_of tables) x.conds)) ((tuples_of tables x.tree).tuples outer)) (out-roll-Query (side_level t))
    ∙ kept_all (holds []) ((tuples_of tables t).tuples outer) (λ x. refl)

side_items : (t : JoinTree) → items_of_block (side_block t) ≡ items_in (shape_of t)
side_items t = ap (λ (x : QueryLayer). items_in (shape_of x.tree)) (out-roll-Query (side_level t))

module _ (catalog : Catalog) (sound : IsSound catalog) (query : Query) (prepared : Prepared) (is : IsPrepared catalog query prepared) (tables : ℕ → List Row) (inner : Listing)
    (number : ℕ) (source : Source) (at : IsSourceAt is.sources number source) (behind : (place : ℕ) → number < place → IsGood catalog sound query prepared is tables inner place) (outer : Env) where
  abbrev Inner : Query → ℕ → Block → Tree → Type 0
  Inner = IsInner catalog is.sources (slice_get prepared.blocks) prepared.pool.nodes number

  side_rels : (t : JoinTree) (place : ℕ) (block : Block) (plan : Tree) → Inner (side_block t) place block plan → rels_of_block prepared.blocks place ≡ union (map known_rels (items_in (shape_of t)))
  side_rels t place block plan i =
      let from = is.blocks place (of_item (side_block t)) block i.source i.there in
      ap rels_of_some i.there
      ∙ ap union (have_rels catalog is.sources (slice_get prepared.blocks) prepared.pool.nodes place (items_of_block (side_block t)) block.problem.items from.items ∙ ap (map known_rels) (side_items t))

  side_tuples : (t : JoinTree) (place : ℕ) (block : Block) (plan : Tree) → Inner (side_block t) place block plan → IsClear outer (side_block t) → IsPermutation (inner place outer).tuples ((tuples_of tables t).tuples outer)
  side_tuples t place block plan i clear = subst (IsPermutation (inner place outer).tuples) (side_passing tables t outer) (behind place i.behind (of_item (side_block t)) outer i.source clear).tuples

  -- ---- a Full join

  abbrev full_listed : List Expr → ℕ → ℕ → List Env
  full_listed on l r = join_tuples join.Full (map (listed_value prepared.blocks inner) on) (rels_of_block prepared.blocks l) (inner l outer).tuples (rels_of_block prepared.blocks r) (inner r outer).tuples

  abbrev Seen : JoinTree → List Env → Type 0
  Seen leaf xs = IsPermutation (map (with_rows (known_rels leaf) outer) (map (only_rows (known_rels leaf)) xs)) ((tuples_of tables leaf).tuples outer)

  module _ (left right : JoinTree) (on : List Expr) (l r : ℕ) (lb rb : Block) (lt rt : Tree) (a : Inner (side_block left) l lb lt) (b : Inner (side_block right) r rb rt)
      (stand : (e : Expr) → In e on → In e (block_exprs source.query ++ flat_map exprs_of_item (items_of_block source.query)))
      (typed : tree_is_typed (tree.Join join.Full left right on) ≡ true) (apart : (tree_leaf_set (tree.Join join.Full left right on)).apart ≡ true) (clear : ClearOf outer (tree_leaf_set (tree.Join join.Full left right on))) where
    abbrev whole : JoinTree
    whole = tree.Join join.Full left right on

    abbrev XL : List Env
    XL = (tuples_of tables left).tuples outer

    abbrev XR : List Env
    XR = (tuples_of tables right).tuples outer

    abbrev NL : ℕ
    NL = (tuples_of tables left).rels

    abbrev NR : ℕ
    NR = (tuples_of tables right).rels

    abbrev WL : ℕ
    WL = union (map known_rels (items_in (shape_of left)))

    abbrev WR : ℕ
    WR = union (map known_rels (items_in (shape_of right)))

    both : (tree_is_typed left ≡ true) × (tree_is_typed right ≡ true)
    both = both_typed join.Full left right on typed

    told_apart : (rel : ℕ) → In rel (own_leaves left) → In rel (own_leaves right) → ⊥
    told_apart rel h k = distinct_parts (own_leaves left) (own_leaves right) rel (join_sheltered join.Full left right on apart).distinct h k

    not_left : (rel : ℕ) → In rel (own_leaves right) → ¬ Has NL rel
    not_left rel own p = told_apart rel (tuples_own tables left both.0 rel p) own

    not_right : (rel : ℕ) → In rel (own_leaves left) → ¬ Has NR rel
    not_right rel own p = told_apart rel own (tuples_own tables right both.1 rel p)

    left_none : (rel : ℕ) → In rel (own_leaves left) → outer rel ≡ None
    left_none rel own = clear rel (side_leaf join.Full left right on rel (tree_leaf_set left) (inl refl) (own_is_leaf left rel own))

    right_none : (rel : ℕ) → In rel (own_leaves right) → outer rel ≡ None
    right_none rel own = clear rel (side_leaf join.Full left right on rel (tree_leaf_set right) (inr (inl refl)) (own_is_leaf right rel own))

    left_out : (u : Env) → In u XL → (rel : ℕ) → ¬ Has NL rel → u rel ≡ outer rel
    left_out u h rel n = tree_out tables outer left u h rel n

    right_out : (v : Env) → In v XR → (rel : ℕ) → ¬ Has NR rel → v rel ≡ outer rel
    right_out v h rel n = tree_out tables outer right v h rel n

    -- none of the relations of leaves inside the condition has a row in a pair
    pair_clear : (u v : Env) → In u XL → In v XR → (e : Expr) → In e on → ClearOf (with_rows NR u v) (expr_leaf_set e)
    pair_clear u v h k e m rel leaf =
        let s = join_sheltered join.Full left right on apart in
        let stands = in_append_right e (exprs_in (shape_of left) ++ exprs_in (shape_of right)) on m in
        let no_left : ¬ Has NL rel = λ p. s.away e rel stands (in_append_left rel (own_leaves left) (own_leaves right) (tuples_own tables left both.0 rel p)) leaf in
        let no_right : ¬ Has NR rel = λ p. s.away e rel stands (in_append_right rel (own_leaves left) (own_leaves right) (tuples_own tables right both.1 rel p)) leaf in
        left_alone NR u v rel no_right ∙ left_out u h rel no_left ∙ clear rel (s.inner e rel stands leaf)

    same_join : join_tuples join.Full (map (listed_value prepared.blocks inner) on) WL XL WR XR ≡ join_tuples join.Full (map (value_of tables) on) NL XL NR XR
    same_join = full_same (map (listed_value prepared.blocks inner) on) (map (value_of tables) on) WL NL WR NR XL XR
        (λ u v h k. wide_rows WR NR (tuples_union tables right both.1) u v (λ rel p n. right_out v k rel n ∙ sym (left_out u h rel (not_left rel (union_own right rel p)))))
        (λ u v h k. holds_same (listed_value prepared.blocks inner) (value_of tables) (with_rows NR u v) on
        (λ e m. value_same catalog sound query prepared is tables inner number source at behind e (with_rows NR u v) (stand e m) (pair_clear u v h k e m)))
        (λ u h. wide_without WR NR (tuples_union tables right both.1) u (λ rel p n. left_out u h rel (not_left rel (union_own right rel p)) ∙ right_none rel (union_own right rel p)))
        (λ v k. wide_without WL NL (tuples_union tables left both.0) v (λ rel p n. right_out v k rel (not_right rel (union_own left rel p)) ∙ left_none rel (union_own left rel p)))

    abbrev listed : List Env
    listed = full_listed on l r

    full_tuples : IsPermutation listed ((tuples_of tables (tree.Join join.Full left right on)).tuples outer)
    full_tuples =
        subst (IsPermutation listed)
        (ap₂ (λ wl wr. join_tuples join.Full (map (listed_value prepared.blocks inner) on) wl XL wr XR) (side_rels left l lb lt a) (side_rels right r rb rt b) ∙ same_join ∙ ap (λ (t : Tuples). t.tuples outer) (sym (at_tree_join tables join.Full left right on)))
        (join_bag join.Full (map (listed_value prepared.blocks inner) on) (rels_of_block prepared.blocks l) (rels_of_block prepared.blocks r) (inner l outer).tuples XL (inner r outer).tuples XR
        (side_tuples left l lb lt a (left_clear outer join.Full left right on clear)) (side_tuples right r rb rt b (right_clear outer join.Full left right on clear)))

    pub full_held : Seen (tree.Join join.Full left right on) (full_listed on l r)
    full_held =
        let rels = known_rels whole in
        let xs = (tuples_of tables whole).tuples outer in
        subst (IsPermutation (map (with_rows rels outer) (map (only_rows rels) listed)))
        (all_restored rels outer xs xs (λ x m. m) (λ x h rel n. tree_out tables outer whole x h rel (unknown tables whole typed rel n)))
        (IsPermutation-map (with_rows rels outer) (map (only_rows rels) listed) (map (only_rows rels) xs) (IsPermutation-map (only_rows rels) listed xs full_tuples))

  -- ---- every item

  module _ (leaf : JoinTree) (m : In leaf (items_of_block source.query)) (form : IsItemTree leaf) (typed : tree_is_typed leaf ≡ true) (apart : (tree_leaf_set leaf).apart ≡ true) (clear : ClearOf outer (tree_leaf_set leaf)) where
    abbrev pub Held : Item → Type 0
    Held item = IsPermutation (map (with_rows (known_rels leaf) outer) (item_source prepared.blocks tables inner outer item)) ((tuples_of tables leaf).tuples outer)

    stand_on : (kind : JoinKind) (left right : JoinTree) (on : List Expr) → out-JoinTree leaf ≡ JoinTree-F.Join kind left right on → (e : Expr) → In e on → In e (block_exprs source.query ++ flat_map exprs_of_item (items_of_block source.query))
    stand_on kind left right on opened e h =
        in_append_right e (block_exprs source.query) (flat_map exprs_of_item (items_of_block source.query)) (in_flat_map exprs_of_item leaf e (items_of_block source.query) m (subst (In e) (sym (ap exprs_at opened)) h))

    base_tuples : (rel table : ℕ) (name : List ℕ) → leaf ≡ tree.Base rel name table → tuples_of tables leaf ≡ record { rels = only rel; tuples = λ env. map (with_row env rel) (tables table) }
    base_tuples rel table name e = ap (tuples_of tables) e ∙ at_tree_base tables rel name table

    select_tuples : (rel : ℕ) (name : List ℕ) (q : Query) → leaf ≡ tree.Sub rel name q → tuples_of tables leaf ≡ record { rels = only rel; tuples = λ env. map (with_row env rel) (meaning tables q env) }
    select_tuples rel name q e = ap (tuples_of tables) e ∙ at_tree_sub tables rel name q

    pub item_held : (item : Item) → blocks.IsItemOf catalog sound query prepared is number leaf item → Held item
    item_held item (IsItem.table rel table name text def opened there few made) =
        let e = as_written leaf (JoinTree-F.Base rel name table) (tree.Base rel name table) opened (tree.rolls-Base rel name table) in
        let t = base_tuples rel table name e in
        subst Held (sym made)
        (subst (IsPermutation (map (with_rows (known_rels leaf) outer) (map (only_rows (known_rels leaf)) (map (with_row no_outer_rows rel) (tables table)))))
        (leaf_rows tables leaf typed rel (ap (λ (x : Tuples). x.rels) t) outer (tables table) ∙ sym (ap (λ (x : Tuples). x.tuples outer) t))
        (IsPermutation-refl (map (with_rows (known_rels leaf) outer) (map (only_rows (known_rels leaf)) (map (with_row no_outer_rows rel) (tables table))))))
    item_held item (IsItem.select rel place name q block plan opened i made) =
        let e = as_written leaf (JoinTree-F.Sub rel name q) (tree.Sub rel name q) opened (tree.rolls-Sub rel name q) in
        let t = select_tuples rel name q e in
        let inside = select_clear outer rel name q (subst (λ x. ClearOf outer (tree_leaf_set x)) e clear) in
        let rows = (inner place outer).rows in
        let bag = IsPermutation-sym (meaning tables q outer) rows (behind place i.behind (of_item q) outer i.source inside).rows in
        subst Held (sym made)
        (subst (λ xs. IsPermutation xs ((tuples_of tables leaf).tuples outer)) (sym (leaf_rows tables leaf typed rel (ap (λ (x : Tuples). x.rels) t) outer rows))
        (subst (IsPermutation (map (with_row outer rel) rows)) (sym (ap (λ (x : Tuples). x.tuples outer) t)) (IsPermutation-map (with_row outer rel) rows (meaning tables q outer) bag)))
    item_held item (IsItem.full kind left right on l r lb rb lt rt opened a b made) =
        let full : kind ≡ join.Full = subst HasItemForm opened form in
        let e : leaf ≡ tree.Join join.Full left right on = as_written leaf (JoinTree-F.Join kind left right on) (tree.Join kind left right on) opened (tree.rolls-Join kind left right on) ∙ ap (λ k. tree.Join k left right on) full in
        subst Held (sym made) (subst (λ x. Seen x (full_listed on l r)) (sym e)
        (full_held left right on l r lb rb lt rt a b (stand_on kind left right on opened) (subst (λ x. tree_is_typed x ≡ true) e typed) (subst (λ x. (tree_leaf_set x).apart ≡ true) e apart) (subst (λ x. ClearOf outer (tree_leaf_set x)) e clear)))

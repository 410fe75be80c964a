-- All entries of one relation, in whatever scopes of a statement's blocks, have the same columns.
use Rattle.std.proofs.Common.{◌≡◌, ◌∙◌, ap, sym, subst, refl, ℕ, inl, inr, true, List, ◌++◌}
use Rattle.std.specs.Prelude.{slice_get}
use Rattle.jp_facts.proofs.Members.{In, in_flat_map}
use Rattle.jp_query.specs.declared.JoinTree.{JoinTree, out-JoinTree, out-roll-JoinTree}
use Rattle.jp_query.specs.declared.JoinTree.TheVariants as tree
use Rattle.jp_query.specs.declared.Query.{Query, out-Query}
use Rattle.jp_query.specs.declared.Expr.TheOpen.{JoinTree-F}
use Rattle.jp_query.specs.declared.Expr.TheViews.{roll-JoinTree}
use Rattle.jp_query.specs.Conditions.{judged_leaves, judged_query, knows_columns, keeps_bounds}
use Rattle.jp_query.specs.Freshness.{Sublink, sublinks_in}
use Rattle.jp_query.specs.Layers.{JoinTreeLayer}
use Rattle.jp_query.specs.Scopes.{Column, Schema, Entry, Scope, BoundIn, EntriesIn, ColumnIn, ColumnsIn, columns_of_table, expr_bound, tree_entries, order_bound, output_column, query_columns, entries_of, columns_of_query}
use Rattle.jp_query.proofs.FoldLaws as laws
use Rattle.jp_laws.proofs.EachPart.{Each}
use Rattle.jp_laws.proofs.JudgedValues.{columns_judged}
use Rattle.jp_problem.specs.InnerBlocks.{blocks_at, blocks_of_item}
use Rattle.jp_conditions.proofs.Judging.{each_in}
use Rattle.jp_prepared.specs.Sources.{Source, IsSourceAt, AreSources, items_of_block}
use Rattle.jp_prepared.proofs.BlockEntries.{LeafGood, items_good}
use Rattle.jp_prepared.proofs.Entries.{in_or_not, seen_entry, seen_behind, seen_front}
use Rattle.jp_prepared.proofs.HeldTrees.{base_held, sub_held}
use Rattle.jp_prepared.proofs.Places.{QueryPlaced}
use Rattle.jp_prepared.proofs.SameLeaves.{HasNumber, number_at, one_tree, trees_in_query}
use Rattle.jp_prepared.proofs.ScopeChange.{Agree, bounds_look, query_same}
use Rattle.jp_prepared.proofs.SourcePlaces as there

-- ---- leaves by their forms

numbered : (x : JoinTreeLayer) (t : JoinTree) (n : ℕ) → roll-JoinTree x ≡ t → number_at x n → HasNumber t n
numbered x t n rolls h = subst (λ y. number_at y n) (sym (out-roll-JoinTree x) ∙ ap out-JoinTree rolls) h

layers_same : (x y : JoinTreeLayer) (t u : JoinTree) → roll-JoinTree x ≡ t → roll-JoinTree y ≡ u → t ≡ u → x ≡ y
layers_same x y t u p q same = sym (out-roll-JoinTree x) ∙ ap out-JoinTree (p ∙ same ∙ sym q) ∙ out-roll-JoinTree y

abbrev IsTable : JoinTreeLayer → Type 0
IsTable (JoinTree-F.Base rel name table) = Unit {0}
IsTable x = ⊥

module _ (schema : Schema) (bases : ℕ) (query : Query) (sources : List Source) (are : AreSources query sources) (leaves_apart : (judged_leaves query).apart ≡ true) (equal : (a b : Sublink) → In a (sublinks_in query) → In b (sublinks_in query) → a.number ≡ b.number → a.node ≡ b.node) where
  -- the entry of a leaf of a block, in a scope whose entries are such ones
  pub data Given : Entry → Type 0 where
    of_table : (number : ℕ) (source : Source) (rel : ℕ) (name : List ℕ) (table : ℕ) (e : Entry) → IsSourceAt sources number source → In (tree.Base rel name table) (items_of_block source.query)
        → e ≡ record { relation = rel; columns = columns_of_table (slice_get schema table) } → Given e
    of_select : (number : ℕ) (source : Source) (s : Scope) (rel : ℕ) (name : List ℕ) (q : Query) (e : Entry) → IsSourceAt sources number source → In (tree.Sub rel name q) (items_of_block source.query)
        → (judged_query schema knows_columns q).passes s ≡ true → ((d : Entry) → In d s → Given d) → e ≡ record { relation = rel; columns = columns_of_query schema q s } → Given e

  base_tree : (number : ℕ) (source : Source) (rel : ℕ) (name : List ℕ) (table : ℕ) → IsSourceAt sources number source → In (tree.Base rel name table) (items_of_block source.query) → In (tree.Base rel name table) (trees_in_query query)
  base_tree = base_held (λ u. In u (trees_in_query query)) query sources are (λ u m. m)

  sub_tree : (number : ℕ) (source : Source) (rel : ℕ) (name : List ℕ) (q : Query) → IsSourceAt sources number source → In (tree.Sub rel name q) (items_of_block source.query) → In (tree.Sub rel name q) (trees_in_query query)
  sub_tree = sub_held (λ u. In u (trees_in_query query)) query sources are (λ u m. m)

  base_number : (rel : ℕ) (name : List ℕ) (table : ℕ) → HasNumber (tree.Base rel name table) rel
  base_number rel name table = numbered (JoinTree-F.Base rel name table) (tree.Base rel name table) rel (tree.rolls-Base rel name table) refl

  sub_number : (rel : ℕ) (name : List ℕ) (q : Query) → HasNumber (tree.Sub rel name q) rel
  sub_number rel name q = numbered (JoinTree-F.Sub rel name q) (tree.Sub rel name q) rel (tree.rolls-Sub rel name q) refl

  one : (u v : JoinTree) (m n : ℕ) → In u (trees_in_query query) → In v (trees_in_query query) → HasNumber u m → HasNumber v n → m ≡ n → u ≡ v
  one u v m n h k hu hv same = one_tree query leaves_apart equal u v n h k (subst (HasNumber u) same hu) hv

  relation_is : (e : Entry) (rel : ℕ) (cs : List Column) → e ≡ record { relation = rel; columns = cs } → e.relation ≡ rel
  relation_is e rel cs is = ap (λ (x : Entry). x.relation) is

  -- the same sub-select in two scopes whose common relations have the same columns
  selects_same : (s o : Scope) (q : Query) → (judged_query schema knows_columns q).passes s ≡ true → (judged_query schema knows_columns q).passes o ≡ true
      → ((d e : Entry) → In d s → In e o → d.relation ≡ e.relation → d.columns ≡ e.columns) → columns_of_query schema q s ≡ columns_of_query schema q o
  selects_same s o q knows_s knows_o common =
      let both = o ++ s in
      let a = (query_same schema keeps_bounds bounds_look s (o ++ s) q knows_s from_s).0 in
      let b = (query_same schema keeps_bounds bounds_look o (o ++ s) q knows_o from_o).0 in
      let value = columns_judged schema keeps_bounds q in
      sym (ap (λ (f : ColumnsIn). f s) value) ∙ sym a ∙ b ∙ ap (λ (f : ColumnsIn). f o) value
    where
      from_o : Agree o (o ++ s)
      from_o rel h = seen_front o s rel h

      from_s : Agree s (o ++ s)
      from_s rel h = elim (in_or_not o rel) [
        | inl k ↦ (let d = seen_entry s rel h in let e = seen_entry o rel k in seen_front o s rel k ∙ e.3 ∙ sym (common d.0 e.0 d.1 e.1 (d.2 ∙ sym e.2)) ∙ sym d.3)
        | inr none ↦ seen_behind o s rel none
      ]

  bases_same : (r1 r2 : ℕ) (n1 n2 : List ℕ) (t1 t2 : ℕ) → tree.Base r1 n1 t1 ≡ tree.Base r2 n2 t2 → t1 ≡ t2
  bases_same r1 r2 n1 n2 t1 t2 same =
      let e = layers_same (JoinTree-F.Base r1 n1 t1) (JoinTree-F.Base r2 n2 t2) (tree.Base r1 n1 t1) (tree.Base r2 n2 t2) (tree.rolls-Base r1 n1 t1) (tree.rolls-Base r2 n2 t2) same in cc

  apart_forms : (r1 r2 : ℕ) (n1 n2 : List ℕ) (t1 : ℕ) (q2 : Query) → tree.Base r1 n1 t1 ≡ tree.Sub r2 n2 q2 → ⊥
  apart_forms r1 r2 n1 n2 t1 q2 same = subst IsTable (layers_same (JoinTree-F.Base r1 n1 t1) (JoinTree-F.Sub r2 n2 q2) (tree.Base r1 n1 t1) (tree.Sub r2 n2 q2) (tree.rolls-Base r1 n1 t1) (tree.rolls-Sub r2 n2 q2) same) tt

  queries_same : (r1 r2 : ℕ) (n1 n2 : List ℕ) (q1 q2 : Query) → tree.Sub r1 n1 q1 ≡ tree.Sub r2 n2 q2 → q1 ≡ q2
  queries_same r1 r2 n1 n2 q1 q2 same =
      let e = layers_same (JoinTree-F.Sub r1 n1 q1) (JoinTree-F.Sub r2 n2 q2) (tree.Sub r1 n1 q1) (tree.Sub r2 n2 q2) (tree.rolls-Sub r1 n1 q1) (tree.rolls-Sub r2 n2 q2) same in cc

  pub one_entry : (d : Entry) → Given d → (e : Entry) → Given e → d.relation ≡ e.relation → d.columns ≡ e.columns
  one_entry d (Given.of_table k x r n t d1 at m is) e (Given.of_table k2 x2 r2 n2 t2 e1 at2 m2 is2) same =
      let u = one (tree.Base r n t) (tree.Base r2 n2 t2) r r2 (base_tree k x r n t at m) (base_tree k2 x2 r2 n2 t2 at2 m2) (base_number r n t) (base_number r2 n2 t2) (sym (ap (λ (y : Entry). y.relation) is) ∙ same ∙ ap (λ (y : Entry). y.relation) is2) in
      ap (λ (y : Entry). y.columns) is ∙ ap (λ i. columns_of_table (slice_get schema i)) (bases_same r r2 n n2 t t2 u) ∙ sym (ap (λ (y : Entry). y.columns) is2)
  one_entry d (Given.of_table k x r n t d1 at m is) e (Given.of_select k2 x2 s2 r2 n2 q2 e1 at2 m2 knows2 inner2 is2) same =
      absurd (apart_forms r r2 n n2 t q2 (one (tree.Base r n t) (tree.Sub r2 n2 q2) r r2 (base_tree k x r n t at m) (sub_tree k2 x2 r2 n2 q2 at2 m2) (base_number r n t) (sub_number r2 n2 q2) (sym (ap (λ (y : Entry). y.relation) is) ∙ same ∙ ap (λ (y : Entry). y.relation) is2)))
  one_entry d (Given.of_select k x s r n q d1 at m knows inner is) e (Given.of_table k2 x2 r2 n2 t2 e1 at2 m2 is2) same =
      absurd (apart_forms r2 r n2 n t2 q (sym (one (tree.Sub r n q) (tree.Base r2 n2 t2) r r2 (sub_tree k x r n q at m) (base_tree k2 x2 r2 n2 t2 at2 m2) (sub_number r n q) (base_number r2 n2 t2) (sym (ap (λ (y : Entry). y.relation) is) ∙ same ∙ ap (λ (y : Entry). y.relation) is2))))
  one_entry d (Given.of_select k x s r n q d1 at m knows inner is) e (Given.of_select k2 x2 s2 r2 n2 q2 e1 at2 m2 knows2 inner2 is2) same =
      let u = one (tree.Sub r n q) (tree.Sub r2 n2 q2) r r2 (sub_tree k x r n q at m) (sub_tree k2 x2 r2 n2 q2 at2 m2) (sub_number r n q) (sub_number r2 n2 q2) (sym (ap (λ (y : Entry). y.relation) is) ∙ same ∙ ap (λ (y : Entry). y.relation) is2) in
      let queries = queries_same r r2 n n2 q q2 u in
      let common = λ (a b : Entry) (ma : In a s) (mb : In b s2) (eq : a.relation ≡ b.relation). one_entry a (inner a ma) b (inner2 b mb) eq in
      ap (λ (y : Entry). y.columns) is ∙ selects_same s s2 q knows (subst (λ z. (judged_query schema knows_columns z).passes s2 ≡ true) (sym queries) knows2) common ∙ ap (λ z. columns_of_query schema z s2) queries ∙ sym (ap (λ (y : Entry). y.columns) is2)

  -- ---- entries of blocks are such

  pub leaf_given : (s : Scope) → ((d : Entry) → In d s → Given d) → LeafGood schema bases query sources are Given s
  leaf_given s inner number source at placed = (base, select)
    where
      base : (rel : ℕ) (name : List ℕ) (table : ℕ) → In (tree.Base rel name table) (items_of_block source.query) → Each Given (entries_of schema (tree.Base rel name table) s)
      base rel name table m =
          subst (Each Given) (sym (ap (λ (f : EntriesIn). f s) (laws.at-Base BoundIn EntriesIn BoundIn ColumnIn ColumnsIn expr_bound (tree_entries schema) order_bound output_column query_columns rel name table)))
          (Given.of_table number source rel name table (record { relation = rel; columns = columns_of_table (slice_get schema table) }) at m refl, tt)

      select : (rel : ℕ) (name : List ℕ) (q : Query) → In (tree.Sub rel name q) (items_of_block source.query) → Each Given (entries_of schema (tree.Sub rel name q) s)
      select rel name q m =
          let opened = sym (out-roll-JoinTree (JoinTree-F.Sub rel name q)) ∙ ap out-JoinTree (tree.rolls-Sub rel name q) in
          let used = in_flat_map blocks_of_item (tree.Sub rel name q) q (items_of_block source.query) m (subst (λ x. In q (blocks_at x)) opened (inl refl)) in
          let q_placed = (there.item_queries_there schema bases there.Any s source.query (placed, there.any_all s, λ v k. there.any_all (entries_of schema v s)) q used).0 in
          subst (Each Given) (sym (ap (λ (f : EntriesIn). f s) (laws.at-Sub BoundIn EntriesIn BoundIn ColumnIn ColumnsIn expr_bound (tree_entries schema) order_bound output_column query_columns rel name q)))
          (Given.of_select number source s rel name q (record { relation = rel; columns = columns_of_query schema q s }) at m q_placed.0.0.0 inner refl, tt)

  pub block_given : (number : ℕ) (source : Source) (s : Scope) → IsSourceAt sources number source → QueryPlaced schema bases s source.query → Each Given s → there.OwnGood schema bases Given s (out-Query source.query).tree
  block_given number source s at placed good = items_good schema bases query sources are Given s (leaf_given s (λ d m. each_in Given s d good m)) number source at placed

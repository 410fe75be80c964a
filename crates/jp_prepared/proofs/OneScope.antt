-- One scope for all blocks of a statement.
use Rattle.std.proofs.Common.{◌≡◌, ◌∙◌, ap, sym, subst, refl, ℕ, zero, suc, ◌<◌, inl, inr, true, List, [], ◌∷◌, length, Option, Some, None, arith}
use Rattle.std.specs.Prelude.{slice_get}
use Rattle.std.specs.List.{flat_map}
use Rattle.std.proofs.lemmas.Bool.{cases_eq}
use Rattle.std.proofs.lemmas.Option.{slice_get_within}
use Rattle.jp_facts.proofs.Members.{In, in_append_left, in_append_right, in_flat_map, from_flat_map}
use Rattle.jp_query.specs.declared.Expr.{Expr}
use Rattle.jp_query.specs.declared.JoinTree.{JoinTree}
use Rattle.jp_query.specs.declared.JoinTree.TheVariants as tree
use Rattle.jp_query.specs.declared.Query.{Query}
use Rattle.jp_query.specs.Conditions.{judged_leaves, keeps_bounds, knows_columns, IsBoundedExpr}
use Rattle.jp_query.specs.Freshness.{Sublink, sublinks_in}
use Rattle.jp_query.specs.Scopes.{Schema, Entry, Scope, BoundIn, EntriesIn, ColumnIn, ColumnsIn, columns_of_table, visible_columns, expr_bound, tree_entries, order_bound, output_column, query_columns, entries_of, columns_of_query, bound_of}
use Rattle.jp_query.proofs.FoldLaws as laws
use Rattle.jp_laws.proofs.EachPart.{Each}
use Rattle.jp_laws.proofs.JudgedValues.{bound_judged}
use Rattle.jp_conditions.proofs.Judging.{each_in}
use Rattle.jp_tree.specs.Prepared.{KnowsScope}
use Rattle.jp_prepared.specs.Names.{below}
use Rattle.jp_prepared.specs.Sources.{Source, IsSourceAt, AreSources, items_of_block}
use Rattle.jp_prepared.proofs.Entries.{seen_entry, entered}
use Rattle.jp_prepared.proofs.OneEntry as entry
use Rattle.jp_prepared.proofs.Places.{QueryPlaced, ExprPlaced}
use Rattle.jp_prepared.proofs.ScopeChange.{Agree, bounds_look, columns_look, expr_same}
use Rattle.jp_prepared.proofs.SourcePlaces as there
use Rattle.jp_laws.proofs.TuplesFit.{InEntries}

pub in_below : (k n : ℕ) → k < n → In k (below n)
unfolding below
in_below k zero low = absurd (omega (arith, low))
in_below k (suc n) low = elim (cases_eq k n) [
  | inl same ↦ in_append_right k (below n) (n ∷ []) (inl (sym same))
  | inr other ↦ in_append_left k (below n) (n ∷ []) (in_below k n (omega (arith, low, other)))
]

module _ (schema : Schema) (bases : ℕ) (query : Query) (sources : List Source) (are : AreSources query sources) (leaves_apart : (judged_leaves query).apart ≡ true) (equal : (a b : Sublink) → In a (sublinks_in query) → In b (sublinks_in query) → a.number ≡ b.number → a.node ≡ b.node)
    (top : QueryPlaced schema bases [] query) where
  abbrev pub Given : Entry → Type 0
  Given = entry.Given schema bases query sources are leaves_apart equal

  -- where a source stands
  pub place : (number : ℕ) (source : Source) → IsSourceAt sources number source → (s : Scope) × there.BlockThere schema bases Given s source.query
  place number source at = there.source_there schema bases query sources are Given (λ n x s p placed good. entry.block_given schema bases query sources are leaves_apart equal n x s p placed good) top number source at

  -- the entries of all its items
  abbrev all_of : Query → Scope → List Entry
  all_of q s = flat_map (λ v. entries_of schema v s) (items_of_block q)

  entries_at : (n : ℕ) (x : Option Source) → slice_get sources n ≡ x → List Entry
  entries_at n (Some source) at = all_of source.query (place n source at).0
  entries_at n None at = []

  abbrev at_number : ℕ → List Entry
  at_number n = entries_at n (slice_get sources n) refl

  -- the scope
  pub everywhere : Scope
  everywhere = flat_map at_number (below (length sources))

  given_at : (n : ℕ) (x : Option Source) (at : slice_get sources n ≡ x) (e : Entry) → In e (entries_at n x at) → Given e
  unfolding entries_at
  given_at n (Some source) at e m =
      let f = from_flat_map (λ v. entries_of schema v (place n source at).0) e (items_of_block source.query) m in
      each_in Given (entries_of schema f.0 (place n source at).0) e ((place n source at).1.2 f.0 f.1) f.2
  given_at n None at e m = absurd m

  given_everywhere : (e : Entry) → In e everywhere → Given e
  unfolding everywhere
  given_everywhere e m = let f = from_flat_map at_number e (below (length sources)) m in given_at f.0 (slice_get sources f.0) refl e f.2

  -- a leaf of a block is there
  leaf_at : (n : ℕ) (x : Option Source) (at : slice_get sources n ≡ x) (source : Source) → slice_get sources n ≡ Some source → (v : JoinTree) (rel : ℕ) → In v (items_of_block source.query) → ((s : Scope) → (d : Entry) × In d (entries_of schema v s) × (d.relation ≡ rel)) → (d : Entry) × In d (entries_at n x at) × (d.relation ≡ rel)
  unfolding entries_at
  leaf_at n (Some y) at source there v rel m entries =
      let same = unsome y source (sym at ∙ there) in
      let d = entries (place n y at).0 in
      (d.0, in_flat_map (λ w. entries_of schema w (place n y at).0) v d.0 (items_of_block y.query) (subst (λ (z : Source). In v (items_of_block z.query)) (sym same) m) d.1, d.2)
    where
      unsome : (a b : Source) → Some a ≡ Some b → a ≡ b
      unsome a b e = cc
  leaf_at n None at source there v rel m entries = absurd (nothing source (sym at ∙ there))
    where
      nothing : (source : Source) → None ≡ Some source → ⊥
      nothing source e = cc

  leaf_everywhere : (n : ℕ) (source : Source) → IsSourceAt sources n source → (v : JoinTree) (rel : ℕ) → In v (items_of_block source.query) → ((s : Scope) → (d : Entry) × In d (entries_of schema v s) × (d.relation ≡ rel)) → (d : Entry) × In d everywhere × (d.relation ≡ rel)
  unfolding everywhere
  leaf_everywhere n source at v rel m entries =
      let d = leaf_at n (slice_get sources n) refl source at v rel m entries in
      (d.0, in_flat_map at_number n d.0 (below (length sources)) (in_below n (length sources) (slice_get_within sources n source at)) d.1, d.2)

  abbrev at_scope : Scope → EntriesIn → List Entry
  at_scope s f = f s

  base_entry : (rel : ℕ) (name : List ℕ) (table : ℕ) (s : Scope) → (d : Entry) × In d (entries_of schema (tree.Base rel name table) s) × (d.relation ≡ rel)
  base_entry rel name table s =
      let d : Entry = record { relation = rel; columns = columns_of_table (slice_get schema table) } in
      (d, subst (In d) (sym (ap (at_scope s) (laws.at-Base BoundIn EntriesIn BoundIn ColumnIn ColumnsIn expr_bound (tree_entries schema) order_bound output_column query_columns rel name table))) (inl refl), refl)

  sub_entry : (rel : ℕ) (name : List ℕ) (q : Query) (s : Scope) → (d : Entry) × In d (entries_of schema (tree.Sub rel name q) s) × (d.relation ≡ rel)
  sub_entry rel name q s =
      let d : Entry = record { relation = rel; columns = columns_of_query schema q s } in
      (d, subst (In d) (sym (ap (at_scope s) (laws.at-Sub BoundIn EntriesIn BoundIn ColumnIn ColumnsIn expr_bound (tree_entries schema) order_bound output_column query_columns rel name q))) (inl refl), refl)

  found : (e : Entry) → Given e → (d : Entry) × In d everywhere × (d.relation ≡ e.relation)
  found e (entry.Given.of_table number source rel name table e1 at m is) =
      let d = leaf_everywhere number source at (tree.Base rel name table) rel m (base_entry rel name table) in (d.0, d.1, d.2 ∙ sym (ap (λ (x : Entry). x.relation) is))
  found e (entry.Given.of_select number source s rel name q e1 at m knows inner is) =
      let d = leaf_everywhere number source at (tree.Sub rel name q) rel m (sub_entry rel name q) in (d.0, d.1, d.2 ∙ sym (ap (λ (x : Entry). x.relation) is))

  -- each such entry is seen with its columns
  pub seen : (e : Entry) → Given e → visible_columns everywhere e.relation ≡ e.columns
  seen e given =
      let d = found e given in
      let first = seen_entry everywhere e.relation (subst (InEntries everywhere) d.2 (entered d.0 everywhere d.1)) in
      first.3 ∙ entry.one_entry schema bases query sources are leaves_apart equal first.0 (given_everywhere first.0 first.1) e given first.2

  pub agrees : (s : Scope) → Each Given s → Agree s everywhere
  agrees s good rel h = let e = seen_entry s rel h in ap (visible_columns everywhere) (sym e.2) ∙ seen e.0 (each_in Given s e.0 good e.1) ∙ sym e.3

  pub bounded_everywhere : (s : Scope) (e : Expr) → ExprPlaced schema bases s e → Each Given s → IsBoundedExpr schema everywhere e
  bounded_everywhere s e placed good = (expr_same schema keeps_bounds bounds_look s everywhere e placed.0.0.0 (agrees s good)).1 ∙ placed.0.1.1

  pub known_everywhere : (s : Scope) (e : Expr) → ExprPlaced schema bases s e → Each Given s → KnowsScope schema everywhere e
  known_everywhere s e placed good = (expr_same schema knows_columns columns_look s everywhere e placed.0.0.0 (agrees s good)).1 ∙ placed.0.0.0

  pub bound_everywhere : (s : Scope) (e : Expr) → ExprPlaced schema bases s e → Each Given s → bound_of schema e everywhere ≡ bound_of schema e s
  bound_everywhere s e placed good =
      let value = bound_judged schema keeps_bounds e in
      sym (ap (λ (f : BoundIn). f everywhere) value) ∙ (expr_same schema keeps_bounds bounds_look s everywhere e placed.0.0.0 (agrees s good)).0 ∙ ap (λ (f : BoundIn). f s) value

-- FROM items that are made: tables, sub-selects and joins, with their entries.
use Rattle.std.proofs.Common.{◌≡◌, ◌∙◌, ap, ap₂, sym, subst, refl, ℕ, ◌<◌, ◌≤◌, inr, Bool, true, List, [], ◌∷◌, ◌++◌, map, Option, Some, None, Ok, arith}
use Rattle.std.proofs.Math.Nat.{le_refl}
use Rattle.std.specs.Prelude.{◌&&◌, nat_lt, option_map}
use Rattle.std.specs.List.{list_all, slice_get, flat_map}
use Rattle.std.proofs.lemmas.Bool.{and_from, lt-ltb}
use Rattle.std.proofs.lemmas.List.{map-append}
use Rattle.std.proofs.lemmas.Option.{none-some, same_Some, slice_get-map}
use Rattle.jp_base.specs.declared.values.Ty.{Ty}
use Rattle.jp_base.specs.declared.values.Ty.TheVariants as ty
use Rattle.jp_catalog.specs.declared.types.Catalog.{Catalog}
use Rattle.jp_catalog.specs.declared.types.TableDef.{TableDef}
use Rattle.jp_catalog.specs.Names.{place_of}
use Rattle.jp_ast.specs.declared.tree.JoinWord.{JoinWord}
use Rattle.jp_query.specs.declared.Expr.{Expr}
use Rattle.jp_query.specs.declared.JoinTree.{JoinTree}
use Rattle.jp_query.specs.declared.JoinTree.TheVariants as tree
use Rattle.jp_query.specs.Conditions.{fits, has_distinct_numbers, relation_of}
use Rattle.jp_query.specs.Scopes.{Schema, Scope, BoundIn, EntriesIn, ColumnIn, ColumnsIn, in_scope, columns_of_table, expr_bound, tree_entries, order_bound, output_column, query_columns, entries_of}
use Rattle.jp_query.specs.Typing.{Typed, TypedOutput, TypedQuery, is_true_test, are_conditions, tree_is_typed, typed_query, type_of, expr_type, tree_typed, order_typed, output_typed, query_typed}
use Rattle.jp_query.proofs.FoldLaws as laws
use Rattle.jp_resolution.specs.declared.words.Counts.{Counts}
use Rattle.jp_resolution.specs.declared.words.Entry.{Entry}
use Rattle.jp_resolution.specs.declared.words.Selection.{Selection}
use Rattle.jp_resolution.specs.Answers.{◌>>=◌}
use Rattle.jp_resolution.specs.Counting.{one_entry, both, next_relation, Levels, Part}
use Rattle.jp_resolution.specs.Resolving.{Source, query_of, entry_name, leaf_name, new_source, table_column, table_source, with_place, table_at, known, table_from, sub_source, sub_from, kind_of, join_from, ItemMeant}
use Rattle.jp_resolution.specs.Schemas.{schema_of, table_columns, schema_columns, schema_column, bound_of as bound_of_type}
use Rattle.jp_induction.proofs.EachPart.{Each, each_append}
use Rattle.jp_resolved.proofs.Answered.{same_Ok, no_Ok, then_parts, if_parts}
use Rattle.jp_resolved.proofs.Spans.{next_first, both_of_three, both_assoc}
use Rattle.jp_resolved.proofs.Made.{sides_of, MadeExprs, MadeTree, base, sub, joined, MadeTrees, no_trees, more_trees}
use Rattle.jp_resolved.proofs.Rising.{rising_append, rising_wider}
use Rattle.jp_resolved.proofs.Seen.{seen, seen_columns, seen_all, scope_of, FitsColumn, IsSmall, IsOwn, IsOpen, open_inside}
use Rattle.jp_resolved.proofs.Parts.{IsPlace, place_narrower, Claim, Good}
use Rattle.jp_resolved.proofs.Conjuncts.{AreConditions}
use Rattle.jp_resolved.proofs.Selections.{level_of, conditions_are, IsSelection, select_made, selection_typed, selection_columns}

-- ---- columns of tables

seen_table : (columns : List (List ℕ × Ty)) → seen_columns (map table_column columns) ≡ schema_columns columns
seen_table [] = refl
seen_table (c ∷ columns) = ap (λ cs. schema_column c ∷ cs) (seen_table columns)

type_fits : (t : Ty) → fits (bound_of_type t) ≡ true
type_fits ty.Number = refl
type_fits ty.Boolean = refl
type_fits ty.Text = refl

table_fits : (columns : List (List ℕ × Ty)) → Each FitsColumn (schema_columns columns)
table_fits [] = tt
table_fits (c ∷ columns) = (type_fits c.1, table_fits columns)

placed : (catalog : Catalog) (place : ℕ) (o : Option (List ℕ × TableDef)) (t : ℕ × TableDef) → with_place place o ≡ Some t → (name : List ℕ) × (t.0 ≡ place) × (o ≡ Some (name, t.1))
placed catalog place (Some table) t e =
    let same = same_Some (place, table.1) t e in
    (table.0, ap (λ (x : ℕ × TableDef). x.0) (sym same), ap (λ (x : ℕ × TableDef). Some (table.0, x.1)) same)
placed catalog place None t e = absurd (none-some t e)

known_is : (at : ℕ) (o : Option (ℕ × TableDef)) (t : ℕ × TableDef) → known at o ≡ Ok t → o ≡ Some t
known_is at (Some x) t h = ap Some (same_Ok x t h)
known_is at None t h = absurd (no_Ok _ t h)

table_there : (catalog : Catalog) (o : Option ℕ) (t : ℕ × TableDef) → table_at catalog o ≡ Some t → slice_get (schema_of catalog) t.0 ≡ Some (schema_columns t.1.columns)
table_there catalog (Some place) t e =
    let found = placed catalog place (slice_get catalog.tables place) t e in
    ap (slice_get (schema_of catalog)) found.1 ∙ slice_get-map table_columns catalog.tables place ∙ ap (option_map table_columns) found.2
table_there catalog None t e = absurd (none-some t e)

module _ (schema : Schema) where
  -- a FROM item with its type and its entries
  pub record IsSource (outer : Scope) (a b : Counts) (s : Source) : Type 0 where
    pub made : MadeTree schema outer a b (seen_all s.entries) s.tree
    pub typed : tree_is_typed s.tree ≡ true
    pub entries : entries_of schema s.tree outer ≡ seen_all s.entries
    pub own : IsOwn a.entries b.entries (seen_all s.entries)

  -- all items of a FROM list
  pub record AreSources (outer : Scope) (a b : Counts) (entries : List Entry) (trees : List JoinTree) : Type 0 where
    pub made : MadeTrees schema outer a b (seen_all entries) trees
    pub typed : list_all is_true_test (map tree_is_typed trees) ≡ true
    pub sees : flat_map (in_scope outer) (map (entries_of schema) trees) ≡ seen_all entries
    pub own : IsOwn a.entries b.entries (seen_all entries)

  pub own_append : (a m b : ℕ) (xs ys : List Entry) → IsOwn a m (seen_all xs) → IsOwn m b (seen_all ys) → IsOwn a b (seen_all (xs ++ ys))
  own_append a m b xs ys p q = subst (IsOwn a b) (sym (map-append seen xs ys)) (record {
    rising = rising_append relation_of a m b (seen_all xs) (seen_all ys) p.rising q.rising;
    small = each_append IsSmall (seen_all xs) (seen_all ys) p.small q.small;
  })

  pub no_sources : (outer : Scope) (a b : Counts) → a ≡ b → AreSources outer a b [] []
  no_sources outer a b same = record { made = no_trees outer a b same; typed = refl; sees = refl; own = record { rising = subst (λ c. a.entries ≤ c.entries) same (le_refl a.entries); small = tt } }

  pub more_sources : (outer : Scope) (a m b : Counts) (s : Source) (entries : List Entry) (trees : List JoinTree) → IsSource outer a m s → AreSources outer m b entries trees → AreSources outer a b (s.entries ++ entries) (s.tree ∷ trees)
  more_sources outer a m b s entries trees one more = record {
    made = subst (λ own. MadeTrees schema outer a b own (s.tree ∷ trees)) (sym (map-append seen s.entries entries)) (more_trees outer a m b (seen_all s.entries) (seen_all entries) s.tree trees one.made more.made);
    typed = and_from (tree_is_typed s.tree) (list_all is_true_test (map tree_is_typed trees)) one.typed more.typed;
    sees = ap₂ (λ xs ys. xs ++ ys) one.entries more.sees ∙ sym (map-append seen s.entries entries);
    own = own_append a.entries m.entries b.entries s.entries entries one.own more.own;
  }

  -- ---- sub-selects

  sub_typed : (rel : ℕ) (q : TypedQuery) → rel < 64 → q.is_typed ≡ true → (nat_lt rel 64 && q.is_typed) ≡ true
  sub_typed rel q low h = and_from (nat_lt rel 64) q.is_typed (lt-ltb rel 64 low) h

  pub sub_is : (outer : Scope) (a b : Counts) (alias : Option (List ℕ)) (s : Selection) → has_distinct_numbers outer ≡ true → a.entries < 64 → a.entries < b.entries → IsSelection schema outer (both a one_entry) b s → IsSource outer a b (sub_source (next_relation a) alias s)
  sub_is outer a b alias s distinct low less is =
      let rel = next_relation a in
      let name = leaf_name rel alias in
      let columns = selection_columns schema outer (both a one_entry) b s is in
      record {
        made = subst (λ cs. MadeTree schema outer a b (record { relation = rel; columns = cs } ∷ []) (tree.Sub rel name (query_of s []))) columns (sub outer a b name (level_of s []) refl distinct (select_made schema outer (both a one_entry) b s is []));
        typed = laws.at-Sub Typed Bool Typed TypedOutput TypedQuery expr_type tree_typed order_typed output_typed query_typed rel name (query_of s []) ∙ sub_typed rel (typed_query (query_of s [])) low (ap (λ (q : TypedQuery). q.is_typed) (selection_typed schema outer (both a one_entry) b s is));
        entries = ap (λ (f : EntriesIn). f outer) (laws.at-Sub BoundIn EntriesIn BoundIn ColumnIn ColumnsIn expr_bound (tree_entries schema) order_bound output_column query_columns rel name (query_of s [])) ∙ ap (λ cs. record { relation = rel; columns = cs } ∷ []) columns;
        own = record { rising = (le_refl a.entries, omega (arith, less)); small = ((low, is.fit), tt) };
      }

  -- ---- joins

  pub join_is : (outer : Scope) (a m n b : Counts) (kind : JoinWord) (l r : Source) (on : List Expr) → has_distinct_numbers (seen_all (l.entries ++ r.entries) ++ outer) ≡ true → n.entries ≤ b.entries → IsSource outer a m l → IsSource outer m n r → AreConditions schema (seen_all (l.entries ++ r.entries) ++ outer) n b on
      → IsSource outer a b (record { entries = l.entries ++ r.entries; tree = tree.Join (kind_of kind) l.tree r.tree on })
  join_is outer a m n b kind l r on distinct wide left right conds =
      let whole = map-append seen l.entries r.entries in
      let own = own_append a.entries m.entries n.entries l.entries r.entries left.own right.own in
      record {
        made = subst (λ own. MadeTree schema outer a b own (tree.Join (kind_of kind) l.tree r.tree on)) (sym whole)
            (joined outer a m n b kind (seen_all l.entries) (seen_all r.entries) l.tree r.tree on (subst (λ own. has_distinct_numbers (own ++ outer) ≡ true) whole distinct) left.made right.made (subst (λ own. MadeExprs schema (own ++ outer) n b on) whole conds.0));
        typed = laws.at-Join Typed Bool Typed TypedOutput TypedQuery expr_type tree_typed order_typed output_typed query_typed (kind_of kind) l.tree r.tree on ∙ and_from (tree_is_typed l.tree) (tree_is_typed r.tree && are_conditions (map type_of on)) left.typed (and_from (tree_is_typed r.tree) (are_conditions (map type_of on)) right.typed (conditions_are on conds.1));
        entries = ap (λ (f : EntriesIn). f outer) (laws.at-Join BoundIn EntriesIn BoundIn ColumnIn ColumnsIn expr_bound (tree_entries schema) order_bound output_column query_columns (kind_of kind) l.tree r.tree on) ∙ sides_of kind (entries_of schema l.tree outer) (entries_of schema r.tree outer) ∙ ap₂ (λ xs ys. xs ++ ys) left.entries right.entries ∙ sym whole;
        own = record { rising = rising_wider relation_of a.entries n.entries a.entries b.entries (seen_all (l.entries ++ r.entries)) (le_refl a.entries) wide own.rising; small = own.small };
      }

-- ---- tables

module _ (catalog : Catalog) where
  table_is : (outer : Scope) (a : Counts) (name : List ℕ) (place : ℕ) (columns : List (List ℕ × Ty)) → has_distinct_numbers outer ≡ true → a.entries < 64 → slice_get (schema_of catalog) place ≡ Some (schema_columns columns)
      → IsSource (schema_of catalog) outer a (both a one_entry) (table_source name (next_relation a) place columns)
  table_is outer a name place columns distinct low there =
      let schema = schema_of catalog in
      let rel = next_relation a in
      let same = seen_table columns in
      record {
        made = subst (λ cs. MadeTree schema outer a (both a one_entry) (record { relation = rel; columns = cs } ∷ []) (tree.Base rel name place)) (sym same) (base outer a (both a one_entry) name place (schema_columns columns) refl distinct there);
        typed = laws.at-Base Typed Bool Typed TypedOutput TypedQuery expr_type tree_typed order_typed output_typed query_typed rel name place ∙ lt-ltb rel 64 low;
        entries = ap (λ (f : EntriesIn). f outer) (laws.at-Base BoundIn EntriesIn BoundIn ColumnIn ColumnsIn expr_bound (tree_entries schema) order_bound output_column query_columns rel name place) ∙ ap (λ o. record { relation = rel; columns = columns_of_table o } ∷ []) there ∙ ap (λ cs. record { relation = rel; columns = cs } ∷ []) (sym same);
        own = record { rising = (le_refl a.entries, next_first a.entries); small = ((low, subst (Each FitsColumn) (sym same) (table_fits columns)), tt) };
      }

  abbrev pub GoodItem : ItemMeant → Type 0
  GoodItem item = (outer : Levels) (earlier : List Entry) (before : Counts) (s : Source) → IsPlace outer before (both before item.counts) → item.from outer earlier before ≡ Ok s → IsSource (schema_of catalog) (scope_of outer) before (both before item.counts) s

  pub table_good : (at : ℕ) (name : List ℕ) (alias : Option (List ℕ)) → GoodItem (record { counts = one_entry; from = table_from catalog at name alias })
  table_good at name alias outer earlier before s place e =
      let label = entry_name name alias in
      let t = then_parts (known at (table_at catalog (place_of name catalog.tables))) (λ table. new_source at (Some label) earlier (table_source label (next_relation before) table.0 table.1.columns)) s e in
      let fresh = if_parts _ _ (table_source label (next_relation before) t.0.0 t.0.1.columns) s t.2 in
      let there = table_there catalog (place_of name catalog.tables) t.0 (known_is at (table_at catalog (place_of name catalog.tables)) t.0 t.1) in
      subst (IsSource (schema_of catalog) (scope_of outer) before (both before one_entry)) fresh.1
      (table_is (scope_of outer) before label t.0.0 t.0.1.columns place.opened.distinct (omega (arith, place.few)) there)

  pub sub_good : (at : ℕ) (select : Part Selection) (alias : Option (List ℕ)) → Good (λ levels a b s. IsSelection (schema_of catalog) (scope_of levels) a b s) select → GoodItem (record { counts = both one_entry select.counts; from = sub_from at select alias })
  sub_good at select alias good outer earlier before s place e =
      let selection = then_parts (select.over outer (both before one_entry)) (λ selection. new_source at alias earlier (sub_source (next_relation before) alias selection)) s e in
      let fresh = if_parts _ _ (sub_source (next_relation before) alias selection.0) s selection.2 in
      let end = both before (both one_entry select.counts) in
      let inner = subst (λ b. IsSelection (schema_of catalog) (scope_of outer) (both before one_entry) b selection.0) (both_assoc before one_entry select.counts)
      (good outer (both before one_entry) selection.0 (place_narrower outer before end (both before one_entry) (both (both before one_entry) select.counts) (omega arith) (omega arith) place) selection.1) in
      subst (IsSource (schema_of catalog) (scope_of outer) before end) fresh.1
      (sub_is (schema_of catalog) (scope_of outer) before end alias selection.0 place.opened.distinct (omega (arith, place.few)) (omega arith) inner)

  abbrev pub ConditionsAt : Claim (List Expr)
  ConditionsAt levels a b es = AreConditions (schema_of catalog) (scope_of levels) a b es

  pub join_good : (kind : JoinWord) (left right : ItemMeant) (on : Part (List Expr)) → GoodItem left → GoodItem right → Good ConditionsAt on → GoodItem (record { counts = both (both left.counts right.counts) on.counts; from = join_from (kind_of kind) left right on })
  join_good kind left right on l r c outer earlier before s place e =
      let schema = schema_of catalog in
      let m = both before left.counts in
      let n = both m right.counts in
      let end = both before (both (both left.counts right.counts) on.counts) in
      let x = then_parts (left.from outer earlier before) (λ x. right.from outer (earlier ++ x.entries) m >>= (λ y. on.over ((x.entries ++ y.entries) ∷ outer) n >>= (λ conds. Ok (record { entries = x.entries ++ y.entries; tree = tree.Join (kind_of kind) x.tree y.tree conds })))) s e in
      let y = then_parts (right.from outer (earlier ++ x.0.entries) m) (λ y. on.over ((x.0.entries ++ y.entries) ∷ outer) n >>= (λ conds. Ok (record { entries = x.0.entries ++ y.entries; tree = tree.Join (kind_of kind) x.0.tree y.tree conds }))) s x.2 in
      let own_entries = x.0.entries ++ y.0.entries in
      let z = then_parts (on.over (own_entries ∷ outer) n) (λ conds. Ok (record { entries = own_entries; tree = tree.Join (kind_of kind) x.0.tree y.0.tree conds })) s y.2 in
      let left_is = l outer earlier before x.0 (place_narrower outer before end before m (omega arith) (omega arith) place) x.1 in
      let right_is = r outer (earlier ++ x.0.entries) m y.0 (place_narrower outer before end m n (omega arith) (omega arith) place) y.1 in
      let own = own_append schema before.entries m.entries n.entries x.0.entries y.0.entries left_is.own right_is.own in
      let inside = open_inside before.entries end.entries before.entries n.entries n.entries end.entries (seen_all own_entries) (scope_of outer) (omega arith) (omega arith) (omega arith) (omega arith) (inr (le_refl n.entries)) place.opened own in
      let same : both n on.counts ≡ end = both_of_three before left.counts right.counts on.counts in
      let conds = subst (λ b. AreConditions schema (scope_of (own_entries ∷ outer)) n b z.0) same (c (own_entries ∷ outer) n z.0 (record { opened = subst (λ b. IsOpen n.entries b.entries (scope_of (own_entries ∷ outer))) (sym same) inside; few = omega (arith, place.few) }) z.1) in
      subst (IsSource schema (scope_of outer) before end) (same_Ok (record { entries = own_entries; tree = tree.Join (kind_of kind) x.0.tree y.0.tree z.0 }) s z.2)
      (join_is schema (scope_of outer) before m n end kind x.0 y.0 z.0 inside.distinct (omega arith) left_is right_is conds)

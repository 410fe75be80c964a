-- A select over FROM items, conditions and targets that are made.
use Rattle.std.proofs.Common.{◌≡◌, ◌∙◌, ap, sym, subst, refl, ◌≤◌, inl, inr, Bool, true, List, [], ◌∷◌, ◌++◌, map, Ok, arith}
use Rattle.std.proofs.Math.Nat.{le_refl}
use Rattle.std.specs.List.{list_all}
use Rattle.std.proofs.lemmas.Bool.{and_from, false≢true}
use Rattle.jp_catalog.specs.declared.types.Catalog.{Catalog}
use Rattle.jp_query.specs.declared.Expr.{Expr}
use Rattle.jp_query.specs.Conditions.{has_distinct_numbers}
use Rattle.jp_query.specs.Scopes.{Schema, Scope, BoundIn, EntriesIn, ColumnIn, ColumnsIn, expr_bound, tree_entries, order_bound, output_column, query_columns}
use Rattle.jp_query.specs.Typing.{Typed, TypedOutput, TypedQuery, is_listed, is_true_test, are_conditions, tree_is_typed, expr_type, tree_typed, order_typed, output_typed, query_typed}
use Rattle.jp_query.proofs.FoldLaws as laws
use Rattle.jp_resolution.specs.declared.words.Counts.{Counts}
use Rattle.jp_resolution.specs.declared.words.Entry.{Entry}
use Rattle.jp_resolution.specs.declared.words.Selection.{Selection}
use Rattle.jp_resolution.specs.Answers.{◌>>=◌}
use Rattle.jp_resolution.specs.Counting.{none, both, Levels, Part}
use Rattle.jp_resolution.specs.Resolving.{Selected, Targets, ItemMeant, Sources, with_source, items_from, counts_of_items, selection, select_over, select_counts}
use Rattle.jp_resolution.specs.Schemas.{schema_of}
use Rattle.jp_induction.proofs.EachPart.{Each}
use Rattle.jp_resolved.proofs.Answered.{same_Ok, then_parts}
use Rattle.jp_resolved.proofs.Spans.{both_of_three, both_assoc, both_none}
use Rattle.jp_resolved.proofs.Seen.{seen_all, scope_of, IsOpen, open_inside}
use Rattle.jp_resolved.proofs.Parts.{IsPlace, place_narrower, Claim, Good}
use Rattle.jp_resolved.proofs.Conjuncts.{AreConditions}
use Rattle.jp_resolved.proofs.Selections.{IsSelection}
use Rattle.jp_resolved.proofs.Sources.{AreSources, no_sources, more_sources, GoodItem, ConditionsAt}
use Rattle.jp_resolved.proofs.Targets.{AreSelected, SelectedAt}

module _ (catalog : Catalog) where
  abbrev schema : Schema
  schema = schema_of catalog

  -- the FROM list
  items_good : (items : List ItemMeant) → Each (GoodItem catalog) items → (outer : Levels) (earlier : List Entry) (before : Counts) (sources : Sources) → IsPlace outer before (both before (counts_of_items items)) → items_from items outer earlier before ≡ Ok sources
      → AreSources schema (scope_of outer) before (both before (counts_of_items items)) sources.entries sources.trees
  items_good [] each outer earlier before sources place e =
      subst (λ (s : Sources). AreSources schema (scope_of outer) before (both before none) s.entries s.trees) (same_Ok (record { entries = []; trees = [] }) sources e) (no_sources schema (scope_of outer) before (both before none) (sym (both_none before)))
  items_good (item ∷ items) each outer earlier before sources place e =
      let m = both before item.counts in
      let end = both before (both item.counts (counts_of_items items)) in
      let x = then_parts (item.from outer earlier before) (λ source. items_from items outer (earlier ++ source.entries) m >>= (λ more. Ok (with_source source more))) sources e in
      let more = then_parts (items_from items outer (earlier ++ x.0.entries) m) (λ more. Ok (with_source x.0 more)) sources x.2 in
      let one = each.0 outer earlier before x.0 (place_narrower outer before end before m (omega arith) (omega arith) place) x.1 in
      let rest = items_good items each.1 outer (earlier ++ x.0.entries) m more.0 (place_narrower outer before end m (both m (counts_of_items items)) (omega arith) (omega arith) place) more.1 in
      subst (λ (s : Sources). AreSources schema (scope_of outer) before end s.entries s.trees) (same_Ok (with_source x.0 more.0) sources more.2)
      (more_sources schema (scope_of outer) before m end x.0 more.0.entries more.0.trees one (subst (λ b. AreSources schema (scope_of outer) m b more.0.entries more.0.trees) (both_assoc before item.counts (counts_of_items items)) rest))

  trees_listed : (items : List ItemMeant) (outer : Levels) (earlier : List Entry) (before : Counts) (sources : Sources) → is_listed items ≡ true → items_from items outer earlier before ≡ Ok sources → is_listed sources.trees ≡ true
  trees_listed [] outer earlier before sources some e = absurd (false≢true some)
  trees_listed (item ∷ items) outer earlier before sources some e =
      let m = both before item.counts in
      let x = then_parts (item.from outer earlier before) (λ source. items_from items outer (earlier ++ source.entries) m >>= (λ more. Ok (with_source source more))) sources e in
      let more = then_parts (items_from items outer (earlier ++ x.0.entries) m) (λ more. Ok (with_source x.0 more)) sources x.2 in
      subst (λ (s : Sources). is_listed s.trees ≡ true) (same_Ok (with_source x.0 more.0) sources more.2) refl

  abbrev pub SelectionAt : Claim Selection
  SelectionAt levels a b s = IsSelection schema (scope_of levels) a b s

  selection_is : (distinct : Bool) (outer : Scope) (a m n b : Counts) (sources : Sources) (conds : List Expr) (outputs : List Selected) → is_listed sources.trees ≡ true → has_distinct_numbers (seen_all sources.entries ++ outer) ≡ true → a.entries ≤ m.entries → m.entries ≤ n.entries → n.entries ≤ b.entries
      → AreSelected schema (seen_all sources.entries ++ outer) a m outputs → AreSources schema outer m n sources.entries sources.trees → AreConditions schema (seen_all sources.entries ++ outer) n b conds → IsSelection schema outer a b (selection distinct sources conds outputs)
  selection_is distinct outer a m n b sources conds outputs some apart low inner high targets froms where_list = record {
    middle = m;
    end = n;
    members = sources.trees;
    some = some;
    tree_is = refl;
    apart = apart;
    made_outputs = targets.made;
    made_trees = froms.made;
    made_conds = where_list.0;
    outputs = targets.types;
    columns = targets.bounds;
    fit = targets.fit;
    typed = laws.at-From Typed Bool Typed TypedOutput TypedQuery expr_type tree_typed order_typed output_typed query_typed sources.trees [] ∙ and_from (list_all is_true_test (map tree_is_typed sources.trees)) (are_conditions []) froms.typed refl;
    entries = ap (λ (f : EntriesIn). f outer) (laws.at-From BoundIn EntriesIn BoundIn ColumnIn ColumnsIn expr_bound (tree_entries schema) order_bound output_column query_columns sources.trees []) ∙ froms.sees;
    conds = where_list.1;
    low = low;
    inner = inner;
    high = high;
    own = froms.own;
  }

  pub select_good : (distinct : Bool) (targets : Targets) (items : List ItemMeant) (cond : Part (List Expr)) → is_listed items ≡ true → Good (SelectedAt schema) targets → Each (GoodItem catalog) items → Good (ConditionsAt catalog) cond
      → Good SelectionAt (record { counts = select_counts targets items cond; over = select_over distinct targets items cond })
  select_good distinct targets items cond some good each c outer before s place e =
      let counts = counts_of_items items in
      let m = both before targets.counts in
      let n = both m counts in
      let end = both before (both (both targets.counts counts) cond.counts) in
      let x = then_parts (items_from items outer [] m) (λ sources. cond.over (sources.entries ∷ outer) n >>= (λ conds. targets.over (sources.entries ∷ outer) before >>= (λ outputs. Ok (selection distinct sources conds outputs)))) s e in
      let inner = x.0.entries ∷ outer in
      let y = then_parts (cond.over inner n) (λ conds. targets.over inner before >>= (λ outputs. Ok (selection distinct x.0 conds outputs))) s x.2 in
      let z = then_parts (targets.over inner before) (λ outputs. Ok (selection distinct x.0 y.0 outputs)) s y.2 in
      let froms = items_good items each outer [] m x.0 (place_narrower outer before end m n (omega arith) (omega arith) place) x.1 in
      let own = seen_all x.0.entries in
      let behind : IsOpen n.entries end.entries (own ++ scope_of outer) = open_inside before.entries end.entries m.entries n.entries n.entries end.entries own (scope_of outer) (omega arith) (omega arith) (omega arith) (omega arith) (inr (le_refl n.entries)) place.opened froms.own in
      let ahead : IsOpen before.entries m.entries (own ++ scope_of outer) = open_inside before.entries end.entries m.entries n.entries before.entries m.entries own (scope_of outer) (omega arith) (omega arith) (omega arith) (omega arith) (inl (le_refl m.entries)) place.opened froms.own in
      let same : both n cond.counts ≡ end = both_of_three before targets.counts counts cond.counts in
      let conds = subst (λ b. AreConditions schema (scope_of inner) n b y.0) same (c inner n y.0 (record { opened = subst (λ b. IsOpen n.entries b.entries (scope_of inner)) (sym same) behind; few = omega (arith, place.few) }) y.1) in
      let outputs = good inner before z.0 (record { opened = ahead; few = omega (arith, place.few) }) z.1 in
      subst (IsSelection schema (scope_of outer) before end) (same_Ok (selection distinct x.0 y.0 z.0) s z.2)
      (selection_is distinct (scope_of outer) before m n end x.0 y.0 z.0 (trees_listed items outer [] m x.0 some x.1) behind.distinct (omega arith) (omega arith) (omega arith) outputs froms conds)

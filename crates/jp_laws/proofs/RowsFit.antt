-- The tuples of a typed tree fit its entries, and the rows of a typed query its outputs.
use Rattle.std.proofs.Common.{◌≡◌, ap, sym, subst, refl, ℕ, zero, suc, Bool, true, false, List, [], ◌∷◌, ◌++◌, map, fold, filter, Option, Some, None, nat_lt, append_assoc}
use Rattle.std.specs.Prelude.{slice_get, bit_or}
use Rattle.std.proofs.lemmas.List.{append-nil}
use Rattle.std.proofs.lemmas.List.Sorted.{All-permutation}
use Rattle.jp_query.specs.declared.Expr.{Expr}
use Rattle.jp_query.specs.declared.JoinTree.{JoinTree}
use Rattle.jp_query.specs.declared.Order.{Order}
use Rattle.jp_query.specs.declared.Output.{Output}
use Rattle.jp_query.specs.declared.Query.{Query}
use Rattle.jp_query.specs.declared.Expr.TheOpen.{JoinTree-F, Output-F, Query-F}
use Rattle.jp_query.specs.declared.Expr.TheViews.{roll-JoinTree, roll-Output, roll-Query}
use Rattle.jp_query.specs.declared.Expr.TheFolds.{fold-Order, fold-Output, map-JoinTree, map-Output, map-Query, ind-JoinTree, ind-Query, fold-roll-JoinTree, fold-roll-Output, fold-roll-Query}
use Rattle.jp_query.specs.Refs.{union}
use Rattle.jp_query.specs.Meaning.{Row, Env, ValueIn, Tuples, SortKey, RowsIn, Line, in_place, value_at, holds, with_row, combined, rels_in, Direction, line_at, direction, outputs_of, distinct_lines, sorted, expr_value, tree_tuples, order_key, output_value, query_rows, value_of, tuples_of, meaning}
use Rattle.jp_query.specs.Ordering.{differs, first_lines}
use Rattle.jp_query.specs.Parts.{ColumnRef, node_column}
use Rattle.jp_query.specs.Scopes.{Column, Schema, Entry, Scope, BoundIn, EntriesIn, ColumnIn, ColumnsIn, columns_of_table, in_scope, expr_bound, tree_entries, order_bound, output_column, query_columns, bound_of, entries_of, columns_of_query}
use Rattle.jp_query.specs.Tables.{IsCellOf, IsRowOf, IsTableOf, Belong, rows_in, rows_of_tables}
use Rattle.jp_query.specs.Typing.{Typed, TypedOutput, TypedQuery, expr_type, tree_typed, order_typed, output_typed, query_typed, type_of, tree_is_typed, typed_query}
use Rattle.jp_query.specs.Conditions.{Tests, Judged, relation_of, are_distinct, all_entries, expr_judged, tree_judged, order_judged, output_judged, query_judged, judged_expr, knows_columns, tells_relations_apart, judged_tree, judged_query}
use Rattle.jp_query.specs.Fitting.{IsCellAt, own_columns}
use Rattle.jp_laws.proofs.ValueLaws.{and_right}
use Rattle.jp_laws.proofs.SortLaws.{permutes}
use Rattle.jp_laws.proofs.EachPart.{Each, each_of, all_of_each, each_weaker, each_map}
use Rattle.jp_laws.proofs.ValuesFit.{value_fits, is_of_some}
use Rattle.jp_laws.proofs.GatheredLaws.{trees_typed, query_parts, typed_output, typed_order}
use Rattle.jp_laws.proofs.JudgedLaws.{TreePasses, tree_passed, QueryPasses, query_passed, judged_order_by, judged_output_by, own_seen, sound}
use Rattle.jp_laws.proofs.OwnColumns.{own_of_all}
use Rattle.jp_laws.proofs.GatheredParts.{in_tree, in_output, in_query, TreeHas, tree_has, QueryHas, query_has, output_has}
use Rattle.jp_laws.proofs.JudgedValues.{entries_judged}
use Rattle.jp_laws.proofs.TuplesFit.{apart_from, distinct_start, Fit, AreRels, each_filter, each_mapped_to, join_fits, join_are, Members, none, more, joined_entries, flat_joined, nothing_fits, none_are, members_fit, both_are, leaf_are, leaf_fits, inner_cell}

-- ---- tables

table_rows : (columns : List Column) (table : Option (List Row)) → IsTableOf columns table → Each (IsRowOf columns) (rows_in (Some table))
table_rows columns (Some rows) h = each_of (IsRowOf columns) rows h
table_rows columns None h = tt

base_rows : (schema : Schema) (tables : List (Option (List Row))) (k : ℕ) → Belong schema tables → Each (IsRowOf (columns_of_table (slice_get schema k))) (rows_in (slice_get tables k))
base_rows [] [] k h = tt
base_rows [] (table ∷ tables) k h = absurd h
base_rows (columns ∷ schema) [] k h = absurd h
base_rows (columns ∷ schema) (table ∷ tables) zero h = table_rows columns table h.0
base_rows (columns ∷ schema) (table ∷ tables) (suc k) h = base_rows schema tables k h.1

-- ---- lines

abbrev IsLineOf : List Column → Line → Type 0
IsLineOf columns line = IsRowOf columns line.outputs

first_lines_fit : (P : Line → Type 0) (lines : List Line) → Each P lines → Each P (first_lines lines)
first_lines_fit P [] h = tt
first_lines_fit P (line ∷ lines) h = (h.0, each_filter P (differs line) (first_lines lines) (first_lines_fit P lines h.1))

distinct_fit : (P : Line → Type 0) (distinct : Bool) (lines : List Line) → Each P lines → Each P (distinct_lines distinct lines)
distinct_fit P true lines h = first_lines_fit P lines h
distinct_fit P false lines h = h

sorted_fit : (P : Line → Type 0) (keys : List Direction) (lines : List Line) → Each P lines → Each P (sorted keys lines)
sorted_fit P keys lines h = each_of P (sorted keys lines) (All-permutation P lines (sorted keys lines) (permutes keys lines) (all_of_each P lines h))

module _ (schema : Schema) (data_tables : List (Option (List Row))) (belong : Belong schema data_tables) where
  abbrev tables : ℕ → List Row
  tables = rows_of_tables data_tables

  abbrev key_of : Order → SortKey
  key_of = fold-Order ValueIn Tuples SortKey ValueIn RowsIn (expr_value in_place) (tree_tuples tables) order_key output_value query_rows

  abbrev output_of : Output → ValueIn
  output_of = fold-Output ValueIn Tuples SortKey ValueIn RowsIn (expr_value in_place) (tree_tuples tables) order_key output_value query_rows

  abbrev bound_of_order : Order → BoundIn
  bound_of_order = fold-Order BoundIn EntriesIn BoundIn ColumnIn ColumnsIn expr_bound (tree_entries schema) order_bound output_column query_columns

  abbrev column_of_output : Output → ColumnIn
  column_of_output = fold-Output BoundIn EntriesIn BoundIn ColumnIn ColumnsIn expr_bound (tree_entries schema) order_bound output_column query_columns

  abbrev gives_tree : JoinTree → List ColumnRef
  gives_tree = in_tree ColumnRef node_column

  abbrev gives_output : Output → List ColumnRef
  gives_output = in_output ColumnRef node_column

  abbrev gives_query : Query → List ColumnRef
  gives_query = in_query ColumnRef node_column

  abbrev GoodTree : JoinTree → Type 0
  GoodTree t = ((outer : Scope) → AreRels (tuples_of tables t).rels (entries_of schema t outer))
      × ((outer : Scope) (env : Env) → tree_is_typed t ≡ true → (judged_tree schema knows_columns t).passes outer ≡ true → (judged_tree schema tells_relations_apart t).passes outer ≡ true → Each (IsCellAt outer env) (gives_tree t)
      → Each (Fit (entries_of schema t outer) env) ((tuples_of tables t).tuples env))

  abbrev GoodOutput : Output → Type 0
  GoodOutput u = (scope : Scope) (env : Env) → (typed_output u).is_typed ≡ true → (judged_output_by schema knows_columns u).passes scope ≡ true → Each (IsCellAt scope env) (gives_output u) → IsCellOf (column_of_output u scope) (output_of u env)

  abbrev GoodQuery : Query → Type 0
  GoodQuery q = (outer : Scope) (env : Env) → (typed_query q).is_typed ≡ true → (judged_query schema knows_columns q).passes outer ≡ true → (judged_query schema tells_relations_apart q).passes outer ≡ true → Each (IsCellAt outer env) (gives_query q)
      → Each (IsRowOf (columns_of_query schema q outer)) (meaning tables q env)

  abbrev E : Type 0
  E = Expr × Unit {0}

  abbrev T : Type 0
  T = (t : JoinTree) × GoodTree t

  abbrev O : Type 0
  O = Order × Unit {0}

  abbrev U : Type 0
  U = (u : Output) × GoodOutput u

  abbrev Q : Type 0
  Q = (q : Query) × GoodQuery q

  abbrev bare_e : E → Expr
  bare_e y = y.0

  abbrev bare_t : T → JoinTree
  bare_t y = y.0

  abbrev bare_o : O → Order
  bare_o y = y.0

  abbrev bare_u : U → Output
  bare_u y = y.0

  abbrev bare_q : Q → Query
  bare_q y = y.0

  abbrev bare_tree : JoinTree-F E T O U Q → JoinTree-F Expr JoinTree Order Output Query
  bare_tree = map-JoinTree E T O U Q Expr JoinTree Order Output Query bare_e bare_t bare_o bare_u bare_q

  abbrev bare_output : Output-F E T O U Q → Output-F Expr JoinTree Order Output Query
  bare_output = map-Output E T O U Q Expr JoinTree Order Output Query bare_e bare_t bare_o bare_u bare_q

  abbrev bare_query : Query-F E T O U Q → Query-F Expr JoinTree Order Output Query
  bare_query = map-Query E T O U Q Expr JoinTree Order Output Query bare_e bare_t bare_o bare_u bare_q

  -- ---- outputs

  output_step : (y : Output-F E T O U Q) → GoodOutput (roll-Output (bare_output y))
  output_step y scope env typed known cells =
      let e = y.expr.0 in
      let of_type = is_of_some y.ty (type_of e) (subst (λ (t : TypedOutput). t.is_typed ≡ true) (fold-roll-Output Typed Bool Typed TypedOutput TypedQuery expr_type tree_typed order_typed output_typed query_typed (bare_output y)) typed) in
      let seen = own_seen schema scope e (subst (λ (j : Judged Column). j.passes scope ≡ true) (fold-roll-Output (Judged ℕ) (Judged (List Entry)) (Judged ℕ) (Judged Column) (Judged (List Column)) (expr_judged schema knows_columns) (tree_judged schema knows_columns) (order_judged schema knows_columns) (output_judged schema knows_columns) (query_judged schema knows_columns) (bare_output y)) known) in
      let own = own_of_all (IsCellAt scope env) e (output_has ColumnRef node_column (IsCellAt scope env) (bare_output y) cells) in
      let fits : IsCellOf (record { type = y.ty; bound = bound_of schema e scope }) (value_of tables e env) = value_fits schema in_place tables scope env e (sound scope env (own_columns e) seen own) y.ty of_type in
      subst (λ (c : ColumnIn). IsCellOf (c scope) (output_of (roll-Output (bare_output y)) env)) (sym (fold-roll-Output BoundIn EntriesIn BoundIn ColumnIn ColumnsIn expr_bound (tree_entries schema) order_bound output_column query_columns (bare_output y)))
      (subst (λ (v : ValueIn). IsCellOf (record { type = y.ty; bound = bound_of schema e scope }) (v env)) (sym (fold-roll-Output ValueIn Tuples SortKey ValueIn RowsIn (expr_value in_place) (tree_tuples tables) order_key output_value query_rows (bare_output y))) fits)

  -- ---- trees

  abbrev tuples_level : JoinTree-F Expr JoinTree Order Output Query → JoinTree-F ValueIn Tuples SortKey ValueIn RowsIn
  tuples_level = map-JoinTree Expr JoinTree Order Output Query ValueIn Tuples SortKey ValueIn RowsIn (value_of tables) (tuples_of tables) key_of output_of (meaning tables)

  abbrev entries_level : JoinTree-F Expr JoinTree Order Output Query → JoinTree-F BoundIn EntriesIn BoundIn ColumnIn ColumnsIn
  entries_level = map-JoinTree Expr JoinTree Order Output Query BoundIn EntriesIn BoundIn ColumnIn ColumnsIn (bound_of schema) (entries_of schema) bound_of_order column_of_output (columns_of_query schema)

  abbrev typed_level : JoinTree-F Expr JoinTree Order Output Query → JoinTree-F Typed Bool Typed TypedOutput TypedQuery
  typed_level = map-JoinTree Expr JoinTree Order Output Query Typed Bool Typed TypedOutput TypedQuery type_of tree_is_typed typed_order typed_output typed_query

  abbrev judged_level : Tests → JoinTree-F Expr JoinTree Order Output Query → JoinTree-F (Judged ℕ) (Judged (List Entry)) (Judged ℕ) (Judged Column) (Judged (List Column))
  judged_level tests = map-JoinTree Expr JoinTree Order Output Query (Judged ℕ) (Judged (List Entry)) (Judged ℕ) (Judged Column) (Judged (List Column)) (judged_expr schema tests) (judged_tree schema tests) (judged_order_by schema tests) (judged_output_by schema tests) (judged_query schema tests)

  abbrev of_members : List T → List Tuples
  of_members ts = map (tuples_of tables) (map bare_t ts)

  abbrev entries_lists : Scope → List T → List (List Entry)
  entries_lists outer ts = map (in_scope outer) (map (entries_of schema) (map bare_t ts))

  -- the entries that a judgement of the whole sees
  all_joined : (tests : Tests) (outer : Scope) (ts : List T) → all_entries (map (judged_tree schema tests) (map bare_t ts)) outer ≡ joined_entries (entries_lists outer ts)
  all_joined tests outer [] = refl
  all_joined tests outer (t ∷ ts) = λ i. entries_judged schema tests t.0 i outer ++ all_joined tests outer ts i

  abbrev Rels : JoinTree-F E T O U Q → Type 0
  Rels y = (outer : Scope) → AreRels (tree_tuples tables (tuples_level (bare_tree y))).rels (tree_entries schema (entries_level (bare_tree y)) outer)

  members_rels : (outer : Scope) (env : Env) (ts : List T) → (n : ℕ) (entries : List Entry) → AreRels n entries → AreRels (fold bit_or n (map rels_in (of_members ts))) (entries ++ joined_entries (entries_lists outer ts))
  members_rels outer env [] n entries are = subst (λ es. AreRels n es) (sym (append-nil entries)) are
  members_rels outer env (t ∷ ts) n entries are =
      let here = entries_of schema t.0 outer in
      subst (λ es. AreRels (fold bit_or (bit_or n (tuples_of tables t.0).rels) (map rels_in (of_members ts))) es) (append_assoc entries here (joined_entries (entries_lists outer ts)))
      (members_rels outer env ts (bit_or n (tuples_of tables t.0).rels) (entries ++ here) (both_are entries here n (tuples_of tables t.0).rels are (t.1.0 outer)))

  rels_good : (y : JoinTree-F E T O U Q) → Rels y
  rels_good (JoinTree-F.Base rel name table) outer = leaf_are rel (columns_of_table (slice_get schema table))
  rels_good (JoinTree-F.Sub rel name query) outer = leaf_are rel (columns_of_query schema query.0 outer)
  rels_good (JoinTree-F.Join kind left right on) outer = join_are kind (entries_of schema left.0 outer) (entries_of schema right.0 outer) (tuples_of tables left.0).rels (tuples_of tables right.0).rels (left.1.0 outer) (right.1.0 outer)
  rels_good (JoinTree-F.From members conds) outer = subst (λ es. AreRels (union (map rels_in (of_members members))) es) (sym (flat_joined outer (map (entries_of schema) (map bare_t members)))) (members_rels outer (λ n. None) members 0 [] none_are)

  module _ (outer : Scope) (env : Env) where
    abbrev Known : Judged (List Entry) → Type 0
    Known j = j.passes outer ≡ true

    good_members : (ts : List T) → Each (λ b. b ≡ true) (map tree_is_typed (map bare_t ts)) → Each Known (map (judged_tree schema knows_columns) (map bare_t ts)) → Each Known (map (judged_tree schema tells_relations_apart) (map bare_t ts))
        → Each (λ t. Each (IsCellAt outer env) (gives_tree t)) (map bare_t ts) → Members env (of_members ts) (entries_lists outer ts)
    good_members [] a b c d = none
    good_members (t ∷ ts) a b c d = more (t.1.0 outer) (t.1.1 outer env a.0 b.0 c.0 d.0) (good_members ts a.1 b.1 c.1 d.1)

    tree_good : (y : JoinTree-F E T O U Q) → tree_typed (typed_level (bare_tree y)) ≡ true → TreePasses schema knows_columns outer (judged_level knows_columns (bare_tree y)) → TreePasses schema tells_relations_apart outer (judged_level tells_relations_apart (bare_tree y))
        → TreeHas ColumnRef node_column (IsCellAt outer env) (bare_tree y)
        → Each (Fit (tree_entries schema (entries_level (bare_tree y)) outer) env) ((tree_tuples tables (tuples_level (bare_tree y))).tuples env)
    tree_good (JoinTree-F.Base rel name table) typed knows apart cells =
        each_mapped_to (IsRowOf (columns_of_table (slice_get schema table))) (Fit (record { relation = rel; columns = columns_of_table (slice_get schema table) } ∷ []) env) (with_row env rel) (leaf_fits rel (columns_of_table (slice_get schema table)) env) (tables table) (base_rows schema data_tables table belong)
    tree_good (JoinTree-F.Sub rel name query) typed knows apart cells =
        each_mapped_to (IsRowOf (columns_of_query schema query.0 outer)) (Fit (record { relation = rel; columns = columns_of_query schema query.0 outer } ∷ []) env) (with_row env rel) (leaf_fits rel (columns_of_query schema query.0 outer) env) (meaning tables query.0 env)
        (query.1 outer env (and_right (nat_lt rel 64) (typed_query query.0).is_typed typed) knows.leaf.0 apart.leaf.0 cells.query.0)
    tree_good (JoinTree-F.Join kind left right on) typed knows apart cells =
        let sides = (trees_typed (typed_level (bare_tree (JoinTree-F.Join kind left right on))) typed).0 in
        let l = entries_of schema left.0 outer in
        let r = entries_of schema right.0 outer in
        let seen = subst (λ es. are_distinct (map relation_of (es ++ outer)) ≡ true) (all_joined tells_relations_apart outer (left ∷ right ∷ [])) apart.place in
        let distinct = subst (λ es. are_distinct (map relation_of (l ++ es)) ≡ true) (append-nil r) (distinct_start (l ++ (r ++ [])) outer seen) in
        join_fits kind (map (value_of tables) (map bare_e on)) l r (tuples_of tables left.0).rels (tuples_of tables right.0).rels (left.1.0 outer) (right.1.0 outer) (apart_from l r distinct) env ((tuples_of tables left.0).tuples env) ((tuples_of tables right.0).tuples env)
        (left.1.1 outer env sides.0 knows.inner.0 apart.inner.0 cells.sides.0)
        (right.1.1 outer env sides.1.0 knows.inner.1.0 apart.inner.1.0 cells.sides.1.0)
    tree_good (JoinTree-F.From members conds) typed knows apart cells =
        let all = (trees_typed (typed_level (bare_tree (JoinTree-F.From members conds))) typed).0 in
        let seen = subst (λ es. are_distinct (map relation_of (es ++ outer)) ≡ true) (all_joined tells_relations_apart outer members) apart.place in
        subst (λ es. Each (Fit es env) (filter (holds (map (value_of tables) (map bare_e conds))) (combined (of_members members) env))) (sym (flat_joined outer (map (entries_of schema) (map bare_t members))))
        (each_filter (Fit (joined_entries (entries_lists outer members)) env) (holds (map (value_of tables) (map bare_e conds))) (combined (of_members members) env)
        (members_fit (good_members members all knows.inner apart.inner cells.sides) [] (distinct_start (joined_entries (entries_lists outer members)) outer seen) (env ∷ []) (nothing_fits env, tt)))

  tree_step : (y : JoinTree-F E T O U Q) → GoodTree (roll-JoinTree (bare_tree y))
  tree_step y = (rels, fits)
    where
      means : tuples_of tables (roll-JoinTree (bare_tree y)) ≡ tree_tuples tables (tuples_level (bare_tree y))
      means = fold-roll-JoinTree ValueIn Tuples SortKey ValueIn RowsIn (expr_value in_place) (tree_tuples tables) order_key output_value query_rows (bare_tree y)

      entries : entries_of schema (roll-JoinTree (bare_tree y)) ≡ tree_entries schema (entries_level (bare_tree y))
      entries = fold-roll-JoinTree BoundIn EntriesIn BoundIn ColumnIn ColumnsIn expr_bound (tree_entries schema) order_bound output_column query_columns (bare_tree y)

      rels : (outer : Scope) → AreRels (tuples_of tables (roll-JoinTree (bare_tree y))).rels (entries_of schema (roll-JoinTree (bare_tree y)) outer)
      rels outer = subst (λ (t : Tuples). AreRels t.rels (entries_of schema (roll-JoinTree (bare_tree y)) outer)) (sym means) (subst (λ (e : EntriesIn). AreRels (tree_tuples tables (tuples_level (bare_tree y))).rels (e outer)) (sym entries) (rels_good y outer))

      passes : (tests : Tests) (outer : Scope) → (judged_tree schema tests (roll-JoinTree (bare_tree y))).passes outer ≡ true → TreePasses schema tests outer (judged_level tests (bare_tree y))
      passes tests outer h = tree_passed schema tests outer (judged_level tests (bare_tree y)) (subst (λ (j : Judged (List Entry)). j.passes outer ≡ true) (fold-roll-JoinTree (Judged ℕ) (Judged (List Entry)) (Judged ℕ) (Judged Column) (Judged (List Column)) (expr_judged schema tests) (tree_judged schema tests) (order_judged schema tests) (output_judged schema tests) (query_judged schema tests) (bare_tree y)) h)

      fits : (outer : Scope) (env : Env) → tree_is_typed (roll-JoinTree (bare_tree y)) ≡ true → (judged_tree schema knows_columns (roll-JoinTree (bare_tree y))).passes outer ≡ true → (judged_tree schema tells_relations_apart (roll-JoinTree (bare_tree y))).passes outer ≡ true
          → Each (IsCellAt outer env) (gives_tree (roll-JoinTree (bare_tree y))) → Each (Fit (entries_of schema (roll-JoinTree (bare_tree y)) outer) env) ((tuples_of tables (roll-JoinTree (bare_tree y))).tuples env)
      fits outer env typed knows apart cells =
          subst (λ (t : Tuples). Each (Fit (entries_of schema (roll-JoinTree (bare_tree y)) outer) env) (t.tuples env)) (sym means) (subst (λ (e : EntriesIn). Each (Fit (e outer) env) ((tree_tuples tables (tuples_level (bare_tree y))).tuples env)) (sym entries)
          (tree_good outer env y (subst (λ b. b ≡ true) (fold-roll-JoinTree Typed Bool Typed TypedOutput TypedQuery expr_type tree_typed order_typed output_typed query_typed (bare_tree y)) typed) (passes knows_columns outer knows) (passes tells_relations_apart outer apart)
          (tree_has ColumnRef node_column (IsCellAt outer env) (bare_tree y) cells)))

  -- ---- queries

  output_values : (scope : Scope) (env : Env) (us : List U) → Each (λ (t : TypedOutput). t.is_typed ≡ true) (map typed_output (map bare_u us)) → Each (λ (j : Judged Column). j.passes scope ≡ true) (map (judged_output_by schema knows_columns) (map bare_u us)) → Each (λ u. Each (IsCellAt scope env) (gives_output u)) (map bare_u us)
      → IsRowOf (map (in_scope scope) (map column_of_output (map bare_u us))) (map (value_at env) (map output_of (map bare_u us)))
  output_values scope env [] a b c = tt
  output_values scope env (u ∷ us) a b c = (u.1 scope env a.0 b.0 c.0, output_values scope env us a.1 b.1 c.1)

  abbrev rows_level : Query-F Expr JoinTree Order Output Query → Query-F ValueIn Tuples SortKey ValueIn RowsIn
  rows_level = map-Query Expr JoinTree Order Output Query ValueIn Tuples SortKey ValueIn RowsIn (value_of tables) (tuples_of tables) key_of output_of (meaning tables)

  abbrev columns_level : Query-F Expr JoinTree Order Output Query → Query-F BoundIn EntriesIn BoundIn ColumnIn ColumnsIn
  columns_level = map-Query Expr JoinTree Order Output Query BoundIn EntriesIn BoundIn ColumnIn ColumnsIn (bound_of schema) (entries_of schema) bound_of_order column_of_output (columns_of_query schema)

  abbrev typed_query_level : Query-F Expr JoinTree Order Output Query → Query-F Typed Bool Typed TypedOutput TypedQuery
  typed_query_level = map-Query Expr JoinTree Order Output Query Typed Bool Typed TypedOutput TypedQuery type_of tree_is_typed typed_order typed_output typed_query

  abbrev judged_query_level : Tests → Query-F Expr JoinTree Order Output Query → Query-F (Judged ℕ) (Judged (List Entry)) (Judged ℕ) (Judged Column) (Judged (List Column))
  judged_query_level tests = map-Query Expr JoinTree Order Output Query (Judged ℕ) (Judged (List Entry)) (Judged ℕ) (Judged Column) (Judged (List Column)) (judged_expr schema tests) (judged_tree schema tests) (judged_order_by schema tests) (judged_output_by schema tests) (judged_query schema tests)

  query_good : (y : Query-F E T O U Q) (outer : Scope) (env : Env) → (query_typed (typed_query_level (bare_query y))).is_typed ≡ true → QueryPasses schema knows_columns outer (judged_query_level knows_columns (bare_query y)) → QueryPasses schema tells_relations_apart outer (judged_query_level tells_relations_apart (bare_query y))
      → QueryHas ColumnRef node_column (IsCellAt outer env) (bare_query y)
      → Each (IsRowOf (query_columns (columns_level (bare_query y)) outer)) (query_rows (rows_level (bare_query y)) env)
  query_good y outer env typed knows apart cells =
      let parts = query_parts (typed_query_level (bare_query y)) typed in
      let entries = entries_of schema y.tree.0 outer in
      let inner = entries ++ outer in
      let tuples : Each (Fit entries env) ((tuples_of tables y.tree.0).tuples env) = y.tree.1.1 outer env parts.tree knows.tree apart.tree cells.tree in
      let known = subst (λ (s : Scope). Each (λ (j : Judged Column). j.passes s ≡ true) (map (judged_output_by schema knows_columns) (map bare_u y.columns))) (ap (λ (e : EntriesIn). e outer ++ outer) (entries_judged schema knows_columns y.tree.0)) knows.columns in
      let columns = map (in_scope inner) (map column_of_output (map bare_u y.columns)) in
      let keys = map key_of (map bare_o y.order) in
      let outputs = map output_of (map bare_u y.columns) in
      let held = filter (holds (map (value_of tables) (map bare_e y.conds))) ((tuples_of tables y.tree.0).tuples env) in
      let lines = map (line_at outputs keys) held in
      let line_fits : Each (IsLineOf columns) lines = each_mapped_to (Fit entries env) (IsLineOf columns) (line_at outputs keys)
      (λ u f. output_values inner u y.columns parts.columns known (each_weaker (λ o. Each (IsCellAt outer env) (gives_output o)) (λ o. Each (IsCellAt inner u) (gives_output o)) (λ o. each_weaker (IsCellAt outer env) (IsCellAt inner u) (inner_cell entries outer env u f) (gives_output o)) (map bare_u y.columns) cells.columns))
      held (each_filter (Fit entries env) (holds (map (value_of tables) (map bare_e y.conds))) ((tuples_of tables y.tree.0).tuples env) tuples) in
      each_map (IsRowOf columns) outputs_of (sorted (map direction keys) (distinct_lines y.distinct lines)) (sorted_fit (IsLineOf columns) (map direction keys) (distinct_lines y.distinct lines) (distinct_fit (IsLineOf columns) y.distinct lines line_fits))

  query_step : (y : Query-F E T O U Q) → GoodQuery (roll-Query (bare_query y))
  query_step y outer env typed knows apart cells =
      subst (λ (c : ColumnsIn). Each (IsRowOf (c outer)) (meaning tables (roll-Query (bare_query y)) env)) (sym (fold-roll-Query BoundIn EntriesIn BoundIn ColumnIn ColumnsIn expr_bound (tree_entries schema) order_bound output_column query_columns (bare_query y)))
      (subst (λ (r : RowsIn). Each (IsRowOf (query_columns (columns_level (bare_query y)) outer)) (r env)) (sym (fold-roll-Query ValueIn Tuples SortKey ValueIn RowsIn (expr_value in_place) (tree_tuples tables) order_key output_value query_rows (bare_query y)))
      (query_good y outer env (subst (λ (t : TypedQuery). t.is_typed ≡ true) (fold-roll-Query Typed Bool Typed TypedOutput TypedQuery expr_type tree_typed order_typed output_typed query_typed (bare_query y)) typed) (passes knows_columns knows) (passes tells_relations_apart apart)
      (query_has ColumnRef node_column (IsCellAt outer env) (bare_query y) cells)))
    where
      passes : (tests : Tests) → (judged_query schema tests (roll-Query (bare_query y))).passes outer ≡ true → QueryPasses schema tests outer (judged_query_level tests (bare_query y))
      passes tests h = query_passed schema tests outer (judged_query_level tests (bare_query y)) (subst (λ (j : Judged (List Column)). j.passes outer ≡ true) (fold-roll-Query (Judged ℕ) (Judged (List Entry)) (Judged ℕ) (Judged Column) (Judged (List Column)) (expr_judged schema tests) (tree_judged schema tests) (order_judged schema tests) (output_judged schema tests) (query_judged schema tests) (bare_query y)) h)

  pub tree_fits : (x : JoinTree) → GoodTree x
  tree_fits = ind-JoinTree (λ e. Unit {0}) GoodTree (λ o. Unit {0}) GoodOutput GoodQuery
      (λ x y is. tt)
      (λ x y is. subst (λ z. GoodTree (roll-JoinTree z)) is (tree_step y))
      (λ x y is. tt)
      (λ x y is. subst (λ z. GoodOutput (roll-Output z)) is (output_step y))
      (λ x y is. subst (λ z. GoodQuery (roll-Query z)) is (query_step y))

  pub query_fits : (x : Query) → GoodQuery x
  query_fits = ind-Query (λ e. Unit {0}) GoodTree (λ o. Unit {0}) GoodOutput GoodQuery
      (λ x y is. tt)
      (λ x y is. subst (λ z. GoodTree (roll-JoinTree z)) is (tree_step y))
      (λ x y is. tt)
      (λ x y is. subst (λ z. GoodOutput (roll-Output z)) is (output_step y))
      (λ x y is. subst (λ z. GoodQuery (roll-Query z)) is (query_step y))

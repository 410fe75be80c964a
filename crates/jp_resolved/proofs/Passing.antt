-- What is made passes at each place a test that its columns, bounds and scopes pass.
use Rattle.std.proofs.Common.{◌≡◌, ◌∙◌, ap, ap₂, sym, subst, refl, ℕ, true, List, [], ◌∷◌, ◌++◌, map, Some}
use Rattle.std.specs.Prelude.{◌&&◌}
use Rattle.std.specs.List.{list_all, slice_get, flat_map}
use Rattle.std.proofs.lemmas.Bool.{and_from}
use Rattle.std.proofs.lemmas.List.{append-nil}
use Rattle.jp_ast.specs.declared.tree.JoinWord.{JoinWord}
use Rattle.jp_query.specs.declared.Expr.{Expr}
use Rattle.jp_query.specs.declared.Expr.TheVariants as expr
use Rattle.jp_query.specs.declared.Expr.TheViews.{roll-Expr, roll-Query}
use Rattle.jp_query.specs.declared.Expr.TheFolds.{map-Expr, fold-Order, fold-Output, fold-roll-Expr, fold-roll-Query}
use Rattle.jp_query.specs.declared.JoinTree.{JoinTree}
use Rattle.jp_query.specs.declared.JoinTree.TheVariants as tree
use Rattle.jp_query.specs.declared.Order.{Order}
use Rattle.jp_query.specs.declared.Output.{Output}
use Rattle.jp_query.specs.declared.Query.{Query}
use Rattle.jp_query.specs.Conditions.{Tests, Judged, ExprLevel, passes_in, judged_bound, all_entries, expr_judged, tree_judged, order_judged, output_judged, query_judged, judged_expr, judged_tree, judged_query, fits, has_distinct_numbers}
use Rattle.jp_query.specs.Layers.{ExprLayer, QueryLayer}
use Rattle.jp_query.specs.Parts.{parts, option_part, sublink_query, node_column, node_placeholder}
use Rattle.jp_query.specs.Scopes.{Column, Entry, Scope, Schema, in_scope, visible_column, columns_of_table, bound_of_column, bound_of, columns_of_query}
use Rattle.jp_query.proofs.FoldLaws as laws
use Rattle.jp_induction.proofs.EachPart.{Each, parts_map}
use Rattle.jp_laws.proofs.JudgedValues.{bound_judged, columns_judged}
use Rattle.jp_resolution.specs.declared.words.Counts.{Counts}
use Rattle.jp_resolution.specs.Counting.{next_relation, next_sublink}
use Rattle.jp_resolution.specs.Resolving.{kind_of}
use Rattle.jp_resolved.specs.Sorted.{expr_of_output, expr_of_order}
use Rattle.jp_resolved.proofs.Made.{sides_of, is_operator, Steps, TreesAlong}
use Rattle.jp_resolved.proofs.Operands.{operator_no_place, no_column, no_placeholder, no_sublink, operator_map, along_each}
use Rattle.jp_resolved.proofs.Nodes.{fits_zero}

-- what the test takes
pub record Takes (tests : Tests) : Type 0 where
  pub bounds : (bound : ℕ) → fits bound ≡ true → tests.bound bound ≡ true
  pub columns : (scope : Scope) (rel place : ℕ) (c : Column) → visible_column scope rel place ≡ Some c → tests.column scope (record { relation = rel; column = place; type = c.type }) ≡ true
  pub scopes : (scope : Scope) → has_distinct_numbers scope ≡ true → tests.scope scope ≡ true

module _ (schema : Schema) (tests : Tests) (takes : Takes tests) where
  abbrev pub judged : Expr → Judged ℕ
  judged = judged_expr schema tests

  abbrev judged_output : Output → Judged Column
  judged_output = fold-Output (Judged ℕ) (Judged (List Entry)) (Judged ℕ) (Judged Column) (Judged (List Column)) (expr_judged schema tests) (tree_judged schema tests) (order_judged schema tests) (output_judged schema tests) (query_judged schema tests)

  abbrev judged_order : Order → Judged ℕ
  judged_order = fold-Order (Judged ℕ) (Judged (List Entry)) (Judged ℕ) (Judged Column) (Judged (List Column)) (expr_judged schema tests) (tree_judged schema tests) (order_judged schema tests) (output_judged schema tests) (query_judged schema tests)

  abbrev pub Passes : Scope → Expr → Type 0
  Passes scope e = (judged e).passes scope ≡ true

  abbrev pub ExprPasses : Scope → Counts → Counts → Expr → Type 0
  ExprPasses scope a b e = Passes scope e

  abbrev pub TreePasses : Scope → Counts → Counts → Scope → JoinTree → Type 0
  TreePasses outer a b own t = ((judged_tree schema tests t).value outer ≡ own) × ((judged_tree schema tests t).passes outer ≡ true)

  abbrev pub SelectPasses : Scope → Counts → Counts → QueryLayer → Type 0
  SelectPasses outer a b level = (judged_query schema tests (roll-Query level)).passes outer ≡ true

  all_pass : (scope : Scope) (es : List Expr) → Each (Passes scope) es → list_all (passes_in scope) (map judged es) ≡ true
  all_pass scope [] each = refl
  all_pass scope (e ∷ es) each = and_from ((judged e).passes scope) (list_all (passes_in scope) (map judged es)) each.0 (all_pass scope es each.1)

  zero_passes : tests.bound 0 ≡ true
  zero_passes = takes.bounds 0 fits_zero

  -- ---- expressions

  abbrev level_of : ExprLayer → ExprLevel
  level_of x = map-Expr Expr JoinTree Order Output Query (Judged ℕ) (Judged (List Entry)) (Judged ℕ) (Judged Column) (Judged (List Column)) judged (judged_tree schema tests) judged_order judged_output (judged_query schema tests) x

  column_passes : (scope : Scope) (rel place : ℕ) (c : Column) → visible_column scope rel place ≡ Some c → fits c.bound ≡ true → Passes scope (expr.Col rel place c.type 0)
  column_passes scope rel place c there small =
      ap (λ (j : Judged ℕ). j.passes scope) (laws.at-Col (Judged ℕ) (Judged (List Entry)) (Judged ℕ) (Judged Column) (Judged (List Column)) (expr_judged schema tests) (tree_judged schema tests) (order_judged schema tests) (output_judged schema tests) (query_judged schema tests) rel place c.type 0)
      ∙ ap (λ x. tests.bound (bound_of_column x) && ((tests.column scope (record { relation = rel; column = place; type = c.type }) && true) && true)) there
      ∙ and_from (tests.bound c.bound) ((tests.column scope (record { relation = rel; column = place; type = c.type }) && true) && true) (takes.bounds c.bound small)
      (ap (λ b. (b && true) && true) (takes.columns scope rel place c there))

  operator_passes : (scope : Scope) (x : ExprLayer) → is_operator x ≡ true → fits (bound_of schema (roll-Expr x) scope) ≡ true → Each (Passes scope) (parts x) → Passes scope (roll-Expr x)
  operator_passes scope x is small each =
      let level = level_of x in
      let rolled = fold-roll-Expr (Judged ℕ) (Judged (List Entry)) (Judged ℕ) (Judged Column) (Judged (List Column)) (expr_judged schema tests) (tree_judged schema tests) (order_judged schema tests) (output_judged schema tests) (query_judged schema tests) x in
      let op = operator_map judged (judged_tree schema tests) judged_order judged_output (judged_query schema tests) x is in
      let bound : judged_bound level scope ≡ bound_of schema (roll-Expr x) scope = ap (λ (j : Judged ℕ). j.value scope) (sym rolled) ∙ ap (λ (f : Scope → ℕ). f scope) (bound_judged schema tests (roll-Expr x)) in
      ap (λ (j : Judged ℕ). j.passes scope) rolled
      ∙ ap (λ n. tests.bound n && (list_all (tests.column scope) (node_column level) && (list_all (tests.placeholder scope) (node_placeholder level) && (list_all (passes_in scope) (parts level) && list_all (passes_in scope) (option_part (sublink_query level)))))) bound
      ∙ ap (λ b. b && (list_all (tests.column scope) (node_column level) && (list_all (tests.placeholder scope) (node_placeholder level) && (list_all (passes_in scope) (parts level) && list_all (passes_in scope) (option_part (sublink_query level)))))) (takes.bounds (bound_of schema (roll-Expr x) scope) small)
      ∙ ap (λ cs. list_all (tests.column scope) cs && (list_all (tests.placeholder scope) (node_placeholder level) && (list_all (passes_in scope) (parts level) && list_all (passes_in scope) (option_part (sublink_query level))))) (no_column level op)
      ∙ ap (λ ps. list_all (tests.placeholder scope) ps && (list_all (passes_in scope) (parts level) && list_all (passes_in scope) (option_part (sublink_query level)))) (no_placeholder level (operator_no_place level op))
      ∙ ap (λ qs. list_all (passes_in scope) (parts level) && list_all (passes_in scope) qs) (no_sublink level op)
      ∙ ap (λ ps. list_all (passes_in scope) ps && true) (parts_map judged (judged_tree schema tests) judged_order judged_output (judged_query schema tests) x)
      ∙ and_from (list_all (passes_in scope) (map judged (parts x))) true (all_pass scope (parts x) each) refl

  exists_passes : (scope : Scope) (sub : ℕ) (level : QueryLayer) → (judged_query schema tests (roll-Query level)).passes scope ≡ true → Passes scope (expr.Exists sub (roll-Query level))
  exists_passes scope sub level h =
      ap (λ (j : Judged ℕ). j.passes scope) (laws.at-Exists (Judged ℕ) (Judged (List Entry)) (Judged ℕ) (Judged Column) (Judged (List Column)) (expr_judged schema tests) (tree_judged schema tests) (order_judged schema tests) (output_judged schema tests) (query_judged schema tests) sub (roll-Query level))
      ∙ and_from (tests.bound 0) ((judged_query schema tests (roll-Query level)).passes scope && true) zero_passes (and_from ((judged_query schema tests (roll-Query level)).passes scope) true h refl)

  among_passes : (scope : Scope) (sub : ℕ) (operand : Expr) (level : QueryLayer) → Passes scope operand → (judged_query schema tests (roll-Query level)).passes scope ≡ true → Passes scope (expr.InSub sub operand (roll-Query level))
  among_passes scope sub operand level p h =
      let x = (judged operand).passes scope in
      let y = (judged_query schema tests (roll-Query level)).passes scope in
      ap (λ (j : Judged ℕ). j.passes scope) (laws.at-InSub (Judged ℕ) (Judged (List Entry)) (Judged ℕ) (Judged Column) (Judged (List Column)) (expr_judged schema tests) (tree_judged schema tests) (order_judged schema tests) (output_judged schema tests) (query_judged schema tests) sub operand (roll-Query level))
      ∙ and_from (tests.bound 0) ((x && true) && (y && true)) zero_passes (and_from (x && true) (y && true) (and_from x true p refl) (and_from y true h refl))

  -- ---- join trees

  base_passes : (outer : Scope) (rel : ℕ) (name : List ℕ) (place : ℕ) (columns : List Column) (a b : Counts) → has_distinct_numbers outer ≡ true → slice_get schema place ≡ Some columns → TreePasses outer a b (record { relation = rel; columns = columns } ∷ []) (tree.Base rel name place)
  base_passes outer rel name place columns a b apart there = (
    ap (λ (j : Judged (List Entry)). j.value outer) (laws.at-Base (Judged ℕ) (Judged (List Entry)) (Judged ℕ) (Judged Column) (Judged (List Column)) (expr_judged schema tests) (tree_judged schema tests) (order_judged schema tests) (output_judged schema tests) (query_judged schema tests) rel name place) ∙ ap (λ o. record { relation = rel; columns = columns_of_table o } ∷ []) there,
    ap (λ (j : Judged (List Entry)). j.passes outer) (laws.at-Base (Judged ℕ) (Judged (List Entry)) (Judged ℕ) (Judged Column) (Judged (List Column)) (expr_judged schema tests) (tree_judged schema tests) (order_judged schema tests) (output_judged schema tests) (query_judged schema tests) rel name place) ∙ ap (λ v. v && true) (takes.scopes outer apart),
  )

  sub_passes : (outer : Scope) (rel : ℕ) (name : List ℕ) (level : QueryLayer) (a b : Counts) → has_distinct_numbers outer ≡ true → (judged_query schema tests (roll-Query level)).passes outer ≡ true
      → TreePasses outer a b (record { relation = rel; columns = columns_of_query schema (roll-Query level) outer } ∷ []) (tree.Sub rel name (roll-Query level))
  sub_passes outer rel name level a b apart h = (
    ap (λ (j : Judged (List Entry)). j.value outer) (laws.at-Sub (Judged ℕ) (Judged (List Entry)) (Judged ℕ) (Judged Column) (Judged (List Column)) (expr_judged schema tests) (tree_judged schema tests) (order_judged schema tests) (output_judged schema tests) (query_judged schema tests) rel name (roll-Query level)) ∙ ap (λ (f : Scope → List Column). record { relation = rel; columns = f outer } ∷ []) (columns_judged schema tests (roll-Query level)),
    ap (λ (j : Judged (List Entry)). j.passes outer) (laws.at-Sub (Judged ℕ) (Judged (List Entry)) (Judged ℕ) (Judged Column) (Judged (List Column)) (expr_judged schema tests) (tree_judged schema tests) (order_judged schema tests) (output_judged schema tests) (query_judged schema tests) rel name (roll-Query level)) ∙ and_from (tests.scope outer) ((judged_query schema tests (roll-Query level)).passes outer && true) (takes.scopes outer apart) (and_from ((judged_query schema tests (roll-Query level)).passes outer) true h refl),
  )

  joined_passes : (outer : Scope) (a m n b : Counts) (kind : JoinWord) (l r : Scope) (left right : JoinTree) (on : List Expr) → has_distinct_numbers ((l ++ r) ++ outer) ≡ true → TreePasses outer a m l left → TreePasses outer m n r right → Each (Passes ((l ++ r) ++ outer)) on → TreePasses outer a b (l ++ r) (tree.Join (kind_of kind) left right on)
  joined_passes outer a m n b kind l r left right on apart p q each =
      let x = judged_tree schema tests left in
      let y = judged_tree schema tests right in
      let rolled = laws.at-Join (Judged ℕ) (Judged (List Entry)) (Judged ℕ) (Judged Column) (Judged (List Column)) (expr_judged schema tests) (tree_judged schema tests) (order_judged schema tests) (output_judged schema tests) (query_judged schema tests) (kind_of kind) left right on in
      let both : x.value outer ++ y.value outer ≡ l ++ r = ap₂ (λ xs ys. xs ++ ys) p.0 q.0 in
      let seen : all_entries (x ∷ y ∷ []) outer ++ outer ≡ (l ++ r) ++ outer = ap (λ ys. (x.value outer ++ ys) ++ outer) (append-nil (y.value outer)) ∙ ap (λ xs. xs ++ outer) both in
      let conds = map judged on in (
        ap (λ (j : Judged (List Entry)). j.value outer) rolled ∙ sides_of kind (x.value outer) (y.value outer) ∙ both,
        ap (λ (j : Judged (List Entry)). j.passes outer) rolled
            ∙ ap (λ s. tests.scope s && (list_all (passes_in s) conds && (list_all (passes_in outer) (x ∷ y ∷ []) && true))) seen
            ∙ and_from (tests.scope ((l ++ r) ++ outer)) (list_all (passes_in ((l ++ r) ++ outer)) conds && (list_all (passes_in outer) (x ∷ y ∷ []) && true)) (takes.scopes ((l ++ r) ++ outer) apart)
            (and_from (list_all (passes_in ((l ++ r) ++ outer)) conds) (list_all (passes_in outer) (x ∷ y ∷ []) && true) (all_pass ((l ++ r) ++ outer) on each)
            (and_from (list_all (passes_in outer) (x ∷ y ∷ [])) true (and_from (x.passes outer) (y.passes outer && true) p.1 (and_from (y.passes outer) true q.1 refl)) refl)),
      )

  -- ---- selects

  trees_seen : (outer : Scope) (a b : Counts) (own : Scope) (ts : List JoinTree) → TreesAlong (TreePasses outer) a b own ts → (all_entries (map (judged_tree schema tests) ts) outer ≡ own) × (flat_map (in_scope outer) (map (λ t. (judged_tree schema tests t).value) ts) ≡ own) × (list_all (passes_in outer) (map (judged_tree schema tests) ts) ≡ true)
  trees_seen outer a b own [] along = (sym along.0, sym along.0, refl)
  trees_seen outer a b own (t ∷ ts) along =
      let rest = trees_seen outer along.0 b along.2 ts along.5 in
      let j = judged_tree schema tests t in
      (ap₂ (λ xs ys. xs ++ ys) along.4.0 rest.0 ∙ sym along.3, ap₂ (λ xs ys. xs ++ ys) along.4.0 rest.1 ∙ sym along.3, and_from (j.passes outer) (list_all (passes_in outer) (map (judged_tree schema tests) ts)) along.4.1 rest.2)

  values_map : (ts : List JoinTree) → map (λ (j : Judged (List Entry)). j.value) (map (judged_tree schema tests) ts) ≡ map (λ t. (judged_tree schema tests t).value) ts
  values_map [] = refl
  values_map (t ∷ ts) = ap (λ fs. (judged_tree schema tests t).value ∷ fs) (values_map ts)

  from_passes : (outer own : Scope) (a b : Counts) (members : List JoinTree) → has_distinct_numbers (own ++ outer) ≡ true → TreesAlong (TreePasses outer) a b own members → TreePasses outer a b own (tree.From members [])
  from_passes outer own a b members apart along =
      let seen = trees_seen outer a b own members along in
      let js = map (judged_tree schema tests) members in (
        ap (λ (j : Judged (List Entry)). j.value outer) (laws.at-From (Judged ℕ) (Judged (List Entry)) (Judged ℕ) (Judged Column) (Judged (List Column)) (expr_judged schema tests) (tree_judged schema tests) (order_judged schema tests) (output_judged schema tests) (query_judged schema tests) members []) ∙ ap (flat_map (in_scope outer)) (values_map members) ∙ seen.1,
        ap (λ (j : Judged (List Entry)). j.passes outer) (laws.at-From (Judged ℕ) (Judged (List Entry)) (Judged ℕ) (Judged Column) (Judged (List Column)) (expr_judged schema tests) (tree_judged schema tests) (order_judged schema tests) (output_judged schema tests) (query_judged schema tests) members [])
            ∙ ap (λ s. tests.scope (s ++ outer) && (true && (list_all (passes_in outer) js && true))) seen.0
            ∙ and_from (tests.scope (own ++ outer)) (list_all (passes_in outer) js && true) (takes.scopes (own ++ outer) apart) (and_from (list_all (passes_in outer) js) true seen.2 refl),
      )

  outputs_pass : (inner : Scope) (outputs : List Output) → Each (Passes inner) (map expr_of_output outputs) → list_all (passes_in inner) (map judged_output outputs) ≡ true
  outputs_pass inner [] each = refl
  outputs_pass inner (o ∷ outputs) each = and_from ((judged_output o).passes inner) (list_all (passes_in inner) (map judged_output outputs)) (ap (λ (j : Judged Column). j.passes inner) (laws.at-Output (Judged ℕ) (Judged (List Entry)) (Judged ℕ) (Judged Column) (Judged (List Column)) (expr_judged schema tests) (tree_judged schema tests) (order_judged schema tests) (output_judged schema tests) (query_judged schema tests) o) ∙ each.0) (outputs_pass inner outputs each.1)

  orders_pass : (inner : Scope) (orders : List Order) → Each (Passes inner) (map expr_of_order orders) → list_all (passes_in inner) (map judged_order orders) ≡ true
  orders_pass inner [] each = refl
  orders_pass inner (o ∷ orders) each = and_from ((judged_order o).passes inner) (list_all (passes_in inner) (map judged_order orders)) (ap (λ (j : Judged ℕ). j.passes inner) (laws.at-Order (Judged ℕ) (Judged (List Entry)) (Judged ℕ) (Judged Column) (Judged (List Column)) (expr_judged schema tests) (tree_judged schema tests) (order_judged schema tests) (output_judged schema tests) (query_judged schema tests) o) ∙ each.0) (orders_pass inner orders each.1)

  pub select_passes : (outer own : Scope) (a m n b : Counts) (level : QueryLayer) (members : List JoinTree) → level.tree ≡ tree.From members [] → has_distinct_numbers (own ++ outer) ≡ true → Each (Passes (own ++ outer)) (map expr_of_output level.columns) → TreesAlong (TreePasses outer) m n own members → Each (Passes (own ++ outer)) level.conds → Each (Passes (own ++ outer)) (map expr_of_order level.order)
      → SelectPasses outer a b level
  select_passes outer own a m n b level members is apart outputs trees conds orders =
      let from = subst (TreePasses outer m n own) (sym is) (from_passes outer own m n members apart trees) in
      let t = judged_tree schema tests level.tree in
      let inner = own ++ outer in
      let us = map judged_output level.columns in
      let cs = map judged level.conds in
      let os = map judged_order level.order in
      ap (λ (j : Judged (List Column)). j.passes outer) (fold-roll-Query (Judged ℕ) (Judged (List Entry)) (Judged ℕ) (Judged Column) (Judged (List Column)) (expr_judged schema tests) (tree_judged schema tests) (order_judged schema tests) (output_judged schema tests) (query_judged schema tests) level)
      ∙ ap (λ s. t.passes outer && (tests.scope (s ++ outer) && (list_all (passes_in (s ++ outer)) us && (list_all (passes_in (s ++ outer)) cs && list_all (passes_in (s ++ outer)) os)))) from.0
      ∙ and_from (t.passes outer) (tests.scope inner && (list_all (passes_in inner) us && (list_all (passes_in inner) cs && list_all (passes_in inner) os))) from.1
      (and_from (tests.scope inner) (list_all (passes_in inner) us && (list_all (passes_in inner) cs && list_all (passes_in inner) os)) (takes.scopes inner apart)
      (and_from (list_all (passes_in inner) us) (list_all (passes_in inner) cs && list_all (passes_in inner) os) (outputs_pass inner level.columns outputs)
      (and_from (list_all (passes_in inner) cs) (list_all (passes_in inner) os) (all_pass inner level.conds conds) (orders_pass inner level.order orders))))

  pub passing : Steps schema ExprPasses TreePasses SelectPasses
  passing = record {
    at_column = λ scope a b rel place c all there small. column_passes scope rel place c there small;
    at_operator = λ scope a b x is small along. operator_passes scope x is small (along_each (Passes scope) a b (parts x) along);
    at_exists = λ scope a b level h. exists_passes scope (next_sublink a) level h;
    at_among = λ scope a m b operand level p h. among_passes scope (next_sublink a) operand level p h;
    at_base = λ outer a b name place columns all apart there. base_passes outer (next_relation a) name place columns a b apart there;
    at_sub = λ outer a b name level apart h. sub_passes outer (next_relation a) name level a b apart h;
    at_joined = λ outer a m n b kind l r left right on apart p q along. joined_passes outer a m n b kind l r left right on apart p q (along_each (Passes ((l ++ r) ++ outer)) n b on along);
    at_select = λ outer a m n b own level members plain some is apart outputs trees conds.
        select_passes outer own a m n b level members is apart (along_each (Passes (own ++ outer)) a m (map expr_of_output level.columns) outputs) trees (along_each (Passes (own ++ outer)) n b level.conds conds)
        (subst (λ os. Each (Passes (own ++ outer)) (map expr_of_order os)) (sym plain) tt);
  }

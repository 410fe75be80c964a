-- What is asked of an expression's bounds and columns holds in every scope in which the relations that are visible have the
-- same columns.
use Rattle.std.proofs.Common.{◌≡◌, ◌∙◌, ap, ap₂, sym, subst, refl, ℕ, inl, inr, Bool, true, ◌&&◌, List, [], ◌∷◌, ◌++◌, map, Some, None}
use Rattle.std.specs.Prelude.{slice_get, sum}
use Rattle.std.specs.List.{list_all, flat_map}
use Rattle.jp_query.specs.declared.Expr.{Expr}
use Rattle.jp_query.specs.declared.JoinTree.{JoinTree}
use Rattle.jp_query.specs.declared.Order.{Order}
use Rattle.jp_query.specs.declared.Output.{Output}
use Rattle.jp_query.specs.declared.Query.{Query}
use Rattle.jp_query.specs.declared.Expr.TheOpen.{Expr-F, JoinTree-F}
use Rattle.jp_query.specs.declared.Expr.TheViews.{roll-Expr, roll-JoinTree, roll-Order, roll-Output, roll-Query}
use Rattle.jp_query.specs.declared.Expr.TheFolds.{map-Expr, map-JoinTree, fold-roll-Expr, fold-roll-JoinTree, fold-roll-Order, fold-roll-Output, fold-roll-Query}
use Rattle.jp_query.specs.Conditions.{Judged, Tests, judged_value, passes_in, judged_bound, judged_entries, all_entries, expr_judged, tree_judged, order_judged, output_judged, query_judged, judged_expr, judged_tree, judged_query, knows_columns, keeps_bounds, sees_column, has_type}
use Rattle.jp_query.specs.Layers.{ExprLayer, JoinTreeLayer, OrderLayer, OutputLayer, QueryLayer}
use Rattle.jp_query.specs.Parts.{ColumnRef, node_column, node_placeholder, option_part, arm_parts, term_part, parts, sublink_query, trees, conditions, leaf_query}
use Rattle.jp_query.specs.Scopes.{Column, Schema, Entry, Scope, bound_of_column, visible_columns, in_scope, arm_result, greatest, product, join_entries}
use Rattle.jp_induction.proofs.HandedDown as handed
use Rattle.jp_laws.proofs.EachPart.{Each, each_true, parts_map, sublink_map, trees_map, conditions_map, leaf_map}
use Rattle.jp_laws.proofs.JudgedLaws.{judged_order_by, judged_output_by}
use Rattle.jp_laws.proofs.JudgedValues.{entries_judged}
use Rattle.jp_laws.proofs.TuplesFit.{InEntries, in_either}
use Rattle.jp_folding.proofs.FineDown.{entries_in, entries_beside, inside, above}
use Rattle.jp_conditions.proofs.Judging.{own_columns}
use Rattle.jp_prepared.proofs.Down.{judged_down}
use Rattle.jp_prepared.proofs.Entries.{in_or_not, seen_behind, seen_front}
use Rattle.jp_prepared.proofs.OuterParts.{column_entry}

-- what is visible in the one scope has the same columns in the other
abbrev pub Agree : Scope → Scope → Type 0
Agree s o = (rel : ℕ) → InEntries s rel → visible_columns o rel ≡ visible_columns s rel

agree_more : (es s o : Scope) → Agree s o → Agree (es ++ s) (es ++ o)
agree_more es s o agree rel h = elim (in_or_not es rel) [
  | inl there ↦ seen_front es o rel there ∙ sym (seen_front es s rel there)
  | inr none ↦ seen_behind es o rel none ∙ agree rel (elim (in_either es s rel h) [ inl k ↦ absurd (none k) | inr k ↦ k ]) ∙ sym (seen_behind es s rel none)
]

module _ {A : Type 0} where
  abbrev pub Same : Scope → Scope → Judged A → Type 0
  Same s o j = (j.value o ≡ j.value s) × (j.passes o ≡ j.passes s)

  module _ {B : Type 0} (f : B → Judged A) (s o : Scope) where
    values_same : (xs : List B) → Each (λ x. Same s o (f x)) xs → map (in_scope o) (map judged_value (map f xs)) ≡ map (in_scope s) (map judged_value (map f xs))
    values_same [] h = refl
    values_same (x ∷ xs) h = ap₂ ◌∷◌ h.0.0 (values_same xs h.1)

    passes_same : (xs : List B) → Each (λ x. Same s o (f x)) xs → list_all (passes_in o) (map f xs) ≡ list_all (passes_in s) (map f xs)
    passes_same [] h = refl
    passes_same (x ∷ xs) h = λ i. h.0.1 i && passes_same xs h.1 i

-- tests that look at no more of a scope than the columns that it shows
pub record LooksAtColumns (tests : Tests) : Type 0 where
  pub column : (s o : Scope) (c : ColumnRef) → visible_columns o c.relation ≡ visible_columns s c.relation → tests.column o c ≡ tests.column s c
  pub placeholder : (s o : Scope) (rels : ℕ) → tests.placeholder o rels ≡ tests.placeholder s rels
  pub scope : (s o : Scope) → tests.scope o ≡ tests.scope s

pub bounds_look : LooksAtColumns keeps_bounds
bounds_look = record { column = λ s o c same. refl; placeholder = λ s o rels. refl; scope = λ s o. refl }

pub columns_look : LooksAtColumns knows_columns
columns_look = record { column = λ s o c same. ap (λ (cs : List Column). has_type (slice_get cs c.column) c.type) same; placeholder = λ s o rels. refl; scope = λ s o. refl }

module _ (schema : Schema) (tests : Tests) (looks : LooksAtColumns tests) where
  abbrev je : Expr → Judged ℕ
  je = judged_expr schema tests

  abbrev jt : JoinTree → Judged (List Entry)
  jt = judged_tree schema tests

  abbrev jo : Order → Judged ℕ
  jo = judged_order_by schema tests

  abbrev ju : Output → Judged Column
  ju = judged_output_by schema tests

  abbrev jq : Query → Judged (List Column)
  jq = judged_query schema tests

  abbrev PE : Scope → Expr → Type 0
  PE s x = (o : Scope) → Agree s o → Same s o (je x)

  abbrev PT : Scope → JoinTree → Type 0
  PT s x = (o : Scope) → Agree s o → Same s o (jt x)

  abbrev PO : Scope → Order → Type 0
  PO s x = (o : Scope) → Agree s o → Same s o (jo x)

  abbrev PU : Scope → Output → Type 0
  PU s x = (o : Scope) → Agree s o → Same s o (ju x)

  abbrev PQ : Scope → Query → Type 0
  PQ s x = (o : Scope) → Agree s o → Same s o (jq x)

  at_scope : {X : Type 0} (P : Scope → Scope → X → Type 0) (s o : Scope) (agree : Agree s o) (xs : List X) → Each (λ x. (o : Scope) → Agree s o → P s o x) xs → Each (P s o) xs
  at_scope P s o agree [] h = tt
  at_scope P s o agree (x ∷ xs) h = (h.0 o agree, at_scope P s o agree xs h.1)

  -- ---- expressions

  abbrev expr_level : ExprLayer → Expr-F (Judged ℕ) (Judged (List Entry)) (Judged ℕ) (Judged Column) (Judged (List Column))
  expr_level = map-Expr Expr JoinTree Order Output Query (Judged ℕ) (Judged (List Entry)) (Judged ℕ) (Judged Column) (Judged (List Column)) je jt jo ju jq

  module _ (s o : Scope) where
    abbrev ESame : Expr → Type 0
    ESame e = Same s o (je e)

    summed : (ts : List (Bool × Expr)) → Each ESame (map term_part ts) → map (in_scope o) (map term_part (map (λ (t : Bool × Judged ℕ). (t.0, judged_value t.1)) (map (λ (t : Bool × Expr). (t.0, je t.1)) ts))) ≡ map (in_scope s) (map term_part (map (λ (t : Bool × Judged ℕ). (t.0, judged_value t.1)) (map (λ (t : Bool × Expr). (t.0, je t.1)) ts)))
    summed [] k = refl
    summed (t ∷ ts) k = ap₂ ◌∷◌ k.0.0 (summed ts k.1)

    cases : (arms : List (Expr × Expr)) (last : List Expr) → Each ESame (arm_parts arms ++ last) → map (in_scope o) (map arm_result (map (λ (a : Judged ℕ × Judged ℕ). (judged_value a.0, judged_value a.1)) (map (λ (a : Expr × Expr). (je a.0, je a.1)) arms)) ++ map judged_value (map je last)) ≡ map (in_scope s) (map arm_result (map (λ (a : Judged ℕ × Judged ℕ). (judged_value a.0, judged_value a.1)) (map (λ (a : Expr × Expr). (je a.0, je a.1)) arms)) ++ map judged_value (map je last))
    cases [] last k = values_same je s o last k
    cases (a ∷ arms) last k = ap₂ ◌∷◌ k.1.0.0 (cases arms last k.1.1)

    -- what a level itself looks at
    abbrev ColumnSame : ExprLayer → Type 0
    ColumnSame (Expr-F.Col rel col ty nulled) = visible_columns o rel ≡ visible_columns s rel
    ColumnSame x = Unit {0}

    bound_same : (x : ExprLayer) → ColumnSame x → Each ESame (parts x) → judged_bound (expr_level x) o ≡ judged_bound (expr_level x) s
    bound_same (Expr-F.Col rel col ty nulled) own h = ap (λ (cs : List Column). bound_of_column (slice_get cs col)) own
    bound_same (Expr-F.Place inner rels) own h = h.0.0
    bound_same (Expr-F.Neg operand) own h = h.0.0
    bound_same (Expr-F.Sum terms) own h = ap sum (summed terms h)
    bound_same (Expr-F.Product factors) own h = ap product (values_same je s o factors h)
    bound_same (Expr-F.Coalesce members) own h = ap greatest (values_same je s o members h)
    bound_same (Expr-F.Case None arms None) own h = ap greatest (cases arms [] h)
    bound_same (Expr-F.Case None arms (Some last)) own h = ap greatest (cases arms (last ∷ []) h)
    bound_same (Expr-F.Case (Some first) arms None) own h = ap greatest (cases arms [] h.1)
    bound_same (Expr-F.Case (Some first) arms (Some last)) own h = ap greatest (cases arms (last ∷ []) h.1)
    bound_same x own h = refl

    columns_same : (x : ExprLayer) → ColumnSame x → list_all (tests.column o) (node_column (expr_level x)) ≡ list_all (tests.column s) (node_column (expr_level x))
    columns_same (Expr-F.Col rel col ty nulled) own = ap (λ (b : Bool). b && true) (looks.column s o (record { relation = rel; column = col; type = ty }) own)
    columns_same x own = refl

    placeholders_same : (sets : List ℕ) → list_all (tests.placeholder o) sets ≡ list_all (tests.placeholder s) sets
    placeholders_same [] = refl
    placeholders_same (rels ∷ sets) = λ i. looks.placeholder s o rels i && placeholders_same sets i

  column_same : (s o : Scope) (x : ExprLayer) → (judged_expr schema knows_columns (roll-Expr x)).passes s ≡ true → Agree s o → ColumnSame s o x
  column_same s o (Expr-F.Col rel col ty nulled) c agree =
      agree rel (column_entry s (record { relation = rel; column = col; type = ty }) (each_true (sees_column s) (record { relation = rel; column = col; type = ty } ∷ []) (own_columns schema knows_columns s (Expr-F.Col rel col ty nulled) c)).0)
  column_same s o x c agree = tt

  expr_step : (s : Scope) (x : ExprLayer) → (judged_expr schema knows_columns (roll-Expr x)).passes s ≡ true → Each (PE s) (parts x) → Each (PQ s) (option_part (sublink_query x)) → PE s (roll-Expr x)
  expr_step s x c exprs queries o agree =
      let y = expr_level x in
      let es = at_scope (λ a b e. Same a b (je e)) s o agree (parts x) exprs in
      let qs = at_scope (λ a b q. Same a b (jq q)) s o agree (option_part (sublink_query x)) queries in
      let bound = bound_same s o x (column_same s o x c agree) es in
      let columns = columns_same s o x (column_same s o x c agree) in
      let placeholders = placeholders_same s o (node_placeholder y) in
      let inner = ap (list_all (passes_in o)) (parts_map je jt jo ju jq x) ∙ passes_same je s o (parts x) es ∙ sym (ap (list_all (passes_in s)) (parts_map je jt jo ju jq x)) in
      let subs = ap (list_all (passes_in o)) (sublink_map je jt jo ju jq x) ∙ passes_same jq s o (option_part (sublink_query x)) qs ∙ sym (ap (list_all (passes_in s)) (sublink_map je jt jo ju jq x)) in
      subst (Same s o) (sym (fold-roll-Expr (Judged ℕ) (Judged (List Entry)) (Judged ℕ) (Judged Column) (Judged (List Column)) (expr_judged schema tests) (tree_judged schema tests) (order_judged schema tests) (output_judged schema tests) (query_judged schema tests) x))
      (bound, λ i. tests.bound (bound i) && (columns i && (placeholders i && (inner i && subs i))))

  -- ---- trees

  abbrev tree_level : JoinTreeLayer → JoinTree-F (Judged ℕ) (Judged (List Entry)) (Judged ℕ) (Judged Column) (Judged (List Column))
  tree_level = map-JoinTree Expr JoinTree Order Output Query (Judged ℕ) (Judged (List Entry)) (Judged ℕ) (Judged Column) (Judged (List Column)) je jt jo ju jq

  entries_here : (s : Scope) (ts : List JoinTree) → all_entries (map jt ts) s ≡ entries_beside schema s ts
  entries_here s [] = refl
  entries_here s (t ∷ ts) = λ i. entries_judged schema tests t i s ++ entries_here s ts i

  module _ (s o : Scope) where
    all_same : (ts : List JoinTree) → Each (λ t. Same s o (jt t)) ts → all_entries (map jt ts) o ≡ all_entries (map jt ts) s
    all_same [] h = refl
    all_same (t ∷ ts) h = ap₂ ◌++◌ h.0.0 (all_same ts h.1)

    flat_same : (ts : List JoinTree) → Each (λ t. Same s o (jt t)) ts → flat_map (in_scope o) (map judged_value (map jt ts)) ≡ flat_map (in_scope s) (map judged_value (map jt ts))
    flat_same [] h = refl
    flat_same (t ∷ ts) h = ap₂ ◌++◌ h.0.0 (flat_same ts h.1)

    tree_value_same : (x : JoinTreeLayer) → Each (λ t. Same s o (jt t)) (trees x) → Each (λ q. Same s o (jq q)) (option_part (leaf_query x)) → judged_entries schema (tree_level x) o ≡ judged_entries schema (tree_level x) s
    tree_value_same (JoinTree-F.Base rel name table) sides inner = refl
    tree_value_same (JoinTree-F.Sub rel name query) sides inner = ap (λ (cs : List Column). record { relation = rel; columns = cs } ∷ []) inner.0.0
    tree_value_same (JoinTree-F.Join kind left right on) sides inner = ap₂ (join_entries kind) sides.0.0 sides.1.0.0
    tree_value_same (JoinTree-F.From members conds) sides inner = flat_same members sides

  tree_step : (s : Scope) (x : JoinTreeLayer) → (judged_tree schema knows_columns (roll-JoinTree x)).passes s ≡ true → Each (PT s) (trees x) → Each (PE (inside schema s x)) (conditions x) → Each (PQ s) (option_part (leaf_query x)) → PT s (roll-JoinTree x)
  tree_step s x c sides conds queries o agree =
      let y = tree_level x in
      let es = entries_beside schema s (trees x) in
      let ts = at_scope (λ a b t. Same a b (jt t)) s o agree (trees x) sides in
      let qs = at_scope (λ a b q. Same a b (jq q)) s o agree (option_part (leaf_query x)) queries in
      let cs = at_scope (λ a b e. Same a b (je e)) (es ++ s) (es ++ o) (agree_more es s o agree) (conditions x) conds in
      let here = ap (λ l. all_entries l s) (trees_map je jt jo ju jq x) ∙ entries_here s (trees x) in
      let there = ap (λ l. all_entries l o) (trees_map je jt jo ju jq x) ∙ all_same s o (trees x) ts ∙ entries_here s (trees x) in
      let inner : list_all (passes_in (all_entries (trees y) o ++ o)) (conditions y) ≡ list_all (passes_in (all_entries (trees y) s ++ s)) (conditions y) =
      ap (λ l. list_all (passes_in (l ++ o)) (conditions y)) there ∙ ap (list_all (passes_in (es ++ o))) (conditions_map je jt jo ju jq x) ∙ passes_same je (es ++ s) (es ++ o) (conditions x) cs
      ∙ sym (ap (list_all (passes_in (es ++ s))) (conditions_map je jt jo ju jq x)) ∙ sym (ap (λ l. list_all (passes_in (l ++ s)) (conditions y)) here) in
      let sided = ap (list_all (passes_in o)) (trees_map je jt jo ju jq x) ∙ passes_same jt s o (trees x) ts ∙ sym (ap (list_all (passes_in s)) (trees_map je jt jo ju jq x)) in
      let leaf = ap (list_all (passes_in o)) (leaf_map je jt jo ju jq x) ∙ passes_same jq s o (option_part (leaf_query x)) qs ∙ sym (ap (list_all (passes_in s)) (leaf_map je jt jo ju jq x)) in
      subst (Same s o) (sym (fold-roll-JoinTree (Judged ℕ) (Judged (List Entry)) (Judged ℕ) (Judged Column) (Judged (List Column)) (expr_judged schema tests) (tree_judged schema tests) (order_judged schema tests) (output_judged schema tests) (query_judged schema tests) x))
      (tree_value_same s o x ts qs, λ i. looks.scope (all_entries (trees y) s ++ s) (all_entries (trees y) o ++ o) i && (inner i && (sided i && leaf i)))

  -- ---- ORDER BY items, outputs, queries

  order_step : (s : Scope) (x : OrderLayer) → (judged_order_by schema knows_columns (roll-Order x)).passes s ≡ true → PE s x.expr → PO s (roll-Order x)
  order_step s x c h o agree = subst (Same s o) (sym (fold-roll-Order (Judged ℕ) (Judged (List Entry)) (Judged ℕ) (Judged Column) (Judged (List Column)) (expr_judged schema tests) (tree_judged schema tests) (order_judged schema tests) (output_judged schema tests) (query_judged schema tests) x)) (h o agree)

  output_step : (s : Scope) (x : OutputLayer) → (judged_output_by schema knows_columns (roll-Output x)).passes s ≡ true → PE s x.expr → PU s (roll-Output x)
  output_step s x c h o agree =
      let k = h o agree in
      subst (Same s o) (sym (fold-roll-Output (Judged ℕ) (Judged (List Entry)) (Judged ℕ) (Judged Column) (Judged (List Column)) (expr_judged schema tests) (tree_judged schema tests) (order_judged schema tests) (output_judged schema tests) (query_judged schema tests) x))
      (ap (λ n. record { type = x.ty; bound = n }) k.0, k.1)

  query_step : (s : Scope) (q : QueryLayer) → (judged_query schema knows_columns (roll-Query q)).passes s ≡ true → Each (PU (above schema s q)) q.columns → PT s q.tree → Each (PE (above schema s q)) q.conds → Each (PO (above schema s q)) q.order → PQ s (roll-Query q)
  query_step s q c columns tree conds order o agree =
      let es = entries_in schema s q.tree in
      let t = tree o agree in
      let more = agree_more es s o agree in
      let us = at_scope (λ a b u. Same a b (ju u)) (es ++ s) (es ++ o) more q.columns columns in
      let cs = at_scope (λ a b e. Same a b (je e)) (es ++ s) (es ++ o) more q.conds conds in
      let os = at_scope (λ a b x. Same a b (jo x)) (es ++ s) (es ++ o) more q.order order in
      let here : (jt q.tree).value s ≡ es = ap (λ (f : Scope → List Entry). f s) (entries_judged schema tests q.tree) in
      let there : (jt q.tree).value o ≡ es = t.0 ∙ here in
      let values : map (λ (u : Judged Column). u.value ((jt q.tree).value o ++ o)) (map ju q.columns) ≡ map (λ (u : Judged Column). u.value ((jt q.tree).value s ++ s)) (map ju q.columns) =
      ap (λ (l : List Entry). map (λ (u : Judged Column). u.value (l ++ o)) (map ju q.columns)) there ∙ each_value (es ++ s) (es ++ o) q.columns us ∙ sym (ap (λ (l : List Entry). map (λ (u : Judged Column). u.value (l ++ s)) (map ju q.columns)) here) in
      let column = ap (λ (l : List Entry). list_all (passes_in (l ++ o)) (map ju q.columns)) there ∙ passes_same ju (es ++ s) (es ++ o) q.columns us ∙ sym (ap (λ (l : List Entry). list_all (passes_in (l ++ s)) (map ju q.columns)) here) in
      let cond = ap (λ (l : List Entry). list_all (passes_in (l ++ o)) (map je q.conds)) there ∙ passes_same je (es ++ s) (es ++ o) q.conds cs ∙ sym (ap (λ (l : List Entry). list_all (passes_in (l ++ s)) (map je q.conds)) here) in
      let item = ap (λ (l : List Entry). list_all (passes_in (l ++ o)) (map jo q.order)) there ∙ passes_same jo (es ++ s) (es ++ o) q.order os ∙ sym (ap (λ (l : List Entry). list_all (passes_in (l ++ s)) (map jo q.order)) here) in
      subst (Same s o) (sym (fold-roll-Query (Judged ℕ) (Judged (List Entry)) (Judged ℕ) (Judged Column) (Judged (List Column)) (expr_judged schema tests) (tree_judged schema tests) (order_judged schema tests) (output_judged schema tests) (query_judged schema tests) q))
      (values, λ i. t.1 i && (looks.scope ((jt q.tree).value s ++ s) ((jt q.tree).value o ++ o) i && (column i && (cond i && item i))))
    where
      each_value : (a b : Scope) (us : List Output) → Each (λ u. Same a b (ju u)) us → map (λ (u : Judged Column). u.value b) (map ju us) ≡ map (λ (u : Judged Column). u.value a) (map ju us)
      each_value a b [] h = refl
      each_value a b (u ∷ us) h = ap₂ ◌∷◌ h.0.0 (each_value a b us h.1)

  steps : handed.StepsUnder Scope (inside schema) (above schema) (λ s x. (judged_expr schema knows_columns x).passes s ≡ true) (λ s x. (judged_tree schema knows_columns x).passes s ≡ true) (λ s x. (judged_order_by schema knows_columns x).passes s ≡ true) (λ s x. (judged_output_by schema knows_columns x).passes s ≡ true) (λ s x. (judged_query schema knows_columns x).passes s ≡ true) (judged_down schema knows_columns) PE PT PO PU PQ
  steps = record { expr = expr_step; tree = tree_step; order = order_step; output = output_step; query = query_step }

  pub expr_same : (s o : Scope) (e : Expr) → (judged_expr schema knows_columns e).passes s ≡ true → Agree s o → Same s o (judged_expr schema tests e)
  expr_same s o e c agree = handed.under_expr Scope (inside schema) (above schema) (λ s x. (judged_expr schema knows_columns x).passes s ≡ true) (λ s x. (judged_tree schema knows_columns x).passes s ≡ true) (λ s x. (judged_order_by schema knows_columns x).passes s ≡ true) (λ s x. (judged_output_by schema knows_columns x).passes s ≡ true) (λ s x. (judged_query schema knows_columns x).passes s ≡ true) (judged_down schema knows_columns) PE PT PO PU PQ steps e s c o agree

  pub query_same : (s o : Scope) (q : Query) → (judged_query schema knows_columns q).passes s ≡ true → Agree s o → Same s o (judged_query schema tests q)
  query_same s o q c agree = handed.under_query Scope (inside schema) (above schema) (λ s x. (judged_expr schema knows_columns x).passes s ≡ true) (λ s x. (judged_tree schema knows_columns x).passes s ≡ true) (λ s x. (judged_order_by schema knows_columns x).passes s ≡ true) (λ s x. (judged_output_by schema knows_columns x).passes s ≡ true) (λ s x. (judged_query schema knows_columns x).passes s ≡ true) (judged_down schema knows_columns) PE PT PO PU PQ steps q s c o agree

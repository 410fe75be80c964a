-- The query that a statement stands for is fresh, and under DISTINCT it sorts by its outputs.
use Rattle.std.proofs.Common.{◌≡◌, ap, ap₂, sym, subst, refl, ℕ, suc, ◌<◌, ◌≤◌, ◌⊎◌, inl, inr, true, List, [], ◌∷◌, ◌++◌, map, Ok, arith}
use Rattle.std.specs.Prelude.{All, Contains}
use Rattle.std.specs.List.{list_any}
use Rattle.std.proofs.lemmas.Bool.{false≢true, or_cases}
use Rattle.jp_catalog.specs.declared.types.Catalog.{Catalog}
use Rattle.jp_ast.specs.declared.tree.Stmt.{Stmt}
use Rattle.jp_statements.specs.Whole.{is_whole}
use Rattle.jp_query.specs.declared.Expr.{Expr}
use Rattle.jp_query.specs.declared.Order.{Order}
use Rattle.jp_query.specs.declared.Output.{Output}
use Rattle.jp_query.specs.declared.Query.{Query, out-roll-Query}
use Rattle.jp_query.specs.Equality.{same_expr}
use Rattle.jp_query.specs.Freshness.{Sublink, Occurrence, Found, IsFresh, sublinks_in, occurrences_in, may_stand, each_pair, from_parts}
use Rattle.jp_query.specs.Layers.{QueryLayer}
use Rattle.jp_query.specs.Parts.{all_in, nothing_of_node, nothing_of_leaf, leaf_number, node_placeholder, leaves_in, placeholders_in_query}
use Rattle.jp_query.specs.Scopes.{Scope, Schema}
use Rattle.jp_query.specs.Subexpressions.{sublinks_of}
use Rattle.jp_induction.proofs.EachPart.{Each, all_of_each, each_append, each_weaker}
use Rattle.jp_facts.proofs.Members.{In, to_in, from_in, in_append_left, in_append_right, from_append}
use Rattle.jp_laws.proofs.EqualityLaws.{same_are_equal}
use Rattle.jp_resolution.specs.declared.words.Selection.{Selection}
use Rattle.jp_resolution.specs.Counting.{none}
use Rattle.jp_resolution.specs.Ordering.{has_expr}
use Rattle.jp_resolution.specs.Resolving.{query_of, resolved}
use Rattle.jp_resolution.specs.Schemas.{schema_of}
use Rattle.jp_resolved.specs.Sorted.{expr_of_output, expr_of_order, SortsBySelected}
use Rattle.jp_resolved.proofs.Made.{exprs_have, trees_have}
use Rattle.jp_resolved.proofs.Seen.{seen_all}
use Rattle.jp_resolved.proofs.Rising.{Rising, rising_append, rising_between, rising_within, rising_wider, rising_same, in_between}
use Rattle.jp_resolved.proofs.Selections.{level_of}
use Rattle.jp_resolved.proofs.Tops.{IsTop, IsChosen, top}
use Rattle.jp_resolved.proofs.Members.{each_from, in_all}
use Rattle.jp_resolved.proofs.Wholes.{orders_have}
use Rattle.jp_resolved.proofs.Gathering as gather
use Rattle.jp_resolved.proofs.Finding as find
use Rattle.jp_resolved.proofs.Standing as stand
use Rattle.jp_resolved.proofs.Paced as pace
use Rattle.jp_resolved.proofs.Placed.{IsPart, all_placed}
use Rattle.jp_resolved.proofs.TypedTops.{low_between, IsLow, Numbers, leaf_sources, gathers}
use Rattle.jp_resolved.proofs.Operands.{no_placeholder}

-- ---- no placeholder

abbrev None_of : ℕ → ℕ → List ℕ → Type 0
None_of a b xs = xs ≡ []

placeholder_sources : (schema : Schema) → gather.Sources ℕ node_placeholder nothing_of_leaf schema None_of
placeholder_sources schema = record {
  nodes = no_placeholder;
  inner = λ x h. refl;
  none = λ n. refl;
  base = λ n name place columns there. refl;
  sub = λ n name query. refl;
  join = λ a m b xs ys p q. ap₂ (λ us vs. us ++ vs) p q;
}

abbrev Never : ℕ → Type 0
Never n = ⊥

never_each : (a b : ℕ) (xs : List ℕ) → b ≤ 12 → None_of a b xs → Each Never xs
never_each a b xs low h = subst (Each Never) (sym h) tt

nothing : (xs : List ℕ) → Each Never xs → xs ≡ []
nothing [] each = refl
nothing (x ∷ xs) each = absurd each.0

-- ---- leaves

abbrev IsFree : ℕ → Type 0
IsFree n = ¬ ((32 ≤ n) × (n ≤ 46))

low_free : (n : ℕ) → IsLow n → IsFree n
low_free n low h = omega (arith, low, h.0)

module _ (catalog : Catalog) (s : Selection) (items : List Order) (t : IsTop catalog s items) where
  abbrev schema : Schema
  schema = schema_of catalog

  abbrev scope : Scope
  scope = seen_all s.entries ++ []

  abbrev outs : List Expr
  outs = map expr_of_output s.outputs

  placeholders : placeholders_in_query (query_of s items) ≡ []
  placeholders = nothing (placeholders_in_query (query_of s items)) (gathers catalog s items t ℕ node_placeholder nothing_of_leaf None_of (placeholder_sources schema) Never never_each)

  leaves : All IsFree (leaves_in (query_of s items))
  leaves = all_of_each IsFree (leaves_in (query_of s items)) (each_weaker IsLow IsFree low_free (leaves_in (query_of s items)) (gathers catalog s items t ℕ nothing_of_node leaf_number Numbers (leaf_sources schema) IsLow low_between))

  -- ---- sublinks

  abbrev body : Found
  body = find.body_of (level_of s items) t.selection.members

  abbrev fresh_found : Found
  fresh_found = all_in (map sublinks_of t.fresh)

  abbrev known : Found
  known = body ++ fresh_found

  rising : Rising find.sublink_number 1 (suc t.end.sublinks) known
  rising =
      let sel = t.selection in
      let steps = find.finding schema in
      let first = exprs_have schema find.ExprFinds find.TreeFinds find.SelectFinds steps scope none sel.middle outs sel.made_outputs in
      let second = trees_have schema find.ExprFinds find.TreeFinds find.SelectFinds steps [] sel.middle sel.end (seen_all s.entries) sel.members sel.made_trees in
      let third = exprs_have schema find.ExprFinds find.TreeFinds find.SelectFinds steps scope sel.end t.middle s.conds sel.made_conds in
      let fourth = exprs_have schema find.ExprFinds find.TreeFinds find.SelectFinds steps scope t.middle t.end t.fresh t.made in
      rising_append find.sublink_number 1 (suc t.middle.sublinks) (suc t.end.sublinks) body fresh_found
      (find.body_rises [] (seen_all s.entries) none sel.middle sel.end t.middle (level_of s items) sel.members first second third)
      (find.all_along scope t.middle t.end t.fresh fourth)

  -- an expression whose sublinks are known
  abbrev IsKnown : Expr → Type 0
  IsKnown e = (x : Sublink) → In x (sublinks_of e) → In x known

  out_known : (e : Expr) → In e outs → IsKnown e
  out_known e h x p = in_append_left x body fresh_found (in_append_left x (all_in (map sublinks_of outs)) (all_in (map find.of_tree t.selection.members) ++ all_in (map sublinks_of s.conds)) (in_all sublinks_of e outs x h p))

  fresh_known : (e : Expr) → In e t.fresh → IsKnown e
  fresh_known e h x p = in_append_right x body fresh_found (in_all sublinks_of e t.fresh x h p)

  orders_known : Each IsKnown (map expr_of_order items)
  orders_known = orders_have catalog IsKnown s.distinct s.outputs t.fresh items (each_from IsKnown outs out_known) (each_from IsKnown t.fresh fresh_known) t.listed

  in_listed : (es : List Expr) → Each IsKnown es → (x : Sublink) → In x (all_in (map sublinks_of es)) → In x known
  in_listed [] each x h = absurd h
  in_listed (e ∷ es) each x h = elim (from_append x (sublinks_of e) (all_in (map sublinks_of es)) h) [ inl p ↦ each.0 x p | inr q ↦ in_listed es each.1 x q ]

  all_known : (x : Sublink) → In x (sublinks_in (query_of s items)) → In x known
  all_known x h =
      let us = all_in (map sublinks_of outs) in
      let ts = all_in (map find.of_tree t.selection.members) in
      let cs = all_in (map sublinks_of s.conds) in
      let os = all_in (map sublinks_of (map expr_of_order items)) in
      let g = subst (In x) (find.query_is (level_of s items) t.selection.members t.selection.tree_is) h in
      elim (from_append x us (ts ++ (cs ++ os)) g) [
        | inl p ↦ in_append_left x body fresh_found (in_append_left x us (ts ++ cs) p)
        | inr q ↦ elim (from_append x ts (cs ++ os) q) [
          | inl p ↦ in_append_left x body fresh_found (in_append_right x us (ts ++ cs) (in_append_left x ts cs p))
          | inr r ↦ elim (from_append x cs os r) [
            | inl p ↦ in_append_left x body fresh_found (in_append_right x us (ts ++ cs) (in_append_right x ts cs p))
            | inr q ↦ in_listed (map expr_of_order items) orders_known x q
          ]
        ]
      ]

  few_sublinks : t.end.sublinks ≤ 11
  few_sublinks =
      let sel = t.selection in
      let steps = pace.pacing schema in
      let first = exprs_have schema pace.ExprPaced pace.TreePaced pace.SelectPaced steps scope none sel.middle outs sel.made_outputs in
      let second = trees_have schema pace.ExprPaced pace.TreePaced pace.SelectPaced steps [] sel.middle sel.end (seen_all s.entries) sel.members sel.made_trees in
      let third = exprs_have schema pace.ExprPaced pace.TreePaced pace.SelectPaced steps scope sel.end t.middle s.conds sel.made_conds in
      let fourth = exprs_have schema pace.ExprPaced pace.TreePaced pace.SelectPaced steps scope t.middle t.end t.fresh t.made in
      let x : pace.IsBehind none t.middle = pace.select_behind [] (seen_all s.entries) none sel.middle sel.end t.middle outs s.conds sel.members sel.some first second third in
      let y : pace.IsPaced t.middle t.end = pace.exprs_paced scope t.middle t.end t.fresh fourth in
      omega (arith, x, y, t.few)

  abbrev IsNumbered : Sublink → Type 0
  IsNumbered x = (1 ≤ x.number) × (x.number ≤ 15)

  numbered : (x : Sublink) → In x (sublinks_in (query_of s items)) → IsNumbered x
  numbered x h =
      let between = in_between find.sublink_number 1 (suc t.end.sublinks) x known (rising_between find.sublink_number 1 (suc t.end.sublinks) known rising) (all_known x h) in
      (between.0, omega (arith, between.1, few_sublinks))

  equal : (a b : Sublink) → In a known → In b known → a.number ≡ b.number → a.node ≡ b.node
  equal a b p q e = ap (λ (x : Sublink). x.node) (rising_same find.sublink_number 1 (suc t.end.sublinks) known rising a b p q e)

  -- ---- occurrences

  abbrev listed : List Occurrence
  listed = all_in (map stand.of_expr outs)

  abbrev behind : List Occurrence
  behind = all_in (map stand.of_expr t.fresh)

  placed : each_pair may_stand (occurrences_in (query_of s items)) ≡ true
  placed =
      let sel = t.selection in
      let steps = stand.standing schema in
      let first = exprs_have schema stand.ExprStands stand.TreeStands stand.SelectStands steps scope none sel.middle outs sel.made_outputs in
      let second = trees_have schema stand.ExprStands stand.TreeStands stand.SelectStands steps [] sel.middle sel.end (seen_all s.entries) sel.members sel.made_trees in
      let third = exprs_have schema stand.ExprStands stand.TreeStands stand.SelectStands steps scope sel.end t.middle s.conds sel.made_conds in
      let fourth = exprs_have schema stand.ExprStands stand.TreeStands stand.SelectStands steps scope t.middle t.end t.fresh t.made in
      let rest = λ (i : ℕ). stand.rest_rises [] (seen_all s.entries) i sel.middle sel.end t.middle (level_of s items) sel.members sel.tree_is second third in
      let m = suc sel.middle.sublinks in
      let n = suc t.middle.sublinks in
      let b = suc t.end.sublinks in
      let step : m ≤ n = rising_within stand.occurrence_number m n (from_parts 0 (stand.of_tree s.tree ∷ map stand.of_expr s.conds)) (rest 0) in
      let us = stand.all_rise scope none sel.middle outs first in
      let fs = stand.all_rise scope t.middle t.end t.fresh fourth in
      let all = listed ++ behind in
      let rising_all = rising_append stand.occurrence_number 1 n b listed behind (rising_wider stand.occurrence_number 1 m 1 n listed (omega arith) step us) fs in
      let out : (x : Occurrence) → In x all → (x.number < m) ⊎ (n ≤ x.number) = λ x h. elim (from_append x listed behind h) [
        | inl p ↦ inl (in_between stand.occurrence_number 1 m x listed (rising_between stand.occurrence_number 1 m listed us) p).1
        | inr q ↦ inr (in_between stand.occurrence_number n b x behind (rising_between stand.occurrence_number n b behind fs) q).0
      ] in
      let out_parts = stand.parts_of scope none sel.middle outs all (λ e h x p. in_append_left x listed behind (in_all stand.of_expr e outs x h p)) first in
      let fresh_parts = stand.parts_of scope t.middle t.end t.fresh all (λ e h x p. in_append_right x listed behind (in_all stand.of_expr e t.fresh x h p)) fourth in
      let order_parts = orders_have catalog (IsPart b all rising_all) s.distinct s.outputs t.fresh items out_parts fresh_parts t.listed in
      all_placed b all rising_all (level_of s items) m n (each_append (IsPart b all rising_all) outs (map expr_of_order items) out_parts order_parts) out rest

  top_fresh : IsFresh (query_of s items)
  top_fresh = record {
    placeholders = placeholders;
    numbers = all_of_each IsNumbered (sublinks_in (query_of s items)) (each_from IsNumbered (sublinks_in (query_of s items)) numbered);
    leaves = leaves;
    equal = λ a b p q e. equal a b (all_known a (to_in a (sublinks_in (query_of s items)) p)) (all_known b (to_in b (sublinks_in (query_of s items)) q)) e;
    placed = placed;
  }

  -- ---- DISTINCT

  abbrev IsSelected : Expr → Type 0
  IsSelected e = Contains outs e

  is_equal : (e : Expr) (o : Output) → IsKnown (expr_of_output o) → IsKnown e → same_expr e (expr_of_output o) ≡ true → expr_of_output o ≡ e
  is_equal e o p q h =
      sym (same_are_equal e (expr_of_output o) (λ x y a b same. equal x y (q x (to_in x (sublinks_of e) a)) (p y (to_in y (sublinks_of (expr_of_output o)) b)) same) h)

  equals_output : (e : Expr) (os : List Output) → Each IsKnown (map expr_of_output os) → IsKnown e → list_any (has_expr e) os ≡ true → In e (map expr_of_output os)
  equals_output e [] each is h = absurd (false≢true h)
  equals_output e (o ∷ os) each is h = elim (or_cases (has_expr e o) (list_any (has_expr e) os) h) [ inl p ↦ inl (is_equal e o each.0 is p) | inr q ↦ inr (equals_output e os each.1 is q) ]

  chosen_selected : (os : List Order) → Each (IsChosen catalog s.distinct s.outputs) os → Each IsKnown (map expr_of_order os) → Each IsSelected (map expr_of_order os)
  chosen_selected [] each is = tt
  chosen_selected (o ∷ os) each is = (
    from_in (expr_of_order o) outs (elim each.0 [ inl r ↦ r | inr r ↦ equals_output (expr_of_order o) s.outputs (each_from IsKnown outs out_known) is.0 r ]),
    chosen_selected os each.1 is.1,
  )

  abbrev Sorts : QueryLayer → Type 0
  Sorts level = level.distinct ≡ true → All (Contains (map expr_of_output level.columns)) (map expr_of_order level.order)

  top_sorts : SortsBySelected (query_of s items)
  top_sorts = subst Sorts (sym (out-roll-Query (level_of s items))) (λ d. all_of_each IsSelected (map expr_of_order items) (chosen_selected items (t.chosen d) orders_known))

pub query_fresh : (catalog : Catalog) (stmt : Stmt) (q : Query) → is_whole stmt ≡ true → resolved catalog stmt ≡ Ok q → IsFresh q
query_fresh catalog stmt q whole h = let t = top catalog stmt q whole h in subst IsFresh (sym t.2) (top_fresh catalog t.0 t.1 t.3)

pub query_sorts : (catalog : Catalog) (stmt : Stmt) (q : Query) → is_whole stmt ≡ true → resolved catalog stmt ≡ Ok q → SortsBySelected q
query_sorts catalog stmt q whole h = let t = top catalog stmt q whole h in subst SortsBySelected (sym t.2) (top_sorts catalog t.0 t.1 t.3)

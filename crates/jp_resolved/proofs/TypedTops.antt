-- A statement's query is typed and bounded.
use Rattle.std.proofs.Common.{suc, ◌≡◌, ◌∙◌, ap, sym, subst, refl, ℕ, ◌+◌, ◌<◌, ◌≤◌, ◌^◌, Bool, true, false, List, [], ◌∷◌, ◌++◌, length, map, fold, Some, arith}
use Rattle.std.proofs.Math.Nat.{le_refl}
use Rattle.std.specs.Prelude.{bit_or, count_ones, is_some, IsSome}
use Rattle.std.specs.List.{list_all}
use Rattle.std.proofs.Math.Pow.{pow-lt}
use Rattle.std.proofs.lemmas.Bool.{and_from, false≢true}
use Rattle.std.proofs.lemmas.Nat.{or_lt, ones-le}
use Rattle.std.proofs.lemmas.Option.{slice_get_within}
use Rattle.jp_catalog.specs.declared.types.Catalog.{Catalog}
use Rattle.jp_query.specs.declared.Expr.{Expr}
use Rattle.jp_query.specs.declared.Order.{Order}
use Rattle.jp_query.specs.declared.Expr.TheOpen.{Expr-F, JoinTree-F}
use Rattle.jp_query.specs.Conditions.{Tests, knows_columns, knows_placeholders, tells_relations_apart, keeps_bounds, judged_query, has_leaves, has_type}
use Rattle.jp_query.specs.Parts.{all_in, nothing_of_node, base_number, base_table, leaf_number, gathered_in_query}
use Rattle.jp_query.specs.Refs.{only, union}
use Rattle.jp_query.specs.Scopes.{Column, Schema, Scope, visible_column}
use Rattle.jp_query.specs.Typing.{Typed, TypedOutput, TypedQuery, type_of, typed_query, expr_type, tree_typed, order_typed, output_typed, query_typed}
use Rattle.jp_query.proofs.FoldLaws as laws
use Rattle.jp_induction.proofs.EachPart.{Each, each_append, each_in_all, each_in_parts, each_map, each_mapped}
use Rattle.jp_resolution.specs.declared.words.Selection.{Selection}
use Rattle.jp_resolution.specs.Counting.{none}
use Rattle.jp_resolution.specs.Resolving.{query_of}
use Rattle.jp_resolution.specs.Schemas.{schema_of}
use Rattle.jp_resolved.specs.Sorted.{expr_of_output, expr_of_order}
use Rattle.jp_resolved.proofs.Made.{exprs_have, trees_have}
use Rattle.jp_resolved.proofs.Operands.{along_each}
use Rattle.jp_resolved.proofs.Found.{same_self}
use Rattle.jp_resolved.proofs.Seen.{seen_all}
use Rattle.jp_resolved.proofs.Rising.{rising_within, Rising, rising_append}
use Rattle.jp_resolved.proofs.Selections.{level_of, select_typed, typed_order}
use Rattle.jp_resolved.proofs.Tops.{IsTop}
use Rattle.jp_resolved.proofs.Wholes.{orders_have}
use Rattle.jp_resolved.proofs.Passing.{Takes, Passes, ExprPasses, TreePasses, SelectPasses, select_passes, passing}
use Rattle.jp_resolved.proofs.Gathering as gather
use Rattle.jp_resolved.proofs.Rooted.{IsRooted, ExprRooted, TreeRooted, SelectRooted, select_rooted, rooting}

-- ---- the tests

column_known : (scope : Scope) (rel place : ℕ) (c : Column) → visible_column scope rel place ≡ Some c → has_type (visible_column scope rel place) c.type ≡ true
column_known scope rel place c there = ap (λ o. has_type o c.type) there ∙ same_self c.type

pub takes_columns : Takes knows_columns
takes_columns = record { bounds = λ n h. refl; columns = column_known; scopes = λ scope h. refl }

pub takes_placeholders : Takes knows_placeholders
takes_placeholders = record { bounds = λ n h. refl; columns = λ scope rel place c there. refl; scopes = λ scope h. refl }

pub takes_scopes : Takes tells_relations_apart
takes_scopes = record { bounds = λ n h. refl; columns = λ scope rel place c there. refl; scopes = λ scope h. h }

pub takes_bounds : Takes keeps_bounds
takes_bounds = record { bounds = λ n h. h; columns = λ scope rel place c there. refl; scopes = λ scope h. refl }

-- ---- numbers below 12

abbrev pub IsLow : ℕ → Type 0
IsLow n = n < 12

union_low : (set : ℕ) (ns : List ℕ) → set < 2 ^ 12 → Each IsLow ns → fold bit_or set (map only ns) < 2 ^ 12
union_low set [] h each = h
union_low set (n ∷ ns) h each = union_low (bit_or set (only n)) ns (or_lt 12 set (only n) h (pow-lt each.0)) each.1

pub few_numbers : (ns : List ℕ) → Each IsLow ns → count_ones (union (map only ns)) ≤ 16
few_numbers ns each =
    let below : count_ones (union (map only ns)) ≤ 12 = ones-le 12 (union (map only ns)) (union_low 0 ns (omega arith) each) in
    omega (arith, below)

pub low_between : (a b : ℕ) (ns : List ℕ) → b ≤ 12 → Rising (λ n. n) a b ns → Each IsLow ns
low_between a b [] low rising = tt
low_between a b (n ∷ ns) low rising = let end : suc n ≤ b = rising_within (λ n. n) (suc n) b ns rising.1 in (omega (arith, low, end), low_between (suc n) b ns low rising.1)

-- ---- what leaves give

abbrev TreeLevel : Type 0
TreeLevel = JoinTree-F (List ℕ) (List ℕ) (List ℕ) (List ℕ) (List ℕ)

abbrev pub Numbers : ℕ → ℕ → List ℕ → Type 0
Numbers a b ns = Rising (λ n. n) a b ns

one_number : (n : ℕ) → Numbers n (n + 1) (n ∷ [])
one_number n = (omega arith, omega arith)

no_numbers : (n : ℕ) → Numbers n (n + 1) []
no_numbers n = omega arith

inner_leaf : (t : TreeLevel) → gather.is_leaf t ≡ false → leaf_number t ≡ []
inner_leaf (JoinTree-F.Base rel name table) h = absurd (false≢true (sym h))
inner_leaf (JoinTree-F.Sub rel name query) h = absurd (false≢true (sym h))
inner_leaf _ h = refl

inner_base : (t : TreeLevel) → gather.is_leaf t ≡ false → base_number t ≡ []
inner_base (JoinTree-F.Base rel name table) h = absurd (false≢true (sym h))
inner_base _ h = refl

inner_table : (t : TreeLevel) → gather.is_leaf t ≡ false → base_table t ≡ []
inner_table (JoinTree-F.Base rel name table) h = absurd (false≢true (sym h))
inner_table _ h = refl

pub leaf_sources : (schema : Schema) → gather.Sources ℕ nothing_of_node leaf_number schema Numbers
leaf_sources schema = record {
  nodes = λ x h. refl;
  inner = inner_leaf;
  none = le_refl;
  base = λ n name place columns there. one_number n;
  sub = λ n name query. one_number n;
  join = λ a m b xs ys p q. rising_append (λ n. n) a m b xs ys p q;
}

pub base_sources : (schema : Schema) → gather.Sources ℕ nothing_of_node base_number schema Numbers
base_sources schema = record {
  nodes = λ x h. refl;
  inner = inner_base;
  none = le_refl;
  base = λ n name place columns there. one_number n;
  sub = λ n name query. no_numbers n;
  join = λ a m b xs ys p q. rising_append (λ n. n) a m b xs ys p q;
}

abbrev pub IsTable : Schema → ℕ → Type 0
IsTable schema table = table < length schema

abbrev pub Tables : Schema → ℕ → ℕ → List ℕ → Type 0
Tables schema a b xs = Each (IsTable schema) xs

pub table_sources : (schema : Schema) → gather.Sources ℕ nothing_of_node base_table schema (Tables schema)
table_sources schema = record {
  nodes = λ x h. refl;
  inner = inner_table;
  none = λ n. tt;
  base = λ n name place columns there. (slice_get_within schema place columns there, tt);
  sub = λ n name query. tt;
  join = λ a m b xs ys p q. each_append (IsTable schema) xs ys p q;
}

module _ (catalog : Catalog) (s : Selection) (items : List Order) (t : IsTop catalog s items) where
  abbrev schema : Schema
  schema = schema_of catalog

  abbrev scope : Scope
  scope = seen_all s.entries ++ []

  -- ---- judged

  pub judged : (tests : Tests) → Takes tests → (judged_query schema tests (query_of s items)).passes [] ≡ true
  judged tests takes =
      let sel = t.selection in
      let steps = passing schema tests takes in
      let PE = ExprPasses schema tests takes in
      let PT = TreePasses schema tests takes in
      let PQ = SelectPasses schema tests takes in
      let P = Passes schema tests takes scope in
      let us = along_each P none sel.middle (map expr_of_output s.outputs) (exprs_have schema PE PT PQ steps scope none sel.middle (map expr_of_output s.outputs) sel.made_outputs) in
      let fs = along_each P t.middle t.end t.fresh (exprs_have schema PE PT PQ steps scope t.middle t.end t.fresh t.made) in
      select_passes schema tests takes [] (seen_all s.entries) none sel.middle sel.end t.middle (level_of s items) sel.members sel.tree_is sel.apart us
      (trees_have schema PE PT PQ steps [] sel.middle sel.end (seen_all s.entries) sel.members sel.made_trees)
      (along_each P sel.end t.middle s.conds (exprs_have schema PE PT PQ steps scope sel.end t.middle s.conds sel.made_conds))
      (orders_have catalog P s.distinct s.outputs t.fresh items us fs t.listed)

  -- ---- gathered

  module _ (X : Type 0) (of_node : Expr-F (List X) (List X) (List X) (List X) (List X) → List X) (of_leaf : JoinTree-F (List X) (List X) (List X) (List X) (List X) → List X) (Q : ℕ → ℕ → List X → Type 0) (sources : gather.Sources X of_node of_leaf schema Q) (R : X → Type 0)
      (each : (a b : ℕ) (xs : List X) → b ≤ 12 → Q a b xs → Each R xs) where
    abbrev of_expr : Expr → List X
    of_expr = gather.of_expr X of_node of_leaf schema Q sources

    abbrev Gives : Expr → Type 0
    Gives e = Each R (of_expr e)

    split : (es : List Expr) → Each R (all_in (map of_expr es)) → Each Gives es
    split es h = each_mapped (Each R) of_expr es (each_in_all R (map of_expr es) h)

    whole : (es : List Expr) → Each Gives es → Each R (all_in (map of_expr es))
    whole es h = each_in_parts R (map of_expr es) (each_map (Each R) of_expr es h)

    pub gathers : Each R (gathered_in_query X of_node of_leaf (query_of s items))
    gathers =
        let sel = t.selection in
        let steps = gather.gathering X of_node of_leaf schema Q sources in
        let GE = gather.ExprGives X of_node of_leaf schema Q sources in
        let GT = gather.TreeGives X of_node of_leaf schema Q sources in
        let GQ = gather.SelectGives X of_node of_leaf schema Q sources in
        let outs = map expr_of_output s.outputs in
        let first = gather.all_along X of_node of_leaf schema Q sources scope none sel.middle outs (exprs_have schema GE GT GQ steps scope none sel.middle outs sel.made_outputs) in
        let second = gather.trees_along X of_node of_leaf schema Q sources [] sel.middle sel.end (seen_all s.entries) sel.members (trees_have schema GE GT GQ steps [] sel.middle sel.end (seen_all s.entries) sel.members sel.made_trees) in
        let third = gather.all_along X of_node of_leaf schema Q sources scope sel.end t.middle s.conds (exprs_have schema GE GT GQ steps scope sel.end t.middle s.conds sel.made_conds) in
        let fourth = gather.all_along X of_node of_leaf schema Q sources scope t.middle t.end t.fresh (exprs_have schema GE GT GQ steps scope t.middle t.end t.fresh t.made) in
        let us = each 0 sel.middle.entries (all_in (map of_expr outs)) first_low first in
        let ts = each sel.middle.entries sel.end.entries (all_in (map (gather.of_tree X of_node of_leaf schema Q sources) sel.members)) end_low second in
        let cs = each sel.end.entries t.middle.entries (all_in (map of_expr s.conds)) t.middle_few third in
        let fs = each t.middle.entries t.end.entries (all_in (map of_expr t.fresh)) t.few fourth in
        let os = whole (map expr_of_order items) (orders_have catalog Gives s.distinct s.outputs t.fresh items (split outs us) (split t.fresh fs) t.listed) in
        subst (Each R) (sym (gather.query_is X of_node of_leaf schema Q sources (level_of s items) sel.members sel.tree_is))
        (each_append R (all_in (map of_expr outs)) (all_in (map (gather.of_tree X of_node of_leaf schema Q sources) sel.members) ++ (all_in (map of_expr s.conds) ++ all_in (map of_expr (map expr_of_order items)))) us
        (each_append R (all_in (map (gather.of_tree X of_node of_leaf schema Q sources) sel.members)) (all_in (map of_expr s.conds) ++ all_in (map of_expr (map expr_of_order items))) ts
        (each_append R (all_in (map of_expr s.conds)) (all_in (map of_expr (map expr_of_order items))) cs os)))
      where
        end_low : t.selection.end.entries ≤ 12
        end_low = omega (arith, t.selection.high, t.middle_few)

        first_low : t.selection.middle.entries ≤ 12
        first_low = omega (arith, t.selection.inner, t.selection.high, t.middle_few)

  -- ---- rooted

  pub rooted : has_leaves (query_of s items) ≡ true
  rooted =
      let sel = t.selection in
      let steps = rooting schema in
      let us = along_each IsRooted none sel.middle (map expr_of_output s.outputs) (exprs_have schema ExprRooted TreeRooted SelectRooted steps scope none sel.middle (map expr_of_output s.outputs) sel.made_outputs) in
      let fs = along_each IsRooted t.middle t.end t.fresh (exprs_have schema ExprRooted TreeRooted SelectRooted steps scope t.middle t.end t.fresh t.made) in
      select_rooted [] (seen_all s.entries) sel.middle sel.end (level_of s items) sel.members sel.some sel.tree_is us
      (trees_have schema ExprRooted TreeRooted SelectRooted steps [] sel.middle sel.end (seen_all s.entries) sel.members sel.made_trees)
      (along_each IsRooted sel.end t.middle s.conds (exprs_have schema ExprRooted TreeRooted SelectRooted steps scope sel.end t.middle s.conds sel.made_conds))
      (orders_have catalog IsRooted s.distinct s.outputs t.fresh items us fs t.listed)

  -- ---- typed

  orders_typed : (os : List Order) → Each (λ o. IsSome (type_of (expr_of_order o))) os → list_all is_some (map typed_order os) ≡ true
  orders_typed [] each = refl
  orders_typed (o ∷ os) each = and_from (is_some (typed_order o)) (list_all is_some (map typed_order os)) (ap is_some (laws.at-Order Typed Bool Typed TypedOutput TypedQuery expr_type tree_typed order_typed output_typed query_typed o) ∙ each.0) (orders_typed os each.1)

  pub expressions : (typed_query (query_of s items)).is_typed ≡ true
  expressions = ap (λ (q : TypedQuery). q.is_typed) (select_typed s items t.selection.outputs t.selection.typed t.selection.conds (orders_typed items t.types))

-- Each join tree in a typed query is rooted, and its relations have numbers below 64.
use Rattle.std.proofs.Common.{◌≡◌, ap, sym, subst, refl, ℕ, ◌<◌, ◌⊎◌, inl, inr, Bool, true, false, ◌&&◌, ◌||◌, List, [], ◌∷◌, ◌++◌, map, fold, Some, IsSome, nat_lt, arith, eq-eqb}
use Rattle.std.specs.Prelude.{Contains, bit_or, bit_and, ◌==◌}
use Rattle.std.specs.List.{list_all, flat_map}
use Rattle.std.proofs.lemmas.Bool.{and_parts, and_from, ltb-true, cases_eq}
use Rattle.std.proofs.lemmas.Nat.Bits.{bit_at-pow_other}
use Rattle.jp_base.specs.Sets.{Has}
use Rattle.jp_base.proofs.SetLemmas.{has_or, has_and, same_set, empty_zero}
use Rattle.jp_query.specs.declared.Expr.{Expr}
use Rattle.jp_query.specs.declared.JoinTree.{JoinTree}
use Rattle.jp_query.specs.declared.Order.{Order}
use Rattle.jp_query.specs.declared.Output.{Output}
use Rattle.jp_query.specs.declared.Query.{Query, out-Query, roll-out-Query}
use Rattle.jp_query.specs.declared.Expr.TheOpen.{Expr-F, JoinTree-F, Query-F}
use Rattle.jp_query.specs.declared.Expr.TheViews.{roll-Expr, roll-JoinTree, roll-Query}
use Rattle.jp_query.specs.declared.Expr.TheFolds.{fold-Expr, fold-JoinTree, fold-Order, fold-Output, fold-Query, para-Expr, para-JoinTree, para-Order, para-Output, map-Expr, map-JoinTree, map-Query, fold-roll-Expr, fold-roll-JoinTree, fold-roll-Order, fold-roll-Output, fold-roll-Query, para-roll-Expr, para-roll-JoinTree, para-roll-Order, para-roll-Output, para-roll-Query}
use Rattle.jp_query.specs.declared.JoinKind.{JoinKind}
use Rattle.jp_query.specs.declared.JoinKind.TheVariants as join
use Rattle.jp_query.specs.Meaning.{Row, Env, tuples_of}
use Rattle.jp_query.specs.Joins.{join_rels}
use Rattle.jp_query.specs.Layers.{ExprLayer, JoinTreeLayer, QueryLayer}
use Rattle.jp_query.specs.Parts.{all_in, option_part, parts, sublink_query, trees, conditions, leaf_query, tree_rels, rels_of}
use Rattle.jp_query.specs.Refs.{only}
use Rattle.jp_query.specs.Scopes.{Column, Schema, Entry, Scope, BoundIn, EntriesIn, ColumnIn, ColumnsIn, in_scope, join_entries, expr_bound, tree_entries, order_bound, output_column, query_columns, bound_of, entries_of, columns_of_query}
use Rattle.jp_query.specs.Conditions.{Judged, expr_judged, tree_judged, order_judged, output_judged, query_judged, judged_expr, judged_tree, judged_query, tells_relations_apart, are_distinct, relation_of, all_entries, all_true, expr_rooted, tree_rooted, order_rooted, output_rooted, query_rooted, IsTyped}
use Rattle.jp_query.specs.Typing.{Typed, TypedOutput, TypedQuery, is_listed, is_true_test, expr_type, tree_typed, order_typed, output_typed, query_typed, type_of, tree_is_typed, typed_query}
use Rattle.jp_induction.proofs.EachPart.{Each, each_true, each_mapped, each_append, each_weaker, parts_map, sublink_map, trees_map, conditions_map, leaf_map}
use Rattle.jp_induction.proofs.HandedDown as handed
use Rattle.jp_induction.proofs.Induction.{tree_alone}
use Rattle.jp_induction.specs.HandedDown.{HandsDown}
use Rattle.jp_laws.specs.Rooted.{Rooting, has_root, both_rooted, sides_rooted, tree_rooting, rooting_of, is_rooted}
use Rattle.jp_laws.specs.TreesInside.{Trees, trees_beside, whole_tree, expr_trees, tree_trees, order_trees, output_trees, query_trees, trees_inside}
use Rattle.jp_facts.proofs.Members.{In, to_in, from_in, in_append_left, in_append_right}
use Rattle.jp_laws.proofs.GatheredLaws.{IsTypedInner, IsTrueTree, IsTypedColumn, parts_typed, trees_typed, query_parts, typed_order, typed_output, of_is_some}
use Rattle.jp_laws.proofs.JudgedLaws.{expr_passes, tree_passed, query_passed, judged_order_by, judged_output_by}
use Rattle.jp_laws.proofs.JudgedValues.{entries_judged}
use Rattle.jp_laws.proofs.TuplesFit.{InEntries, in_left, in_right, apart_from, distinct_start}
use Rattle.jp_laws.proofs.PresenceLaws.{rooting_rels, some_present}

-- ---- the numbers of a tree

is_only : (rel i : ℕ) → Has (only rel) i → i ≡ rel
is_only rel i h = elim (cases_eq i rel) [ inl e ↦ e | inr n ↦ absurd (omega (arith, bit_at-pow_other rel i n, h)) ]

-- a fact of each number of a tree, by those of its leaves
module _ (N : ℕ → Type 0) where
  abbrev AllHave : JoinTree → Type 0
  AllHave t = (i : ℕ) → Has (rels_of t) i → N i

  union_have : (ts : List JoinTree) (n i : ℕ) → Each AllHave ts → (Has n i → N i) → Has (fold bit_or n (map rels_of ts)) i → N i
  union_have [] n i h start p = start p
  union_have (t ∷ ts) n i h start p = union_have ts (bit_or n (rels_of t)) i h.1 (λ q. elim ((has_or n (rels_of t) i).0 q) [ inl a ↦ start a | inr b ↦ h.0 i b ]) p

  either_has : (left right i : ℕ) → (Has left i → N i) → (Has right i → N i) → Has (bit_or left right) i → N i
  either_has left right i a b p = elim ((has_or left right i).0 p) [ inl q ↦ a q | inr q ↦ b q ]

  join_have : (kind : JoinKind) (left right i : ℕ) → (Has left i → N i) → (Has right i → N i) → Has (join_rels kind left right) i → N i
  join_have join.Inner left right i a b p = either_has left right i a b p
  join_have join.Left left right i a b p = either_has left right i a b p
  join_have join.Right left right i a b p = either_has left right i a b p
  join_have join.Full left right i a b p = either_has left right i a b p
  join_have join.Semi left right i a b p = a p
  join_have join.Anti left right i a b p = a p

  abbrev leaf_has : JoinTreeLayer → Type 0
  leaf_has (JoinTree-F.Base rel name table) = N rel
  leaf_has (JoinTree-F.Sub rel name query) = N rel
  leaf_has x = Unit {0}

  level_has : (x : JoinTreeLayer) → leaf_has x → Each AllHave (trees x) → AllHave (roll-JoinTree x)
  level_has x leaf sides i p = at x leaf sides (subst (λ n. Has n i) (fold-roll-JoinTree (Unit {0}) ℕ (Unit {0}) (Unit {0}) (Unit {0}) (λ x. tt) tree_rels (λ o. tt) (λ o. tt) (λ q. tt) x) p)
    where
      at : (y : JoinTreeLayer) → leaf_has y → Each AllHave (trees y) → Has (tree_rels (map-JoinTree Expr JoinTree Order Output Query (Unit {0}) ℕ (Unit {0}) (Unit {0}) (Unit {0}) (λ e. tt) rels_of (λ o. tt) (λ u. tt) (λ q. tt) y)) i → N i
      at (JoinTree-F.Base rel name table) l s h = subst N (sym (is_only rel i h)) l
      at (JoinTree-F.Sub rel name query) l s h = subst N (sym (is_only rel i h)) l
      at (JoinTree-F.Join kind left right on) l s h = join_have kind (rels_of left) (rels_of right) i (s.0 i) (s.1.0 i) h
      at (JoinTree-F.From members conds) l s h = union_have members 0 i s (λ z. absurd (empty_zero 0 refl i z)) h

-- ---- helpers for lists

module _ {A : Type 0} where
  three : (P Q R : A → Type 0) (xs : List A) → Each P xs → Each Q xs → Each R xs → Each (λ x. P x × Q x × R x) xs
  three P Q R [] p q r = tt
  three P Q R (x ∷ xs) p q r = ((p.0, q.0, r.0), three P Q R xs p.1 q.1 r.1)

  each_in : (P : A → Type 0) (xs : List A) (x : A) → Each P xs → In x xs → P x
  each_in P [] x h m = absurd m
  each_in P (y ∷ ys) x h (inl e) = subst P e h.0
  each_in P (y ∷ ys) x h (inr m) = each_in P ys x h.1 m

below : {A B : Type 0} (P : B → Type 0) (f : A → B) (xs : List A) (ys : List B) → ys ≡ map f xs → Each P ys → Each (λ x. P (f x)) xs
below P f xs ys e h = each_mapped P f xs (subst (Each P) e h)

abbrev IsTrue' : Bool → Type 0
IsTrue' b = b ≡ true

-- ---- the numbers of a tree are among its entries

module _ (schema : Schema) where
  abbrev order_bounds : Order → BoundIn
  order_bounds = fold-Order BoundIn EntriesIn BoundIn ColumnIn ColumnsIn expr_bound (tree_entries schema) order_bound output_column query_columns

  abbrev output_bounds : Output → ColumnIn
  output_bounds = fold-Output BoundIn EntriesIn BoundIn ColumnIn ColumnsIn expr_bound (tree_entries schema) order_bound output_column query_columns

  abbrev Entered : Scope → JoinTree → Type 0
  Entered scope t = (i : ℕ) → Has (rels_of t) i → InEntries (entries_of schema t scope) i

  join_entered : (kind : JoinKind) (l r i : ℕ) (le re : List Entry) → (Has l i → InEntries le i) → (Has r i → InEntries re i) → Has (join_rels kind l r) i → InEntries (join_entries kind le re) i
  join_entered join.Inner l r i le re a b p = elim ((has_or l r i).0 p) [ inl q ↦ in_left le re i (a q) | inr q ↦ in_right le re i (b q) ]
  join_entered join.Left l r i le re a b p = elim ((has_or l r i).0 p) [ inl q ↦ in_left le re i (a q) | inr q ↦ in_right le re i (b q) ]
  join_entered join.Right l r i le re a b p = elim ((has_or l r i).0 p) [ inl q ↦ in_left le re i (a q) | inr q ↦ in_right le re i (b q) ]
  join_entered join.Full l r i le re a b p = elim ((has_or l r i).0 p) [ inl q ↦ in_left le re i (a q) | inr q ↦ in_right le re i (b q) ]
  join_entered join.Semi l r i le re a b p = a p
  join_entered join.Anti l r i le re a b p = a p

  module _ (scope : Scope) where
    members_entered : (ts : List JoinTree) (n i : ℕ) → Each (Entered scope) ts → Has (fold bit_or n (map rels_of ts)) i → Has n i ⊎ InEntries (flat_map (in_scope scope) (map (entries_of schema) ts)) i
    members_entered [] n i h p = inl p
    members_entered (t ∷ ts) n i h p = elim (members_entered ts (bit_or n (rels_of t)) i h.1 p) [
      | inl q ↦ elim ((has_or n (rels_of t) i).0 q) [ inl a ↦ inl a | inr b ↦ inr (in_left (entries_of schema t scope) (flat_map (in_scope scope) (map (entries_of schema) ts)) i (h.0 i b)) ]
      | inr q ↦ inr (in_right (entries_of schema t scope) (flat_map (in_scope scope) (map (entries_of schema) ts)) i q)
    ]

    abbrev bounds_level : JoinTreeLayer → JoinTree-F BoundIn EntriesIn BoundIn ColumnIn ColumnsIn
    bounds_level = map-JoinTree Expr JoinTree Order Output Query BoundIn EntriesIn BoundIn ColumnIn ColumnsIn (bound_of schema) (entries_of schema) order_bounds output_bounds (columns_of_query schema)

    abbrev rels_level : JoinTreeLayer → JoinTree-F (Unit {0}) ℕ (Unit {0}) (Unit {0}) (Unit {0})
    rels_level = map-JoinTree Expr JoinTree Order Output Query (Unit {0}) ℕ (Unit {0}) (Unit {0}) (Unit {0}) (λ e. tt) rels_of (λ o. tt) (λ u. tt) (λ q. tt)

    level_entered : (x : JoinTreeLayer) (i : ℕ) → Each (Entered scope) (trees x) → Has (tree_rels (rels_level x)) i → InEntries (tree_entries schema (bounds_level x) scope) i
    level_entered (JoinTree-F.Base rel name table) i h p = subst (InEntries (tree_entries schema (JoinTree-F.Base rel name table) scope)) (sym (is_only rel i p)) (eq-first rel)
      where
        eq-first : (k : ℕ) → ((k == k) || false) ≡ true
        eq-first k = ap (λ b. b || false) (eq-eqb k k refl)
    level_entered (JoinTree-F.Sub rel name query) i h p = subst (InEntries (tree_entries schema (JoinTree-F.Sub rel name (columns_of_query schema query)) scope)) (sym (is_only rel i p)) (eq-first rel)
      where
        eq-first : (k : ℕ) → ((k == k) || false) ≡ true
        eq-first k = ap (λ b. b || false) (eq-eqb k k refl)
    level_entered (JoinTree-F.Join kind left right on) i h p = join_entered kind (rels_of left) (rels_of right) i (entries_of schema left scope) (entries_of schema right scope) (h.0 i) (h.1.0 i) p
    level_entered (JoinTree-F.From members conds) i h p = elim (members_entered members 0 i h p) [ inl z ↦ absurd (empty_zero 0 refl i z) | inr q ↦ q ]

    pub entered : (t : JoinTree) → Entered scope t
    entered = tree_alone (Entered scope) (λ x h i p. subst (λ (e : EntriesIn). InEntries (e scope) i) (sym (fold-roll-JoinTree BoundIn EntriesIn BoundIn ColumnIn ColumnsIn expr_bound (tree_entries schema) order_bound output_column query_columns x))
        (level_entered x i h (subst (λ n. Has n i) (fold-roll-JoinTree (Unit {0}) ℕ (Unit {0}) (Unit {0}) (Unit {0}) (λ x. tt) tree_rels (λ o. tt) (λ o. tt) (λ q. tt) x) p)))

-- ---- each tree has a leaf

abbrev leafy_expr : Expr → Bool
leafy_expr = fold-Expr Bool Bool Bool Bool Bool expr_rooted tree_rooted order_rooted output_rooted query_rooted

abbrev leafy_tree : JoinTree → Bool
leafy_tree = fold-JoinTree Bool Bool Bool Bool Bool expr_rooted tree_rooted order_rooted output_rooted query_rooted

abbrev leafy_order : Order → Bool
leafy_order = fold-Order Bool Bool Bool Bool Bool expr_rooted tree_rooted order_rooted output_rooted query_rooted

abbrev leafy_output : Output → Bool
leafy_output = fold-Output Bool Bool Bool Bool Bool expr_rooted tree_rooted order_rooted output_rooted query_rooted

abbrev leafy_query : Query → Bool
leafy_query = fold-Query Bool Bool Bool Bool Bool expr_rooted tree_rooted order_rooted output_rooted query_rooted

abbrev all_leafy : JoinTree-F Bool Bool Bool Bool Bool → Type 0
all_leafy y = (all_true (trees y) ≡ true) × (all_true (conditions y) ≡ true) × (all_true (option_part (leaf_query y)) ≡ true)

parts_leafy : (y : JoinTree-F Bool Bool Bool Bool Bool) → tree_rooted y ≡ true → all_leafy y
parts_leafy (JoinTree-F.Base rel name table) h = (refl, refl, refl)
parts_leafy (JoinTree-F.Sub rel name query) h = (refl, refl, h)
parts_leafy (JoinTree-F.Join kind left right on) h = let a = and_parts (all_true (left ∷ right ∷ [])) (all_true on && true) h in let b = and_parts (all_true on) true a.1 in (a.0, b.0, refl)
parts_leafy (JoinTree-F.From members conds) h = let a = and_parts (is_listed members) (all_true members && all_true conds) h in let b = and_parts (all_true members) (all_true conds) a.1 in (b.0, b.1, refl)

-- ---- what is asked of each part of a typed query, at its place

module _ (schema : Schema) where
  abbrev judged_e : Expr → Judged ℕ
  judged_e = judged_expr schema tells_relations_apart

  abbrev judged_t : JoinTree → Judged (List Entry)
  judged_t = judged_tree schema tells_relations_apart

  abbrev judged_o : Order → Judged ℕ
  judged_o = judged_order_by schema tells_relations_apart

  abbrev judged_u : Output → Judged Column
  judged_u = judged_output_by schema tells_relations_apart

  abbrev judged_q : Query → Judged (List Column)
  judged_q = judged_query schema tells_relations_apart

  abbrev ExprFine : Scope → Expr → Type 0
  ExprFine s x = IsSome (type_of x) × ((judged_e x).passes s ≡ true) × (leafy_expr x ≡ true)

  abbrev TreeFine : Scope → JoinTree → Type 0
  TreeFine s x = (tree_is_typed x ≡ true) × ((judged_t x).passes s ≡ true) × (leafy_tree x ≡ true)

  abbrev OrderFine : Scope → Order → Type 0
  OrderFine s x = IsSome (typed_order x) × ((judged_o x).passes s ≡ true) × (leafy_order x ≡ true)

  abbrev OutputFine : Scope → Output → Type 0
  OutputFine s x = ((typed_output x).is_typed ≡ true) × ((judged_u x).passes s ≡ true) × (leafy_output x ≡ true)

  abbrev QueryFine : Scope → Query → Type 0
  QueryFine s x = ((typed_query x).is_typed ≡ true) × ((judged_q x).passes s ≡ true) × (leafy_query x ≡ true)

  abbrev typed_expr_level : ExprLayer → Expr-F Typed Bool Typed TypedOutput TypedQuery
  typed_expr_level = map-Expr Expr JoinTree Order Output Query Typed Bool Typed TypedOutput TypedQuery type_of tree_is_typed typed_order typed_output typed_query

  abbrev judged_expr_level : ExprLayer → Expr-F (Judged ℕ) (Judged (List Entry)) (Judged ℕ) (Judged Column) (Judged (List Column))
  judged_expr_level = map-Expr Expr JoinTree Order Output Query (Judged ℕ) (Judged (List Entry)) (Judged ℕ) (Judged Column) (Judged (List Column)) judged_e judged_t judged_o judged_u judged_q

  abbrev leafy_expr_level : ExprLayer → Expr-F Bool Bool Bool Bool Bool
  leafy_expr_level = map-Expr Expr JoinTree Order Output Query Bool Bool Bool Bool Bool leafy_expr leafy_tree leafy_order leafy_output leafy_query

  abbrev typed_tree_level : JoinTreeLayer → JoinTree-F Typed Bool Typed TypedOutput TypedQuery
  typed_tree_level = map-JoinTree Expr JoinTree Order Output Query Typed Bool Typed TypedOutput TypedQuery type_of tree_is_typed typed_order typed_output typed_query

  abbrev judged_tree_level : JoinTreeLayer → JoinTree-F (Judged ℕ) (Judged (List Entry)) (Judged ℕ) (Judged Column) (Judged (List Column))
  judged_tree_level = map-JoinTree Expr JoinTree Order Output Query (Judged ℕ) (Judged (List Entry)) (Judged ℕ) (Judged Column) (Judged (List Column)) judged_e judged_t judged_o judged_u judged_q

  abbrev leafy_tree_level : JoinTreeLayer → JoinTree-F Bool Bool Bool Bool Bool
  leafy_tree_level = map-JoinTree Expr JoinTree Order Output Query Bool Bool Bool Bool Bool leafy_expr leafy_tree leafy_order leafy_output leafy_query

  abbrev typed_query_level : QueryLayer → Query-F Typed Bool Typed TypedOutput TypedQuery
  typed_query_level = map-Query Expr JoinTree Order Output Query Typed Bool Typed TypedOutput TypedQuery type_of tree_is_typed typed_order typed_output typed_query

  abbrev judged_query_level : QueryLayer → Query-F (Judged ℕ) (Judged (List Entry)) (Judged ℕ) (Judged Column) (Judged (List Column))
  judged_query_level = map-Query Expr JoinTree Order Output Query (Judged ℕ) (Judged (List Entry)) (Judged ℕ) (Judged Column) (Judged (List Column)) judged_e judged_t judged_o judged_u judged_q

  abbrev leafy_query_level : QueryLayer → Query-F Bool Bool Bool Bool Bool
  leafy_query_level = map-Query Expr JoinTree Order Output Query Bool Bool Bool Bool Bool leafy_expr leafy_tree leafy_order leafy_output leafy_query

  abbrev inside : Scope → JoinTreeLayer → Scope
  inside s x = all_entries (trees (judged_tree_level x)) s ++ s

  abbrev above : Scope → QueryLayer → Scope
  above s x = (judged_t x.tree).value s ++ s

  passed_at : (s : Scope) (x : JoinTreeLayer) → TreeFine s (roll-JoinTree x) → (tree_judged schema tells_relations_apart (judged_tree_level x)).passes s ≡ true
  passed_at s x c = subst (λ (j : Judged (List Entry)). j.passes s ≡ true) (fold-roll-JoinTree (Judged ℕ) (Judged (List Entry)) (Judged ℕ) (Judged Column) (Judged (List Column)) (expr_judged schema tells_relations_apart) (tree_judged schema tells_relations_apart) (order_judged schema tells_relations_apart) (output_judged schema tells_relations_apart) (query_judged schema tells_relations_apart) x) c.1

  typed_at : (s : Scope) (x : JoinTreeLayer) → TreeFine s (roll-JoinTree x) → tree_typed (typed_tree_level x) ≡ true
  typed_at s x c = subst IsTrue' (fold-roll-JoinTree Typed Bool Typed TypedOutput TypedQuery expr_type tree_typed order_typed output_typed query_typed x) c.0

  leafy_at : (s : Scope) (x : JoinTreeLayer) → TreeFine s (roll-JoinTree x) → tree_rooted (leafy_tree_level x) ≡ true
  leafy_at s x c = subst IsTrue' (fold-roll-JoinTree Bool Bool Bool Bool Bool expr_rooted tree_rooted order_rooted output_rooted query_rooted x) c.2

  expr_down : (s : Scope) (x : ExprLayer) → ExprFine s (roll-Expr x) → Each (ExprFine s) (parts x) × Each (QueryFine s) (option_part (sublink_query x))
  expr_down s x c =
      let typed = parts_typed (typed_expr_level x) (subst IsSome (fold-roll-Expr Typed Bool Typed TypedOutput TypedQuery expr_type tree_typed order_typed output_typed query_typed x) c.0) in
      let passed = expr_passes schema tells_relations_apart s (judged_expr_level x) (subst (λ (j : Judged ℕ). j.passes s ≡ true) (fold-roll-Expr (Judged ℕ) (Judged (List Entry)) (Judged ℕ) (Judged Column) (Judged (List Column)) (expr_judged schema tells_relations_apart) (tree_judged schema tells_relations_apart) (order_judged schema tells_relations_apart) (output_judged schema tells_relations_apart) (query_judged schema tells_relations_apart) x) c.1) in
      let leafy = and_parts (all_true (parts (leafy_expr_level x))) (all_true (option_part (sublink_query (leafy_expr_level x)))) (subst IsTrue' (fold-roll-Expr Bool Bool Bool Bool Bool expr_rooted tree_rooted order_rooted output_rooted query_rooted x) c.2) in
      (three (λ y. IsSome (type_of y)) (λ y. (judged_e y).passes s ≡ true) (λ y. leafy_expr y ≡ true) (parts x) (below (λ z. IsSome z) type_of (parts x) (parts (typed_expr_level x)) (parts_map type_of tree_is_typed typed_order typed_output typed_query x) typed.0) (below (λ (z : Judged ℕ). z.passes s ≡ true) judged_e (parts x) (parts (judged_expr_level x)) (parts_map judged_e judged_t judged_o judged_u judged_q x) passed.parts) (below IsTrue' leafy_expr (parts x) (parts (leafy_expr_level x)) (parts_map leafy_expr leafy_tree leafy_order leafy_output leafy_query x) (each_true is_true_test (parts (leafy_expr_level x)) leafy.0)), three (λ y. IsTypedInner (typed_query y)) (λ y. (judged_q y).passes s ≡ true) (λ y. leafy_query y ≡ true) (option_part (sublink_query x)) (below (λ z. IsTypedInner z) typed_query (option_part (sublink_query x)) (option_part (sublink_query (typed_expr_level x))) (sublink_map type_of tree_is_typed typed_order typed_output typed_query x) typed.1) (below (λ (z : Judged (List Column)). z.passes s ≡ true) judged_q (option_part (sublink_query x)) (option_part (sublink_query (judged_expr_level x))) (sublink_map judged_e judged_t judged_o judged_u judged_q x) passed.sublinks) (below IsTrue' leafy_query (option_part (sublink_query x)) (option_part (sublink_query (leafy_expr_level x))) (sublink_map leafy_expr leafy_tree leafy_order leafy_output leafy_query x) (each_true is_true_test (option_part (sublink_query (leafy_expr_level x))) leafy.1)))

  tree_down : (s : Scope) (x : JoinTreeLayer) → TreeFine s (roll-JoinTree x) → Each (TreeFine s) (trees x) × Each (ExprFine (inside s x)) (conditions x) × Each (QueryFine s) (option_part (leaf_query x))
  tree_down s x c =
      let typed = trees_typed (typed_tree_level x) (typed_at s x c) in
      let passed = tree_passed schema tells_relations_apart s (judged_tree_level x) (passed_at s x c) in
      let leafy = parts_leafy (leafy_tree_level x) (leafy_at s x c) in
      (three (λ y. IsTrueTree (tree_is_typed y)) (λ y. (judged_t y).passes s ≡ true) (λ y. leafy_tree y ≡ true) (trees x) (below (λ z. IsTrueTree z) tree_is_typed (trees x) (trees (typed_tree_level x)) (trees_map type_of tree_is_typed typed_order typed_output typed_query x) typed.0) (below (λ (z : Judged (List Entry)). z.passes s ≡ true) judged_t (trees x) (trees (judged_tree_level x)) (trees_map judged_e judged_t judged_o judged_u judged_q x) passed.inner) (below IsTrue' leafy_tree (trees x) (trees (leafy_tree_level x)) (trees_map leafy_expr leafy_tree leafy_order leafy_output leafy_query x) (each_true is_true_test (trees (leafy_tree_level x)) leafy.0)), three (λ y. IsSome (type_of y)) (λ y. (judged_e y).passes (inside s x) ≡ true) (λ y. leafy_expr y ≡ true) (conditions x) (below (λ z. IsSome z) type_of (conditions x) (conditions (typed_tree_level x)) (conditions_map type_of tree_is_typed typed_order typed_output typed_query x) typed.1) (below (λ (z : Judged ℕ). z.passes (inside s x) ≡ true) judged_e (conditions x) (conditions (judged_tree_level x)) (conditions_map judged_e judged_t judged_o judged_u judged_q x) passed.conds) (below IsTrue' leafy_expr (conditions x) (conditions (leafy_tree_level x)) (conditions_map leafy_expr leafy_tree leafy_order leafy_output leafy_query x) (each_true is_true_test (conditions (leafy_tree_level x)) leafy.1)), three (λ y. IsTypedInner (typed_query y)) (λ y. (judged_q y).passes s ≡ true) (λ y. leafy_query y ≡ true) (option_part (leaf_query x)) (below (λ z. IsTypedInner z) typed_query (option_part (leaf_query x)) (option_part (leaf_query (typed_tree_level x))) (leaf_map type_of tree_is_typed typed_order typed_output typed_query x) typed.2) (below (λ (z : Judged (List Column)). z.passes s ≡ true) judged_q (option_part (leaf_query x)) (option_part (leaf_query (judged_tree_level x))) (leaf_map judged_e judged_t judged_o judged_u judged_q x) passed.leaf) (below IsTrue' leafy_query (option_part (leaf_query x)) (option_part (leaf_query (leafy_tree_level x))) (leaf_map leafy_expr leafy_tree leafy_order leafy_output leafy_query x) (each_true is_true_test (option_part (leaf_query (leafy_tree_level x))) leafy.2)))

  query_down : (s : Scope) (x : QueryLayer) → QueryFine s (roll-Query x) → Each (OutputFine (above s x)) x.columns × TreeFine s x.tree × Each (ExprFine (above s x)) x.conds × Each (OrderFine (above s x)) x.order
  query_down s x c =
      let typed = query_parts (typed_query_level x) (subst IsTypedInner (fold-roll-Query Typed Bool Typed TypedOutput TypedQuery expr_type tree_typed order_typed output_typed query_typed x) c.0) in
      let passed = query_passed schema tells_relations_apart s (judged_query_level x) (subst (λ (j : Judged (List Column)). j.passes s ≡ true) (fold-roll-Query (Judged ℕ) (Judged (List Entry)) (Judged ℕ) (Judged Column) (Judged (List Column)) (expr_judged schema tells_relations_apart) (tree_judged schema tells_relations_apart) (order_judged schema tells_relations_apart) (output_judged schema tells_relations_apart) (query_judged schema tells_relations_apart) x) c.1) in
      let l1 = and_parts _ _ (subst IsTrue' (fold-roll-Query Bool Bool Bool Bool Bool expr_rooted tree_rooted order_rooted output_rooted query_rooted x) c.2) in
      let l2 = and_parts _ _ l1.1 in
      let l3 = and_parts _ _ l2.1 in
      (three (λ y. IsTypedColumn (typed_output y)) (λ y. (judged_u y).passes (above s x) ≡ true) (λ y. leafy_output y ≡ true) x.columns (each_mapped (λ z. IsTypedColumn z) typed_output x.columns typed.columns) (each_mapped (λ (z : Judged Column). z.passes (above s x) ≡ true) judged_u x.columns passed.columns) (each_mapped IsTrue' leafy_output x.columns (each_true is_true_test (map leafy_output x.columns) l1.0)), (typed.tree, passed.tree, l2.0), three (λ y. IsSome (type_of y)) (λ y. (judged_e y).passes (above s x) ≡ true) (λ y. leafy_expr y ≡ true) x.conds (each_mapped (λ z. IsSome z) type_of x.conds typed.conds) (each_mapped (λ (z : Judged ℕ). z.passes (above s x) ≡ true) judged_e x.conds passed.conds) (each_mapped IsTrue' leafy_expr x.conds (each_true is_true_test (map leafy_expr x.conds) l3.0)), three (λ y. IsSome (typed_order y)) (λ y. (judged_o y).passes (above s x) ≡ true) (λ y. leafy_order y ≡ true) x.order (each_mapped (λ z. IsSome z) typed_order x.order typed.order) (each_mapped (λ (z : Judged ℕ). z.passes (above s x) ≡ true) judged_o x.order passed.order) (each_mapped IsTrue' leafy_order x.order (each_true is_true_test (map leafy_order x.order) l3.1)))

  pub fine_down : HandsDown Scope inside above ExprFine TreeFine OrderFine OutputFine QueryFine
  fine_down = record {
    expr = expr_down;
    tree = tree_down;
    order = λ s x c. (subst IsSome (fold-roll-Order Typed Bool Typed TypedOutput TypedQuery expr_type tree_typed order_typed output_typed query_typed x) c.0, subst (λ (j : Judged ℕ). j.passes s ≡ true) (fold-roll-Order (Judged ℕ) (Judged (List Entry)) (Judged ℕ) (Judged Column) (Judged (List Column)) (expr_judged schema tells_relations_apart) (tree_judged schema tells_relations_apart) (order_judged schema tells_relations_apart) (output_judged schema tells_relations_apart) (query_judged schema tells_relations_apart) x) c.1, subst IsTrue' (fold-roll-Order Bool Bool Bool Bool Bool expr_rooted tree_rooted order_rooted output_rooted query_rooted x) c.2);
    output = λ s x c. (of_is_some x.ty (type_of x.expr) (subst IsTypedColumn (fold-roll-Output Typed Bool Typed TypedOutput TypedQuery expr_type tree_typed order_typed output_typed query_typed x) c.0), subst (λ (j : Judged Column). j.passes s ≡ true) (fold-roll-Output (Judged ℕ) (Judged (List Entry)) (Judged ℕ) (Judged Column) (Judged (List Column)) (expr_judged schema tells_relations_apart) (tree_judged schema tells_relations_apart) (order_judged schema tells_relations_apart) (output_judged schema tells_relations_apart) (query_judged schema tells_relations_apart) x) c.1, subst IsTrue' (fold-roll-Output Bool Bool Bool Bool Bool expr_rooted tree_rooted order_rooted output_rooted query_rooted x) c.2);
    query = query_down;
  }

-- ---- the trees of a query

abbrev trees_of_expr : Expr → Trees
trees_of_expr = para-Expr Trees Trees Trees Trees Trees expr_trees tree_trees order_trees output_trees query_trees

abbrev trees_of_tree : JoinTree → Trees
trees_of_tree = para-JoinTree Trees Trees Trees Trees Trees expr_trees tree_trees order_trees output_trees query_trees

abbrev trees_of_order : Order → Trees
trees_of_order = para-Order Trees Trees Trees Trees Trees expr_trees tree_trees order_trees output_trees query_trees

abbrev trees_of_output : Output → Trees
trees_of_output = para-Output Trees Trees Trees Trees Trees expr_trees tree_trees order_trees output_trees query_trees

module _ {A : Type 0} (f : A → Trees) where
  abbrev with_trees : A → A × Trees
  with_trees x = (x, f x)

  names_back : (xs : List A) → map (λ (p : A × Trees). p.0) (map with_trees xs) ≡ xs
  names_back [] = refl
  names_back (x ∷ xs) = ap (λ ys. x ∷ ys) (names_back xs)

  all_beside : (P : JoinTree → Type 0) (xs : List A) (ys : List (A × Trees)) → ys ≡ map with_trees xs → Each (λ x. Each P (f x)) xs → Each P (all_in (map trees_beside ys))
  all_beside P xs ys e h = subst (λ zs. Each P (all_in (map trees_beside zs))) (sym e) (go xs h)
    where
      go : (zs : List A) → Each (λ x. Each P (f x)) zs → Each P (all_in (map trees_beside (map with_trees zs)))
      go [] h = tt
      go (z ∷ zs) h = each_append P (f z) (all_in (map trees_beside (map with_trees zs))) h.0 (go zs h.1)

abbrev expr_beside : Expr → Expr × Trees
expr_beside = with_trees trees_of_expr

abbrev tree_beside : JoinTree → JoinTree × Trees
tree_beside = with_trees trees_of_tree

abbrev order_beside : Order → Order × Trees
order_beside = with_trees trees_of_order

abbrev output_beside : Output → Output × Trees
output_beside = with_trees trees_of_output

abbrev query_beside : Query → Query × Trees
query_beside = with_trees trees_inside

abbrev expr_pairs : ExprLayer → Expr-F (Expr × Trees) (JoinTree × Trees) (Order × Trees) (Output × Trees) (Query × Trees)
expr_pairs = map-Expr Expr JoinTree Order Output Query (Expr × Trees) (JoinTree × Trees) (Order × Trees) (Output × Trees) (Query × Trees) expr_beside tree_beside order_beside output_beside query_beside

abbrev tree_pairs : JoinTreeLayer → JoinTree-F (Expr × Trees) (JoinTree × Trees) (Order × Trees) (Output × Trees) (Query × Trees)
tree_pairs = map-JoinTree Expr JoinTree Order Output Query (Expr × Trees) (JoinTree × Trees) (Order × Trees) (Output × Trees) (Query × Trees) expr_beside tree_beside order_beside output_beside query_beside

abbrev query_pairs : QueryLayer → Query-F (Expr × Trees) (JoinTree × Trees) (Order × Trees) (Output × Trees) (Query × Trees)
query_pairs = map-Query Expr JoinTree Order Output Query (Expr × Trees) (JoinTree × Trees) (Order × Trees) (Output × Trees) (Query × Trees) expr_beside tree_beside order_beside output_beside query_beside

whole_again : (x : JoinTreeLayer) → whole_tree (tree_pairs x) ≡ roll-JoinTree x
whole_again (JoinTree-F.Base rel name table) = refl
whole_again (JoinTree-F.Sub rel name query) = refl
whole_again (JoinTree-F.Join kind left right on) = λ i. roll-JoinTree (JoinTree-F.Join kind left right (names_back trees_of_expr on i))
whole_again (JoinTree-F.From members conds) = λ i. roll-JoinTree (JoinTree-F.From (names_back trees_of_tree members i) (names_back trees_of_expr conds i))

-- ---- each tree in a typed query is fine

abbrev Below64 : ℕ → Type 0
Below64 i = i < 64

pub record Good (t : JoinTree) : Type 0 where
  pub rooted : is_rooted t ≡ true
  pub low : (i : ℕ) → Has (rels_of t) i → i < 64

low_leaf : (x : JoinTreeLayer) → tree_typed (map-JoinTree Expr JoinTree Order Output Query Typed Bool Typed TypedOutput TypedQuery type_of tree_is_typed typed_order typed_output typed_query x) ≡ true → leaf_has Below64 x
low_leaf (JoinTree-F.Base rel name table) h = ltb-true rel 64 h
low_leaf (JoinTree-F.Sub rel name query) h = ltb-true rel 64 (and_parts (nat_lt rel 64) (typed_query query).is_typed h).0
low_leaf (JoinTree-F.Join kind left right on) h = tt
low_leaf (JoinTree-F.From members conds) h = tt

abbrev rooting_level : JoinTreeLayer → JoinTree-F (Unit {0}) Rooting (Unit {0}) (Unit {0}) (Unit {0})
rooting_level = map-JoinTree Expr JoinTree Order Output Query (Unit {0}) Rooting (Unit {0}) (Unit {0}) (Unit {0}) (λ e. tt) rooting_of (λ o. tt) (λ u. tt) (λ q. tt)

all_rooted : (ts : List JoinTree) → Each Good ts → list_all has_root (map rooting_of ts) ≡ true
all_rooted [] h = refl
all_rooted (t ∷ ts) h = and_from (rooting_of t).rooted (list_all has_root (map rooting_of ts)) h.0.rooted (all_rooted ts h.1)

listed : (ts : List JoinTree) → is_listed (map leafy_tree ts) ≡ true → is_listed (map rooting_of ts) ≡ true
listed [] h = h
listed (t ∷ ts) h = refl

module _ (schema : Schema) where
  no_common : (left right : JoinTree) (s : Scope) → are_distinct (map relation_of (inside schema s (JoinTree-F.Join join.Inner left right []))) ≡ true → bit_and (rooting_of left).rels (rooting_of right).rels ≡ 0
  no_common left right s d = same_set (bit_and (rooting_of left).rels (rooting_of right).rels) 0 (λ i. (λ h. absurd (apart i h), λ z. absurd (empty_zero 0 refl i z)))
    where
      entry : (t : JoinTree) (i : ℕ) → Has (rooting_of t).rels i → InEntries ((judged_t schema t).value s) i
      entry t i h = subst (λ (e : EntriesIn). InEntries (e s) i) (sym (entries_judged schema tells_relations_apart t)) (entered schema s t i (subst (λ n. Has n i) (rooting_rels t) h))

      apart : (i : ℕ) → Has (bit_and (rooting_of left).rels (rooting_of right).rels) i → ⊥
      apart i h =
          let both = (has_and (rooting_of left).rels (rooting_of right).rels i).0 h in
          let l = (judged_t schema left).value s in
          let r = (judged_t schema right).value s in
          apart_from l (r ++ []) (distinct_start (l ++ (r ++ [])) s d) i (entry left i both.0) (in_left r [] i (entry right i both.1))

  both_good : (left right : JoinTree) (s : Scope) → are_distinct (map relation_of (inside schema s (JoinTree-F.Join join.Inner left right []))) ≡ true → Good left → Good right → both_rooted (rooting_of left) (rooting_of right) ≡ true
  both_good left right s d a b = and_from (rooting_of left).rooted ((rooting_of right).rooted && (bit_and (rooting_of left).rels (rooting_of right).rels == 0)) a.rooted
      (and_from (rooting_of right).rooted (bit_and (rooting_of left).rels (rooting_of right).rels == 0) b.rooted (eq-eqb (bit_and (rooting_of left).rels (rooting_of right).rels) 0 (no_common left right s d)))

  sides_good : (kind : JoinKind) (left right : JoinTree) (s : Scope) → are_distinct (map relation_of (inside schema s (JoinTree-F.Join join.Inner left right []))) ≡ true → Good left → Good right → sides_rooted kind (rooting_of left) (rooting_of right) ≡ true
  sides_good join.Inner left right s d a b = both_good left right s d a b
  sides_good join.Left left right s d a b = both_good left right s d a b
  sides_good join.Right left right s d a b = both_good left right s d a b
  sides_good join.Full left right s d a b = both_good left right s d a b
  sides_good join.Semi left right s d a b = a.rooted
  sides_good join.Anti left right s d a b = a.rooted

  rooted_at : (x : JoinTreeLayer) (s : Scope) → are_distinct (map relation_of (inside schema s x)) ≡ true → tree_rooted (leafy_tree_level schema x) ≡ true → Each Good (trees x) → (tree_rooting (rooting_level x)).rooted ≡ true
  rooted_at (JoinTree-F.Base rel name table) s d l h = refl
  rooted_at (JoinTree-F.Sub rel name query) s d l h = refl
  rooted_at (JoinTree-F.Join kind left right on) s d l h = sides_good kind left right s d h.0 h.1.0
  rooted_at (JoinTree-F.From members conds) s d l h = and_from (is_listed (map rooting_of members)) (list_all has_root (map rooting_of members)) (listed members (and_parts (is_listed (map leafy_tree members)) (all_true (map leafy_tree members) && all_true (map leafy_expr conds)) l).0) (all_rooted members h)

  tree_good : (s : Scope) (x : JoinTreeLayer) → TreeFine schema s (roll-JoinTree x) → Each Good (trees x) → Good (roll-JoinTree x)
  tree_good s x c h = record {
    rooted = subst (λ (r : Rooting). r.rooted ≡ true) (sym (fold-roll-JoinTree (Unit {0}) Rooting (Unit {0}) (Unit {0}) (Unit {0}) (λ x. tt) tree_rooting (λ o. tt) (λ o. tt) (λ q. tt) x))
        (rooted_at x s (tree_passed schema tells_relations_apart s (judged_tree_level schema x) (passed_at schema s x c)).place (leafy_at schema s x c) h);
    low = level_has Below64 x (low_leaf x (typed_at schema s x c)) (each_weaker Good (AllHave Below64) (λ t g. g.low) (trees x) h);
  }

  abbrev PE : Scope → Expr → Type 0
  PE s x = Each Good (trees_of_expr x)

  abbrev PT : Scope → JoinTree → Type 0
  PT s t = Good t × Each Good (trees_of_tree t)

  abbrev PO : Scope → Order → Type 0
  PO s x = Each Good (trees_of_order x)

  abbrev PU : Scope → Output → Type 0
  PU s x = Each Good (trees_of_output x)

  abbrev PQ : Scope → Query → Type 0
  PQ s x = Each Good (trees_inside x)

  steps : handed.StepsUnder Scope (inside schema) (above schema) (ExprFine schema) (TreeFine schema) (OrderFine schema) (OutputFine schema) (QueryFine schema) (fine_down schema) PE PT PO PU PQ
  steps = record {
    expr = λ s x c ps qs. let y = expr_pairs x in
        subst (Each Good) (sym (para-roll-Expr Trees Trees Trees Trees Trees expr_trees tree_trees order_trees output_trees query_trees x))
        (each_append Good (all_in (map trees_beside (parts y))) (all_in (map trees_beside (option_part (sublink_query y)))) (all_beside trees_of_expr Good (parts x) (parts y) (parts_map expr_beside tree_beside order_beside output_beside query_beside x) ps)
        (all_beside trees_inside Good (option_part (sublink_query x)) (option_part (sublink_query y)) (sublink_map expr_beside tree_beside order_beside output_beside query_beside x) qs));
    tree = λ s x c ts cs qs. let y = tree_pairs x in let here = tree_good s x c (each_weaker (PT s) Good (λ t g. g.0) (trees x) ts) in (
      here,
      subst (Each Good) (sym (para-roll-JoinTree Trees Trees Trees Trees Trees expr_trees tree_trees order_trees output_trees query_trees x)) (
        subst Good (sym (whole_again x)) here,
        each_append Good (all_in (map trees_beside (trees y))) (all_in (map trees_beside (conditions y)) ++ all_in (map trees_beside (option_part (leaf_query y))))
            (all_beside trees_of_tree Good (trees x) (trees y) (trees_map expr_beside tree_beside order_beside output_beside query_beside x) (each_weaker (PT s) (λ t. Each Good (trees_of_tree t)) (λ t g. g.1) (trees x) ts))
            (each_append Good (all_in (map trees_beside (conditions y))) (all_in (map trees_beside (option_part (leaf_query y)))) (all_beside trees_of_expr Good (conditions x) (conditions y) (conditions_map expr_beside tree_beside order_beside output_beside query_beside x) cs)
            (all_beside trees_inside Good (option_part (leaf_query x)) (option_part (leaf_query y)) (leaf_map expr_beside tree_beside order_beside output_beside query_beside x) qs)),
      ),
    );
    order = λ s x c h. subst (Each Good) (sym (para-roll-Order Trees Trees Trees Trees Trees expr_trees tree_trees order_trees output_trees query_trees x)) h;
    output = λ s x c h. subst (Each Good) (sym (para-roll-Output Trees Trees Trees Trees Trees expr_trees tree_trees order_trees output_trees query_trees x)) h;
    query = λ s x c us t es os. let y = query_pairs x in
        subst (Each Good) (sym (para-roll-Query Trees Trees Trees Trees Trees expr_trees tree_trees order_trees output_trees query_trees x))
        (each_append Good (all_in (map trees_beside y.columns)) (trees_of_tree x.tree ++ (all_in (map trees_beside y.conds) ++ all_in (map trees_beside y.order))) (all_beside trees_of_output Good x.columns y.columns refl us)
        (each_append Good (trees_of_tree x.tree) (all_in (map trees_beside y.conds) ++ all_in (map trees_beside y.order)) t.1
        (each_append Good (all_in (map trees_beside y.conds)) (all_in (map trees_beside y.order)) (all_beside trees_of_expr Good x.conds y.conds refl es) (all_beside trees_of_order Good x.order y.order refl os))));
  }

  pub all_good : (outer : Scope) (query : Query) → IsTyped schema outer query → Each Good (trees_inside query)
  all_good outer query t = handed.under_query Scope (inside schema) (above schema) (ExprFine schema) (TreeFine schema) (OrderFine schema) (OutputFine schema) (QueryFine schema) (fine_down schema) PE PT PO PU PQ steps query outer (t.expressions, t.distinct, t.rooted)

-- ---- the laws

pub rooted_inside : (schema : Schema) (outer : Scope) (query : Query) (tree : JoinTree) → IsTyped schema outer query → Contains (trees_inside query) tree → is_rooted tree ≡ true
rooted_inside schema outer query tree t c = (each_in Good (trees_inside query) tree (all_good schema outer query t) (to_in tree (trees_inside query) c)).rooted

pub present_inside : (tables : ℕ → List Row) (schema : Schema) (outer : Scope) (query : Query) (tree : JoinTree) (env tuple : Env) → IsTyped schema outer query → Contains (trees_inside query) tree → Contains ((tuples_of tables tree).tuples env) tuple
    → (i : ℕ) × (i < 64) × Has (rels_of tree) i × (row : Row) × (tuple i ≡ Some row)
present_inside tables schema outer query tree env tuple t c m =
    let good = each_in Good (trees_inside query) tree (all_good schema outer query t) (to_in tree (trees_inside query) c) in
    let it = some_present tables tree env tuple good.rooted m in
    (it.0, good.low it.0 it.1, it.1, it.2, it.3)

-- a tree is among its own trees
itself_inside : (t : JoinTree) → In t (trees_of_tree t)
itself_inside = tree_alone (λ t. In t (trees_of_tree t)) (λ x h. subst (In (roll-JoinTree x)) (sym (para-roll-JoinTree Trees Trees Trees Trees Trees expr_trees tree_trees order_trees output_trees query_trees x)) (inl (whole_again x)))

own_inside_level : (x : QueryLayer) → In x.tree (trees_inside (roll-Query x))
own_inside_level x = let y = query_pairs x in
    subst (In x.tree) (sym (para-roll-Query Trees Trees Trees Trees Trees expr_trees tree_trees order_trees output_trees query_trees x))
    (in_append_right x.tree (all_in (map trees_beside y.columns)) (trees_of_tree x.tree ++ (all_in (map trees_beside y.conds) ++ all_in (map trees_beside y.order)))
    (in_append_left x.tree (trees_of_tree x.tree) (all_in (map trees_beside y.conds) ++ all_in (map trees_beside y.order)) (itself_inside x.tree)))

pub own_inside : (query : Query) → Contains (trees_inside query) (out-Query query).tree
own_inside query = from_in (out-Query query).tree (trees_inside query) (subst (λ q. In (out-Query query).tree (trees_inside q)) (roll-out-Query query) (own_inside_level (out-Query query)))

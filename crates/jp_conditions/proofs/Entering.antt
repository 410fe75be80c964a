-- The relations that a tree's tuples give rows to are those of its entries, and numbers of leaves of it.
use Rattle.std.proofs.Common.{ap, sym, subst, refl, ℕ, inl, inr, List, [], ◌∷◌, ◌++◌, map, append-nil, append_assoc}
use Rattle.std.specs.Prelude.{bit_or, fold, slice_get}
use Rattle.std.specs.List.{flat_map}
use Rattle.jp_facts.proofs.Members.{In, to_in, from_append, in_append_left, in_append_right}
use Rattle.jp_induction.proofs.EachPart.{Each}
use Rattle.jp_induction.proofs.Induction.{tree_alone}
use Rattle.jp_query.specs.declared.Expr.{Expr}
use Rattle.jp_query.specs.declared.JoinTree.{JoinTree}
use Rattle.jp_query.specs.declared.Order.{Order}
use Rattle.jp_query.specs.declared.Output.{Output}
use Rattle.jp_query.specs.declared.Query.{Query}
use Rattle.jp_query.specs.declared.Expr.TheOpen.{JoinTree-F}
use Rattle.jp_query.specs.declared.Expr.TheFolds.{fold-Order, fold-Output, map-JoinTree, fold-roll-JoinTree}
use Rattle.jp_query.specs.declared.Expr.TheViews.{roll-JoinTree}
use Rattle.jp_query.specs.Layers.{JoinTreeLayer}
use Rattle.jp_query.specs.Conditions.{Leaf, Leaves, no_leaves, beside, together, expr_leaves, tree_leaves, order_leaves, output_leaves, query_leaves}
use Rattle.jp_query.specs.OwnLeaves.{tree_own_leaves, own_leaves}
use Rattle.jp_query.specs.Parts.{all_in, trees, rels_of, tree_rels}
use Rattle.jp_query.specs.Scopes.{Schema, Entry, Scope, BoundIn, EntriesIn, ColumnIn, ColumnsIn, in_scope, expr_bound, tree_entries, order_bound, output_column, query_columns, bound_of, entries_of, columns_of_query, columns_of_table}
use Rattle.jp_laws.proofs.LeafLaws.{rels_are_own}
use Rattle.jp_laws.proofs.TuplesFit.{InEntries, AreRels, leaf_are, both_are, join_are, none_are}
use Rattle.jp_conditions.proofs.Judging.{tree_leaf_set, tree_leaves_level, expr_leaf_set}
use Rattle.jp_conditions.proofs.Leaves.{HasLeaf}

module _ (schema : Schema) (s : Scope) where
  abbrev Are : JoinTree → Type 0
  Are t = AreRels (rels_of t) (entries_of schema t s)

  members_are : (ts : List JoinTree) (n : ℕ) (entries : List Entry) → AreRels n entries → Each Are ts → AreRels (fold bit_or n (map rels_of ts)) (entries ++ flat_map (in_scope s) (map (entries_of schema) ts))
  members_are [] n entries are each = subst (AreRels n) (sym (append-nil entries)) are
  members_are (t ∷ ts) n entries are each =
      let here = entries_of schema t s in
      subst (AreRels (fold bit_or (bit_or n (rels_of t)) (map rels_of ts))) (append_assoc entries here (flat_map (in_scope s) (map (entries_of schema) ts))) (members_are ts (bit_or n (rels_of t)) (entries ++ here) (both_are entries here n (rels_of t) are each.0) each.1)

  abbrev bounds_level : JoinTreeLayer → JoinTree-F BoundIn EntriesIn BoundIn ColumnIn ColumnsIn
  bounds_level = map-JoinTree Expr JoinTree Order Output Query BoundIn EntriesIn BoundIn ColumnIn ColumnsIn (bound_of schema) (entries_of schema)
      (fold-Order BoundIn EntriesIn BoundIn ColumnIn ColumnsIn expr_bound (tree_entries schema) order_bound output_column query_columns)
      (fold-Output BoundIn EntriesIn BoundIn ColumnIn ColumnsIn expr_bound (tree_entries schema) order_bound output_column query_columns)
      (columns_of_query schema)

  abbrev rels_level : JoinTreeLayer → JoinTree-F (Unit {0}) ℕ (Unit {0}) (Unit {0}) (Unit {0})
  rels_level = map-JoinTree Expr JoinTree Order Output Query (Unit {0}) ℕ (Unit {0}) (Unit {0}) (Unit {0}) (λ e. tt) rels_of (λ o. tt) (λ u. tt) (λ q. tt)

  level_are : (x : JoinTreeLayer) → Each Are (trees x) → AreRels (tree_rels (rels_level x)) (tree_entries schema (bounds_level x) s)
  level_are (JoinTree-F.Base rel name table) each = leaf_are rel (columns_of_table (slice_get schema table))
  level_are (JoinTree-F.Sub rel name query) each = leaf_are rel (columns_of_query schema query s)
  level_are (JoinTree-F.Join kind left right on) each = join_are kind (entries_of schema left s) (entries_of schema right s) (rels_of left) (rels_of right) each.0 each.1.0
  level_are (JoinTree-F.From members conds) each = members_are members 0 [] none_are each

  pub are_rels : (t : JoinTree) → AreRels (rels_of t) (entries_of schema t s)
  are_rels = tree_alone Are (λ x each. subst (λ n. AreRels n (entries_of schema (roll-JoinTree x) s)) (sym (fold-roll-JoinTree (Unit {0}) ℕ (Unit {0}) (Unit {0}) (Unit {0}) (λ x. tt) tree_rels (λ o. tt) (λ o. tt) (λ q. tt) x))
      (subst (λ (e : EntriesIn). AreRels (tree_rels (rels_level x)) (e s)) (sym (fold-roll-JoinTree BoundIn EntriesIn BoundIn ColumnIn ColumnsIn expr_bound (tree_entries schema) order_bound output_column query_columns x)) (level_are x each)))

-- ---- own leaves

abbrev pub own_leaf : ℕ → Leaf
own_leaf n = record { number = n; sublinks = [] }

abbrev Found : JoinTree → Type 0
Found t = (n : ℕ) → In n (own_leaves t) → In (own_leaf n) (tree_leaf_set t).leaves

pub kept_first : (l : Leaf) (start : Leaves) (list : List Leaves) → In l start.leaves → In l (fold beside start list).leaves
kept_first l start [] h = h
kept_first l start (a ∷ list) h = kept_first l (beside start a) list (in_append_left l start.leaves a.leaves h)

members_found : (ts : List JoinTree) (start : Leaves) (n : ℕ) → Each Found ts → In n (all_in (map own_leaves ts)) → In (own_leaf n) (fold beside start (map tree_leaf_set ts)).leaves
members_found [] start n each h = absurd h
members_found (t ∷ ts) start n each h = elim (from_append n (own_leaves t) (all_in (map own_leaves ts)) h) [
  | inl k ↦ kept_first (own_leaf n) (beside start (tree_leaf_set t)) (map tree_leaf_set ts) (in_append_right (own_leaf n) start.leaves (tree_leaf_set t).leaves (each.0 n k))
  | inr k ↦ members_found ts (beside start (tree_leaf_set t)) n each.1 k
]

abbrev own_level : JoinTreeLayer → JoinTree-F (Unit {0}) (List ℕ) (Unit {0}) (Unit {0}) (Unit {0})
own_level = map-JoinTree Expr JoinTree Order Output Query (Unit {0}) (List ℕ) (Unit {0}) (Unit {0}) (Unit {0}) (λ e. tt) own_leaves (λ o. tt) (λ u. tt) (λ q. tt)

level_found : (x : JoinTreeLayer) (n : ℕ) → Each Found (trees x) → In n (tree_own_leaves (own_level x)) → In (own_leaf n) (tree_leaves (tree_leaves_level x)).leaves
level_found (JoinTree-F.Base rel name table) n each (inl e) = inl (ap own_leaf e)
level_found (JoinTree-F.Base rel name table) n each (inr m) = absurd m
level_found (JoinTree-F.Sub rel name query) n each (inl e) = inl (ap own_leaf e)
level_found (JoinTree-F.Sub rel name query) n each (inr m) = absurd m
level_found (JoinTree-F.Join kind left right on) n each h =
    in_append_left (own_leaf n) (together (tree_leaf_set left ∷ tree_leaf_set right ∷ [])).leaves (together (map expr_leaf_set on)).leaves (elim (from_append n (own_leaves left) (own_leaves right) h) [
      | inl k ↦ in_append_left (own_leaf n) (tree_leaf_set left).leaves (tree_leaf_set right).leaves (each.0 n k)
      | inr k ↦ in_append_right (own_leaf n) (tree_leaf_set left).leaves (tree_leaf_set right).leaves (each.1.0 n k)
    ])
level_found (JoinTree-F.From members conds) n each h =
    in_append_left (own_leaf n) (together (map tree_leaf_set members)).leaves (together (map expr_leaf_set conds)).leaves (members_found members no_leaves n each h)

-- each own leaf of a tree is among its leaves, inside no sublink
pub own_found : (t : JoinTree) (n : ℕ) → In n (own_leaves t) → In (own_leaf n) (tree_leaf_set t).leaves
own_found = tree_alone Found (λ x each n h. subst (λ (l : Leaves). In (own_leaf n) l.leaves) (sym (fold-roll-JoinTree Leaves Leaves Leaves Leaves Leaves expr_leaves tree_leaves order_leaves output_leaves query_leaves x))
    (level_found x n each (subst (In n) (fold-roll-JoinTree (Unit {0}) (List ℕ) (Unit {0}) (Unit {0}) (Unit {0}) (λ x. tt) tree_own_leaves (λ o. tt) (λ u. tt) (λ q. tt) x) h)))

-- a relation of its entries is the number of a leaf
pub entry_leaf : (schema : Schema) (s : Scope) (t : JoinTree) (rel : ℕ) → InEntries (entries_of schema t s) rel → HasLeaf (tree_leaf_set t) rel
entry_leaf schema s t rel h = (own_leaf rel, own_found t rel (to_in rel (own_leaves t) (rels_are_own t rel ((are_rels schema s t rel).1 h))), refl)

-- A block has at most 16 base leaves below it, sublinks apart, and at most 64 leaves in all.
use Rattle.std.proofs.Common.{◌≡◌, sym, subst, ℕ, ◌<◌, ◌≤◌, ◌^◌, ◌-◌, Bool, true, false, nat_lt, List, map, length, arith}
use Rattle.std.specs.Prelude.{count_ones}
use Rattle.std.specs.Int.Count.{ones-ones}
use Rattle.std.proofs.lemmas.Bool.{and_parts, ltb-true}
use Rattle.std.proofs.lemmas.Nat.Bits.{bit_at_mask_inside}
use Rattle.jp_base.specs.Sets.{Has}
use Rattle.jp_query.specs.declared.Expr.{Expr}
use Rattle.jp_query.specs.declared.JoinTree.{JoinTree}
use Rattle.jp_query.specs.declared.Order.{Order}
use Rattle.jp_query.specs.declared.Output.{Output}
use Rattle.jp_query.specs.declared.Query.{Query}
use Rattle.jp_query.specs.declared.Expr.TheOpen.{JoinTree-F}
use Rattle.jp_query.specs.declared.Expr.TheViews.{roll-JoinTree}
use Rattle.jp_query.specs.declared.Expr.TheFolds.{map-JoinTree, fold-roll-JoinTree, fold-roll-Query}
use Rattle.jp_query.specs.Layers.{JoinTreeLayer}
use Rattle.jp_query.specs.Parts.{option_part, trees, leaf_query, base_number, nothing_of_node, expr_gives, tree_gives, order_gives, output_gives, query_gives}
use Rattle.jp_query.specs.Scopes.{Schema, Scope}
use Rattle.jp_query.specs.Typing.{Typed, TypedOutput, TypedQuery, expr_type, tree_typed, order_typed, output_typed, query_typed, type_of, tree_is_typed, typed_query}
use Rattle.jp_induction.proofs.HandedDown as handed
use Rattle.jp_laws.proofs.EachPart.{Each, each_append, each_in_parts, each_map}
use Rattle.jp_laws.proofs.GatheredLaws.{typed_order, typed_output}
use Rattle.jp_folding.proofs.FineDown.{inside, above}
use Rattle.jp_conditions.proofs.Counting.{no_more}
use Rattle.jp_conditions.proofs.Judging.{each_in}
use Rattle.jp_prepared.proofs.Down as down
use Rattle.jp_prepared.proofs.Nested.{nested, nested_in, nested_distinct, nested_level, tree_nested, query_nested, select_number}
use Rattle.jp_prepared.proofs.Places.{ExprPlaced, TreePlaced, OrderPlaced, OutputPlaced, QueryPlaced, placed_down}

module _ (schema : Schema) (bases : ℕ) where
  -- a fact of the number of each leaf holds of all that are nested
  module _ (with_selects : Bool) (P : ℕ → Type 0) where
    abbrev pub LeafHas : JoinTreeLayer → Type 0
    LeafHas (JoinTree-F.Base rel name table) = P rel
    LeafHas (JoinTree-F.Sub rel name query) = Each P (select_number with_selects rel)
    LeafHas x = Unit {0}

    module _ (leaf_has : (s : Scope) (x : JoinTreeLayer) → TreePlaced schema bases s (roll-JoinTree x) → LeafHas x) where
      abbrev TreeHas : Scope → JoinTree → Type 0
      TreeHas s t = Each P (nested with_selects t)

      abbrev QueryHas : Scope → Query → Type 0
      QueryHas s q = Each P (nested_in with_selects q)

      level_has : (s : Scope) (x : JoinTreeLayer) → LeafHas x → Each (TreeHas s) (trees x) → Each (QueryHas s) (option_part (leaf_query x)) → Each P (tree_nested with_selects (nested_level with_selects x))
      level_has s (JoinTree-F.Base rel name table) own sides inner = (own, tt)
      level_has s (JoinTree-F.Sub rel name query) own sides inner = each_append P (select_number with_selects rel) (nested_in with_selects query) own inner.0
      level_has s (JoinTree-F.Join kind left right on) own sides inner = each_append P (nested with_selects left) (nested with_selects right) sides.0 sides.1.0
      level_has s (JoinTree-F.From members conds) own sides inner = each_in_parts P (map (nested with_selects) members) (each_map (Each P) (nested with_selects) members sides)

      steps : handed.StepsUnder Scope (inside schema) (above schema) (ExprPlaced schema bases) (TreePlaced schema bases) (OrderPlaced schema bases) (OutputPlaced schema bases) (QueryPlaced schema bases) (placed_down schema bases) (λ s e. Unit {0}) TreeHas (λ s o. Unit {0}) (λ s u. Unit {0}) QueryHas
      steps = record {
        expr = λ s x c exprs subs. tt;
        tree = λ s x c sides conds inner. subst (Each P) (sym (fold-roll-JoinTree (Unit {0}) (List ℕ) (Unit {0}) (Unit {0}) (List ℕ) (λ x. tt) (tree_nested with_selects) (λ o. tt) (λ u. tt) (query_nested with_selects) x)) (level_has s x (leaf_has s x c) sides inner);
        order = λ s x c h. tt;
        output = λ s x c h. tt;
        query = λ s q c columns tree conds order. subst (Each P) (sym (fold-roll-Query (Unit {0}) (List ℕ) (Unit {0}) (Unit {0}) (List ℕ) (λ x. tt) (tree_nested with_selects) (λ o. tt) (λ u. tt) (query_nested with_selects) q)) tree;
      }

      all_have : (s : Scope) (q : Query) → QueryPlaced schema bases s q → Each P (nested_in with_selects q)
      all_have s q h =
          handed.under_query Scope (inside schema) (above schema) (ExprPlaced schema bases) (TreePlaced schema bases) (OrderPlaced schema bases) (OutputPlaced schema bases) (QueryPlaced schema bases) (placed_down schema bases) (λ s e. Unit {0}) TreeHas (λ s o. Unit {0}) (λ s u. Unit {0}) QueryHas steps q s h

  -- ---- base leaves are among the bases

  base_leaf : (s : Scope) (x : JoinTreeLayer) → TreePlaced schema bases s (roll-JoinTree x) → LeafHas false (Has bases) x
  base_leaf s x h = at x (subst (Each (Has bases)) (fold-roll-JoinTree (List ℕ) (List ℕ) (List ℕ) (List ℕ) (List ℕ) (expr_gives ℕ nothing_of_node base_number) (tree_gives ℕ nothing_of_node base_number) (order_gives ℕ nothing_of_node base_number) (output_gives ℕ nothing_of_node base_number) (query_gives ℕ nothing_of_node base_number) x) h.1.1.1)
    where
      at : (y : JoinTreeLayer) → Each (Has bases) (tree_gives ℕ nothing_of_node base_number (map-JoinTree Expr JoinTree Order Output Query (List ℕ) (List ℕ) (List ℕ) (List ℕ) (List ℕ) (down.in_expr ℕ nothing_of_node base_number) (down.in_tree ℕ nothing_of_node base_number) (down.in_order ℕ nothing_of_node base_number) (down.in_output ℕ nothing_of_node base_number) (down.in_query ℕ nothing_of_node base_number) y)) → LeafHas false (Has bases) y
      at (JoinTree-F.Base rel name table) k = k.0
      at (JoinTree-F.Sub rel name query) k = tt
      at (JoinTree-F.Join kind left right on) k = tt
      at (JoinTree-F.From members conds) k = tt

  pub few_bases : count_ones bases ≤ 16 → (s : Scope) (q : Query) → QueryPlaced schema bases s q → length (nested_in false q) ≤ 16
  few_bases few s q h =
      let all = all_have false (Has bases) base_leaf s q h in
      let most = no_more bases (nested_in false q) (nested_distinct false q h.1.0.1.1) (λ n m. each_in (Has bases) (nested_in false q) n all m) in
      omega (arith, few, most)

  -- ---- leaves have numbers below 64

  pub low_leaf : (s : Scope) (x : JoinTreeLayer) → TreePlaced schema bases s (roll-JoinTree x) → LeafHas true (λ n. n < 64) x
  low_leaf s x h = at x (subst (λ b. b ≡ true) (fold-roll-JoinTree Typed Bool Typed TypedOutput TypedQuery expr_type tree_typed order_typed output_typed query_typed x) h.1.0.0.0)
    where
      at : (y : JoinTreeLayer) → tree_typed (map-JoinTree Expr JoinTree Order Output Query Typed Bool Typed TypedOutput TypedQuery type_of tree_is_typed typed_order typed_output typed_query y) ≡ true → LeafHas true (λ n. n < 64) y
      at (JoinTree-F.Base rel name table) k = ltb-true rel 64 k
      at (JoinTree-F.Sub rel name query) k = (ltb-true rel 64 (and_parts (nat_lt rel 64) (typed_query query).is_typed k).0, tt)
      at (JoinTree-F.Join kind left right on) k = tt
      at (JoinTree-F.From members conds) k = tt

  pub few_leaves : (s : Scope) (q : Query) → QueryPlaced schema bases s q → length (nested_in true q) ≤ 64
  few_leaves s q h =
      let all = all_have true (λ n. n < 64) low_leaf s q h in
      let most = no_more (2 ^ 64 - 2 ^ 0) (nested_in true q) (nested_distinct true q h.1.0.1.1) (λ n m. bit_at_mask_inside 0 64 n (omega arith) (each_in (λ k. k < 64) (nested_in true q) n all m)) in
      let ones = ones-ones 64 in
      omega (arith, most, ones)

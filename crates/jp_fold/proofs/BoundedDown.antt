-- That a tree is typed and bounded is handed down to its parts, with what is visible there.
use Rattle.std.proofs.Common.{◌≡◌, true, List, IsSome}
use Rattle.jp_query.specs.declared.Expr.{Expr}
use Rattle.jp_query.specs.declared.JoinTree.{JoinTree}
use Rattle.jp_query.specs.declared.Order.{Order}
use Rattle.jp_query.specs.declared.Output.{Output}
use Rattle.jp_query.specs.declared.Query.{Query}
use Rattle.jp_query.specs.Parts.{option_part, parts, sublink_query, trees, conditions, leaf_query}
use Rattle.jp_query.specs.Scopes.{Schema, Scope}
use Rattle.jp_query.specs.Typing.{type_of, tree_is_typed, typed_query}
use Rattle.jp_query.specs.Conditions.{judged_expr, judged_tree, judged_query, keeps_bounds}
use Rattle.jp_induction.specs.HandedDown.{HandsDown}
use Rattle.jp_laws.proofs.EachPart.{Each, each_both}
use Rattle.jp_laws.proofs.GatheredLaws.{typed_order, typed_output}
use Rattle.jp_laws.proofs.JudgedLaws.{judged_order_by, judged_output_by}
use Rattle.jp_folding.proofs.FineDown.{inside, above, expr_parts, tree_parts, order_part, output_part, query_parts}
use Rattle.jp_folding.proofs.TypedDown.{typed_down}

module _ (schema : Schema) where
  abbrev pub GoodExpr : Scope → Expr → Type 0
  GoodExpr s x = IsSome (type_of x) × ((judged_expr schema keeps_bounds x).passes s ≡ true)

  abbrev pub GoodTree : Scope → JoinTree → Type 0
  GoodTree s x = (tree_is_typed x ≡ true) × ((judged_tree schema keeps_bounds x).passes s ≡ true)

  abbrev pub GoodOrder : Scope → Order → Type 0
  GoodOrder s x = IsSome (typed_order x) × ((judged_order_by schema keeps_bounds x).passes s ≡ true)

  abbrev pub GoodOutput : Scope → Output → Type 0
  GoodOutput s x = ((typed_output x).is_typed ≡ true) × ((judged_output_by schema keeps_bounds x).passes s ≡ true)

  abbrev pub GoodQuery : Scope → Query → Type 0
  GoodQuery s x = ((typed_query x).is_typed ≡ true) × ((judged_query schema keeps_bounds x).passes s ≡ true)

  module _ {X : Type 0} (A B : X → Type 0) where
    pairs : (xs : List X) → Each A xs → Each B xs → Each (λ x. A x × B x) xs
    pairs = each_both A B (λ x. A x × B x) (λ x a b. (a, b))

  pub bounded_down : HandsDown Scope (inside schema) (above schema) GoodExpr GoodTree GoodOrder GoodOutput GoodQuery
  bounded_down = record {
    expr = λ s x c.
        let typed = typed_down.expr tt x c.0 in
        let low = expr_parts schema keeps_bounds s x c.1 in
        (pairs (λ e. IsSome (type_of e)) (λ e. (judged_expr schema keeps_bounds e).passes s ≡ true) (parts x) typed.0 low.0, pairs (λ q. (typed_query q).is_typed ≡ true) (λ q. (judged_query schema keeps_bounds q).passes s ≡ true) (option_part (sublink_query x)) typed.1 low.1);
    tree = λ s x c.
        let typed = typed_down.tree tt x c.0 in
        let low = tree_parts schema keeps_bounds s x c.1 in (
          pairs (λ t. tree_is_typed t ≡ true) (λ t. (judged_tree schema keeps_bounds t).passes s ≡ true) (trees x) typed.0 low.sides,
          pairs (λ e. IsSome (type_of e)) (λ e. (judged_expr schema keeps_bounds e).passes (inside schema s x) ≡ true) (conditions x) typed.1 low.conds,
          pairs (λ q. (typed_query q).is_typed ≡ true) (λ q. (judged_query schema keeps_bounds q).passes s ≡ true) (option_part (leaf_query x)) typed.2 low.leaf,
        );
    order = λ s x c. (typed_down.order tt x c.0, order_part schema keeps_bounds s x c.1);
    output = λ s x c. (typed_down.output tt x c.0, output_part schema keeps_bounds s x c.1);
    query = λ s x c.
        let typed = typed_down.query tt x c.0 in
        let low = query_parts schema keeps_bounds s x c.1 in (
          pairs (λ u. (typed_output u).is_typed ≡ true) (λ u. (judged_output_by schema keeps_bounds u).passes (above schema s x) ≡ true) x.columns typed.0 low.columns,
          (typed.1, low.tree),
          pairs (λ e. IsSome (type_of e)) (λ e. (judged_expr schema keeps_bounds e).passes (above schema s x) ≡ true) x.conds typed.2 low.conds,
          pairs (λ o. IsSome (typed_order o)) (λ o. (judged_order_by schema keeps_bounds o).passes (above schema s x) ≡ true) x.order typed.3 low.order,
        );
  }

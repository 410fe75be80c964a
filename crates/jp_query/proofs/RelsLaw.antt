-- A worked induction over the tree types: the relations that the tuples of a tree give rows to are those of the tree.
use Rattle.std.proofs.Common.{◌≡◌, ◌∙◌, ap, sym, subst, refl, ℕ, List, [], ◌∷◌, map}
use Rattle.jp_query.specs.declared.Expr.TheViews.{roll-JoinTree}
use Rattle.jp_query.specs.declared.Expr.TheFolds.{map-JoinTree, ind-JoinTree, fold-roll-JoinTree}
use Rattle.jp_query.specs.Layers.{Expr, JoinTree, Order, Output, Query, Expr-F, JoinTree-F, fold-Expr, fold-Order, fold-Output, fold-Query}
use Rattle.jp_query.specs.Joins.{join_rels}
use Rattle.jp_query.specs.Refs.{union}
use Rattle.jp_query.specs.Meaning.{Row, ValueIn, Tuples, SortKey, RowsIn, in_place, expr_value, tree_tuples, order_key, output_value, query_rows, rels_in, value_of, tuples_of, meaning}
use Rattle.jp_query.specs.Parts.{tree_rels, rels_of}

module _ (tables : ℕ → List Row) where
  abbrev Same : JoinTree → Type 0
  Same tree = (tuples_of tables tree).rels ≡ rels_of tree

  abbrev Tree : Type 0
  Tree = (tree : JoinTree) × Same tree

  -- a level in which each tree stands with its proof, without the proofs
  abbrev bare : JoinTree-F (Expr × Unit {0}) Tree (Order × Unit {0}) (Output × Unit {0}) (Query × Unit {0}) → JoinTree-F Expr JoinTree Order Output Query
  bare = map-JoinTree (Expr × Unit {0}) Tree (Order × Unit {0}) (Output × Unit {0}) (Query × Unit {0}) Expr JoinTree Order Output Query (λ e. e.0) (λ t. t.0) (λ o. o.0) (λ u. u.0) (λ q. q.0)

  members_same : (trees : List Tree) → map rels_in (map (tuples_of tables) (map (λ t. t.0) trees)) ≡ map rels_of (map (λ t. t.0) trees)
  members_same [] = refl
  members_same (tree ∷ trees) = ap (λ n. n ∷ map rels_in (map (tuples_of tables) (map (λ t. t.0) trees))) tree.1 ∙ ap (λ ns. rels_of tree.0 ∷ ns) (members_same trees)

  abbrev means : JoinTree-F Expr JoinTree Order Output Query → Tuples
  means x = tree_tuples tables (map-JoinTree Expr JoinTree Order Output Query ValueIn Tuples SortKey ValueIn RowsIn (value_of tables) (tuples_of tables) key_of output_of (meaning tables) x)
    where
      key_of : Order → SortKey
      key_of = fold-Order ValueIn Tuples SortKey ValueIn RowsIn (expr_value in_place) (tree_tuples tables) order_key output_value query_rows

      output_of : Output → ValueIn
      output_of = fold-Output ValueIn Tuples SortKey ValueIn RowsIn (expr_value in_place) (tree_tuples tables) order_key output_value query_rows

  abbrev has_rels : JoinTree-F Expr JoinTree Order Output Query → ℕ
  has_rels x = tree_rels (map-JoinTree Expr JoinTree Order Output Query (Unit {0}) ℕ (Unit {0}) (Unit {0}) (Unit {0}) (λ e. tt) rels_of (λ o. tt) (λ u. tt) (λ q. tt) x)

  same_at : (y : JoinTree-F (Expr × Unit {0}) Tree (Order × Unit {0}) (Output × Unit {0}) (Query × Unit {0})) → (means (bare y)).rels ≡ has_rels (bare y)
  same_at (JoinTree-F.Base rel name table) = refl
  same_at (JoinTree-F.Sub rel name query) = refl
  same_at (JoinTree-F.Join kind left right on) = ap (λ n. join_rels kind n (tuples_of tables right.0).rels) left.1 ∙ ap (λ n. join_rels kind (rels_of left.0) n) right.1
  same_at (JoinTree-F.From members conds) = ap union (members_same members)

  pub rels_same : (tree : JoinTree) → (tuples_of tables tree).rels ≡ rels_of tree
  rels_same = ind-JoinTree (λ e. Unit {0}) Same (λ o. Unit {0}) (λ u. Unit {0}) (λ q. Unit {0})
      (λ x y e. tt)
      (λ x y e. subst (λ z. Same (roll-JoinTree z)) e (step y))
      (λ x y e. tt) (λ x y e. tt) (λ x y e. tt)
    where
      step : (y : JoinTree-F (Expr × Unit {0}) Tree (Order × Unit {0}) (Output × Unit {0}) (Query × Unit {0})) → Same (roll-JoinTree (bare y))
      step y = ap (λ (t : Tuples). t.rels) (fold-roll-JoinTree ValueIn Tuples SortKey ValueIn RowsIn (expr_value in_place) (tree_tuples tables) order_key output_value query_rows (bare y))
          ∙ same_at y
          ∙ sym (fold-roll-JoinTree (Unit {0}) ℕ (Unit {0}) (Unit {0}) (Unit {0}) (λ x. tt) tree_rels (λ o. tt) (λ o. tt) (λ q. tt) (bare y))

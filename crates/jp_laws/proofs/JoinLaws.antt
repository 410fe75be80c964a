-- A Right join is the Left join with its sides exchanged.
use Rattle.std.proofs.Common.{◌≡◌, ◌∙◌, ap, sym, ℕ, List, map}
use Rattle.jp_query.specs.declared.Expr.{Expr}
use Rattle.jp_query.specs.declared.Expr.TheOpen.{JoinTree-F}
use Rattle.jp_query.specs.declared.JoinTree.{JoinTree}
use Rattle.jp_query.specs.declared.JoinTree.TheVariants as tree
use Rattle.jp_query.specs.declared.JoinKind.{JoinKind}
use Rattle.jp_query.specs.declared.JoinKind.TheVariants as join
use Rattle.jp_query.specs.Meaning.{Row, Env, ValueIn, Tuples, SortKey, RowsIn, in_place, expr_value, tree_tuples, order_key, output_value, query_rows, value_of, tuples_of}
use Rattle.jp_query.proofs.FoldLaws as laws
use Rattle.std.proofs.lemmas.Nat.{or_comm}

module _ (tables : ℕ → List Row) (left right : JoinTree) (on : List Expr) where
  abbrev level : JoinKind → JoinTree → JoinTree → Tuples
  level kind l r = tree_tuples tables (JoinTree-F.Join kind (tuples_of tables l) (tuples_of tables r) (map (value_of tables) on))

  at : (kind : JoinKind) (l r : JoinTree) → tuples_of tables (tree.Join kind l r on) ≡ level kind l r
  at kind l r = laws.at-Join ValueIn Tuples SortKey ValueIn RowsIn (expr_value in_place) (tree_tuples tables) order_key output_value query_rows kind l r on

  pub exchanged : (env : Env) → (tuples_of tables (tree.Join join.Right left right on)).tuples env ≡ (tuples_of tables (tree.Join join.Left right left on)).tuples env
  exchanged env = ap (λ (t : Tuples). t.tuples env) (at join.Right left right) ∙ sym (ap (λ (t : Tuples). t.tuples env) (at join.Left right left))

  pub exchanged_rels : (tuples_of tables (tree.Join join.Right left right on)).rels ≡ (tuples_of tables (tree.Join join.Left right left on)).rels
  exchanged_rels = ap (λ (t : Tuples). t.rels) (at join.Right left right) ∙ or_comm (tuples_of tables left).rels (tuples_of tables right).rels ∙ sym (ap (λ (t : Tuples). t.rels) (at join.Left right left))

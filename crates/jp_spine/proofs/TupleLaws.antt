-- The row set of all items of a block has the tuples that the block's tree means, and so has every legal tree.
use Rattle.std.proofs.Common.{sym, subst, ℕ, List, map}
use Rattle.std.specs.List.Sorted.{IsPermutation}
use Rattle.std.proofs.lemmas.List.Sorted.{IsPermutation-sym, IsPermutation-trans}
use Rattle.jp_query.specs.declared.Query.{Query}
use Rattle.jp_query.specs.InOrder.{IsInOrder, passing_tuples}
use Rattle.jp_query.specs.Meaning.{Row, Env, meaning}
use Rattle.jp_laws.specs.Bags.{lines_at, rows_from}
use Rattle.jp_laws.proofs.BagRows.{tuples_bag, tuples_ordered}
use Rattle.jp_problem.specs.declared.types.Item.{Item}
use Rattle.jp_problem.specs.declared.types.Problem.{Problem}
use Rattle.jp_problem.specs.Blocks.{top}
use Rattle.jp_problem.specs.Made.{IsBlock}
use Rattle.jp_problem.specs.Problems.{AreItemsOf, problem_rels, items_of, problem_of}
use Rattle.jp_problem.specs.Shapes.{block_shape}
use Rattle.jp_problem.specs.Trees.{Tree, IsPlan}
use Rattle.jp_frame.specs.Rows.{row_set}
use Rattle.jp_frame.specs.Trees.{Tree as Run}
use Rattle.jp_framed.specs.Environments.{Setting, env_of, HasNoOwnRows}
use Rattle.jp_framed.specs.Framing.{frame_of}
use Rattle.jp_framed.specs.Running.{IsRunOf, tuples_of_run}
use Rattle.jp_spine.specs.ItemTuples.{in_place_over, HoldItems}
use Rattle.jp_spine.specs.Written.{written_tuples}
use Rattle.jp_spine.proofs.BlockLaws.{rows_written, every_order}
use Rattle.jp_spine.proofs.MeaningLaws.{block_meant}

module _ (tables : ℕ → List Row) (query : Query) (items : List Item) (sources : List (List Env)) (outer : Env) (is_block : IsBlock query) (are : AreItemsOf query items) (clear : HasNoOwnRows (problem_rels (problem_of items query)) outer) (hold : HoldItems tables query sources outer) where
  abbrev problem : Problem
  problem = problem_of items query

  abbrev setting : Setting
  setting = in_place_over tables sources outer

  abbrev written : List Env
  written = written_tuples (problem_rels problem) setting (block_shape query) top

  written_meant : IsPermutation (written_tuples (problem_rels (problem_of items query)) (in_place_over tables sources outer) (block_shape query) top) (passing_tuples tables query outer)
  written_meant = subst (λ r. IsPermutation (written_tuples r setting (block_shape query) top) (passing_tuples tables query outer)) (sym are)
      (block_meant tables query sources outer is_block (subst (λ r. HasNoOwnRows r outer) are clear) hold)

  pub rows_meant : IsPermutation (map (env_of (problem_rels (problem_of items query)) (in_place_over tables sources outer)) (row_set (frame_of (problem_of items query) (in_place_over tables sources outer)) (items_of (problem_of items query)))) (passing_tuples tables query outer)
  rows_meant = IsPermutation-trans (map (env_of (problem_rels problem) setting) (row_set (frame_of problem setting) (items_of problem))) written (passing_tuples tables query outer) (rows_written query items setting is_block are clear) written_meant

  pub orders_meant : (t : Tree) (r : Run) → IsPlan (problem_of items query) t → IsRunOf (frame_of (problem_of items query) (in_place_over tables sources outer)) t r → IsPermutation (tuples_of_run (problem_of items query) (in_place_over tables sources outer) r) (passing_tuples tables query outer)
  orders_meant t r plan h = IsPermutation-trans (tuples_of_run problem setting r) written (passing_tuples tables query outer) (every_order query items setting is_block are clear t r plan h) written_meant

  passing : (t : Tree) (r : Run) → IsPlan (problem_of items query) t → IsRunOf (frame_of (problem_of items query) (in_place_over tables sources outer)) t r → IsPermutation (passing_tuples tables query outer) (tuples_of_run (problem_of items query) (in_place_over tables sources outer) r)
  passing t r plan h = IsPermutation-sym (tuples_of_run problem setting r) (passing_tuples tables query outer) (orders_meant t r plan h)

  pub orders_rows : (t : Tree) (r : Run) → IsPlan (problem_of items query) t → IsRunOf (frame_of (problem_of items query) (in_place_over tables sources outer)) t r
      → IsPermutation (meaning tables query outer) (rows_from query (lines_at tables query (tuples_of_run (problem_of items query) (in_place_over tables sources outer) r)))
  orders_rows t r plan h = tuples_bag tables query outer (tuples_of_run problem setting r) (passing t r plan h)

  pub orders_sorted : (t : Tree) (r : Run) → IsPlan (problem_of items query) t → IsRunOf (frame_of (problem_of items query) (in_place_over tables sources outer)) t r
      → IsInOrder tables query outer (rows_from query (lines_at tables query (tuples_of_run (problem_of items query) (in_place_over tables sources outer) r)))
  orders_sorted t r plan h = tuples_ordered tables query outer (tuples_of_run problem setting r) (passing t r plan h)

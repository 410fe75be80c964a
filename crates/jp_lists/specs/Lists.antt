-- What the blocks of a prepared statement list when they are run by their plans.
use Rattle.std.specs.Prelude.{ℕ, suc, ◌==◌, ◌-◌, Bool, false, List, [], ◌∷◌, map, Option, Some, None, slice_get, slice_index_or, if◌then◌else◌}
use Rattle.jp_query.specs.declared.Expr.{Expr}
use Rattle.jp_query.specs.declared.JoinKind.TheVariants as join
use Rattle.jp_query.specs.declared.Order.{Order, out-Order}
use Rattle.jp_query.specs.declared.Output.{Output, out-Output}
use Rattle.jp_query.specs.InOrder.{direction_of}
use Rattle.jp_query.specs.Meaning.{Row, Env, ValueIn, SortKey, no_outer_rows, with_row, with_rows, without, join_tuples, line_at, value_given}
use Rattle.jp_query.specs.Ordering.{Line, outputs_of, distinct_lines, sorted}
use Rattle.jp_query.specs.Refs.{union}
use Rattle.jp_problem.specs.declared.types.Item.{Item}
use Rattle.jp_problem.specs.declared.types.ItemKind.{ItemKind}
use Rattle.jp_problem.specs.declared.types.ItemKind.TheVariants as kind
use Rattle.jp_problem.specs.Problems.{problem_rels}
use Rattle.jp_framed.specs.Environments.{env_from}
use Rattle.jp_tree.specs.declared.pool.PlanNode.{PlanNode}
use Rattle.jp_tree.specs.declared.prepared.Block.{Block}
use Rattle.jp_tree.specs.declared.prepared.Prepared.{Prepared}
use Rattle.jp_tree.specs.PlanTrees.{tree_at}
use Rattle.jp_lists.specs.Steps.{Run, tree_list}

-- What a block gives in an environment: the tuples of its plan, in their order, and the rows that are made of them.
pub record Listed : Type 0 where
  pub tuples : List Env
  pub rows : List Row

abbrev pub nothing_listed : Listed
nothing_listed = record { tuples = []; rows = [] }

-- what each block gives, by its number
abbrev pub Listing : Type 0
Listing = ℕ → Env → Listed

-- ---- sublinks

abbrev pub is_of_sublink : ℕ → Option ℕ → Bool
is_of_sublink sub (Some number) = number == sub
is_of_sublink sub None = false

-- the number of the first block of a sublink, of blocks from a number on
unfoldable pub block_of_sublink_from : ℕ → List Block → ℕ → ℕ
block_of_sublink_from first [] sub = first
block_of_sublink_from first (block ∷ blocks) sub = if is_of_sublink sub block.sub then first else block_of_sublink_from (suc first) blocks sub

abbrev pub block_of_sublink : List Block → ℕ → ℕ
block_of_sublink blocks sub = block_of_sublink_from 0 blocks sub

-- the rows of a kept sublink where it is evaluated are those that its block gives there
abbrev pub sublink_rows : List Block → Listing → Env → ℕ → List Row
sublink_rows blocks inner env sub = (inner (block_of_sublink blocks sub) env).rows

abbrev pub listed_value : List Block → Listing → Expr → ValueIn
listed_value blocks inner e env = value_given (sublink_rows blocks inner env) e env

-- ---- items

-- the rows of some relations, and of no others
abbrev pub only_rows : ℕ → Env → Env
only_rows rels env = with_rows rels no_outer_rows env

abbrev pub rels_of_some : Option Block → ℕ
rels_of_some (Some block) = union (problem_rels block.problem)
rels_of_some None = 0

abbrev pub rels_of_block : List Block → ℕ → ℕ
rels_of_block blocks number = rels_of_some (slice_get blocks number)

-- The rows of an item, each seen at the item's relations: the records of a table in file order, the rows of a sub-select's
-- block, or for a Full join each left tuple with its matches in right order or without a right one, and then the right
-- tuples that matched nothing.
abbrev pub kind_source : List Block → (ℕ → List Row) → Listing → Env → ItemKind → List Env
kind_source blocks tables inner outer (kind.Base rel table) = map (with_row no_outer_rows rel) (tables table)
kind_source blocks tables inner outer (kind.Sub rel block) = map (with_row no_outer_rows rel) (inner block outer).rows
kind_source blocks tables inner outer (kind.Full left right on) =
    join_tuples join.Full (map (listed_value blocks inner) on) (rels_of_block blocks left) (inner left outer).tuples (rels_of_block blocks right) (inner right outer).tuples

abbrev pub item_source : List Block → (ℕ → List Row) → Listing → Env → Item → List Env
item_source blocks tables inner outer item = map (only_rows item.rels) (kind_source blocks tables inner outer item.kind)

abbrev pub sources_of : List Block → (ℕ → List Row) → Listing → Env → List Item → List (List Env)
sources_of blocks tables inner outer items = map (item_source blocks tables inner outer) items

-- ---- a block

abbrev pub listed_output : List Block → Listing → Output → ValueIn
listed_output blocks inner output = listed_value blocks inner (out-Output output).expr

abbrev pub listed_key : List Block → Listing → Order → SortKey
listed_key blocks inner order = record { key = listed_value blocks inner (out-Order order).expr; desc = (out-Order order).desc; nulls_first = (out-Order order).nulls_first }

abbrev pub listed_line : List Block → Listing → Block → Env → Line
listed_line blocks inner block env = line_at (map (listed_output blocks inner) block.columns) (map (listed_key blocks inner) block.order) env

-- outputs are computed, DISTINCT keeps first rows, ORDER BY sorts stably
abbrev pub rows_of_lines : Block → List Line → List Row
rows_of_lines block lines = map outputs_of (sorted (map direction_of block.order) (distinct_lines block.distinct lines))

-- Around a block none of its own relations has a row: its items give them theirs.
abbrev pub around_block : Block → Env → Env
around_block block outer = without (union (problem_rels block.problem)) outer

abbrev pub run_of_block : List Block → (ℕ → List Row) → Listing → Env → Block → Run
run_of_block blocks tables inner outer block =
    let around = around_block block outer in
    let sources = sources_of blocks tables inner around block.problem.items in
    record { sources = sources; environment = env_from 0 (problem_rels block.problem) sources around; sublinks = sublink_rows blocks inner }

abbrev pub tuples_of_block : List Block → List PlanNode → (ℕ → List Row) → Listing → Env → Block → List Env
tuples_of_block blocks nodes tables inner outer block =
    let run = run_of_block blocks tables inner outer block in
    map run.environment (tree_list run block.problem (tree_at nodes block.plan))

unfoldable pub listed_block : List Block → List PlanNode → (ℕ → List Row) → Listing → Block → Env → Listed
listed_block blocks nodes tables inner block outer =
    let tuples = tuples_of_block blocks nodes tables inner outer block in
    record { tuples = tuples; rows = rows_of_lines block (map (listed_line blocks inner block) tuples) }

-- ---- all blocks

-- what the block of a number gives, of those from a number on
abbrev pub listing_of : ℕ → List (Env → Listed) → Listing
listing_of first listed number = slice_index_or listed (number - first) (λ outer. nothing_listed)

-- A block uses blocks behind it alone.
unfoldable pub listed_from : List Block → List PlanNode → (ℕ → List Row) → ℕ → List Block → List (Env → Listed)
listed_from blocks nodes tables first [] = []
listed_from blocks nodes tables first (block ∷ behind) =
    let inner = listed_from blocks nodes tables (suc first) behind in
    listed_block blocks nodes tables (listing_of (suc first) inner) block ∷ inner

abbrev pub listing : Prepared → (ℕ → List Row) → Listing
listing prepared tables = listing_of 0 (listed_from prepared.blocks prepared.pool.nodes tables 0 prepared.blocks)

-- the rows that a block lists in an environment
abbrev pub list_of : Prepared → (ℕ → List Row) → ℕ → Env → List Row
list_of prepared tables number outer = (listing prepared tables number outer).rows

-- the run of a block in an environment
abbrev pub run_in : Prepared → (ℕ → List Row) → Block → Env → Run
run_in prepared tables block env = run_of_block prepared.blocks tables (listing prepared tables) env block

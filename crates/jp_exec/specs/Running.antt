-- What it takes to run a block.
use Rattle.std.specs.Prelude.{◌≡◌, ℕ, ◌<◌, List, All, length, map}
use Rattle.jp_query.specs.Meaning.{Env}
use Rattle.jp_query.specs.Tables.{TableRows, Belong, rows_of_tables}
use Rattle.jp_tree.specs.declared.prepared.Block.{Block}
use Rattle.jp_tree.specs.declared.prepared.Prepared.{Prepared}
use Rattle.jp_tree.specs.BlockParts.{IsBlockAt}
use Rattle.jp_tree.specs.Prepared.{IsWhole}
use Rattle.jp_indexes.specs.Indexes.{IsIndex}
use Rattle.jp_lists.specs.Lists.{Listing, listing, around_block, rels_of_block, only_rows}
use Rattle.jp_lists.specs.Seen.{FitsOutside}
use Rattle.jp_exec.specs.Columns.{listed_columns, named_by}
use Rattle.jp_exec.specs.declared.execution.Execution.{Execution}

-- What is asked of a call: the statement is whole, the tables belong to the schema over which its expressions are typed, the
-- block is there, and the cell of each outer reference is NULL or of its type and within its bound.
pub record CanExecute (prepared : Prepared) (tables : TableRows) (number : ℕ) (env : Env) : Type 0 where
  pub whole : IsWhole prepared
  pub belong : Belong whole.schema tables
  pub there : number < length prepared.blocks
  pub fits : FitsOutside prepared whole.scope number env

abbrev pub tables_of : Execution → TableRows
tables_of run = run.tables.now.list

-- what each block gives
abbrev pub given_by : Execution → Listing
given_by run = listing run.prepared.now (rows_of_tables (tables_of run))

-- the tuples of a block, each seen at the block's relations
abbrev pub side_of : Execution → ℕ → Env → List Env
side_of run number env = map (only_rows (rels_of_block run.prepared.now.blocks number)) (given_by run number env).tuples

-- the block of this number can be run in the environment
pub record CanRun (run : Execution) (number : ℕ) (env : Env) : Type 0 where
  pub can : CanExecute run.prepared.now (tables_of run) number env
  pub columns : map listed_columns run.columns.now ≡ named_by run.prepared.now (length run.prepared.now.blocks)
  pub indexes : All (IsIndex (tables_of run)) run.indexes.now

-- the items of the block of this number can be run inside it, where `outer` stands around the block
pub record CanRunItems (run : Execution) (number : ℕ) (block : Block) (env : Env) : Type 0 where
  pub outer : Env
  pub runs : CanRun run number outer
  pub there : IsBlockAt run.prepared.now number block
  pub around : env ≡ around_block block outer

-- What is known inside a block that runs.
use Rattle.std.specs.Prelude.{◌≡◌, ℕ, ◌≤◌, List, [], ◌∷◌, map, All, Contains, None, Result, Vec}
use Rattle.std.specs.declared.alloc.Global.{Global}
use Rattle.jp_base.specs.declared.memory.Memory.{Memory}
use Rattle.jp_query.specs.declared.Expr.{Expr}
use Rattle.jp_query.specs.Meaning.{Row, Env}
use Rattle.jp_query.specs.Tables.{TableRows, rows_of_tables}
use Rattle.jp_problem.specs.declared.types.Item.{Item}
use Rattle.jp_problem.specs.declared.types.ItemKind.TheVariants as kind
use Rattle.jp_problem.specs.Problems.{problem_rels}
use Rattle.jp_frame.specs.Maps.{Map}
use Rattle.jp_framed.specs.Environments.{env_from}
use Rattle.jp_tree.specs.declared.prepared.Block.{Block}
use Rattle.jp_tree.specs.BlockParts.{sublinks_of, IsBlockAt}
use Rattle.jp_joins.specs.declared.tuples.Tuple.{Tuple}
use Rattle.jp_joins.specs.Lending.{GivesAt}
use Rattle.jp_joins.specs.Tuples.{map_of}
use Rattle.jp_lists.specs.Lists.{sublink_rows, sources_of, around_block, rels_of_block}
use Rattle.jp_lists.specs.Seen.{IsInside}
use Rattle.jp_lists.specs.Steps.{Run}
use Rattle.jp_items.specs.declared.params.Around.{Around}
use Rattle.jp_items.specs.declared.rows.ItemRows.{ItemRows}
use Rattle.jp_items.specs.Rows.{rows_meant}
use Rattle.jp_items.specs.Scenes.{IsListed, known_rows}
use Rattle.jp_items.specs.Sights.{env_around}
use Rattle.jp_outputs.specs.Exprs.{sublink_number}
use Rattle.jp_exec.specs.Running.{CanRun, given_by, side_of, tables_of}
use Rattle.jp_exec.specs.declared.execution.Execution.{Execution}
use Rattle.jp_exec.specs.declared.interior.Interior.{Interior}

-- the interior of a block whose items have these rows
pub record IsInteriorOf (block : Block) (sources : List ItemRows) (interior : Interior) : Type 0 where
  pub sources_are : interior.sources.items ≡ sources
  pub layout : interior.layout ≡ problem_rels block.problem
  pub sublinks : interior.sublinks.items ≡ map sublink_number (sublinks_of block)
  pub listed : All (IsListed interior.sublinks.items) (sublinks_of block)

-- the interior of two sides with these rows and relations, the right one first
pub record IsInteriorOfSides (block : Block) (right : ItemRows) (right_rels : ℕ) (left : ItemRows) (left_rels : ℕ) (interior : Interior) : Type 0 where
  pub sources_are : interior.sources.items ≡ right ∷ left ∷ []
  pub layout : interior.layout ≡ right_rels ∷ left_rels ∷ []
  pub sublinks : interior.sublinks.items ≡ map sublink_number (sublinks_of block)
  pub listed : All (IsListed interior.sublinks.items) (sublinks_of block)

-- ---- what maps stand for

abbrev pub inside_env : TableRows → Around → Interior → Map → Env
inside_env tables around interior m = env_from 0 interior.layout (map (rows_meant tables) interior.sources.items) (env_around around) m

abbrev pub interior_sources : Execution → Interior → List (List Env)
interior_sources run interior = map (rows_meant (tables_of run)) interior.sources.items

abbrev pub interior_env : Execution → Around → Interior → Map → Env
interior_env run around interior = inside_env (tables_of run) around interior

abbrev pub interior_run : Execution → Around → Interior → Run
interior_run run around interior = record { sources = interior_sources run interior; environment = interior_env run around interior; sublinks = sublink_rows run.prepared.now.blocks (given_by run) }

-- the rows of the interior's sublinks at a map; all others have none
abbrev pub interior_rows : Execution → Around → Interior → Map → ℕ → List Row
interior_rows run around interior m = known_rows interior.sublinks.items (sublink_rows run.prepared.now.blocks (given_by run) (interior_env run around interior m))

abbrev pub GivesInside : Execution → Around → Interior → (Tuple → ℕ → Result (Vec Row Global) Memory → Type 0) → Type 0
GivesInside run around interior gives = (t : Tuple) → GivesAt (interior_rows run around interior (map_of t)) (gives t)

-- ---- blocks

-- The interior is that of the block of this number in an environment: around it stands what stands around the block's items,
-- and these have the rows that they have there.
pub record IsInterior (run : Execution) (number : ℕ) (outer : Env) (block : Block) (around : Around) (interior : Interior) : Type 0 where
  pub runs : CanRun run number outer
  pub there : IsBlockAt run.prepared.now number block
  pub around_is : env_around around ≡ around_block block outer
  pub layout : interior.layout ≡ problem_rels block.problem
  pub sources : interior_sources run interior ≡ sources_of run.prepared.now.blocks (rows_of_tables (tables_of run)) (given_by run) (around_block block outer) block.problem.items
  pub listed : All (IsListed interior.sublinks.items) (sublinks_of block)

pub record IsSomeInterior (run : Execution) (block : Block) (around : Around) (interior : Interior) : Type 0 where
  pub number : ℕ
  pub outer : Env
  pub is : IsInterior run number outer block around interior

-- The interior is that of the two sides of a Full item of the block: their tuples stand where the block's items do.
pub record IsFullInterior (run : Execution) (number : ℕ) (outer : Env) (block : Block) (item : Item) (left right : ℕ) (on : List Expr) (around : Around) (interior : Interior) : Type 0 where
  pub runs : CanRun run number outer
  pub there : IsBlockAt run.prepared.now number block
  pub held : Contains block.problem.items item
  pub kind_is : item.kind ≡ kind.Full left right on
  pub around_is : env_around around ≡ around_block block outer
  pub layout : interior.layout ≡ rels_of_block run.prepared.now.blocks right ∷ rels_of_block run.prepared.now.blocks left ∷ []
  pub sources : interior_sources run interior ≡ side_of run right (env_around around) ∷ side_of run left (env_around around) ∷ []
  pub listed : All (IsListed interior.sublinks.items) (sublinks_of block)

pub record IsSomeFull (run : Execution) (on : List Expr) (around : Around) (interior : Interior) : Type 0 where
  pub number : ℕ
  pub outer : Env
  pub block : Block
  pub item : Item
  pub left : ℕ
  pub right : ℕ
  pub is : IsFullInterior run number outer block item left right on around interior

-- The sublinks of the interior are those of the block of this number; each of its maps is inside the block, and gives no
-- relation past 63 a row.
pub record CanRunSublinks (run : Execution) (number : ℕ) (around : Around) (interior : Interior) : Type 0 where
  pub outer : Env
  pub runs : CanRun run number outer
  pub block : Block
  pub there : IsBlockAt run.prepared.now number block
  pub inside : (m : Map) → IsInside runs.can.whole.scope (around_block block outer) (interior_env run around interior m)
  pub beyond : (m : Map) (rel : ℕ) → 64 ≤ rel → interior_env run around interior m rel ≡ None
  pub own : interior.sublinks.items ≡ map sublink_number (sublinks_of block)

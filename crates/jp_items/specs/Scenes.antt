-- What the expressions of a block are evaluated in, and what its steps mean there.
use Rattle.std.specs.Prelude.{◌≡◌, ℕ, ◌==◌, Bool, List, [], All, IsTrue, Option, Result, Vec, if◌then◌else◌}
use Rattle.std.specs.declared.alloc.Global.{Global}
use Rattle.std.specs.List.{list_any}
use Rattle.std.specs.Option.{option_map}
use Rattle.std.specs.Borrow.{Bor}
use Rattle.jp_base.specs.declared.memory.Memory.{Memory}
use Rattle.jp_query.specs.declared.Expr.{Expr}
use Rattle.jp_query.specs.declared.JoinKind.{JoinKind}
use Rattle.jp_query.specs.Meaning.{Row, Env}
use Rattle.jp_query.specs.Outermost.{Outer}
use Rattle.jp_query.specs.Tables.{Belong, rows_of_tables}
use Rattle.jp_problem.specs.Problems.{problem_rels}
use Rattle.jp_frame.specs.Maps.{Map}
use Rattle.jp_tree.specs.declared.prepared.Block.{Block}
use Rattle.jp_tree.specs.BlockParts.{sublinks_of, IsBlockAt}
use Rattle.jp_tree.specs.Prepared.{IsWhole}
use Rattle.jp_joins.specs.declared.tuples.Tuple.{Tuple}
use Rattle.jp_joins.specs.Lending.{GivesAt}
use Rattle.jp_joins.specs.Meant.{Meant}
use Rattle.jp_joins.specs.Tuples.{map_of}
use Rattle.jp_lists.specs.Lists.{Listing, listing, sublink_rows, sources_of, around_block}
use Rattle.jp_lists.specs.Seen.{FitsOutside}
use Rattle.jp_lists.specs.Steps.{Run}
use Rattle.jp_items.specs.Sights.{env_around, sight_env, sources_in}
use Rattle.jp_items.specs.declared.scene.Scene.{Scene}
use Rattle.jp_items.specs.declared.scene.SceneStep.{SceneStep}

-- ---- the rows of sublinks

abbrev pub is_listed : List ℕ → ℕ → Bool
is_listed numbers sub = list_any (λ number. number == sub) numbers

-- the rows of the sublinks that are listed; all others have none
abbrev pub known_rows : List ℕ → (ℕ → List Row) → ℕ → List Row
known_rows numbers rows sub = if is_listed numbers sub then rows sub else []

abbrev pub tables_in : Scene → ℕ → List Row
tables_in scene = rows_of_tables scene.sight.tables.now.list

-- what each block gives over the scene's tables
abbrev pub listing_in : Scene → Listing
listing_in scene = listing scene.prepared.now (tables_in scene)

-- what the blocks of the sublinks list at a map
abbrev pub rows_listed : Scene → Map → ℕ → List Row
rows_listed scene m = sublink_rows scene.prepared.now.blocks (listing_in scene) (sight_env scene.sight m)

abbrev pub rows_known : Scene → Map → ℕ → List Row
rows_known scene m = known_rows scene.sublinks.now (rows_listed scene m)

-- what is handed in gives the rows of each sublink at each tuple
abbrev pub GivesScene : Scene → (Tuple → ℕ → Result (Vec Row Global) Memory → Type 0) → Type 0
GivesScene scene gives = (t : Tuple) → GivesAt (rows_known scene (map_of t)) (gives t)

-- ---- steps

abbrev pub lent_sides : Bor Expr × Bor Expr → Expr × Expr
lent_sides sides = (sides.0.now, sides.1.now)

abbrev pub meant_by : SceneStep → Meant
meant_by step = record {
  kind = step.kind;
  environment = sight_env step.scene.sight;
  sublink_rows = rows_known step.scene;
  key = option_map lent_sides step.key;
  on = step.on.now;
  filters = step.filters.now;
}

-- ---- blocks

-- what the maps of a scene stand for, with all sublinks
abbrev pub run_of : Scene → Run
run_of scene = record { sources = sources_in scene.sight; environment = sight_env scene.sight; sublinks = sublink_rows scene.prepared.now.blocks (listing_in scene) }

abbrev pub IsListed : List ℕ → Outer → Type 0
IsListed numbers sublink = IsTrue (is_listed numbers sublink.number)

-- The scene is that of a block in an environment: its items have their rows, around it stand the rows of the environment but
-- those of its own relations, and its sublinks are known.
pub record IsScene (scene : Scene) (block : Block) : Type 0 where
  pub whole : IsWhole scene.prepared.now
  pub belong : Belong whole.schema scene.sight.tables.now.list
  pub number : ℕ
  pub there : IsBlockAt scene.prepared.now number block
  pub outer : Env
  pub fits : FitsOutside scene.prepared.now whole.scope number outer
  pub layout : scene.sight.layout.now ≡ problem_rels block.problem
  pub around : env_around scene.sight.around ≡ around_block block outer
  pub sources : sources_in scene.sight ≡ sources_of scene.prepared.now.blocks (tables_in scene) (listing_in scene) (around_block block outer) block.problem.items
  pub sublinks : All (IsListed scene.sublinks.now) (sublinks_of block)

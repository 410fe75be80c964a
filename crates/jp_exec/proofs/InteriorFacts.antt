-- What a block lists, by what is known inside it.
use Rattle.std.proofs.Common.{◌≡◌, ◌∙◌, ap, ap₂, sym, subst, ℕ, List, [], ◌∷◌, map}
use Rattle.std.specs.Prelude.{All, Result, Vec}
use Rattle.std.specs.declared.alloc.Global.{Global}
use mathlib.Core.Path.{fun_ext}
use Rattle.jp_base.specs.declared.memory.Memory.{Memory}
use Rattle.jp_query.specs.declared.Expr.{Expr}
use Rattle.jp_query.specs.Meaning.{Row, Env}
use Rattle.jp_query.specs.Refs.{union}
use Rattle.jp_query.specs.Tables.{TableRows, Belong, rows_of_tables}
use Rattle.jp_problem.specs.declared.types.Item.{Item}
use Rattle.jp_problem.specs.Problems.{problem_rels}
use Rattle.jp_frame.specs.Maps.{Map}
use Rattle.jp_framed.specs.Environments.{env_from}
use Rattle.jp_tree.specs.declared.prepared.Block.{Block}
use Rattle.jp_tree.specs.declared.prepared.Prepared.{Prepared}
use Rattle.jp_tree.specs.BlockParts.{sublinks_of, IsBlockAt}
use Rattle.jp_tree.specs.Prepared.{IsWhole}
use Rattle.jp_tree.specs.PlanTrees.{tree_at}
use Rattle.jp_table.specs.declared.table.Tables.{Tables}
use Rattle.jp_joins.specs.declared.tuples.Tuple.{Tuple}
use Rattle.jp_joins.specs.Lending.{GivesAt}
use Rattle.jp_joins.specs.Tuples.{map_of}
use Rattle.jp_lists.specs.Lists.{kind_source, Listing, Listed, listing, listed_block, listed_line, only_rows, rels_of_block, rels_of_some, rows_of_lines, run_of_block, sources_of, sublink_rows, around_block, tuples_of_block}
use Rattle.jp_lists.specs.Seen.{FitsOutside}
use Rattle.jp_lists.specs.Steps.{Run, tree_list}
use Rattle.jp_lists.proofs.Unfolds.{block_unfolds}
use Rattle.jp_items.specs.declared.params.Around.{Around}
use Rattle.jp_items.specs.declared.scene.Scene.{Scene}
use Rattle.jp_items.specs.declared.sight.Sight.{Sight}
use Rattle.jp_items.specs.Rows.{rows_meant}
use Rattle.jp_items.specs.Scenes.{GivesScene, IsScene, IsListed, known_rows, listing_in, rows_known, run_of, tables_in}
use Rattle.jp_items.specs.Sights.{env_around, sight_env, sources_in}
use Rattle.jp_fulls.specs.Fulls.{IsFullScene, alone_maps, full_envs, matched_maps}
use Rattle.jp_fulls.specs.Sides.{IsSceneOfSides, side_rels, side_tuples}
use Rattle.jp_fulls.proofs.ItemFacts.{full_scene, full_source}
use Rattle.jp_exec.specs.Interiors.{GivesInside, IsFullInterior, IsInterior, IsSomeInterior, interior_env, inside_env, interior_rows, interior_run, interior_sources}
use Rattle.jp_exec.specs.Running.{given_by, side_of, tables_of}
use Rattle.jp_exec.specs.declared.execution.Execution.{Execution}
use Rattle.jp_exec.specs.declared.interior.Interior.{Interior}

-- ---- what the block of the interior lists

module _ (run : Execution) (number : ℕ) (outer : Env) (block : Block) (around : Around) (interior : Interior) (is : IsInterior run number outer block around interior) where
  abbrev stored : ℕ → List Row
  stored = rows_of_tables (tables_of run)

  abbrev blocks : List Block
  blocks = run.prepared.now.blocks

  abbrev the_run : Run
  the_run = run_of_block blocks stored (given_by run) outer block

  abbrev made : List ℕ → List (List Env) → Env → Run
  made rels sources env = record { sources = sources; environment = env_from 0 rels sources env; sublinks = sublink_rows blocks (given_by run) }

  pub run_same : interior_run run around interior ≡ the_run
  run_same = ap (λ rels. made rels (interior_sources run interior) (env_around around)) is.layout ∙ ap₂ (made (problem_rels block.problem)) is.sources is.around_is

  unfolds : given_by run number outer ≡ listed_block blocks run.prepared.now.pool.nodes stored (given_by run) block outer
  unfolds = block_unfolds run.prepared.now stored number block outer is.runs.can.whole is.there

  module _ (maps : List Map) (are : maps ≡ tree_list (interior_run run around interior) block.problem (tree_at run.prepared.now.pool.nodes block.plan)) where
    tuples_same : map (interior_env run around interior) maps ≡ tuples_of_block blocks run.prepared.now.pool.nodes stored (given_by run) outer block
    tuples_same = ap (map (interior_env run around interior)) are
        ∙ ap (λ (r : Run). map r.environment (tree_list r block.problem (tree_at run.prepared.now.pool.nodes block.plan))) run_same

    pub rows_listed : rows_of_lines block (map (listed_line blocks (given_by run) block) (map (interior_env run around interior) maps)) ≡ (given_by run number outer).rows
    unfolding listed_block
    rows_listed = ap (λ tuples. rows_of_lines block (map (listed_line blocks (given_by run) block) tuples)) tuples_same ∙ sym (ap (λ (l : Listed). l.rows) unfolds)

    pub tuples_listed : map (interior_env run around interior) maps ≡ (given_by run number outer).tuples
    unfolding listed_block
    tuples_listed = tuples_same ∙ sym (ap (λ (l : Listed). l.tuples) unfolds)

    own_rels : union (problem_rels block.problem) ≡ rels_of_block blocks number
    own_rels = sym (ap rels_of_some is.there)

    pub side_listed : (rels : ℕ) → rels ≡ union (problem_rels block.problem) → map (only_rows rels) (map (interior_env run around interior) maps) ≡ side_of run number outer
    side_listed rels are = ap (λ r. map (only_rows r) (map (interior_env run around interior) maps)) (are ∙ own_rels) ∙ ap (map (only_rows (rels_of_block blocks number))) tuples_listed

-- ---- what is seen

module _ (tables : Tables) (around : Around) (interior : Interior) (sight : Sight) (tables_are : sight.tables.now ≡ tables) (around_is : sight.around ≡ around) (sources : sight.sources.now ≡ interior.sources.items)
    (layout : sight.layout.now ≡ interior.layout) where
  pub sight_same : sight_env sight ≡ inside_env tables.list around interior
  unfolding sight_env
  sight_same = fun_ext (λ m.
      ap (λ rels. env_from 0 rels (sources_in sight) (env_around sight.around) m) layout
      ∙ ap₂ (λ all env. env_from 0 interior.layout all env m) (ap (λ (t : Tables). map (rows_meant t.list) sight.sources.now) tables_are ∙ ap (map (rows_meant tables.list)) sources) (ap env_around around_is))

-- ---- scenes

module _ (run : Execution) (around : Around) (interior : Interior) (scene : Scene) (prepared : scene.prepared.now ≡ run.prepared.now) (tables : scene.sight.tables.now ≡ run.tables.now)
    (around_is : scene.sight.around ≡ around) (sources : scene.sight.sources.now ≡ interior.sources.items) (layout : scene.sight.layout.now ≡ interior.layout)
    (sublinks : scene.sublinks.now ≡ interior.sublinks.items) where
  sources_same : sources_in scene.sight ≡ interior_sources run interior
  sources_same = ap (λ (t : Tables). map (rows_meant t.list) scene.sight.sources.now) tables ∙ ap (map (rows_meant (tables_of run))) sources

  pub env_same : sight_env scene.sight ≡ interior_env run around interior
  env_same = sight_same run.tables.now around interior scene.sight tables around_is sources layout

  pub listing_same : listing_in scene ≡ given_by run
  listing_same = ap (λ (t : Tables). listing scene.prepared.now (rows_of_tables t.list)) tables ∙ ap (λ p. listing p (rows_of_tables (tables_of run))) prepared

  pub blocks_same : scene.prepared.now.blocks ≡ run.prepared.now.blocks
  blocks_same = ap (λ (p : Prepared). p.blocks) prepared

  by_sublinks : (env : Env) → sublink_rows scene.prepared.now.blocks (listing_in scene) env ≡ sublink_rows run.prepared.now.blocks (given_by run) env
  by_sublinks env = ap₂ (λ bs l. sublink_rows bs l env) blocks_same listing_same

  pub run_is : run_of scene ≡ interior_run run around interior
  run_is = ap₂ (λ all (env : Map → Env). record { sources = all; environment = env; sublinks = sublink_rows scene.prepared.now.blocks (listing_in scene) }) sources_same env_same
      ∙ ap (λ subs. record { sources = interior_sources run interior; environment = interior_env run around interior; sublinks = subs }) (fun_ext by_sublinks)

  rows_same : (m : Map) → rows_known scene m ≡ interior_rows run around interior m
  rows_same m = ap₂ known_rows sublinks (by_sublinks (sight_env scene.sight m) ∙ ap (λ (env : Map → Env). sublink_rows run.prepared.now.blocks (given_by run) (env m)) env_same)

  pub gives_scene : (gives : Tuple → ℕ → Result (Vec Row Global) Memory → Type 0) → GivesInside run around interior gives → GivesScene scene gives
  gives_scene gives g t = subst (λ rows. GivesAt rows (gives t)) (sym (rows_same (map_of t))) (g t)

  pub lines_same : (block : Block) (maps : List Map) → rows_of_lines block (map (listed_line scene.prepared.now.blocks (listing_in scene) block) (map (sight_env scene.sight) maps))
      ≡ rows_of_lines block (map (listed_line run.prepared.now.blocks (given_by run) block) (map (interior_env run around interior) maps))
  lines_same block maps = ap₂ (λ bs l. rows_of_lines block (map (listed_line bs l block) (map (sight_env scene.sight) maps))) blocks_same listing_same
      ∙ ap (λ (env : Map → Env). rows_of_lines block (map (listed_line run.prepared.now.blocks (given_by run) block) (map env maps))) env_same

  -- what is known of the block, over any statement and tables
  record Known (block : Block) (number : ℕ) (outer : Env) (p : Prepared) (t : TableRows) : Type 0 where
    whole : IsWhole p
    belong : Belong whole.schema t
    there : IsBlockAt p number block
    fits : FitsOutside p whole.scope number outer
    rows : interior_sources run interior ≡ sources_of p.blocks (rows_of_tables t) (listing p (rows_of_tables t)) (around_block block outer) block.problem.items

  pub is_scene : (block : Block) → IsSomeInterior run block around interior → IsScene scene block
  is_scene block given =
      let is = given.is in
      let here : Known block given.number given.outer run.prepared.now (tables_of run) =
      record { whole = is.runs.can.whole; belong = is.runs.can.belong; there = is.there; fits = is.runs.can.fits; rows = is.sources } in
      let over : Known block given.number given.outer run.prepared.now scene.sight.tables.now.list =
      subst (λ (t : Tables). Known block given.number given.outer run.prepared.now t.list) (sym tables) here in
      let known : Known block given.number given.outer scene.prepared.now scene.sight.tables.now.list =
      subst (λ p. Known block given.number given.outer p scene.sight.tables.now.list) (sym prepared) over in
      record {
        whole = known.whole;
        belong = known.belong;
        number = given.number;
        there = known.there;
        outer = given.outer;
        fits = known.fits;
        layout = layout ∙ is.layout;
        around = ap env_around around_is ∙ is.around_is;
        sources = sources_same ∙ known.rows;
        sublinks = subst (λ ns. All (IsListed ns) (sublinks_of block)) (sym sublinks) is.listed;
      }

  -- ---- the sides of a Full item

  side_same : (n : ℕ) → side_of run n (env_around around) ≡ map (only_rows (side_rels scene n)) (side_tuples scene n)
  side_same n = ap (λ bs. map (only_rows (rels_of_block bs n)) (given_by run n (env_around around)).tuples) (sym blocks_same)
      ∙ ap₂ (λ (l : Listing) env. map (only_rows (side_rels scene n)) (l n env).tuples) (sym listing_same) (ap env_around (sym around_is))

  -- what is known of the block, without its items
  record Stated (block : Block) (number : ℕ) (outer : Env) (p : Prepared) (t : TableRows) : Type 0 where
    whole : IsWhole p
    belong : Belong whole.schema t
    there : IsBlockAt p number block
    fits : FitsOutside p whole.scope number outer

  module _ (number : ℕ) (outer : Env) (block : Block) (item : Item) (left right : ℕ) (on : List Expr) (is : IsFullInterior run number outer block item left right on around interior) where
    pub is_scene_of_sides : IsSceneOfSides scene block left right
    is_scene_of_sides =
        let here : Stated block number outer run.prepared.now (tables_of run) =
        record { whole = is.runs.can.whole; belong = is.runs.can.belong; there = is.there; fits = is.runs.can.fits } in
        let over : Stated block number outer run.prepared.now scene.sight.tables.now.list =
        subst (λ (t : Tables). Stated block number outer run.prepared.now t.list) (sym tables) here in
        let stated : Stated block number outer scene.prepared.now scene.sight.tables.now.list =
        subst (λ p. Stated block number outer p scene.sight.tables.now.list) (sym prepared) over in
        record {
          whole = stated.whole;
          belong = stated.belong;
          number = number;
          there = stated.there;
          outer = outer;
          fits = stated.fits;
          layout = layout ∙ is.layout ∙ ap (λ bs. rels_of_block bs right ∷ rels_of_block bs left ∷ []) (sym blocks_same);
          around = ap env_around around_is ∙ is.around_is;
          sources = sources_same ∙ is.sources ∙ ap₂ (λ (rs ls : List Env). rs ∷ ls ∷ []) (side_same right) (side_same left);
          sublinks = subst (λ ns. All (IsListed ns) (sublinks_of block)) (sym sublinks) is.listed;
        }

    pub is_full_scene : IsFullScene scene on
    is_full_scene = full_scene scene block item left right on is_scene_of_sides is.held is.kind_is

    source_same : kind_source scene.prepared.now.blocks (tables_in scene) (listing_in scene) (env_around scene.sight.around) item.kind
        ≡ kind_source run.prepared.now.blocks (rows_of_tables (tables_of run)) (given_by run) (env_around around) item.kind
    source_same = ap (λ bs. kind_source bs (tables_in scene) (listing_in scene) (env_around scene.sight.around) item.kind) blocks_same
        ∙ ap (λ (t : Tables). kind_source run.prepared.now.blocks (rows_of_tables t.list) (listing_in scene) (env_around scene.sight.around) item.kind) tables
        ∙ ap₂ (λ l env. kind_source run.prepared.now.blocks (rows_of_tables (tables_of run)) l env item.kind) listing_same (ap env_around around_is)

    seen_same : (env : Map → Env) → env ≡ interior_env run around interior → (matched alone : List Map)
        → full_envs (side_rels scene left) env matched alone ≡ full_envs (rels_of_block run.prepared.now.blocks left) (interior_env run around interior) matched alone
    seen_same env e matched alone = ap₂ (λ bs (seen : Map → Env). full_envs (rels_of_block bs left) seen matched alone) blocks_same e

    pub full_listed : (matched alone : List Map) → matched ≡ matched_maps scene on → alone ≡ alone_maps scene on
        → full_envs (rels_of_block run.prepared.now.blocks left) (interior_env run around interior) matched alone
        ≡ kind_source run.prepared.now.blocks (rows_of_tables (tables_of run)) (given_by run) (env_around around) item.kind
    unfolding sight_env
    full_listed matched alone m a = ap₂ (full_envs (rels_of_block run.prepared.now.blocks left) (interior_env run around interior)) m a
        ∙ sym (seen_same (env_from 0 scene.sight.layout.now (sources_in scene.sight) (env_around scene.sight.around)) env_same (matched_maps scene on) (alone_maps scene on))
        ∙ full_source scene block item left right on is_scene_of_sides is.held is.kind_is
        ∙ source_same

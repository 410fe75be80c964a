-- The scene of a Full item's sides.
use Rattle.std.specs.Prelude.{◌≡◌, ℕ, List, [], ◌∷◌, All, map}
use Rattle.jp_query.specs.Meaning.{Env}
use Rattle.jp_query.specs.Tables.{Belong}
use Rattle.jp_tree.specs.declared.prepared.Block.{Block}
use Rattle.jp_tree.specs.BlockParts.{sublinks_of, IsBlockAt}
use Rattle.jp_tree.specs.Prepared.{IsWhole}
use Rattle.jp_lists.specs.Lists.{only_rows, rels_of_block, around_block}
use Rattle.jp_lists.specs.Seen.{FitsOutside}
use Rattle.jp_items.specs.Scenes.{IsListed, listing_in}
use Rattle.jp_items.specs.Sights.{env_around, sources_in}
use Rattle.jp_items.specs.declared.scene.Scene.{Scene}

-- the relations of the block of a side
abbrev pub side_rels : Scene → ℕ → ℕ
side_rels scene side = rels_of_block scene.prepared.now.blocks side

-- the tuples that the block of a side lists where the scene stands
abbrev pub side_tuples : Scene → ℕ → List Env
side_tuples scene side = (listing_in scene side (env_around scene.sight.around)).tuples

-- The scene is that of the two sides of a Full item of a block in an environment: the items of the scene are the tuples of
-- the right side's block and those of the left one's, around them stand the rows that stand around the block's items, and
-- the block's sublinks are known.
pub record IsSceneOfSides (scene : Scene) (block : Block) (left right : ℕ) : Type 0 where
  pub whole : IsWhole scene.prepared.now
  pub belong : Belong whole.schema scene.sight.tables.now.list
  pub number : ℕ
  pub there : IsBlockAt scene.prepared.now number block
  pub outer : Env
  pub fits : FitsOutside scene.prepared.now whole.scope number outer
  pub layout : scene.sight.layout.now ≡ side_rels scene right ∷ side_rels scene left ∷ []
  pub around : env_around scene.sight.around ≡ around_block block outer
  pub sources : sources_in scene.sight ≡ map (only_rows (side_rels scene right)) (side_tuples scene right) ∷ map (only_rows (side_rels scene left)) (side_tuples scene left) ∷ []
  pub sublinks : All (IsListed scene.sublinks.now) (sublinks_of block)

-- What a prepared statement that is made so has of a whole one: all but the names of its relations and columns, and one scope
-- in which the bounds of all blocks hold.
use Rattle.std.specs.Prelude.{All}
use Rattle.jp_query.specs.Scopes.{Schema}
use Rattle.jp_query.specs.Typing.{IsTypedExpr, IsBoolean}
use Rattle.jp_tree.specs.declared.prepared.Block.{Block}
use Rattle.jp_tree.specs.declared.prepared.Prepared.{Prepared}
use Rattle.jp_tree.specs.BlockParts.{exprs_in, conditions_in}
use Rattle.jp_tree.specs.Prepared.{HasStatement, ItemsStandAlone, KnowsColumns, IsPlannable, HasPlan, ItemsAreBehind, SublinksHaveBlocks, InsGiveOne, HasItsType}

pub record HasTypes (block : Block) : Type 0 where
  pub typed : All IsTypedExpr (exprs_in block)
  pub outputs : All HasItsType block.columns
  pub conditions : All IsBoolean (conditions_in block)

pub record IsRunnable (schema : Schema) (prepared : Prepared) : Type 0 where
  pub statement : HasStatement prepared
  pub alone : ItemsStandAlone prepared
  pub columns : KnowsColumns schema prepared
  pub plannable : All IsPlannable prepared.blocks
  pub plans : All (HasPlan prepared) prepared.blocks
  pub behind : ItemsAreBehind prepared
  pub sublinks : SublinksHaveBlocks prepared
  pub ins : InsGiveOne prepared
  pub types : All HasTypes prepared.blocks

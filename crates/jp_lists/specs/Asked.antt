-- Which sublinks a step asks for.
use Rattle.std.specs.Prelude.{◌≡◌, ℕ, List, ◌++◌, All, Contains}
use Rattle.jp_query.specs.declared.Expr.{Expr}
use Rattle.jp_query.specs.Meaning.{Row}
use Rattle.jp_query.specs.Outermost.{outermost}
use Rattle.jp_frame.specs.Maps.{Map}
use Rattle.jp_joins.specs.Conditions.{sides}
use Rattle.jp_joins.specs.Meant.{Meant}
use Rattle.jp_lists.specs.Seen.{HasSameRows}
use Rattle.jp_tree.specs.BlockParts.{sublinks_of}
use Rattle.jp_tree.specs.declared.prepared.Block.{Block}

-- the sublinks of the expression are those of the block
abbrev pub HasOwnSublinks : Block → Expr → Type 0
HasOwnSublinks block e = All (Contains (sublinks_of block)) (outermost e)

-- each sublink of the expression is given the same rows by both lists
abbrev pub HasRowsAlike : (ℕ → List Row) → (ℕ → List Row) → Expr → Type 0
HasRowsAlike rows others e = All (HasSameRows rows others) (outermost e)

-- the key's sides, what a match makes true, and the filters
abbrev pub exprs_of_step : Meant → List Expr
exprs_of_step meant = sides meant.key ++ (meant.on ++ meant.filters)

-- Two meanings of one step: they differ at most in the rows of sublinks that its expressions don't hold.
pub record AreMeantAlike (one two : Meant) : Type 0 where
  pub kind : one.kind ≡ two.kind
  pub environment : one.environment ≡ two.environment
  pub key : one.key ≡ two.key
  pub on : one.on ≡ two.on
  pub filters : one.filters ≡ two.filters
  pub rows : (m : Map) → All (HasRowsAlike (one.sublink_rows m) (two.sublink_rows m)) (exprs_of_step two)

-- The planned statement of one scan, whatever room its pool has.
use Rattle.std.specs.Prelude.{◌≡◌}
use Rattle.jp_tree.specs.declared.prepared.Prepared.{Prepared}
use Rattle.jp_tree.specs.Examples.{a_scan}

pub record IsScan (prepared : Prepared) : Type 0 where
  pub blocks : prepared.blocks ≡ a_scan.blocks
  pub nodes : prepared.pool.nodes ≡ a_scan.pool.nodes
  pub names : prepared.names ≡ a_scan.names

use Rattle.std.proofs.Common.{◌≡◌, ◌++◌, drop}
use Rattle.std.specs.List.{flat_map}
use Rattle.jp_outputs.specs.Columns.{places_of_block}
use Rattle.jp_outputs.proofs.columns.add_of_blocks.Given as goal

abbrev pub invariant-behind : goal.invariant-behind
invariant-behind l = l.list.items ++ flat_map places_of_block (drop l.at l.blocks) ≡ l.fn.list.items ++ flat_map places_of_block (drop l.fn.first l.blocks)

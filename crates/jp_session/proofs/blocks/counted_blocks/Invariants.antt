use Rattle.std.proofs.Common.{◌≡◌, length}
use Rattle.jp_session.specs.Blocks.{AreMade}
use Rattle.jp_session.proofs.blocks.counted_blocks.Given as goal

abbrev pub invariant-entries : goal.invariant-entries
invariant-entries g l = record {
  made : AreMade l.catalog l.entries l.made.blocks.items l.made.prices.items l.made.pool.nodes;
  count : length l.made.blocks.items ≡ l.at;
}

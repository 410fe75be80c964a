use Rattle.std.proofs.Common.{◌≡◌, ◌+◌, ◌≤◌, length}
use Rattle.jp_search.specs.Counts.{parts_below}
use Rattle.jp_tree.specs.Pools.{GrowsTo}
use Rattle.jp_search.specs.Entries.{Knows}
use Rattle.jp_search.proofs.search.fill.Given as goal

abbrev pub invariant-sets : goal.invariant-sets
invariant-sets g l = record {
  size : length l.table ≡ length l.initial.table;
  known : Knows l.problem l.pool.nodes l.table l.number;
  kept : GrowsTo l.initial.pool.nodes l.pool.nodes;
  shared : length l.pool.nodes ≤ length l.initial.pool.nodes + l.number;
  room : length l.table ≤ l.pool.spare + l.number;
  steps : l.steps ≤ l.initial.steps + parts_below (length l.problem.items) l.number;
}

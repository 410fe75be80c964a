use Rattle.std.proofs.Common.{◌≡◌, length, reverse}
use Rattle.jp_ast.specs.Nodes.{join_chain}
use Rattle.jp_cursor.proofs.nodes.join_chain.Given as goal

abbrev pub invariant-joins : goal.invariant-joins
invariant-joins l = join_chain l.at l.left (reverse l.rest) ≡ join_chain l.at l.fn.first l.fn.joins

abbrev pub decreases-joins : goal.decreases-joins
decreases-joins l = length l.rest

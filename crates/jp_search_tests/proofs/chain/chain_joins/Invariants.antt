use Rattle.std.proofs.Common.{◌≡◌, ◌+◌, length}
use Rattle.jp_search_tests.specs.Chain.{IsChainFrom}
use Rattle.jp_search_tests.proofs.chain.chain_joins.Given as goal

abbrev pub invariant-joins : goal.invariant-joins
invariant-joins l = (length l.joins + 1 ≡ l.number) × IsChainFrom 0 l.joins

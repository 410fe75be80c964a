use Rattle.std.proofs.Common.{rules}
use Rattle.std.proofs.lemmas.Fn.{always_returns_same}
use Rattle.jp_joins.specs.Sorting.{keyed_before}
use Rattle.jp_joins.proofs.SortedFacts.{keyed_weak}
use Rattle.jp_joins.proofs.sorting.in_order.Goals as goal

pub returns-in-Ok-clause-sorted : goal.returns-in-Ok-clause-sorted
returns-in-Ok-clause-sorted c = c.in-Ok.ensures.sorted keyed_before keyed_weak (always_returns_same _ _ _ (λ a r q k. search rules))

pub returns-in-Ok-clause-stable : goal.returns-in-Ok-clause-stable
returns-in-Ok-clause-stable c = c.in-Ok.ensures.stable keyed_before keyed_weak (always_returns_same _ _ _ (λ a r q k. search rules))

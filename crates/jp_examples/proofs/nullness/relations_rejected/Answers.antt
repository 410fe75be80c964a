use Rattle.std.proofs.Common.{refl}
use Rattle.jp_query.specs.Nullness.{nonnull_items}
use Rattle.jp_examples.proofs.Rejected.{some_rejected, all_rejected}
use Rattle.jp_examples.proofs.nullness.relations_rejected.Goals as goal

pub returns-clause-some : goal.returns-clause-some
returns-clause-some c = some_rejected

pub returns-clause-none : goal.returns-clause-none
unfolding nonnull_items
returns-clause-none c = refl

pub returns-clause-all : goal.returns-clause-all
returns-clause-all c = all_rejected

use Rattle.jp_query.specs.Meaning.{given, in_place, no_tables}
use Rattle.jp_strict.proofs.SoundLists.{held_present}
use Rattle.jp_strict.proofs.soundness.nonnull_items_are_present.Goals as goal

pub returns-clause-value : goal.returns-clause-value
returns-clause-value c tables = held_present in_place tables

pub returns-clause-given : goal.returns-clause-given
returns-clause-given c rows = held_present (given rows) no_tables

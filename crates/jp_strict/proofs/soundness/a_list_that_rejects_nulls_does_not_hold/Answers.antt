use Rattle.jp_query.specs.Meaning.{given, in_place, no_tables}
use Rattle.jp_strict.proofs.SoundLists.{not_held}
use Rattle.jp_strict.proofs.soundness.a_list_that_rejects_nulls_does_not_hold.Goals as goal

pub returns-clause-value : goal.returns-clause-value
returns-clause-value c tables gone env conds so = not_held gone env so in_place tables conds

pub returns-clause-given : goal.returns-clause-given
returns-clause-given c rows gone env conds so = not_held gone env so (given rows) no_tables conds

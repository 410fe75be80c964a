use Rattle.jp_query.specs.Meaning.{given, in_place, no_tables}
use Rattle.jp_strict.proofs.SoundTests.{tests_sound}
use Rattle.jp_strict.proofs.soundness.tests_of_nullness_are_sound.Goals as goal

pub returns-clause-null : goal.returns-clause-null
returns-clause-null c tables gone env expr so typed h = (tests_sound gone env so in_place tables expr typed).null h

pub returns-clause-not_true : goal.returns-clause-not_true
returns-clause-not_true c tables gone env expr so typed h = (tests_sound gone env so in_place tables expr typed).not_true h

pub returns-clause-not_false : goal.returns-clause-not_false
returns-clause-not_false c tables gone env expr so typed h = (tests_sound gone env so in_place tables expr typed).not_false h

pub returns-clause-null_given : goal.returns-clause-null_given
returns-clause-null_given c rows gone env expr so typed h = (tests_sound gone env so (given rows) no_tables expr typed).null h

pub returns-clause-not_true_given : goal.returns-clause-not_true_given
returns-clause-not_true_given c rows gone env expr so typed h = (tests_sound gone env so (given rows) no_tables expr typed).not_true h

pub returns-clause-not_false_given : goal.returns-clause-not_false_given
returns-clause-not_false_given c rows gone env expr so typed h = (tests_sound gone env so (given rows) no_tables expr typed).not_false h

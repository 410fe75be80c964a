use Rattle.jp_resolution.specs.Resolving.{resolved}
use Rattle.jp_resolution.proofs.TreeRules.{runs, counts}
use Rattle.jp_resolution.proofs.examples.entries_and_sublinks.Goals as goal

pub returns-clause-thirteen_entries : goal.returns-clause-thirteen_entries
unfolding resolved
returns-clause-thirteen_entries c = simp counts

pub returns-clause-twelve_entries : goal.returns-clause-twelve_entries
unfolding resolved
returns-clause-twelve_entries c = simp runs

pub returns-clause-target_before_entries : goal.returns-clause-target_before_entries
unfolding resolved
returns-clause-target_before_entries c = simp runs

pub returns-clause-in_before_its_operand : goal.returns-clause-in_before_its_operand
unfolding resolved
returns-clause-in_before_its_operand c = simp runs

use Rattle.jp_query.specs.Meaning.{given, in_place, no_tables}
use Rattle.jp_strict.proofs.ForcedNull.{forced_cells}
use Rattle.jp_strict.proofs.soundness.forced_columns_are_null.Goals as goal

pub returns-clause-value : goal.returns-clause-value
returns-clause-value c tables env = forced_cells env in_place tables

pub returns-clause-given : goal.returns-clause-given
returns-clause-given c rows env = forced_cells env (given rows) no_tables

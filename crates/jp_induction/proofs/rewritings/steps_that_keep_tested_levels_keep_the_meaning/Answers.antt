use Rattle.jp_induction.proofs.MeaningKept.{value_kept_where, tuples_kept_where, rows_kept_where}
use Rattle.jp_induction.proofs.rewritings.steps_that_keep_tested_levels_keep_the_meaning.Goals as goal

pub returns : goal.returns
returns c = record { value = λ tables r. value_kept_where tables r; tuples = λ tables r. tuples_kept_where tables r; rows = λ tables r. rows_kept_where tables r }

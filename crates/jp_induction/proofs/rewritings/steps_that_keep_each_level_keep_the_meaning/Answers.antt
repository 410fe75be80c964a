use Rattle.jp_induction.proofs.MeaningKept.{value_kept, tuples_kept, rows_kept}
use Rattle.jp_induction.proofs.rewritings.steps_that_keep_each_level_keep_the_meaning.Goals as goal

pub returns : goal.returns
returns c = record { value = λ tables r. value_kept tables r; tuples = λ tables r. tuples_kept tables r; rows = λ tables r. rows_kept tables r }

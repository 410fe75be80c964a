use Rattle.jp_laws.proofs.LabelUses.{alike_values, alike_tuples, alike_rows}
use Rattle.jp_laws.proofs.labels.same_but_for_labels_means_the_same.Goals as goal

pub returns : goal.returns
returns c = record { value = alike_values; tuples = alike_tuples; rows = alike_rows }

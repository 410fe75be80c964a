use Rattle.jp_laws.proofs.LabelUses.{value, given_value, tuples, rows}
use Rattle.jp_laws.proofs.labels.labels_change_no_value.Goals as goal

pub returns : goal.returns
returns c = record { value = value; given = given_value; tuples = tuples; rows = rows }

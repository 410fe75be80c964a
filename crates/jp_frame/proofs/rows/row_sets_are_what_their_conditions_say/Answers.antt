use Rattle.jp_frame.specs.Rows.{row_set}
use Rattle.jp_frame.proofs.Reading.{row_at, row_from}
use Rattle.jp_frame.proofs.BagLaws.{row_set_lists}
use Rattle.jp_frame.proofs.TreeLaws.{once_from}
use Rattle.jp_frame.proofs.rows.row_sets_are_what_their_conditions_say.Goals as goal

pub returns : goal.returns
returns c = record {
  members = λ f set m ok. (λ h. (h.lives, row_at f ok set m h.row), λ h. record { lives = h.0; row = row_from f ok set m h.1 });
  list = λ f set. once_from f set (row_set f set) (row_set_lists f set);
}

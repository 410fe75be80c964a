use Rattle.jp_frame.proofs.RowLaws.{in_part, hanging_met, in_whole, of_part}
use Rattle.jp_frame.proofs.rows.members_at_a_place_are_members_of_the_right_set.Goals as goal

pub returns : goal.returns
returns c = record {
  parts = λ f set s m ok place l. (λ h. (in_part f ok set s place m h, hanging_met f ok set s place m h), λ h. in_whole f ok set s place m l h.0.row h.1);
  all = λ f set s a ok place. of_part f ok set s place a;
}

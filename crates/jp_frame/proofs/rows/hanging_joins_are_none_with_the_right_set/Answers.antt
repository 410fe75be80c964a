use Rattle.jp_frame.proofs.RowLaws.{none_everywhere, none_meets}
use Rattle.jp_frame.proofs.rows.hanging_joins_are_none_with_the_right_set.Goals as goal

pub returns : goal.returns
returns c f set s m ok place l off = (none_everywhere f ok set s place m l off, none_meets f ok set s place m)

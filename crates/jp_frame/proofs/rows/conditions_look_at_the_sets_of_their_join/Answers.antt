use Rattle.jp_frame.proofs.RowLaws.{condition_local}
use Rattle.jp_frame.proofs.rows.conditions_look_at_the_sets_of_their_join.Goals as goal

pub returns : goal.returns
returns c f s m n ok join long agree = condition_local f ok s join m n agree long

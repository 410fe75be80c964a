use Rattle.jp_frame.proofs.LegalLaws.{least_item}
use Rattle.jp_frame.proofs.legal.joinable_sets_begin_in_the_right_set.Goals as goal

pub returns : goal.returns
returns c f set s i ok = least_item f ok set s i

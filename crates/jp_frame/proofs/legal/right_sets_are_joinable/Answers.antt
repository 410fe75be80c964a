use Rattle.jp_frame.proofs.LegalLaws.{right_place}
use Rattle.jp_frame.proofs.legal.right_sets_are_joinable.Goals as goal

pub returns : goal.returns
returns c f s ok = right_place f ok s

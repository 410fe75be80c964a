use Rattle.jp_framed.proofs.FrameLaws.{is_frame}
use Rattle.jp_framed.proofs.MadeLaws.{made_frame}
use Rattle.jp_framed.proofs.frames.a_problem_is_a_frame.Goals as goal

pub returns : goal.returns
returns c = record {
  conditions = λ problem setting m typed apart. is_frame problem setting m typed apart;
  made = made_frame;
}

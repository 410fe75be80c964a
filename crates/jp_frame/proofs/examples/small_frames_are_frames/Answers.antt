use Rattle.jp_frame.proofs.ExampleLaws.{two_is_frame, kept_is_frame, semi_is_frame, hanging_is_frame}
use Rattle.jp_frame.proofs.examples.small_frames_are_frames.Goals as goal

pub returns : goal.returns
returns c = record { two = two_is_frame; kept = kept_is_frame; semi = semi_is_frame; hangs = hanging_is_frame }

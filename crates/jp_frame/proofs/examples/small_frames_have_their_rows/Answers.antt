use Rattle.std.proofs.Common.{refl}
use Rattle.jp_frame.specs.Rows.{is_row_within}
use Rattle.jp_frame.proofs.examples.small_frames_have_their_rows.Goals as goal

pub returns : goal.returns
unfolding is_row_within
returns c = record { two = refl; two_right = refl; kept = refl; semi = refl; semi_right = refl; hangs = refl; hangs_right = refl }

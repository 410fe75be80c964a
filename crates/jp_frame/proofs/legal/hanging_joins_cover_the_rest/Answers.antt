use Rattle.jp_frame.proofs.LegalLaws.{covered, hangs_on, only_right}
use Rattle.jp_frame.proofs.legal.hanging_joins_cover_the_rest.Goals as goal

pub returns : goal.returns
returns c = record {
  covered = λ f set s i ok place. covered f ok set s place i;
  hangs_on = λ f set s u ok place. hangs_on f ok set s place u;
  only_right = λ f set s ok place. only_right f ok set s place;
}

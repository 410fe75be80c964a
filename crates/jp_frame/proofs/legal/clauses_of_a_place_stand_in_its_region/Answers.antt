use Rattle.jp_frame.proofs.LegalLaws.{region_here, active_region, active_in_right, region_active}
use Rattle.jp_frame.proofs.legal.clauses_of_a_place_stand_in_its_region.Goals as goal

pub returns : goal.returns
returns c = record {
  region = λ f set s k ok place. region_here f ok set s place k;
  active = λ f set s k ok place. active_region f ok set s place k;
  active_in_right = λ f set s k ok place. active_in_right f ok set s place k;
  of_region = λ f set s k ok place. region_active f ok set s place k;
}

use Rattle.jp_frame.proofs.EnoughLaws.{step_enough, scan_enough}
use Rattle.jp_frame.proofs.steps.clauses_by_themselves_are_enough.Goals as goal

pub returns : goal.returns
returns c = record {
  step = λ f left right step ok. step_enough f ok left right step;
  scan = λ f i ok. scan_enough f ok i;
}

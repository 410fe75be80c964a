use Rattle.jp_frame.proofs.StepLaws.{step_to, step_from}
use Rattle.jp_frame.proofs.steps.steps_give_the_row_set_of_the_union.Goals as goal

pub returns : goal.returns
returns c f left right step m ok legal = (step_to f ok left right step legal m, λ h. step_from f ok left right step legal m h.0 h.1)

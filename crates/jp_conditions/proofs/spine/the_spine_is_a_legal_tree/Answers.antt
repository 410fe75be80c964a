use Rattle.jp_conditions.proofs.MadeLaws.{made_spine}
use Rattle.jp_conditions.proofs.SpineLaws.{spine_is_plan, spine_is_plan_with_classes}
use Rattle.jp_conditions.proofs.spine.the_spine_is_a_legal_tree.Goals as goal

pub returns : goal.returns
returns c = record { plain = spine_is_plan; with_classes = spine_is_plan_with_classes; made = made_spine }

use Rattle.jp_lists.proofs.StepLaws.{scan_tested, can_join, can_look_up, all_wide}
use Rattle.jp_lists.proofs.laws.steps_of_a_plan_can_be_run.Goals as goal

pub returns-clause-scan : goal.returns-clause-scan
returns-clause-scan c prepared whole tables number block env i m belong there fits = scan_tested prepared whole tables number block env belong there fits i m

pub returns-clause-join : goal.returns-clause-join
returns-clause-join c prepared whole tables number block env how kind left right belong there fits legal = can_join prepared whole tables number block env belong there fits kind left right how legal

pub returns-clause-look_up : goal.returns-clause-look_up
returns-clause-look_up c prepared whole tables number block env how kind left right belong there fits legal some = can_look_up prepared whole tables number block env belong there fits kind left right how legal some

pub returns-clause-width : goal.returns-clause-width
returns-clause-width c = all_wide

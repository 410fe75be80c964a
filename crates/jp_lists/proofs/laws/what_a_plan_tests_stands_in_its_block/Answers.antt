use Rattle.jp_lists.proofs.AskedLaws.{scan_own, step_own}
use Rattle.jp_lists.proofs.laws.what_a_plan_tests_stands_in_its_block.Goals as goal

pub returns : goal.returns
returns c = record { scan = scan_own; step = λ run block left right kind. step_own block left right kind }

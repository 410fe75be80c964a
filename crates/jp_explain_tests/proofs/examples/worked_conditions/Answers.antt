use Rattle.jp_explain_tests.proofs.LayoutLaws.{conditioned_text}
use Rattle.jp_explain_tests.proofs.examples.worked_conditions.Goals as goal

pub returns : goal.returns
returns c = conditioned_text

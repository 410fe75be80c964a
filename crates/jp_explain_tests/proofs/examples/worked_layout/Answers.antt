use Rattle.jp_explain_tests.proofs.LayoutLaws.{layout_text}
use Rattle.jp_explain_tests.proofs.examples.worked_layout.Goals as goal

pub returns : goal.returns
returns c = layout_text

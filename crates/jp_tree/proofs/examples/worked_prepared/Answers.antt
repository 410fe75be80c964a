use Rattle.jp_tree.proofs.ExampleLaws.{a_scan_is_whole}
use Rattle.jp_tree.proofs.examples.worked_prepared.Goals as goal

pub returns : goal.returns
returns c = a_scan_is_whole

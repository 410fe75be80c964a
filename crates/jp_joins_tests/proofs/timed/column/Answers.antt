use Rattle.std.specs.Prelude.{Some}
use Rattle.jp_joins_tests.specs.Relations.{IsSmall}
use Rattle.jp_joins_tests.proofs.StepLaws.{all_more}
use Rattle.jp_joins_tests.proofs.timed.column.Goals as goal

pub rows-preserved : goal.rows-preserved
rows-preserved c = all_more IsSmall c.rows.list.items c.push.new.self.items (Some c.number_of.result) c.rows.invariant c.number_of.ensures c.in_ok-push.ensures.items

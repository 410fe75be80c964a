use Rattle.jp_joins_tests.specs.Relations.{IsSmall}
use Rattle.jp_joins_tests.proofs.StepLaws.{all_more}
use Rattle.jp_joins_tests.proofs.relations.numbers.Goals as goal

pub given-preserved : goal.given-preserved
given-preserved c = all_more IsSmall c.given.list.items c.push.new.self.items c.widened.result c.given.invariant c.widened.ensures c.in_ok-push.ensures.items

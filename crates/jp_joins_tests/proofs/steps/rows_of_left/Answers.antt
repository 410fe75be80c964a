use Rattle.jp_joins.specs.Tuples.{map_of}
use Rattle.jp_joins_tests.specs.Relations.{IsLeft}
use Rattle.jp_joins_tests.proofs.StepLaws.{all_more}
use Rattle.jp_joins_tests.proofs.steps.rows_of_left.Goals as goal

pub rows-preserved : goal.rows-preserved
rows-preserved c = all_more (λ t. IsLeft (map_of t)) c.rows.list.items c.push.new.self.items _ c.rows.invariant c.in_ok-left_row.ensures c.in_ok-push.ensures.items

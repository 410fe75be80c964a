use Rattle.jp_joins.specs.Tuples.{map_of}
use Rattle.jp_joins_tests.specs.Relations.{IsRight}
use Rattle.jp_joins_tests.proofs.StepLaws.{all_more}
use Rattle.jp_joins_tests.proofs.steps.rows_of_right.Goals as goal

pub rows-preserved : goal.rows-preserved
rows-preserved c = all_more (λ t. IsRight (map_of t)) c.rows.list.items c.push.new.self.items _ c.rows.invariant c.in_ok-right_row.ensures c.in_ok-push.ensures.items

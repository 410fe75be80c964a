use Rattle.jp_examples.proofs.TestLaws.{to_fresh_tests, from_fresh_tests}
use Rattle.jp_examples.proofs.fresh.fresh_by_five_tests.Goals as goal

pub returns : goal.returns
returns c = λ query. (to_fresh_tests query, from_fresh_tests query)

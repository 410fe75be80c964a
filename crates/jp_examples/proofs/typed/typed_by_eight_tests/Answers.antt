use Rattle.jp_examples.proofs.TestLaws.{to_typed_tests, from_typed_tests}
use Rattle.jp_examples.proofs.typed.typed_by_eight_tests.Goals as goal

pub returns : goal.returns
returns c = λ s outer query. (to_typed_tests s outer query, from_typed_tests s outer query)

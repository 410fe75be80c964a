use Rattle.jp_eval.proofs.ExactLaws.{exact}
use Rattle.jp_eval.proofs.laws.values_in_128_bits_are_exact.Goals as goal

pub returns : goal.returns
returns c = exact

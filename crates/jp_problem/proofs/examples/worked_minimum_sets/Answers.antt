use Rattle.jp_problem.proofs.ExampleLaws.{sets_a_b_c, sets_a_b_keeps_c, sets_chain, sets_chain_keeps_d}
use Rattle.jp_problem.proofs.examples.worked_minimum_sets.Goals as goal

pub returns : goal.returns
returns c = record { rejecting = sets_a_b_c; keeping = sets_a_b_keeps_c; rejecting_later = sets_chain; keeping_later = sets_chain_keeps_d }

use Rattle.jp_problem.proofs.ExampleLaws as law
use Rattle.jp_problem.proofs.examples.worked_joinable_sets.Goals as goal

pub returns : goal.returns
returns c = record {
  b_c_rejecting = law.b_c_in_a_b_c;
  b_c_keeping = law.b_c_in_a_b_keeps_c;
  b_c_keeping_later = law.b_c_in_chain_keeps_d;
  c_d_keeping_later = law.c_d_in_chain_keeps_d;
  b_c_d_keeping_later = law.b_c_d_in_chain_keeps_d;
  c_d_rejecting_later = law.c_d_in_chain;
  b_c_d_rejecting_later = law.b_c_d_in_chain;
  b_d_rejecting_later = law.b_d_in_chain;
}

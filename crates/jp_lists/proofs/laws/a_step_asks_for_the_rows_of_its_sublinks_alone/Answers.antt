use Rattle.jp_lists.proofs.AskedLaws.{step_lists, step_joins, step_looks_up}
use Rattle.jp_lists.proofs.laws.a_step_asks_for_the_rows_of_its_sublinks_alone.Goals as goal

pub returns : goal.returns
returns c = record {
  list = λ how one two left right alike. step_lists one two alike how left right;
  join = λ kind one two left right alike can. step_joins one two alike kind left right can;
  look_up = λ one two left right alike can. step_looks_up one two alike left right can;
}

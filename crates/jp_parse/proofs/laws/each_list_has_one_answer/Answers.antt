use Rattle.jp_parse.proofs.Top.{one_answer}
use Rattle.jp_parse.proofs.laws.each_list_has_one_answer.Goals as goal

pub returns : goal.returns
returns c = one_answer

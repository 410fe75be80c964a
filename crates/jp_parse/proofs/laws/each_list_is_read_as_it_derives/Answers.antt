use Rattle.jp_parse.proofs.Top.{parsed_read, one_statement, one_place}
use Rattle.jp_parse.proofs.Answering.{answer_is}
use Rattle.jp_parse.proofs.laws.each_list_is_read_as_it_derives.Goals as goal

pub returns : goal.returns
returns c = record { read = parsed_read; answered = answer_is; one = one_statement; place = one_place }

use Rattle.jp_lex.proofs.Answers.{answer_means}
use Rattle.jp_lex.proofs.Whole.{answer_of_tokens, answer_of_refusal}
use Rattle.jp_lex.proofs.each_source_is_cut_as_answered.Goals as goal

pub returns-clause-answer : goal.returns-clause-answer
returns-clause-answer c = answer_means

pub returns-clause-tokens : goal.returns-clause-tokens
returns-clause-tokens c = answer_of_tokens

pub returns-clause-refusal : goal.returns-clause-refusal
returns-clause-refusal c = answer_of_refusal

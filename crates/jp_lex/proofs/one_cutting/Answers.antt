use Rattle.jp_lex.proofs.Whole.{some_answer, tokens_once, refused_once, tokens_or_refused}
use Rattle.jp_lex.proofs.one_cutting.Goals as goal

pub returns-clause-some : goal.returns-clause-some
returns-clause-some c = some_answer

pub returns-clause-tokens : goal.returns-clause-tokens
returns-clause-tokens c = tokens_once

pub returns-clause-refusal : goal.returns-clause-refusal
returns-clause-refusal c = refused_once

pub returns-clause-apart : goal.returns-clause-apart
returns-clause-apart c = tokens_or_refused

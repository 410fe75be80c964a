use Rattle.jp_explain_tests.proofs.Printing.{below_text, listed_text, quotes_text, signed_text, sublinks_text, tested_text}
use Rattle.jp_explain_tests.proofs.examples.worked_expressions.Goals as goal

pub returns-clause-signed : goal.returns-clause-signed
returns-clause-signed c = signed_text

pub returns-clause-tested : goal.returns-clause-tested
returns-clause-tested c = tested_text

pub returns-clause-listed : goal.returns-clause-listed
returns-clause-listed c = listed_text

pub returns-clause-sublinks : goal.returns-clause-sublinks
returns-clause-sublinks c = sublinks_text

pub returns-clause-quotes : goal.returns-clause-quotes
returns-clause-quotes c = quotes_text

pub returns-clause-below : goal.returns-clause-below
returns-clause-below c = below_text

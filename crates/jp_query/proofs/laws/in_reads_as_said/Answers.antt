use Rattle.jp_query.proofs.InLaw.{among_reads}
use Rattle.jp_query.proofs.laws.in_reads_as_said.Goals as goal

pub returns : goal.returns
returns c = among_reads

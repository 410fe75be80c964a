use Rattle.jp_laws.proofs.FirstLines.{first_lines_grow}
use Rattle.jp_laws.proofs.distinct.distinct_grows_by_new_outputs.Goals as goal

pub returns : goal.returns
returns c = λ lines line. first_lines_grow line lines

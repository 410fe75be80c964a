use Rattle.jp_laws.proofs.DistinctLaws.{firsts, each, distinct}
use Rattle.jp_laws.proofs.FirstLines.{first_lines_in_order}
use Rattle.jp_laws.proofs.distinct.distinct_keeps_the_first_of_each.Goals as goal

pub returns : goal.returns
returns c = record { firsts = firsts; each = each; distinct = distinct; in_order = first_lines_in_order }

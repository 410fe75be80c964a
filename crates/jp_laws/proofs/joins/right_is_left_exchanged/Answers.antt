use Rattle.jp_laws.proofs.JoinLaws.{exchanged, exchanged_rels}
use Rattle.jp_laws.proofs.joins.right_is_left_exchanged.Goals as goal

pub returns : goal.returns
returns c = record { tuples = exchanged; rels = exchanged_rels }

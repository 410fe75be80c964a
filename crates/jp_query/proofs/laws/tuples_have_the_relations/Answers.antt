use Rattle.jp_query.proofs.RelsLaw.{rels_same}
use Rattle.jp_query.proofs.laws.tuples_have_the_relations.Goals as goal

pub returns : goal.returns
returns c = rels_same

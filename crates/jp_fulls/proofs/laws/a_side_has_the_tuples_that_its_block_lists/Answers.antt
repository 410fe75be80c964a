use Rattle.jp_fulls.proofs.ItemFacts.{side_listed, side_relations}
use Rattle.jp_fulls.proofs.laws.a_side_has_the_tuples_that_its_block_lists.Goals as goal

pub returns-clause-tuples : goal.returns-clause-tuples
returns-clause-tuples c = side_listed

pub returns-clause-relations : goal.returns-clause-relations
returns-clause-relations c = side_relations

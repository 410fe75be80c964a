use Rattle.jp_laws.proofs.LeafLaws.{own_in_tree, own_in_query, rels_are_own}
use Rattle.jp_laws.proofs.leaves.own_leaves_are_leaves.Goals as goal

pub returns : goal.returns
returns c = record { tree = own_in_tree; query = own_in_query; rels = rels_are_own }

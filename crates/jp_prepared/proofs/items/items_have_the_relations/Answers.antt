use Rattle.jp_prepared.proofs.ItemLaws.{have_rels}
use Rattle.jp_prepared.proofs.items.items_have_the_relations.Goals as goal
use Rattle.jp_prepared.specs.Sources.{items_of_block}

pub returns : goal.returns
returns c = λ catalog sources block_at nodes number query items h. have_rels catalog sources block_at nodes number (items_of_block query) items h

use Rattle.jp_conditions.proofs.ItemCount.{some_items, few_items}
use Rattle.jp_conditions.proofs.few_items.a_block_has_few_items.Goals as goal

pub returns : goal.returns
returns c = record { some = some_items; few = few_items }

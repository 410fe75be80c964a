use Rattle.jp_spine.proofs.OwnSources.{own_sources}
use Rattle.jp_spine.proofs.sources.tuples_of_items_hold_them.Goals as goal

pub returns : goal.returns
returns c = own_sources

use Rattle.jp_laws.proofs.UniqueSorts.{only_sort}
use Rattle.jp_laws.proofs.unique_sorts.sort_is_the_only_one.Goals as goal

pub returns : goal.returns
returns c = only_sort

use Rattle.jp_laws.proofs.SortLaws.{permutes, in_order, stable}
use Rattle.jp_laws.proofs.sorts.sort_is_stable_and_in_order.Goals as goal

pub returns : goal.returns
returns c = record { permutation = permutes; order = in_order; stable = stable }

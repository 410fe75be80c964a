use Rattle.jp_base.proofs.ValueOrder.{values_total, values_weak, tie_equal, equal_tie, same_order}
use Rattle.jp_base.proofs.cells.values_are_ordered.Goals as goal

pub returns : goal.returns
returns c = record { total = values_total; weak = values_weak; equal = λ a b. (tie_equal a b, equal_tie a b); same = same_order }

use Rattle.std.proofs.Common.{arith}
use Rattle.jp_base.proofs.SetLemmas.{has_minus}
use Rattle.jp_base.proofs.sets.RelSet.minus.Goals as goal

pub returns-clause-members : goal.returns-clause-members
returns-clause-members c = rw (← c.self.view_is, ← c.o.view_is) (λ i. has_minus c.self.inside.bits c.o.inside.bits i (omega arith) (omega arith))

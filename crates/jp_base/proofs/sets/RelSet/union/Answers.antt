use Rattle.std.proofs.Common.{arith}
use Rattle.std.proofs.lemmas.Nat.{or_lt}
use Rattle.jp_base.proofs.SetLemmas.{has_or}
use Rattle.jp_base.proofs.sets.RelSet.union.Goals as goal

pub returns-clause-members : goal.returns-clause-members
returns-clause-members c = rw (← c.self.view_is, ← c.o.view_is) (has_or c.self.inside.bits c.o.inside.bits)

pub returns-clause-below : goal.returns-clause-below
returns-clause-below c = or_lt 64 c.self.inside.bits c.o.inside.bits (omega arith) (omega arith)

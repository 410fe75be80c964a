use Rattle.std.proofs.Common.{arith}
use Rattle.jp_base.proofs.SetLemmas.{zero_empty}
use Rattle.jp_base.proofs.sets.RelSet.next_part.Goals as goal

pub returns-clause-none : goal.returns-clause-none
returns-clause-none c = rw (← c.p.view_is) (λ h. cc, λ none. absurd (c.if-p-eq0.false (zero_empty c.p.inside.bits (omega arith) none)))

use Rattle.std.proofs.Common.{arith}
use Rattle.jp_base.proofs.SetLemmas.{least_member, zero_empty}
use Rattle.jp_base.proofs.sets.RelSet.first.Goals as goal

pub returns-else-self-eq0-clause-none : goal.returns-else-self-eq0-clause-none
returns-else-self-eq0-clause-none c = rw (← c.self.view_is) (λ h. cc, λ none. absurd (c.if-self-eq0.false (zero_empty c.self.inside.bits (omega arith) none)))

pub returns-else-self-eq0-clause-least : goal.returns-else-self-eq0-clause-least
returns-else-self-eq0-clause-least c = rw (← c.self.view_is) (least_member c.self.inside.bits c.if-self-eq0.false (omega arith)).1

use Rattle.std.proofs.Common.{eq-eqb}
use Rattle.std.proofs.lemmas.Bool.{eqb-true}
use Rattle.jp_base.proofs.SetLemmas.{within_and}
use Rattle.jp_base.proofs.sets.RelSet.within.Goals as goal

pub returns : goal.returns
returns c =
    let law = within_and c.self.inside.bits c.o.inside.bits in
    rw (← c.self.view_is, ← c.o.view_is) (λ h. law.0 (eqb-true _ _ h), λ h. eq-eqb _ _ (law.1 h))

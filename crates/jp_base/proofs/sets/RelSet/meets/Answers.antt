use Rattle.std.proofs.Common.{nat_eq, arith}
use Rattle.std.specs.Prelude.{bit_and}
use Rattle.std.proofs.lemmas.Bool.{eqb-false, ne_eqb, not-true, not_from_false}
use Rattle.jp_base.proofs.SetLemmas.{meets_and}
use Rattle.jp_base.proofs.sets.RelSet.meets.Goals as goal

pub returns-clause-members : goal.returns-clause-members
returns-clause-members c =
    let law = meets_and c.self.inside.bits c.o.inside.bits (omega arith) in
    let both = bit_and c.self.inside.bits c.o.inside.bits in
    rw (← c.self.view_is, ← c.o.view_is) (λ h. law.0 (eqb-false both 0 (not-true (nat_eq both 0) h)), λ h. not_from_false (nat_eq both 0) (ne_eqb both 0 (law.1 h)))

use Rattle.std.proofs.Common.{arith}
use Rattle.jp_search.proofs.NumberLaws.{number_with, number_without}
use Rattle.std.proofs.lemmas.Bool.{both_ways}
use Rattle.jp_search.proofs.numbers.number.Goals as goal
use Rattle.jp_search.proofs.numbers.number.Goals.{then-has, else-has}

pub items-preserved : goal.items-preserved
items-preserved c =
    elim c.if-has.branch [
      | then-has w ↦ number_with c.args.set c.items.i c.items.number c.if-has.number (omega (arith, c.items-test.true)) c.items.invariant (c.has.ensures.0 w.if-has.true) w.number-is
      | else-has w ↦ number_without c.args.set c.items.i c.items.number c.if-has.number c.items.invariant (λ h. both_ways c.has.result w.if-has.false (c.has.ensures.1 h)) w.number-is
    ]

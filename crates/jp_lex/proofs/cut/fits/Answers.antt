use Rattle.jp_lex.proofs.Values.{too_wide}
use Rattle.jp_lex.proofs.cut.fits.Goals as goal

pub returns-then-value-digit : goal.returns-then-value-digit
returns-then-value-digit c =
    too_wide c.loop-b.value c.from-digit.result c.loop-b.b-index _ c.args.digits.now c.loop-b-test.true (cc) c.if-value-digit.true c.loop-b.invariant.same

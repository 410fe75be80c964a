use Rattle.std.proofs.Common.{◌∙◌, sym, arith}
use Rattle.jp_naive.proofs.FrameFacts.{no_leaf, passed_leaf}
use Rattle.jp_naive.proofs.frames.seen_in.Goals as goal

pub leaves-preserved : goal.leaves-preserved
leaves-preserved c tables outer =
    sym (passed_leaf tables c.args.leaves.now c.args.numbers.now c.leaves.at c.index-leaves-at.result outer c.args.rel (omega (arith, c.leaves-test.true, c.min-at-end.ensures)) (omega (arith, c.leaves-test.true, c.min-at-end.ensures)) c.if-leaves-at.false)
    ∙ c.leaves.invariant tables outer

pub returns : goal.returns
returns c tables outer = sym (no_leaf tables c.args.leaves.now c.args.numbers.now c.leaves.at outer c.args.rel (omega (arith, c.leaves-test.false, c.min-at-end.ensures))) ∙ c.leaves.invariant tables outer

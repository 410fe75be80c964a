use Rattle.std.proofs.Common.{◌∙◌, sym, arith}
use Rattle.jp_exec.proofs.BlockFacts.{found_here, found_later, found_nowhere}
use Rattle.jp_exec.proofs.places.block_of_sublink.Goals as goal

pub returns-then-is_of : goal.returns-then-is_of
returns-then-is_of c = sym (found_here c.args.blocks.now c.args.sub c.blocks-2.at _ c.blocks-2-test.true (sym c.is_of.ensures ∙ c.if-is_of.true)) ∙ c.blocks-2.invariant

pub blocks-2-preserved : goal.blocks-2-preserved
blocks-2-preserved c = sym (found_later c.args.blocks.now c.args.sub c.blocks-2.at _ c.blocks-2-test.true (sym c.is_of.ensures ∙ c.if-is_of.false)) ∙ c.blocks-2.invariant

pub returns : goal.returns
returns c = sym (found_nowhere c.args.blocks.now c.args.sub c.blocks-2.at (omega (arith, c.blocks-2-test.false, c.blocks-2.auto.at-end))) ∙ c.blocks-2.invariant

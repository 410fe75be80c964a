use Rattle.std.proofs.Common.{arith}
use Rattle.jp_lex.proofs.Gaps.{gap_ends, gap_goes}
use Rattle.jp_lex.proofs.scan.gap_len.Goals as goal

pub returns-in-0-clause-longest : goal.returns-in-0-clause-longest
returns-in-0-clause-longest c = gap_ends c.args.src.now c.pieces.len c.piece_len.result c.pieces.invariant.longest c.piece_len.ensures.value c.in-0.is

pub pieces-preserved : goal.pieces-preserved
pieces-preserved c = record {
  within = grind arith;
  longest = gap_goes c.args.src.now c.pieces.len c.piece_len.result c.pieces.invariant.longest c.piece_len.ensures.value (omega arith);
}

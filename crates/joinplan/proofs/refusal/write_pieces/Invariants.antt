use Rattle.std.proofs.Common.{◌≤◌, take}
use Rattle.jp_io.specs.Sinks.{TookMore}
use Rattle.joinplan.specs.Lines.{bytes_of}
use Rattle.joinplan.proofs.refusal.write_pieces.Given as goal

abbrev pub invariant-loop-piece : goal.invariant-loop-piece
invariant-loop-piece g l = record {
  took : TookMore (g.E.Sink.taken l.fn.err) (bytes_of (take l.piece-index l.pieces)) (g.E.Sink.taken l.err);
  kept : g.E.Sink.faults l.fn.err ≤ g.E.Sink.faults l.err;
}

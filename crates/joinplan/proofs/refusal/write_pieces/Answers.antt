use Rattle.std.proofs.Common.{◌++◌, subst, sym, arith, drop, suc, take}
use Rattle.jp_io.specs.Sinks.{TookMore, TookMore-twice}
use Rattle.joinplan.specs.Lines.{TookLine, bytes_of}
use Rattle.joinplan.proofs.LineLemmas.{bytes_around, bytes_more, stopped, took-then}
use Rattle.joinplan.proofs.refusal.write_pieces.Goals as goal

pub returns-in_err-write_all-clause-line : goal.returns-in_err-write_all-clause-line
returns-in_err-write_all-clause-line g c =
    let pieces = c.args.pieces.now in
    let i = c.loop-piece.piece-index in
    let piece = c.as_bytes.result.now in
    let failed = c.in_err-write_all.ensures in
    subst (TookLine (g.E.Sink.taken c.args.err.now) (g.E.Sink.taken c.write_all.new.sink) (g.E.Sink.faults c.args.err.now) (g.E.Sink.faults c.write_all.new.sink))
    (sym (bytes_around pieces i _ piece c.loop-piece-test.true c.as_bytes.ensures.value))
    (took-then _ _ _ _ _ _ (bytes_of (take i pieces)) (piece ++ bytes_of (drop (suc i) pieces)) c.loop-piece.invariant.took c.loop-piece.invariant.kept
    (stopped _ _ _ _ piece (bytes_of (drop (suc i) pieces)) c.in_err-write_all.field-0.0 failed.cause failed.part))

pub loop-piece-preserved : goal.loop-piece-preserved
loop-piece-preserved g c =
    let pieces = c.args.pieces.now in
    let i = c.loop-piece.piece-index in
    let piece = c.as_bytes.result.now in
    record {
      took = subst (λ bytes. TookMore (g.E.Sink.taken c.args.err.now) bytes (g.E.Sink.taken c.write_all.new.sink)) (sym (bytes_more pieces i _ piece c.loop-piece-test.true c.as_bytes.ensures.value))
          (TookMore-twice _ (bytes_of (take i pieces)) _ piece _ c.loop-piece.invariant.took c.in_ok-write_all.ensures.all);
      kept = omega (arith, c.loop-piece.invariant.kept, c.in_ok-write_all.ensures.kept);
    }

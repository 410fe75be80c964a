-- One more piece is taken behind those that were taken before it.
use Rattle.std.proofs.Common.{arith}
use Rattle.jp_io.proofs.Pieces.{within_grows, taken_grows, room_fills}
use Rattle.jp_io.proofs.writing.write_all.Goals as goal

pub pieces-preserved : goal.pieces-preserved
pieces-preserved g c = record {
  within = within_grows c.args.bytes.now c.pieces.at c.in-Ok.n c.pieces.invariant.within c.in-Ok.ensures.bound;
  taken = taken_grows (g.S.Sink.taken c.args.sink.now) (g.S.Sink.taken c.pieces.sink) (g.S.Sink.taken c.write.new.self)
      c.args.bytes.now c.pieces.at c.in-Ok.n c.pieces.invariant.taken c.in-Ok.ensures.takes;
  kept = omega (arith, c.pieces.invariant.kept, c.write.ensures.kept);
  sure = λ has. room_fills (g.S.Sink.room c.args.sink.now) (g.S.Sink.room c.pieces.sink) (g.S.Sink.room c.write.new.self)
      c.args.bytes.now c.pieces.at c.in-Ok.n (g.S.Sink.faults c.args.sink.now) (g.S.Sink.faults c.pieces.sink)
      (g.S.Sink.faults c.write.new.self) has (c.pieces.invariant.sure has) c.in-Ok.ensures.sure;
}

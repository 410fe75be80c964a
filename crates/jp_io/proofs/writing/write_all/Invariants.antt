use Rattle.std.proofs.Common.{◌≡◌, ◌-◌, ◌≤◌, length, take}
use Rattle.jp_io.specs.Sinks.{TookMore, HasRoom, less_room}
use Rattle.jp_io.proofs.writing.write_all.Given as goal

abbrev pub invariant-pieces : goal.invariant-pieces
invariant-pieces g l = record {
  within : l.at ≤ length l.bytes;
  taken : TookMore (g.S.Sink.taken l.initial.sink) (take l.at l.bytes) (g.S.Sink.taken l.sink);
  kept : g.S.Sink.faults l.initial.sink ≤ g.S.Sink.faults l.sink;
  sure : HasRoom (g.S.Sink.room l.initial.sink) (length l.bytes) →
      (g.S.Sink.faults l.sink ≡ g.S.Sink.faults l.initial.sink)
      × (g.S.Sink.room l.sink ≡ less_room (g.S.Sink.room l.initial.sink) l.at);
}

abbrev pub decreases-pieces : goal.decreases-pieces
decreases-pieces g l = length l.bytes - l.at

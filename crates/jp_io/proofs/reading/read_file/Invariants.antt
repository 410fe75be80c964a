use Rattle.std.proofs.Common.{◌≡◌, ◌+◌, ◌-◌, ◌<◌, ◌≤◌, max, length, vec_len}
use Rattle.jp_io.specs.Files.{NoneFalls, StaysSound, IsStartOf}
use Rattle.jp_io.proofs.reading.read_file.Given as goal

abbrev pub invariant-pieces : goal.invariant-pieces
invariant-pieces g l = record {
  same : g.F.Files.contents l.files ≡ g.F.Files.contents l.initial.files;
  kept : NoneFalls (g.F.Files.faults l.initial.files) (g.F.Files.faults l.files);
  sound : StaysSound (g.F.Files.is_sound l.initial.files) (g.F.Files.is_sound l.files)
      (g.F.Files.faults l.initial.files) (g.F.Files.faults l.files);
  start : IsStartOf (g.F.Files.contents l.initial.files) l.name l.bytes.items;
  short : vec_len l.bytes ≤ l.limit;
  some : 0 < length l.piece;
  given : g.F.Files.given l.files ≤ g.F.Files.given l.initial.files + vec_len l.bytes;
  reach : g.F.Files.reach l.files ≤ max (g.F.Files.reach l.initial.files) (l.limit + 1);
}

abbrev pub decreases-pieces : goal.decreases-pieces
decreases-pieces g l = l.limit - vec_len l.bytes

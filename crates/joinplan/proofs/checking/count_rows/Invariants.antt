use Rattle.std.proofs.Common.{◌≡◌, []}
use Rattle.jp_io.specs.Files.{NoneFalls, StaysSound}
use Rattle.joinplan.specs.Answers.{with_count}
use Rattle.joinplan.proofs.ReadingLemmas.{GivenBy}
use Rattle.joinplan.proofs.checking.count_rows.Given as goal

abbrev pub invariant-loop-i : goal.invariant-loop-i
invariant-loop-i g l = record {
  same : g.F.Files.contents l.files ≡ g.F.Files.contents l.fn.files;
  kept : NoneFalls (g.F.Files.faults l.fn.files) (g.F.Files.faults l.files);
  sound : StaysSound (g.F.Files.is_sound l.fn.files) (g.F.Files.is_sound l.files) (g.F.Files.faults l.fn.files) (g.F.Files.faults l.files);
  told : GivenBy (g.F.Files.contents l.fn.files) with_count [] l.catalog.tables l.i l.text.items;
}

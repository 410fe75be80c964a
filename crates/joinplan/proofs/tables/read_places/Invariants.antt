use Rattle.std.proofs.Common.{◌≡◌, take}
use Rattle.std.specs.Prelude.{All}
use Rattle.jp_io.specs.Files.{NoneFalls, StaysSound}
use Rattle.jp_query.specs.Tables.{IsLoaded, Belong}
use Rattle.jp_resolution.specs.Schemas.{schema_of}
use Rattle.joinplan.specs.Answers.{with_table}
use Rattle.joinplan.specs.Loaded.{KeysKept}
use Rattle.joinplan.proofs.ReadingLemmas.{GivenBy}
use Rattle.joinplan.proofs.tables.read_places.Given as goal

abbrev pub invariant-loop-place : goal.invariant-loop-place
invariant-loop-place g l = record {
  same : g.F.Files.contents l.files ≡ g.F.Files.contents l.fn.files;
  kept : NoneFalls (g.F.Files.faults l.fn.files) (g.F.Files.faults l.files);
  sound : StaysSound (g.F.Files.is_sound l.fn.files) (g.F.Files.is_sound l.files) (g.F.Files.faults l.fn.files) (g.F.Files.faults l.files);
  told : GivenBy (g.F.Files.contents l.fn.files) (λ held. with_table held l.catalog) l.fn.tables.list l.places l.place-index l.tables.list;
  belong : Belong (schema_of l.catalog) l.tables.list;
  keys : KeysKept l.catalog.tables l.tables.list;
  loaded : All (IsLoaded l.tables.list) (take l.place-index l.places);
}

use Rattle.std.proofs.Common.{◌∙◌, Ok, Err, arith, subst, sym, get_or}
use Rattle.std.proofs.lemmas.Option.{slice_get-get_or}
use Rattle.std.proofs.lemmas.Result.{err_from_is_err_and}
use Rattle.std.proofs.lemmas.List.Elements.{All-weaker}
use Rattle.jp_query.specs.Tables.{IsLoaded}
use Rattle.joinplan.specs.Answers.{with_table}
use Rattle.joinplan.specs.Readings.{AgreesTold, fold_in}
use Rattle.joinplan.proofs.ReadingLemmas.{given_until, one_more_given, told_on, told_shown}
use Rattle.joinplan.proofs.SureLemmas.{sound_then}
use Rattle.joinplan.proofs.TableLemmas.{all_more, all_taken}
use Rattle.joinplan.proofs.tables.read_places.Goals as goal

pub returns-in_err-read_place-clause-told : goal.returns-in_err-read_place-clause-told
returns-in_err-read_place-clause-told g c =
    let contents = g.F.Files.contents c.args.files.now in
    let catalog = c.args.catalog.now in
    let places = c.args.places.now in
    let i = c.loop-place.place-index in
    let place = get_or places i 0 in
    let here = slice_get-get_or places i 0 c.loop-place-test.true in
    let r = c.in_err-read_place.field-0.0 in
    let p = err_from_is_err_and c.from_residual.result c.from_residual.ensures.1 in
    let told = subst (λ x. AgreesTold {X = Unit {0}} (λ u. c.read_place.new.tables.list) (Err r) x (λ held. with_table held catalog c.loop-place.tables.list place)) c.loop-place.invariant.same c.in_err-read_place.ensures.told in
    let until = given_until contents (λ held. with_table held catalog) c.args.tables.now.list places {Y = Unit {0}} {Z = Unit {0}} (λ u. c.read_place.new.tables.list) (λ u. c.read_place.new.tables.list) i place c.loop-place.tables.list r here c.loop-place.invariant.told told in
    told_on {Z = Unit {0}} _ (λ u. c.read_place.new.tables.list) contents (λ held. fold_in (with_table held catalog) c.args.tables.now.list places) c.from_residual.result p.0 p.1
    (subst (λ x. AgreesTold {X = Unit {0}} (λ u. c.read_place.new.tables.list) (Err x) contents (λ held. fold_in (with_table held catalog) c.args.tables.now.list places)) (sym p.2) until)

pub loop-place-preserved : goal.loop-place-preserved
loop-place-preserved g c =
    let contents = g.F.Files.contents c.args.files.now in
    let catalog = c.args.catalog.now in
    let places = c.args.places.now in
    let i = c.loop-place.place-index in
    let place = get_or places i 0 in
    let here = slice_get-get_or places i 0 c.loop-place-test.true in
    let before = c.loop-place.invariant in
    let ensured = c.in_ok-read_place.ensures in
    record {
      same = ensured.same ∙ before.same;
      kept = λ name. omega (arith, before.kept name, ensured.kept name);
      sound = sound_then _ _ _ _ _ _ before.sound ensured.sound;
      told = one_more_given contents (λ held. with_table held catalog) c.args.tables.now.list places i place c.loop-place.tables.list c.read_place.new.tables.list here before.told
          (told_shown (λ (u : Unit {0}). c.read_place.new.tables.list) contents (λ held. with_table held catalog c.loop-place.tables.list place) tt
          (subst (λ x. AgreesTold {X = Unit {0}} (λ u. c.read_place.new.tables.list) (Ok tt) x (λ held. with_table held catalog c.loop-place.tables.list place)) before.same ensured.told));
      belong = ensured.belong;
      keys = ensured.keys;
      loaded = all_more (IsLoaded c.read_place.new.tables.list) places i place here (All-weaker (IsLoaded c.loop-place.tables.list) (IsLoaded c.read_place.new.tables.list) ensured.others _ before.loaded) ensured.loaded;
    }

pub returns-clause-loaded : goal.returns-clause-loaded
returns-clause-loaded g c = all_taken (IsLoaded c.loop-place.tables.list) c.args.places.now c.loop-place.place-index c.loop-place-test.false c.loop-place.invariant.loaded

use Rattle.std.proofs.Common.{◌∙◌, ℕ, [], Ok, Err, Vec, Global, arith, subst, sym}
use Rattle.std.proofs.lemmas.Result.{err_from_is_err_and}
use Rattle.joinplan.specs.Answers.{counts_in, with_count}
use Rattle.joinplan.specs.Readings.{AgreesTold}
use Rattle.joinplan.proofs.ReadingLemmas.{given_until, one_more_given, told_on, told_shown}
use Rattle.joinplan.proofs.SureLemmas.{sound_then}
use Rattle.joinplan.proofs.TableLemmas.{listed_at}
use Rattle.joinplan.proofs.checking.count_rows.Goals as goal

pub returns-in_err-count_place-clause-told : goal.returns-in_err-count_place-clause-told
returns-in_err-count_place-clause-told g c =
    let contents = g.F.Files.contents c.args.files.now in
    let tables = c.args.catalog.now.tables in
    let i = c.loop-i.i in
    let (table, here) = listed_at tables i (omega (arith, c.loop-i-test.true, c.len-i-end.ensures)) in
    let r = c.in_err-count_place.field-0.0 in
    let p = err_from_is_err_and c.from_residual.result c.from_residual.ensures.1 in
    let told = subst (λ x. AgreesTold {X = Unit {0}} (λ u. c.count_place.new.text.items) (Err r) x (λ held. with_count held c.loop-i.text.items table)) c.loop-i.invariant.same (rw (here) at c.in_err-count_place.ensures.told) in
    let until = given_until contents with_count [] tables {Y = Vec ℕ Global} {Z = Unit {0}} (λ v. v.items) (λ u. c.count_place.new.text.items) i table c.loop-i.text.items r here c.loop-i.invariant.told told in
    told_on {Z = Vec ℕ Global} (λ v. v.items) (λ v. v.items) contents (λ held. counts_in held c.args.catalog.now) c.from_residual.result p.0 p.1
    (subst (λ x. AgreesTold {X = Vec ℕ Global} (λ v. v.items) (Err x) contents (λ held. counts_in held c.args.catalog.now)) (sym p.2) until)

pub loop-i-preserved : goal.loop-i-preserved
loop-i-preserved g c =
    let contents = g.F.Files.contents c.args.files.now in
    let tables = c.args.catalog.now.tables in
    let i = c.loop-i.i in
    let (table, here) = listed_at tables i (omega (arith, c.loop-i-test.true, c.len-i-end.ensures)) in
    let before = c.loop-i.invariant in
    let ensured = c.in_ok-count_place.ensures in
    record {
      same = ensured.same ∙ before.same;
      kept = λ name. omega (arith, before.kept name, ensured.kept name);
      sound = sound_then _ _ _ _ _ _ before.sound ensured.sound;
      told = one_more_given contents with_count [] tables i table c.loop-i.text.items c.count_place.new.text.items here before.told
          (told_shown (λ (u : Unit {0}). c.count_place.new.text.items) contents (λ held. with_count held c.loop-i.text.items table) tt
          (subst (λ x. AgreesTold {X = Unit {0}} (λ u. c.count_place.new.text.items) (Ok tt) x (λ held. with_count held c.loop-i.text.items table)) before.same (rw (here) at ensured.told)));
    }

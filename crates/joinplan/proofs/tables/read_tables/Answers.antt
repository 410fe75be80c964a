use Rattle.std.proofs.Common.{◌≡◌, ◌<◌, ◌∙◌, Ok, Err, length, subst, subst₂, sym}
use Rattle.std.proofs.lemmas.Result.{err_from_is_err_and}
use Rattle.std.specs.Prelude.{All}
use Rattle.jp_query.specs.Mentions.{tables_mentioned}
use Rattle.jp_query.specs.Parts.{tables_in}
use Rattle.jp_query.specs.Tables.{Belong, IsLoaded, TableRows}
use Rattle.jp_resolution.specs.Schemas.{schema_of}
use Rattle.joinplan.specs.Answers.{tables_read, with_table}
use Rattle.joinplan.specs.Loaded.{KeysKept}
use Rattle.joinplan.specs.Readings.{AgreesTold, fold_in}
use Rattle.joinplan.proofs.ReadingLemmas.{told_on, told_shown, told_viewed}
use Rattle.joinplan.proofs.TableLemmas.{all_of_each, firsts_of_all, nothing_belongs, nothing_kept}
use Rattle.joinplan.proofs.tables.read_tables.Goals as goal

pub read_places-requires-clause-belong : goal.read_places-requires-clause-belong
read_places-requires-clause-belong g c = subst (Belong (schema_of c.args.catalog.now)) (sym c.in_ok-tables.ensures) (nothing_belongs c.args.catalog.now)

pub read_places-requires-clause-keys : goal.read_places-requires-clause-keys
read_places-requires-clause-keys g c = subst (KeysKept c.args.catalog.now.tables) (sym c.in_ok-tables.ensures) (nothing_kept c.args.catalog.now)

pub read_places-requires-clause-listed : goal.read_places-requires-clause-listed
read_places-requires-clause-listed g c =
    let same : tables_mentioned c.args.query.now ≡ c.as_slice.result.now = sym (c.as_slice.ensures.value ∙ c.in_ok-places.ensures) in
    subst (All (λ place. place < length c.args.catalog.now.tables)) same (firsts_of_all (λ place. place < length c.args.catalog.now.tables) (tables_in c.args.query.now) c.requires.listed)

pub returns-in_err-read_places-clause-told : goal.returns-in_err-read_places-clause-told
returns-in_err-read_places-clause-told g c =
    let same : tables_mentioned c.args.query.now ≡ c.as_slice.result.now = sym (c.as_slice.ensures.value ∙ c.in_ok-places.ensures) in
    let p = err_from_is_err_and c.from_residual-in_err-read_places.result c.from_residual-in_err-read_places.ensures.1 in
    let contents = g.F.Files.contents c.args.files.now in
    let catalog = c.args.catalog.now in
    let told = subst₂ (λ start places. AgreesTold {X = Unit {0}} {A = TableRows} (λ u. c.read_places.new.tables.list) (Err c.in_err-read_places.field-0.0) contents (λ held. fold_in (with_table held catalog) start places)) c.in_ok-tables.ensures (sym same) c.in_err-read_places.ensures.told in
    told_on (λ t. t.list) (λ (u : Unit {0}). c.read_places.new.tables.list) contents (λ held. tables_read held catalog c.args.query.now) c.from_residual-in_err-read_places.result p.0 p.1
    (subst (λ x. AgreesTold {X = Unit {0}} {A = TableRows} (λ u. c.read_places.new.tables.list) (Err x) contents (λ held. tables_read held catalog c.args.query.now)) (sym p.2) told)

pub returns-clause-told : goal.returns-clause-told
returns-clause-told g c =
    let contents = g.F.Files.contents c.args.files.now in
    let catalog = c.args.catalog.now in
    let tables = c.read_places.new.tables in
    let same : tables_mentioned c.args.query.now ≡ c.as_slice.result.now = sym (c.as_slice.ensures.value ∙ c.in_ok-places.ensures) in
    let shown = told_shown (λ (u : Unit {0}). tables.list) contents (λ held. fold_in (with_table held catalog) c.in_ok-tables.tables.list c.as_slice.result.now) tt c.in_ok-read_places.ensures.told in
    told_viewed (λ t. t.list) contents (λ held. tables_read held catalog c.args.query.now) tables
    (subst₂ (λ start places. AgreesTold {X = TableRows} (λ a. a) (Ok tables.list) contents (λ held. fold_in (with_table held catalog) start places)) c.in_ok-tables.ensures (sym same) shown)

pub returns-clause-loaded : goal.returns-clause-loaded
returns-clause-loaded g c =
    let same : tables_mentioned c.args.query.now ≡ c.as_slice.result.now = sym (c.as_slice.ensures.value ∙ c.in_ok-places.ensures) in
    all_of_each (IsLoaded c.read_places.new.tables.list) (tables_in c.args.query.now) (subst (All (IsLoaded c.read_places.new.tables.list)) (sym same) c.in_ok-read_places.ensures.loaded)

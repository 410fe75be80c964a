use Rattle.std.proofs.Common.{◌<◌, arith, length, subst, sym}
use Rattle.std.proofs.lemmas.List.{length-map}
use Rattle.jp_query.specs.Tables.{IsLoaded, Belong}
use Rattle.jp_resolution.specs.Schemas.{schema_of, table_columns}
use Rattle.joinplan.specs.Answers.{NamedTable}
use Rattle.joinplan.specs.Loaded.{KeysKept}
use Rattle.joinplan.proofs.TableLemmas.{belong_length, columns_listed, rows_fit, set_belongs, set_kept, set_loaded, still_loaded}
use Rattle.joinplan.proofs.tables.read_place.Goals as goal

pub set-requires : goal.set-requires
set-requires g c =
    let catalog = c.args.catalog.now in
    omega (arith, belong_length (schema_of catalog) c.args.tables.now.list c.requires.belong, length-map catalog.tables table_columns, c.requires.listed)

pub returns-clause-belong : goal.returns-clause-belong
returns-clause-belong g c =
    let catalog = c.args.catalog.now in
    let table : NamedTable = (c.in-Some.name.now, c.in-Some.def.now) in
    let rows = c.in_ok-table.table in
    subst (Belong (schema_of catalog)) (sym c.set.ensures)
    (set_belongs (schema_of catalog) c.args.tables.now.list c.args.place (table_columns table) rows c.requires.belong (columns_listed catalog c.args.place table (sym c.in-Some.ensures)) (rows_fit table.1 rows c.in_ok-table.ensures.fits))

pub returns-clause-loaded : goal.returns-clause-loaded
returns-clause-loaded g c =
    let catalog = c.args.catalog.now in
    let tables = c.args.tables.now.list in
    let below : c.args.place < length tables = omega (arith, belong_length (schema_of catalog) tables c.requires.belong, length-map catalog.tables table_columns, c.requires.listed) in
    subst (λ t. IsLoaded t c.args.place) (sym c.set.ensures) (set_loaded tables c.args.place c.in_ok-table.table below)

pub returns-clause-others : goal.returns-clause-others
returns-clause-others g c = λ other h. subst (λ t. IsLoaded t other) (sym c.set.ensures) (still_loaded c.args.tables.now.list c.args.place other c.in_ok-table.table h)

pub returns-clause-keys : goal.returns-clause-keys
returns-clause-keys g c =
    let tables = c.args.catalog.now.tables in
    let table : NamedTable = (c.in-Some.name.now, c.in-Some.def.now) in
    subst (KeysKept tables) (sym c.set.ensures) (set_kept tables c.args.tables.now.list c.args.place table c.in_ok-table.table c.requires.keys (sym c.in-Some.ensures) c.in_ok-table.ensures.keys)

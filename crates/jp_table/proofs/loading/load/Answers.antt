use Rattle.std.proofs.Common.{◌≡◌, ◌≤◌, ◌∙◌, ◌∷◌, ℕ, [], All, List, ap, arith, length, rules, sym, true}
use Rattle.std.specs.Cmp.Lexicographic.{pointwise}
use Rattle.std.specs.Str.{bytes_eq}
use Rattle.csv.specs.Records.{fields_of}
use Rattle.jp_base.specs.declared.values.Ty.{Ty}
use Rattle.jp_table.specs.Judging.{Pass, after_keys, first_refusal, keys_hold, rows_read}
use Rattle.jp_table.specs.Loading.{Agrees, column_names, column_types}
use Rattle.jp_table.specs.Rows.{IsRowOf}
use Rattle.jp_table.specs.Storage.{types_of}
use Rattle.jp_table.proofs.KeyFacts.{accepted}
use Rattle.jp_table.proofs.LoadingFacts.{empty-have, table_judged, types-empty}
use Rattle.jp_table.proofs.RecordFacts.{file_few}
use Rattle.jp_table.proofs.RowFacts.{columns_there, fits_read}
use Rattle.jp_table.proofs.loading.load.Goals as goal

pub load_rows-requires-clause-few : goal.load_rows-requires-clause-few
load_rows-requires-clause-few c =
    let found : c.in_ok-read.field-0 ≡ true = search rules in
    let all : c.new-records.result ≡ fields_of c.read.new.fields ∷ c.read.new.self = c.in_ok-read.ensures.more found in
    let few : length c.new-records.result ≤ length c.args.bytes.now = rw c.new-records.ensures (file_few c.args.bytes.now) in
    omega (arith, few, ap length all)

pub load_rows-requires-clause-empty : goal.load_rows-requires-clause-empty
load_rows-requires-clause-empty c = rw c.in_ok-columns.ensures (empty-have c.args.def.now.columns)

-- the rows read, over the types of the definition
read_by : (ts types : List Ty) (records : List (List (List ℕ))) (pass : Pass) → pass ≡ rows_read types 0 records → types ≡ ts → pass ≡ rows_read ts 0 records
read_by ts types records pass e is = e ∙ ap (λ (these : List Ty). rows_read these 0 records) is

pub judge_keys-requires : goal.judge_keys-requires
judge_keys-requires c =
    let types : types_of c.in_ok-columns.columns.items ≡ column_types c.args.def.now = ap types_of c.in_ok-columns.ensures ∙ types-empty c.args.def.now.columns in
    let table = c.in_ok-loaded.loaded.table in
    let pass = read_by (column_types c.args.def.now) (types_of c.in_ok-columns.columns.items) c.read.new.self (table, c.in_ok-loaded.loaded.stop) c.in_ok-loaded.ensures types in
    let fits : All (IsRowOf (column_types c.args.def.now)) table = rw (ap (λ (p : Pass). p.0) pass) (fits_read (column_types c.args.def.now) 0 c.read.new.self) in
    rw c.as_slice.ensures (columns_there c.args.def.now table c.requires.sound fits)

pub returns : goal.returns
returns c =
    let found : c.in_ok-read.field-0 ≡ true = search rules in
    let named : pointwise bytes_eq (column_names c.args.def.now) (fields_of c.read.new.fields) ≡ true = search rules in
    let types : types_of c.in_ok-columns.columns.items ≡ column_types c.args.def.now = ap types_of c.in_ok-columns.ensures ∙ types-empty c.args.def.now.columns in
    let table = c.in_ok-loaded.loaded.table in
    let pass = read_by (column_types c.args.def.now) (types_of c.in_ok-columns.columns.items) c.read.new.self (table, c.in_ok-loaded.loaded.stop) c.in_ok-loaded.ensures types in
    let fits : All (IsRowOf (column_types c.args.def.now)) table = rw (ap (λ (p : Pass). p.0) pass) (fits_read (column_types c.args.def.now) 0 c.read.new.self) in
    let judged = table_judged c.args.def.now c.args.bytes.now (fields_of c.read.new.fields) c.read.new.self (table, c.in_ok-loaded.loaded.stop)
    (sym c.new-records.ensures ∙ c.in_ok-read.ensures.more found) named pass in
    let agrees : Agrees c.judge_keys.result (after_keys (first_refusal (keys_hold c.args.def.now.keys) [] table) (table, c.in_ok-loaded.loaded.stop)) = rw c.as_slice.ensures at c.judge_keys.ensures in
    let all = accepted c.args.def.now (table, c.in_ok-loaded.loaded.stop) c.judge_keys.result fits agrees in
    record { table = rw judged agrees; fits = all.0; keys = all.1 }

-- The answer to the words, where the contents of the files are told: the first refusal, or the output.
-- The order: words; catalogue, its size, its text; for `run` statement, its size, its tokens, its nesting, its grammar, the
-- count of its entries, its names, and each table in order of first mention; for `explain` the same without the tables; for
-- `check` each table of the catalogue. Of a table: its size, its text.
use Rattle.std.specs.Prelude.{◌≡◌, ℕ, List, [], ◌++◌, length, map, Option, Some, None, Result, Ok, Err, codes, decimal, slice_get, slice_set, Vec}
use Rattle.std.specs.declared.alloc.Global.{Global}
use Rattle.jp_base.specs.declared.values.Value.{Value}
use Rattle.jp_catalog.specs.Reading.{Read, catalogue_of}
use Rattle.jp_catalog.specs.declared.types.Catalog.{Catalog}
use Rattle.jp_catalog.specs.declared.types.TableDef.{TableDef}
use Rattle.std.specs.List.Sorted.{IsPermutation}
use Rattle.jp_query.specs.InOrder.{IsInOrder}
use Rattle.jp_query.specs.Tables.{TableRows, rows_of_tables}
use Rattle.jp_query.specs.Meaning.{no_outer_rows, meaning}
use Rattle.jp_query.specs.Mentions.{tables_mentioned}
use Rattle.jp_lex.specs.Answer as cutting
use Rattle.jp_lex.specs.Cutting.{Lexeme}
use Rattle.jp_lex.specs.declared.token.LexError.{LexError}
use Rattle.jp_ast.specs.Seen.{seen}
use Rattle.jp_ast.specs.declared.tree.Stmt.{Stmt}
use Rattle.jp_parse.specs.Verdict as reading
use Rattle.jp_query.specs.declared.Query.{Query, out-Query}
use Rattle.jp_table.specs.Loading.{Judged, table_of}
use Rattle.jp_resolution.specs.Resolving.{resolved}
use Rattle.jp_lists.specs.Lists.{list_of}
use Rattle.jp_tree.specs.declared.prepared.Prepared.{Prepared}
use Rattle.jp_tree.specs.Prepared.{IsWhole}
use Rattle.jp_prepared.specs.Planned.{IsPrepared}
use Rattle.jp_explain.specs.Plans.{explain_text}
use Rattle.jp_session.specs.Output.{output_text}
use Rattle.joinplan.specs.declared.refusal.Refusal.{Refusal}
use Rattle.joinplan.specs.declared.refusal.Refusal.TheVariants as refusal
use Rattle.joinplan.specs.Refusals.{lex_refusal, parse_refusal, resolve_refusal}
use Rattle.joinplan.specs.Readings.{Held, Reading, AgreesRefused, known, and_then, file_of, fold_in}
use Rattle.joinplan.specs.Words.{Command, Run, Explain, Check, command_of}

-- any file but a statement has at most so many bytes
abbrev pub file_limit : ℕ
file_limit = 67108864

abbrev pub statement_limit : ℕ
statement_limit = 65536

-- a part's answer, with its refusal as the program's
abbrev pub refused_as : {A E : Type 0} → (E → Refusal) → Result A E → Result A Refusal
refused_as named (Ok value) = Ok value
refused_as named (Err error) = Err (named error)

abbrev pub catalogue_or_refuse : Read Catalog → Result Catalog Refusal
catalogue_or_refuse read = refused_as refusal.Catalogue read

abbrev pub Rows : Type 0
Rows = List (List Value)

-- the rows of the table of this name
abbrev pub rows_or_refuse : List ℕ → Judged Rows → Result Rows Refusal
rows_or_refuse name judged = refused_as (refusal.Data name) judged

-- a file that isn't a statement
abbrev pub text_in : Held → List ℕ → Reading (List ℕ)
text_in held name = file_of held name file_limit (refusal.FileTooLarge name)

abbrev pub catalogue_in : Held → List ℕ → Reading Catalog
catalogue_in held name = and_then (text_in held name) (λ bytes. known (catalogue_or_refuse (catalogue_of bytes)))

abbrev pub source_in : Held → List ℕ → Reading (List ℕ)
source_in held name = file_of held name statement_limit refusal.StatementTooLarge

-- the statement of tokens, or their refusal
abbrev pub parsed : Result (List Lexeme) LexError → Result Stmt Refusal
parsed (Ok tokens) = refused_as parse_refusal (reading.answer (map seen tokens))
parsed (Err error) = Err (lex_refusal error)

-- the statement of a source
abbrev pub statement_of : List ℕ → Result Stmt Refusal
statement_of source = parsed (cutting.answer source)

abbrev pub statement_in : Held → List ℕ → Reading Stmt
statement_in held name = and_then (source_in held name) (λ source. known (statement_of source))

abbrev pub NamedTable : Type 0
NamedTable = List ℕ × TableDef

abbrev pub table_in : Held → NamedTable → Reading Rows
table_in held table = and_then (text_in held table.1.file) (λ bytes. known (rows_or_refuse table.0 (table_of table.1 bytes)))

-- ---- what is printed

-- These bytes; or the plan of a query; or the rows that the plan of a query lists over tables. In a plan the numbers of blocks
-- are free.
pub data Output : Type 0 where
  Bytes : List ℕ → Output
  PlanOf : Catalog → Query → Output
  RowsOf : Catalog → Query → TableRows → Output

-- the rows that the plans of a prepared statement list
abbrev pub rows_listed : Prepared → TableRows → Rows
rows_listed prepared tables = list_of prepared (rows_of_tables tables) 0 no_outer_rows

-- These bytes are the rows that the plans of a prepared statement of the query list, under the names of the query's outputs.
-- As a bag they are what the query means, and they stand in the order of its ORDER BY.
pub record IsListText (catalog : Catalog) (query : Query) (tables : TableRows) (bytes : List ℕ) : Type 0 where
  pub prepared : Prepared
  pub is_prepared : IsPrepared catalog query prepared
  pub whole : IsWhole prepared
  pub meant : IsPermutation (meaning (rows_of_tables tables) query no_outer_rows) (rows_listed prepared tables)
  pub in_order : IsInOrder (rows_of_tables tables) query no_outer_rows (rows_listed prepared tables)
  pub printed : bytes ≡ output_text (out-Query query).columns (rows_listed prepared tables)

-- the plan is that of a prepared statement of the query
abbrev pub HasBytes : Output → List ℕ → Type 0
HasBytes (Bytes text) bytes = bytes ≡ text
HasBytes (PlanOf catalog query) bytes = (prepared : Prepared) × IsPrepared catalog query prepared × (bytes ≡ explain_text prepared)
HasBytes (RowsOf catalog query tables) bytes = IsListText catalog query tables bytes

-- ---- `run`

abbrev pub none_loaded : Catalog → TableRows
none_loaded catalog = map (λ table. None) catalog.tables

-- the tables with that of a place; no query that is resolved names a place that the catalogue doesn't have
abbrev pub read_into : Held → TableRows → ℕ → Option NamedTable → Reading TableRows
read_into held tables place (Some table) = and_then (table_in held table) (λ rows. known (Ok (slice_set tables place (Some rows))))
read_into held tables place None = known (Err refusal.Memory)

abbrev pub with_table : Held → Catalog → TableRows → ℕ → Reading TableRows
with_table held catalog tables place = read_into held tables place (slice_get catalog.tables place)

-- the tables that the query mentions, in order of first mention, each once
abbrev pub tables_read : Held → Catalog → Query → Reading TableRows
tables_read held catalog query = fold_in (with_table held catalog) (none_loaded catalog) (tables_mentioned query)

-- the rows of the query, over the tables that it mentions
abbrev pub output_in : Held → Catalog → Query → Reading Output
output_in held catalog query = and_then (tables_read held catalog query) (λ tables. known (Ok (RowsOf catalog query tables)))

-- the query of a statement
abbrev pub query_of : Catalog → Stmt → Result Query Refusal
query_of catalog stmt = refused_as resolve_refusal (resolved catalog stmt)

abbrev pub resolved_in : Catalog → Stmt → Reading Query
resolved_in catalog stmt = known (query_of catalog stmt)

abbrev pub selected_in : Held → Catalog → Stmt → Reading Output
selected_in held catalog stmt = and_then (resolved_in catalog stmt) (output_in held catalog)

abbrev pub query_in : Held → List ℕ → Catalog → Reading Output
query_in held name catalog = and_then (statement_in held name) (selected_in held catalog)

abbrev pub run_in : List ℕ → List ℕ → Held → Reading Output
run_in catalogue statement held = and_then (catalogue_in held catalogue) (query_in held statement)

-- ---- `check`

abbrev pub counted : List ℕ → ℕ → List ℕ
counted name count = name ++ codes ": " ++ decimal count ++ codes " rows\n"

abbrev pub count_line : List ℕ → Rows → List ℕ
count_line name rows = counted name (length rows)

-- the lines with that of one more table
abbrev pub with_count : Held → List ℕ → NamedTable → Reading (List ℕ)
with_count held text table = and_then (table_in held table) (λ rows. known (Ok (text ++ count_line table.0 rows)))

abbrev pub counts_in : Held → Catalog → Reading (List ℕ)
counts_in held catalog = fold_in (with_count held) [] catalog.tables

abbrev pub check_in : List ℕ → Held → Reading (List ℕ)
check_in catalogue held = and_then (catalogue_in held catalogue) (counts_in held)

-- ---- `explain`

abbrev pub planned_in : Catalog → Stmt → Reading Output
planned_in catalog stmt = and_then (resolved_in catalog stmt) (λ query. known (Ok (PlanOf catalog query)))

abbrev pub plan_in : Held → List ℕ → Catalog → Reading Output
plan_in held name catalog = and_then (statement_in held name) (planned_in catalog)

abbrev pub explain_in : List ℕ → List ℕ → Held → Reading Output
explain_in catalogue statement held = and_then (catalogue_in held catalogue) (plan_in held statement)

-- ---- any command

abbrev pub bytes_or_refuse : Result (List ℕ) Refusal → Result Output Refusal
bytes_or_refuse (Ok bytes) = Ok (Bytes bytes)
bytes_or_refuse (Err refusal) = Err refusal

abbrev pub as_output : Reading (List ℕ) → Reading Output
as_output reading = record { names = reading.names; answer = bytes_or_refuse reading.answer }

abbrev pub command_in : Command → Held → Reading Output
command_in (Run catalogue statement) held = run_in catalogue statement held
command_in (Explain catalogue statement) held = explain_in catalogue statement held
command_in (Check catalogue) held = as_output (check_in catalogue held)

abbrev pub answer_in : Option Command → Held → Reading Output
answer_in None held = known (Err refusal.Usage)
answer_in (Some command) held = command_in command held

abbrev pub answer_of : List (List ℕ) → Held → Reading Output
answer_of words held = answer_in (command_of words) held

-- ---- what a call made of it

-- these bytes are of the output that is the answer, or the refusal is the answer's, as far as this is known
abbrev pub Prints : Result (Vec ℕ Global) Refusal → Reading Output → Type 0
Prints (Ok v) reading = (output : Output) × (reading.answer ≡ Ok output) × HasBytes output v.items
Prints (Err refusal) reading = AgreesRefused refusal reading

abbrev pub PrintsTold : Result (Vec ℕ Global) Refusal → Option Held → (Held → Reading Output) → Type 0
PrintsTold result None reading = Unit {0}
PrintsTold result (Some held) reading = Prints result (reading held)

-- Each refusal with its status and its line, and what the parts' refusals are.
use Rattle.std.specs.Prelude.{◌≡◌, ◌≢◌, ◌⊎◌, ℕ, List, ◌++◌, codes, decimal}
use Rattle.jp_lex.specs.declared.token.LexError.{LexError}
use Rattle.jp_lex.specs.declared.token.LexError.TheVariants as lex
use Rattle.jp_ast.specs.declared.errors.ParseError.{ParseError}
use Rattle.jp_ast.specs.declared.errors.ParseError.TheVariants as parse
use Rattle.jp_resolution.specs.declared.error.ResolveError.{ResolveError}
use Rattle.jp_resolution.specs.declared.error.ResolveError.TheVariants as resolve
use Rattle.jp_catalog.specs.declared.error.CatalogError.{CatalogError}
use Rattle.jp_catalog.specs.declared.error.CatalogError.TheVariants as catalogue
use Rattle.jp_table.specs.declared.error.TableError.{TableError}
use Rattle.jp_table.specs.declared.error.TableError.TheVariants as table
use Rattle.joinplan.specs.declared.faults.StatementFault.{StatementFault}
use Rattle.joinplan.specs.declared.faults.StatementFault.TheVariants as fault
use Rattle.joinplan.specs.declared.refusal.Refusal.{Refusal}
use Rattle.joinplan.specs.declared.refusal.Refusal.TheVariants as refusal

abbrev pub status_of : Refusal → ℕ
status_of refusal.Usage = 1
status_of (refusal.Catalogue error) = 2
status_of (refusal.Data name error) = 3
status_of (refusal.Statement what at) = 4
status_of (refusal.FileTooLarge name) = 5
status_of refusal.StatementTooLarge = 5
status_of (refusal.TooDeep at) = 5
status_of (refusal.TooManyTables count) = 5
status_of (refusal.ReadFault name) = 6
status_of refusal.WriteFault = 7
status_of refusal.Memory = 8

-- A refusal that is told as one of these has a line. Want of memory is a refusal of its own, and none of a text.
abbrev pub IsSaid : Refusal → Type 0
IsSaid (refusal.Catalogue error) = error ≢ catalogue.Memory
IsSaid (refusal.Data name error) = error ≢ table.Memory
IsSaid _ = Unit {0}

-- ---- the refusals of a statement

-- what a statement may be refused for by its own text and the catalogue
abbrev pub IsOfStatement : Refusal → Type 0
IsOfStatement (refusal.Statement what at) = Unit {0}
IsOfStatement (refusal.TooDeep at) = Unit {0}
IsOfStatement (refusal.TooManyTables count) = Unit {0}
IsOfStatement refusal.Memory = Unit {0}
IsOfStatement _ = ⊥

abbrev pub lex_refusal : LexError → Refusal
lex_refusal (lex.BadByte at) = refusal.Statement fault.BadByte at
lex_refusal (lex.OpenString at) = refusal.Statement fault.OpenString at
lex_refusal (lex.OpenIdent at) = refusal.Statement fault.OpenIdent at
lex_refusal (lex.OpenComment at) = refusal.Statement fault.OpenComment at
lex_refusal (lex.NameTooLong at) = refusal.Statement fault.NameTooLong at
lex_refusal (lex.NumberTooWide at) = refusal.Statement fault.NumberTooWide at
lex_refusal lex.Memory = refusal.Memory

abbrev pub parse_refusal : ParseError → Refusal
parse_refusal (parse.Syntax at) = refusal.Statement fault.Syntax at
parse_refusal (parse.TooDeep at) = refusal.TooDeep at
parse_refusal parse.Memory = refusal.Memory

abbrev pub resolve_refusal : ResolveError → Refusal
resolve_refusal (resolve.UnknownTable at) = refusal.Statement fault.UnknownTable at
resolve_refusal (resolve.UnknownColumn at) = refusal.Statement fault.UnknownColumn at
resolve_refusal (resolve.Ambiguous at) = refusal.Statement fault.AmbiguousColumn at
resolve_refusal (resolve.DuplicateAlias at) = refusal.Statement fault.AliasRepeated at
resolve_refusal (resolve.TypeMismatch at) = refusal.Statement fault.TypeMismatch at
resolve_refusal (resolve.NotOneColumn at) = refusal.Statement fault.NotOneColumn at
resolve_refusal (resolve.NumberTooWide at) = refusal.Statement fault.NumberTooWide at
resolve_refusal (resolve.OrderNotSelected at) = refusal.Statement fault.OrderNotSelected at
resolve_refusal (resolve.BadPosition at) = refusal.Statement fault.BadPosition at
resolve_refusal (resolve.TooManyTables count) = refusal.TooManyTables count
resolve_refusal resolve.Memory = refusal.Memory

-- ---- lines

-- what is wrong in a statement
abbrev pub statement_fault : StatementFault → List ℕ
statement_fault fault.BadByte = codes "bad byte"
statement_fault fault.OpenString = codes "open string"
statement_fault fault.OpenIdent = codes "open identifier"
statement_fault fault.OpenComment = codes "open comment"
statement_fault fault.NameTooLong = codes "name too long"
statement_fault fault.NumberTooWide = codes "number too wide"
statement_fault fault.Syntax = codes "syntax"
statement_fault fault.UnknownTable = codes "unknown table"
statement_fault fault.UnknownColumn = codes "unknown column"
statement_fault fault.AmbiguousColumn = codes "ambiguous column"
statement_fault fault.AliasRepeated = codes "alias repeated"
statement_fault fault.TypeMismatch = codes "type mismatch"
statement_fault fault.NotOneColumn = codes "not one column"
statement_fault fault.OrderNotSelected = codes "order not selected"
statement_fault fault.BadPosition = codes "bad position"

abbrev pub statement_line : List ℕ → ℕ → List ℕ
statement_line what at = codes "statement: " ++ what ++ codes " at byte " ++ decimal at ++ codes "\n"

abbrev pub depth_line : ℕ → List ℕ
depth_line at = codes "limit: nesting over 64 at byte " ++ decimal at ++ codes "\n"

abbrev pub tables_line : ℕ → List ℕ
tables_line count = codes "limit: " ++ decimal count ++ codes " table references, at most 12\n"

-- what is wrong in the catalogue's text
abbrev pub catalogue_fault : CatalogError → List ℕ
catalogue_fault catalogue.NotToml = codes "not TOML"
catalogue_fault catalogue.Version = codes "bad version"
catalogue_fault (catalogue.Missing path) = codes "missing " ++ path
catalogue_fault (catalogue.BadType path) = codes "bad value at " ++ path
catalogue_fault (catalogue.UnknownKey path) = codes "unknown key " ++ path
catalogue_fault (catalogue.BadName path) = codes "bad name at " ++ path
catalogue_fault (catalogue.TooManyColumns path) = codes "too many columns at " ++ path
catalogue_fault (catalogue.DuplicateColumn path) = codes "column repeated at " ++ path
catalogue_fault (catalogue.KeyColumn path) = codes "bad key column at " ++ path
catalogue_fault (catalogue.RowsOutOfRange path) = codes "rows out of range at " ++ path
catalogue_fault catalogue.Memory = codes "out of memory"

-- a line that goes on with what is wrong in a data file
abbrev pub with_field : List ℕ → ℕ → ℕ → List ℕ
with_field line at column = line ++ codes "record " ++ decimal at ++ codes " column " ++ decimal column

abbrev pub with_fault : List ℕ → TableError → List ℕ
with_fault line table.Header = line ++ codes "header differs"
with_fault line (table.FieldCount at fields) = line ++ codes "record " ++ decimal at ++ codes ": " ++ decimal fields ++ codes " fields"
with_fault line (table.BadNumber at column) = with_field line at column ++ codes ": not a number"
with_fault line (table.BadBool at column) = with_field line at column ++ codes ": not a boolean"
with_fault line (table.NotUtf8 at column) = with_field line at column ++ codes ": not UTF-8"
with_fault line (table.NullInKey at) = line ++ codes "record " ++ decimal at ++ codes ": NULL in a key"
with_fault line (table.KeyRepeated earlier at) = line ++ codes "records " ++ decimal earlier ++ codes " and " ++ decimal at ++ codes " repeat a key"
with_fault line table.Memory = line ++ codes "out of memory"

abbrev pub data_line_start : List ℕ → List ℕ
data_line_start name = codes "data: table " ++ name ++ codes ": "

abbrev pub catalogue_line : List ℕ → List ℕ
catalogue_line what = codes "catalogue: " ++ what ++ codes "\n"

abbrev pub data_line : List ℕ → TableError → List ℕ
data_line name error = with_fault (data_line_start name) error ++ codes "\n"

-- the line on standard error, with its LF
abbrev pub line_of : Refusal → List ℕ
line_of refusal.Usage = codes "usage: joinplan run CATALOG STATEMENT; explain [--verbose] CATALOG STATEMENT; check CATALOG; generate SEED SIZE\n"
line_of (refusal.Catalogue error) = catalogue_line (catalogue_fault error)
line_of (refusal.Data name error) = data_line name error
line_of (refusal.Statement what at) = statement_line (statement_fault what) at
line_of (refusal.FileTooLarge name) = codes "limit: file " ++ name ++ codes " over 67108864 bytes\n"
line_of refusal.StatementTooLarge = codes "limit: statement over 65536 bytes\n"
line_of (refusal.TooDeep at) = depth_line at
line_of (refusal.TooManyTables count) = tables_line count
line_of (refusal.ReadFault name) = codes "read fault: " ++ name ++ codes "\n"
line_of refusal.WriteFault = codes "write fault\n"
line_of refusal.Memory = codes "out of memory\n"

-- a refusal that names something, or want of memory for the name
abbrev pub IsNamed : (List ℕ → Refusal) → List ℕ → Refusal → Type 0
IsNamed named name r = (r ≡ refusal.Memory) ⊎ (r ≡ named name)

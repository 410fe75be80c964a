-- What status 0 says, in the words of the statement: each file that the command needs is there, within its limit and
-- read to its end, and the output is the list of the statement's plan, which is its meaning over the whole tables, the text of
-- its plan, or the counts of all tables.
use Rattle.std.specs.Prelude.{◌≡◌, ℕ, ◌≤◌, List, [], ◌∷◌, ◌++◌, length, map, All, Option, Some, None, Ok, slice_get}
use Rattle.jp_catalog.specs.Reading.{catalogue_of}
use Rattle.jp_catalog.specs.declared.types.Catalog.{Catalog}
use Rattle.jp_io.specs.Sinks.{TookMore}
use Rattle.jp_query.specs.Tables.{TableRows, rows_of_tables}
use Rattle.jp_query.specs.Meaning.{no_outer_rows, meaning}
use Rattle.std.specs.List.Sorted.{IsPermutation}
use Rattle.jp_query.specs.InOrder.{IsInOrder}
use Rattle.jp_lex.specs.Cutting.{Lexeme, Tokens}
use Rattle.jp_ast.specs.Grammar.{Derives}
use Rattle.jp_ast.specs.Nesting.{NestsWithin}
use Rattle.jp_ast.specs.Seen.{seen}
use Rattle.jp_ast.specs.declared.tree.Stmt.{Stmt}
use Rattle.jp_query.specs.Parts.{tables_in}
use Rattle.jp_query.specs.declared.Query.{Query, out-Query}
use Rattle.jp_table.specs.Loading.{table_of}
use Rattle.jp_resolution.specs.Resolving.{resolved}
use Rattle.jp_tree.specs.declared.prepared.Prepared.{Prepared}
use Rattle.jp_tree.specs.Prepared.{IsWhole}
use Rattle.jp_prepared.specs.Planned.{IsPrepared}
use Rattle.jp_explain.specs.Plans.{explain_text}
use Rattle.jp_session.specs.Output.{output_text}
use Rattle.joinplan.specs.Answers.{NamedTable, Rows, count_line, file_limit, rows_listed, statement_limit}
use Rattle.joinplan.specs.Readings.{Held}
use Rattle.joinplan.specs.Words.{Command, Run, Explain, Check, command_of}

-- a file that is there, whole and within its limit
pub record IsHeld (held : Held) (name : List ℕ) (limit : ℕ) (bytes : List ℕ) : Type 0 where
  pub there : held name ≡ Some bytes
  pub fits : length bytes ≤ limit

-- the catalogue of a file
pub record HasCatalogue (held : Held) (name : List ℕ) (catalog : Catalog) : Type 0 where
  pub text : List ℕ
  pub is_held : IsHeld held name file_limit text
  pub catalogue_is : catalogue_of text ≡ Ok catalog

-- the rows of a table's file
pub record HasRows (held : Held) (table : NamedTable) (rows : Rows) : Type 0 where
  pub text : List ℕ
  pub is_held : IsHeld held table.1.file file_limit text
  pub rows_are : table_of table.1 text ≡ Ok rows

-- the place has the rows of the catalogue's table there
pub record HasPlace (held : Held) (catalog : Catalog) (tables : TableRows) (place : ℕ) : Type 0 where
  pub table : NamedTable
  pub listed : slice_get catalog.tables place ≡ Some table
  pub rows : Rows
  pub rows_are : HasRows held table rows
  pub stored : slice_get tables place ≡ Some (Some rows)

-- a place for each table of the catalogue, with the rows of those that the query names
pub record HasTables (held : Held) (catalog : Catalog) (query : Query) (tables : TableRows) : Type 0 where
  pub places : length tables ≡ length catalog.tables
  pub named : All (HasPlace held catalog tables) (tables_in query)

-- the statement of a source: its tokens nest no deeper than they may, and derive it
pub record IsStatementOf (source : List ℕ) (stmt : Stmt) : Type 0 where
  pub tokens : List Lexeme
  pub cut : Tokens source tokens
  pub nested : NestsWithin (map seen tokens)
  pub derived : Derives (map seen tokens) stmt

-- These bytes are the meaning of the statement: the names of its outputs, and the meaning's rows as a bag, no one more, none
-- less and none twice.
pub record IsMeaning (held : Held) (catalogue statement : List ℕ) (bytes : List ℕ) : Type 0 where
  pub catalog : Catalog
  pub catalogue_is : HasCatalogue held catalogue catalog
  pub source : List ℕ
  pub source_held : IsHeld held statement statement_limit source
  pub stmt : Stmt
  pub statement_is : IsStatementOf source stmt
  pub query : Query
  pub query_is : resolved catalog stmt ≡ Ok query
  pub tables : TableRows
  pub tables_are : HasTables held catalog query tables
  pub rows : Rows
  pub rows_are : IsPermutation (meaning (rows_of_tables tables) query no_outer_rows) rows
  pub printed : bytes ≡ output_text (out-Query query).columns rows

-- these bytes are the meaning of the statement, and its rows stand in the order of its ORDER BY
pub record IsInItsOrder (held : Held) (catalogue statement : List ℕ) (bytes : List ℕ) : Type 0 where
  pub meant : IsMeaning held catalogue statement bytes
  pub in_order : IsInOrder (rows_of_tables meant.tables) meant.query no_outer_rows meant.rows

-- These rows are those that the plans of a prepared statement of the query list: of one that is whole, so that each block has a
-- legal tree of its items, and in which the plan of each block is the first of these.
pub record IsListed (held : Held) (catalogue statement : List ℕ) (bytes : List ℕ) : Type 0 where
  pub ordered : IsInItsOrder held catalogue statement bytes
  pub prepared : Prepared
  pub is_prepared : IsPrepared ordered.meant.catalog ordered.meant.query prepared
  pub whole : IsWhole prepared
  pub listed : ordered.meant.rows ≡ rows_listed prepared ordered.meant.tables

-- These bytes are the text of the statement's plan: of a prepared statement of its query, in which the plan of each block is
-- the first of the legal trees of its items. No data file is looked at.
pub record IsPlanText (held : Held) (catalogue statement : List ℕ) (bytes : List ℕ) : Type 0 where
  pub catalog : Catalog
  pub catalogue_is : HasCatalogue held catalogue catalog
  pub source : List ℕ
  pub source_held : IsHeld held statement statement_limit source
  pub stmt : Stmt
  pub statement_is : IsStatementOf source stmt
  pub query : Query
  pub query_is : resolved catalog stmt ≡ Ok query
  pub prepared : Prepared
  pub is_prepared : IsPrepared catalog query prepared
  pub printed : bytes ≡ explain_text prepared

-- a line for each table, with the number of its rows
abbrev pub AreCounted : Held → List NamedTable → List ℕ → Type 0
AreCounted held [] bytes = bytes ≡ []
AreCounted held (table ∷ tables) bytes = (rows : Rows) × (more : List ℕ) × HasRows held table rows × AreCounted held tables more × (bytes ≡ count_line table.0 rows ++ more)

pub record IsCount (held : Held) (catalogue : List ℕ) (bytes : List ℕ) : Type 0 where
  pub catalog : Catalog
  pub catalogue_is : HasCatalogue held catalogue catalog
  pub counted : AreCounted held catalog.tables bytes

-- these bytes are the answer to the words
abbrev pub IsAnswerTo : Held → Option Command → List ℕ → Type 0
IsAnswerTo held None bytes = ⊥
IsAnswerTo held (Some (Run catalogue statement)) bytes = IsMeaning held catalogue statement bytes
IsAnswerTo held (Some (Explain catalogue statement)) bytes = IsPlanText held catalogue statement bytes
IsAnswerTo held (Some (Check catalogue)) bytes = IsCount held catalogue bytes

-- the same of the order and of the plan that is run; the lines of `explain` and `check` have none of their own
abbrev pub IsOrderedAnswer : Held → Option Command → List ℕ → Type 0
IsOrderedAnswer held None bytes = ⊥
IsOrderedAnswer held (Some (Run catalogue statement)) bytes = IsInItsOrder held catalogue statement bytes
IsOrderedAnswer held (Some (Explain catalogue statement)) bytes = Unit {0}
IsOrderedAnswer held (Some (Check catalogue)) bytes = Unit {0}

abbrev pub IsListedAnswer : Held → Option Command → List ℕ → Type 0
IsListedAnswer held None bytes = ⊥
IsListedAnswer held (Some (Run catalogue statement)) bytes = IsListed held catalogue statement bytes
IsListedAnswer held (Some (Explain catalogue statement)) bytes = Unit {0}
IsListedAnswer held (Some (Check catalogue)) bytes = Unit {0}

-- where the contents of the files are told, a sink took bytes that are such an answer to the words
pub record TookSuch (IsSuch : Held → Option Command → List ℕ → Type 0) (held : Held) (words : List (List ℕ)) (before now : Option (List ℕ)) : Type 0 where
  pub bytes : List ℕ
  pub answer : IsSuch held (command_of words) bytes
  pub took : TookMore before bytes now

abbrev pub PrintsSuch : (Held → Option Command → List ℕ → Type 0) → Option Held → List (List ℕ) → Option (List ℕ) → Option (List ℕ) → Type 0
PrintsSuch IsSuch None words before now = Unit {0}
PrintsSuch IsSuch (Some held) words before now = TookSuch IsSuch held words before now

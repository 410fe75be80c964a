-- What lent values stand for.
use Rattle.std.specs.Prelude.{ℕ, List, ◌++◌, Ok, Err}
use Rattle.std.specs.Borrow.{Bor}
use Rattle.jp_resolution.specs.declared.words.Entry.{Entry}
use Rattle.jp_base.specs.declared.values.Ty.{Ty}
use Rattle.jp_catalog.specs.declared.types.TableDef.{TableDef}
use Rattle.jp_query.specs.declared.JoinTree.{JoinTree}
use Rattle.jp_query.specs.declared.Output.{Output, out-Output}
use Rattle.jp_resolution.specs.Answers.{Answer}
use Rattle.jp_resolution.specs.Resolving.{Source}
use Rattle.jp_resolution.specs.Names.{VisibleColumn}
use Rattle.jp_resolve_parts.specs.declared.lookups.LentColumn.{LentColumn}

-- a lent column
abbrev pub shown : LentColumn → VisibleColumn
shown c = record { relation = c.relation; place = c.place; column = c.column.now }

-- an answer with what its value stands for
abbrev pub answer_map : {A B : Type 0} → (A → B) → Answer A → Answer B
answer_map f (Ok x) = Ok (f x)
answer_map f (Err e) = Err e

-- the type of an output
abbrev pub type_of_column : Answer Output → Answer Ty
type_of_column (Ok output) = Ok (out-Output output).ty
type_of_column (Err e) = Err e

-- an answer, with what it leaves elsewhere
abbrev pub beside_new : {A B : Type 0} → Answer A → B → Answer (A × B)
beside_new (Ok x) new = Ok (x, new)
beside_new (Err e) new = Err e

-- a FROM item's tree, and its entries behind those before it
abbrev pub source_behind : List Entry → Answer Source → Answer (JoinTree × List Entry)
source_behind earlier (Ok source) = Ok (source.tree, earlier ++ source.entries)
source_behind earlier (Err e) = Err e

-- a lent table, with its place
abbrev pub table_seen : Answer (ℕ × Bor TableDef) → Answer (ℕ × TableDef)
table_seen (Ok table) = Ok (table.0, table.1.now)
table_seen (Err e) = Err e

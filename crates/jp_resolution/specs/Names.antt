-- Which columns and entries a name takes.
use Rattle.std.specs.Prelude.{ℕ, Bool, false, List, [], ◌∷◌, map, filter, Option, Some, None, Ok, Err}
use Rattle.std.specs.List.{find, flat_map, list_any, enumerate_from}
use Rattle.std.specs.Str.{bytes_eq}
use Rattle.jp_query.specs.declared.Expr.TheVariants as expr
use Rattle.jp_resolution.specs.Layers.{Column, Entry, TypedExpr}
use Rattle.jp_resolution.specs.declared.error.ResolveError.TheVariants.{UnknownTable, UnknownColumn, Ambiguous}
use Rattle.jp_resolution.specs.Answers.{Answer}
use Rattle.jp_resolution.specs.Counting.{Levels}

-- ---- columns of entries

-- a column where it is visible: the number of its relation, and its place there, counted from 0
pub record VisibleColumn : Type 0 where
  pub relation : ℕ
  pub place : ℕ
  pub column : Column

abbrev pub visible_at : ℕ → ℕ × Column → VisibleColumn
visible_at relation placed = record { relation = relation; place = placed.0; column = placed.1 }

abbrev pub entry_columns : Entry → List VisibleColumn
entry_columns entry = map (visible_at entry.relation) (enumerate_from 0 entry.columns)

-- those of a list of entries, in order
abbrev pub columns_of : List Entry → List VisibleColumn
columns_of entries = flat_map entry_columns entries

abbrev pub is_called : List ℕ → VisibleColumn → Bool
is_called name c = bytes_eq name c.column.name

abbrev pub called : List ℕ → List VisibleColumn → List VisibleColumn
called name columns = filter (is_called name) columns

-- the column as an expression; no outer join has made it NULL so far
abbrev pub column_expr : VisibleColumn → TypedExpr
column_expr c = record { ty = Some c.column.ty; expr = expr.Col c.relation c.place c.column.ty 0; bound = c.column.bound }

-- ---- names of entries

-- an entry without a name is taken by none
abbrev pub has_name : List ℕ → Option (List ℕ) → Bool
has_name name (Some other) = bytes_eq name other
has_name name None = false

abbrev pub is_entry : List ℕ → Entry → Bool
is_entry name entry = has_name name entry.name

-- an entry without a name repeats none
abbrev pub repeats : Option (List ℕ) → List Entry → Bool
repeats (Some name) entries = list_any (is_entry name) entries
repeats None entries = false

-- ---- lookup

-- the first unless it is empty
abbrev pub or_outer : {A : Type 0} → List A → List A → List A
or_outer [] ys = ys
or_outer (x ∷ xs) ys = x ∷ xs

-- An unqualified name takes the innermost level where it is found: the columns of that name there.
abbrev pub named_column : List ℕ → Levels → List VisibleColumn
named_column name [] = []
named_column name (level ∷ levels) = or_outer (called name (columns_of level)) (named_column name levels)

abbrev pub or_outer_entry : {A : Type 0} → Option A → Option A → Option A
or_outer_entry (Some x) y = Some x
or_outer_entry None y = y

-- A qualifier takes the entry of that name of the innermost level that has one.
abbrev pub qualified_entry : List ℕ → Levels → Option Entry
qualified_entry qualifier [] = None
qualified_entry qualifier (level ∷ levels) = or_outer_entry (find (is_entry qualifier) level) (qualified_entry qualifier levels)

-- The only find. Two finds are ambiguous, and none is an unknown column.
abbrev pub the_only : ℕ → List VisibleColumn → Answer VisibleColumn
the_only at [] = Err (UnknownColumn at)
the_only at (c ∷ []) = Ok c
the_only at _ = Err (Ambiguous at)

-- Without an entry of its name a qualifier is an unknown table.
abbrev pub the_entry : ℕ → Option Entry → Answer Entry
the_entry at (Some entry) = Ok entry
the_entry at None = Err (UnknownTable at)

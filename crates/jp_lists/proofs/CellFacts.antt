-- Cells, rows and lines that fit.
use Rattle.std.proofs.Common.{◌≡◌, subst, ℕ, zero, suc, Bool, true, false, List, [], ◌∷◌, map, Option, Some, None}
use Rattle.std.specs.Prelude.{slice_get, slice_index_or}
use Rattle.std.proofs.lemmas.List.Sorted.{All-permutation}
use Rattle.jp_base.specs.declared.values.Value.TheVariants as value
use Rattle.jp_query.specs.Fitting.{IsCellOfSome, IsCellAt, IsRowFor, IsRowOfTypes}
use Rattle.jp_query.specs.Meaning.{Row, Env, cell_in, or_else}
use Rattle.jp_query.specs.Ordering.{Line, Direction, differs, first_lines, distinct_lines, sorted}
use Rattle.jp_query.specs.Parts.{ColumnRef}
use Rattle.jp_query.specs.Scopes.{Column, Schema, Scope, columns_of_table, visible_columns}
use Rattle.jp_query.specs.Tables.{IsRowOf, IsTableOf, Belong, rows_in}
use Rattle.jp_induction.proofs.EachPart.{Each, each_of, all_of_each}
use Rattle.jp_laws.proofs.SortLaws.{permutes}
use Rattle.jp_laws.proofs.TuplesFit.{each_filter}

row_cell : (columns : List Column) (row : Row) (col : ℕ) → IsRowOf columns row → IsCellOfSome (slice_get columns col) (slice_index_or row col value.Null)
row_cell [] [] col h = tt
row_cell [] (v ∷ row) col h = absurd h
row_cell (c ∷ columns) [] col h = absurd h
row_cell (c ∷ columns) (v ∷ row) zero h = h.0
row_cell (c ∷ columns) (v ∷ row) (suc col) h = row_cell columns row col h.1

null_cell : (o : Option Column) → IsCellOfSome o value.Null
null_cell (Some column) = record { typed = tt; within = tt }
null_cell None = tt

cell_of : (columns : List Column) (row : Option Row) (col : ℕ) → IsRowFor columns row → IsCellOfSome (slice_get columns col) (cell_in row col)
cell_of columns (Some row) col h = row_cell columns row col h
cell_of columns None col h = null_cell (slice_get columns col)

-- a relation with no row, or with one of its visible columns, has cells that fit
pub cell_fits : (scope : Scope) (env : Env) (c : ColumnRef) → IsRowFor (visible_columns scope c.relation) (env c.relation) → IsCellAt scope env c
cell_fits scope env c h = cell_of (visible_columns scope c.relation) (env c.relation) c.column h

pub typed_row : (columns : List Column) (row : Row) → IsRowOf columns row → IsRowOfTypes (map (λ (c : Column). c.type) columns) row
typed_row [] [] h = tt
typed_row [] (v ∷ row) h = absurd h
typed_row (c ∷ columns) [] h = absurd h
typed_row (c ∷ columns) (v ∷ row) h = (h.0.typed, typed_row columns row h.1)

table_rows : (columns : List Column) (table : Option (List Row)) → IsTableOf columns table → Each (IsRowOf columns) (rows_in (Some table))
table_rows columns (Some rows) h = each_of (IsRowOf columns) rows h
table_rows columns None h = tt

pub stored_rows : (schema : Schema) (tables : List (Option (List Row))) (k : ℕ) → Belong schema tables → Each (IsRowOf (columns_of_table (slice_get schema k))) (rows_in (slice_get tables k))
stored_rows [] [] k h = tt
stored_rows [] (table ∷ tables) k h = absurd h
stored_rows (columns ∷ schema) [] k h = absurd h
stored_rows (columns ∷ schema) (table ∷ tables) zero h = table_rows columns table h.0
stored_rows (columns ∷ schema) (table ∷ tables) (suc k) h = stored_rows schema tables k h.1

-- ---- lines

module _ (P : Line → Type 0) where
  firsts_fit : (lines : List Line) → Each P lines → Each P (first_lines lines)
  firsts_fit [] h = tt
  firsts_fit (line ∷ lines) h = (h.0, each_filter P (differs line) (first_lines lines) (firsts_fit lines h.1))

  distinct_fit : (distinct : Bool) (lines : List Line) → Each P lines → Each P (distinct_lines distinct lines)
  distinct_fit true lines h = firsts_fit lines h
  distinct_fit false lines h = h

  pub lines_fit : (keys : List Direction) (distinct : Bool) (lines : List Line) → Each P lines → Each P (sorted keys (distinct_lines distinct lines))
  lines_fit keys distinct lines h = each_of P (sorted keys (distinct_lines distinct lines)) (All-permutation P (distinct_lines distinct lines) (sorted keys (distinct_lines distinct lines)) (permutes keys (distinct_lines distinct lines)) (all_of_each P (distinct_lines distinct lines) (distinct_fit distinct lines h)))

-- ---- lists

pub else_fits : (P : Env → Type 0) (xs : List Env) (x : Env) → P x → Each P xs → Each P (or_else xs x)
else_fits P [] x p h = (p, tt)
else_fits P (y ∷ xs) x p h = h

pub each_at : {X : Type 0} (P : X → Type 0) (xs : List X) (k : ℕ) (x : X) → slice_get xs k ≡ Some x → Each P xs → P x
each_at P [] k x e h = cc
each_at P (y ∷ xs) zero x e h = subst P (same y x e) h.0
  where
    same : {X : Type 0} (y x : X) → Some y ≡ Some x → y ≡ x
    same y x e = cc
each_at P (y ∷ xs) (suc k) x e h = each_at P xs k x e h.1

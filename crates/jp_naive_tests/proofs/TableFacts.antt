-- The table of the tests belongs to a schema.
use Rattle.std.proofs.Common.{◌≡◌, ap, sym, subst, ℕ, zero, suc, ◌^◌, List, [], ◌∷◌, get_or, map, arith}
use Rattle.std.specs.Prelude.{All, Some, slice_get}
use Rattle.std.specs.Int.Signed.{nat_abs-le}
use Rattle.jp_base.specs.declared.values.Ty.{Ty}
use Rattle.jp_base.specs.declared.values.Ty.TheVariants as ty
use Rattle.jp_base.specs.declared.values.Value.{Value}
use Rattle.jp_base.specs.declared.values.Value.TheVariants as value
use Rattle.jp_catalog.specs.declared.types.TableDef.{TableDef}
use Rattle.jp_query.specs.Meaning.{Row}
use Rattle.jp_query.specs.Scopes.{Column}
use Rattle.jp_query.specs.Tables.{Belong, IsCellOf, TableRows, IsRowOf as IsRowOfColumns}
use Rattle.jp_table.specs.Rows.{FitsColumn, IsRowOf}
use Rattle.jp_naive_tests.specs.Tables.{IsOneTable}

abbrev pub column : Ty → Column
column type = record { type = type; bound = 2 ^ 63 }

cell : (type : Ty) (v : Value) → FitsColumn type v → IsCellOf (column type) v
cell ty.Number value.Null h = record { typed = tt; within = tt }
cell ty.Number (value.Num n) h = record { typed = tt; within = nat_abs-le n h.sfits }
cell ty.Number (value.Bool b) h = absurd h
cell ty.Number (value.Text t) h = absurd h
cell ty.Boolean value.Null h = record { typed = tt; within = tt }
cell ty.Boolean (value.Num n) h = absurd h
cell ty.Boolean (value.Bool b) h = record { typed = tt; within = tt }
cell ty.Boolean (value.Text t) h = absurd h
cell ty.Text value.Null h = record { typed = tt; within = tt }
cell ty.Text (value.Num n) h = absurd h
cell ty.Text (value.Bool b) h = absurd h
cell ty.Text (value.Text t) h = record { typed = tt; within = tt }

row_belongs : (types : List Ty) (row : Row) → IsRowOf types row → IsRowOfColumns (map column types) row
row_belongs [] [] r = tt
row_belongs [] (v ∷ vs) r = absurd (omega (arith, r.width))
row_belongs (t ∷ ts) [] r = absurd (omega (arith, r.width))
row_belongs (t ∷ ts) (v ∷ vs) r = (
  cell t v (r.values 0 (omega arith)),
  row_belongs ts vs (record { width = omega (arith, r.width); values = λ k h. r.values (suc k) (omega arith) }),
)

-- a table of a catalogue is as all of them are
pub table_is : (P : TableDef → Type 0) (tables : List (List ℕ × TableDef)) (place : ℕ) (name : List ℕ) (def : TableDef) → Some (name, def) ≡ slice_get tables place → All (λ table. P table.1) tables → P def
table_is P [] place name def e h = absurd (let never = e in cc)
table_is P (t ∷ ts) zero name def e h =
    let is : (name, def) ≡ t = cc in
    subst P (sym (ap (λ (p : List ℕ × TableDef). p.1) is)) (h 0 t (omega arith))
table_is P (t ∷ ts) (suc place) name def e h = table_is P ts place name def e (λ k d below. h (suc k) d (omega (arith, below)))

pub belongs : (tables : TableRows) (one : IsOneTable tables) → Belong (map column one.types ∷ []) tables
belongs tables one = subst (Belong (map column one.types ∷ [])) (sym one.all) (λ k d h. row_belongs one.types (get_or one.rows k d) (one.fit k d h), tt)

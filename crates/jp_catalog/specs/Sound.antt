-- Which catalogues the calls above may be given.
use Rattle.std.specs.Prelude.{ℕ, ◌<◌, ◌≤◌, length, All, nat_eq}
use Rattle.std.specs.List.{IsDistinct}
use Rattle.jp_catalog.specs.Names.{HasDistinctNames}
use Rattle.jp_catalog.specs.declared.types.Catalog.{Catalog}
use Rattle.jp_catalog.specs.declared.types.TableDef.{TableDef}
use Rattle.jp_catalog.specs.declared.types.Key.{Key}

-- a key of a table with so many columns: it names at least one column, none twice, and only columns that are there
pub record IsSoundKey (columns : ℕ) (key : Key) : Type 0 where
  pub some : 0 < length key.columns
  pub distinct : IsDistinct nat_eq key.columns
  pub there : All (λ column. column < columns) key.columns

pub record IsSoundTable (def : TableDef) : Type 0 where
  pub rows : 1 ≤ def.rows
  pub names : HasDistinctNames def.columns
  pub keys : All (IsSoundKey (length def.columns)) def.keys

pub record IsSound (catalog : Catalog) : Type 0 where
  pub names : HasDistinctNames catalog.tables
  pub tables : All (λ table. IsSoundTable table.1) catalog.tables

-- a catalogue that is read gives each table from 1 to 64 columns
pub record IsOfSize (def : TableDef) : Type 0 where
  pub some : 1 ≤ length def.columns
  pub few : length def.columns ≤ 64

abbrev pub AreOfSize : Catalog → Type 0
AreOfSize catalog = All (λ table. IsOfSize table.1) catalog.tables

-- What the tests know of the tables that they load.
use Rattle.std.specs.Prelude.{◌≡◌, List, [], ◌∷◌, All, Some}
use Rattle.jp_base.specs.declared.values.Ty.{Ty}
use Rattle.jp_query.specs.Meaning.{Row}
use Rattle.jp_query.specs.Tables.{TableRows}
use Rattle.jp_table.specs.Rows.{IsRowOf}

-- the rows fit some columns
pub record HasFittingRows (rows : List Row) : Type 0 where
  pub types : List Ty
  pub fit : All (IsRowOf types) rows

-- one table, whose rows fit some columns
pub record IsOneTable (tables : TableRows) : Type 0 where
  pub types : List Ty
  pub rows : List Row
  pub all : tables ≡ Some rows ∷ []
  pub fit : All (IsRowOf types) rows

-- What it takes to run a statement.
use Rattle.jp_query.specs.Tables.{TableRows, Belong}
use Rattle.jp_tree.specs.declared.prepared.Prepared.{Prepared}
use Rattle.jp_tree.specs.Prepared.{IsWhole}

-- the statement is whole, and the tables belong to the schema over which its expressions are typed
pub record CanRunStatement (prepared : Prepared) (tables : TableRows) : Type 0 where
  pub whole : IsWhole prepared
  pub belong : Belong whole.schema tables

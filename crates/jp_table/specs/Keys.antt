-- What the keys of a table's definition say of its rows.
use Rattle.std.specs.Prelude.{◌≡◌, ◌≢◌, ◌<◌, ℕ, true, [], List, length, All}
use Rattle.std.specs.List.{slice_index_or}
use Rattle.jp_base.specs.Values.{are_equal}
use Rattle.jp_base.specs.declared.values.Value.{Value}
use Rattle.jp_base.specs.declared.values.Value.TheVariants as value
use Rattle.jp_catalog.specs.declared.types.Key.{Key}
use Rattle.jp_catalog.specs.declared.types.TableDef.{TableDef}

-- no column of the key is NULL
abbrev pub HasNoNull : Key → List Value → Type 0
HasNoNull key row = All (λ column. slice_index_or row column value.Null ≢ value.Null) key.columns

-- the two rows have equal values in all columns of the key, none of them NULL
abbrev pub AgreeIn : Key → List Value → List Value → Type 0
AgreeIn key a b = All (λ column. are_equal (slice_index_or a column value.Null) (slice_index_or b column value.Null) ≡ true) key.columns

-- no two rows agree in the key
abbrev pub NoneAgreeIn : Key → List (List Value) → Type 0
NoneAgreeIn key rows = (m n : ℕ) → m < length rows → n < length rows → m ≢ n → ¬ AgreeIn key (slice_index_or rows m []) (slice_index_or rows n [])

pub record KeysHold (def : TableDef) (rows : List (List Value)) : Type 0 where
  pub no_null : All (λ key. key.primary ≡ true → All (HasNoNull key) rows) def.keys
  pub distinct : All (λ key. NoneAgreeIn key rows) def.keys

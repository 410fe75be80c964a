-- The values of a row in the columns of a key, one column more at a time.
use Rattle.std.proofs.Common.{◌≡◌, ◌<◌, ℕ, zero, suc, Bool, ◌||◌, true, false, List, [], ◌∷◌, length, get_or, map, refl, arith}
use Rattle.std.specs.List.{list_any}
use Rattle.jp_base.specs.Values.{is_null}
use Rattle.jp_base.specs.declared.values.Value.{Value}
use Rattle.jp_base.specs.declared.values.Value.TheVariants as value

abbrev pub values_in : List Value → List ℕ → List Value
values_in row columns = map (λ column. get_or row column value.Null) columns

abbrev pub null_in : List Value → List ℕ → Bool
null_in row columns = list_any is_null (values_in row columns)

-- a column that is NULL
pub null_there : (row : List Value) (columns : List ℕ) (i : ℕ) → i < length columns → get_or row (get_or columns i 0) value.Null ≡ value.Null → null_in row columns ≡ true
null_there row [] i h e = absurd (omega arith)
null_there row (c ∷ cs) zero h e = rw e refl
null_there row (c ∷ cs) (suc i) h e = or_true (is_null (get_or row c value.Null)) (null_in row cs) (null_there row cs i (omega arith) e)
  where
    or_true : (a b : Bool) → b ≡ true → (a || b) ≡ true
    or_true true b e = refl
    or_true false b e = e

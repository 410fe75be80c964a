-- Lines of a query and how they are put in order: DISTINCT, the order of keys, the stable sort.
use Rattle.std.specs.Prelude.{◌≡◌, Bool, true, false, not, ◌&&◌, List, [], ◌∷◌, filter, if◌then◌else◌}
use Rattle.std.specs.List.{AllPairs}
use Rattle.std.specs.declared.cmp.Ordering.{Ordering}
use Rattle.std.specs.declared.cmp.Ordering.TheVariants.{Less, Equal, Greater}
use Rattle.std.specs.Ordering.{is_lt, ordering_reverse, ordering_then}
use Rattle.jp_base.specs.declared.values.Value.{Value}
use Rattle.jp_base.specs.declared.values.Value.TheVariants as value
use Rattle.jp_base.specs.Values.{are_same, total_order_of}

abbrev pub Row : Type 0
Row = List Value

-- a row of outputs, and beside it the values that it is sorted by
pub record Line : Type 0 where
  pub outputs : Row
  pub keys : Row

abbrev pub outputs_of : Line → Row
outputs_of line = line.outputs

-- ---- DISTINCT

-- rows are the same where their values are, place by place: NULLs are the same here
abbrev pub same_rows : Row → Row → Bool
same_rows [] [] = true
same_rows (a ∷ left) (b ∷ right) = are_same a b && same_rows left right
same_rows _ _ = false

abbrev pub differs : Line → Line → Bool
differs a b = not (same_rows a.outputs b.outputs)

-- DISTINCT keeps the first of the lines with the same outputs
abbrev pub first_lines : List Line → List Line
first_lines [] = []
first_lines (line ∷ lines) = line ∷ filter (differs line) (first_lines lines)

abbrev pub distinct_lines : Bool → List Line → List Line
distinct_lines distinct lines = if distinct then first_lines lines else lines

-- ---- the order of keys

-- whether a key descends, and whether its NULLs come first
pub record Direction : Type 0 where
  pub desc : Bool
  pub nulls_first : Bool

abbrev pub turned : Bool → Ordering → Ordering
turned desc order = if desc then ordering_reverse order else order

-- How a sort puts two values of one key: NULLs first or last, whether the key descends or not; other values by their
-- order, turned where it descends. Values of different types, which no typed query has in one key, are ordered too.
abbrev pub key_order : Direction → Value → Value → Ordering
key_order key value.Null value.Null = Equal
key_order key value.Null b = if key.nulls_first then Less else Greater
key_order key a value.Null = if key.nulls_first then Greater else Less
key_order key a b = turned key.desc (total_order_of a b)

-- a value that a row lacks counts as NULL
abbrev pub first_key : Row → Value
first_key [] = value.Null
first_key (v ∷ row) = v

abbrev pub later_keys : Row → Row
later_keys [] = []
later_keys (v ∷ row) = row

-- one key after another
abbrev pub keys_order : List Direction → Row → Row → Ordering
keys_order [] left right = Equal
keys_order (key ∷ keys) left right = ordering_then (key_order key (first_key left) (first_key right)) (keys_order keys (later_keys left) (later_keys right))

abbrev pub is_before : List Direction → Line → Line → Bool
is_before keys a b = is_lt (keys_order keys a.keys b.keys)

-- the later line isn't before the earlier one
abbrev pub MayPrecede : List Direction → Line → Line → Type 0
MayPrecede keys earlier later = is_before keys later earlier ≡ false

-- of all pairs of lines, the later one isn't before the earlier one
abbrev pub AreInOrder : List Direction → List Line → Type 0
AreInOrder keys = AllPairs (MayPrecede keys)

-- ---- the stable sort

-- a line comes before the first of the later ones that isn't before it
abbrev pub inserted : List Direction → Line → List Line → List Line
inserted keys line [] = line ∷ []
inserted keys line (next ∷ lines) = if is_before keys next line then next ∷ inserted keys line lines else line ∷ next ∷ lines

abbrev pub sorted : List Direction → List Line → List Line
sorted keys [] = []
sorted keys (line ∷ lines) = inserted keys line (sorted keys lines)

-- Rows are the same where their parts are.
use Rattle.std.proofs.Common.{◌≡◌, Bool, true, false, ◌&&◌, List, [], ◌∷◌, map, Vec, Global, refl, sym, ap₂}
use Rattle.std.proofs.lemmas.Map.Text.{is_eq-slice_cmp}
use Rattle.std.specs.Cmp.Lexicographic.{pointwise}
use Rattle.jp_base.specs.Values.{are_same}
use Rattle.jp_base.specs.declared.values.Value.TheVariants as value
use Rattle.jp_query.specs.Ordering.{same_rows}
use Rattle.jp_order.specs.Keys.{value_of_part}
use Rattle.jp_order.specs.contracts.distinct.PartPartialEq.TheImpl as part_equal
use Rattle.jp_order.specs.declared.distinct.Part.{Part}
use Rattle.jp_order.specs.declared.distinct.Part.TheVariants as part

abbrev pub same_part : Part → Part → Bool
same_part = (part_equal.ghosts).eq

abbrev pub same_parts : Vec Part Global → Vec Part Global → Bool
same_parts x y = pointwise same_part x.items y.items

same_truth : (a b : Bool) → same_part (part.Boolean a) (part.Boolean b) ≡ are_same (value.Bool a) (value.Bool b)
same_truth true true = refl
same_truth true false = refl
same_truth false true = refl
same_truth false false = refl

same_value : (p q : Part) → same_part p q ≡ are_same (value_of_part p) (value_of_part q)
same_value part.Null part.Null = refl
same_value part.Null (part.Number b) = refl
same_value part.Null (part.Boolean b) = refl
same_value part.Null (part.Text b) = refl
same_value (part.Number a) part.Null = refl
same_value (part.Number a) (part.Number b) = refl
same_value (part.Number a) (part.Boolean b) = refl
same_value (part.Number a) (part.Text b) = refl
same_value (part.Boolean a) part.Null = refl
same_value (part.Boolean a) (part.Number b) = refl
same_value (part.Boolean a) (part.Boolean b) = same_truth a b
same_value (part.Boolean a) (part.Text b) = refl
same_value (part.Text a) part.Null = refl
same_value (part.Text a) (part.Number b) = refl
same_value (part.Text a) (part.Boolean b) = refl
same_value (part.Text a) (part.Text b) = sym (is_eq-slice_cmp a.now b.now)

pub same_values : (ps qs : List Part) → pointwise same_part ps qs ≡ same_rows (map value_of_part ps) (map value_of_part qs)
same_values [] [] = refl
same_values [] (q ∷ qs) = refl
same_values (p ∷ ps) [] = refl
same_values (p ∷ ps) (q ∷ qs) = ap₂ (λ (a b : Bool). a && b) (same_value p q) (same_values ps qs)

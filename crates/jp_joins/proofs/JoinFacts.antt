-- What the conditions of a step give at each of its tuples.
use Rattle.std.proofs.Common.{◌≡◌, ◌∙◌, ap, sym, subst, ℕ, ◌<◌, List, [], ◌∷◌, length, get_or, arith}
use Rattle.std.specs.Prelude.{All, Some}
use Rattle.std.proofs.lemmas.List.{get_or-map, length-map}
use Rattle.jp_problem.specs.declared.types.Step.{Step}
use Rattle.jp_query.specs.declared.Expr.{Expr}
use Rattle.jp_frame.specs.Maps.{Map, both}
use Rattle.jp_joins.specs.Conditions.{AreApart, CanEvaluateAt, CanJoin, CanPair, CanTest, sides}
use Rattle.jp_joins.specs.Meant.{Meant, value_at}
use Rattle.jp_joins.specs.Tuples.{map_of, maps_of}
use Rattle.jp_joins.specs.Working.{CanKeep, CanTryAll}
use Rattle.jp_joins.specs.declared.tuples.Tuple.{Tuple}

-- a fact of all maps at their tuples
pub of_tuples : (P : Map → Type 0) (ts : List Tuple) → All P (maps_of ts) → All (λ t. P (map_of t)) ts
of_tuples P ts all k t h = subst P (get_or-map map_of ts k t (map_of t) h) (all k (map_of t) (omega (arith, h, length-map ts map_of)))

module _ (meant : Meant) (asked : Step) (lefts rights : List Tuple) (can : CanJoin meant asked (maps_of lefts) (maps_of rights)) where
  pub can_keep : (k : ℕ) (d : Tuple) → k < length lefts → CanKeep meant (map_of (get_or lefts k d))
  can_keep k d h = (of_tuples (CanTest meant) lefts can.left_test k d h).filters

  pub can_pair_all : (k : ℕ) (d : Tuple) → k < length lefts → All (λ right. CanPair meant (map_of (get_or lefts k d)) (map_of right)) rights
  can_pair_all k d h j b low = record {
    wide = of_tuples (λ m. length m ≡ can.width) lefts can.left_width k d h ∙ sym (of_tuples (λ m. length m ≡ can.width) rights can.right_width j b low);
    apart = of_tuples (AreApart (map_of (get_or lefts k d))) rights (of_tuples (λ m. All (AreApart m) (maps_of rights)) lefts can.apart k d h) j b low;
    test = of_tuples (λ m. CanTest meant (both (map_of (get_or lefts k d)) m)) rights (of_tuples (λ n. All (λ m. CanTest meant (both n m)) (maps_of rights)) lefts can.pair_test k d h) j b low;
  }

  -- where no member of the ON list is known to be true, each right tuple can be tried
  pub tries_unknown : (known : ℕ) → known ≡ length meant.on → (k : ℕ) (d : Tuple) → k < length lefts → CanTryAll meant known (get_or lefts k d) rights
  tries_unknown known none k d h j b low = record { pair = can_pair_all k d h j b low; known = λ e inside. absurd (omega (arith, none, inside)) }

-- the value of an expression at one of the maps
pub value_of_map : (meant : Meant) (e : Expr) (ts : List Tuple) (k : ℕ) (d : Tuple) → k < length ts → value_at meant (get_or (maps_of ts) k []) e ≡ value_at meant (map_of (get_or ts k d)) e
value_of_map meant e ts k d h = ap (λ m. value_at meant m e) (get_or-map map_of ts k d [] h)

-- the sides of the key can be evaluated at the tuples of one side
module _ (meant : Meant) (first second : Expr) (is : meant.key ≡ Some (first, second)) (ts : List Tuple) (can : All (CanTest meant) (maps_of ts)) where
  of_sides : (k : ℕ) (d : Tuple) → k < length ts → All (CanEvaluateAt meant (map_of (get_or ts k d))) (first ∷ second ∷ [])
  of_sides k d h = subst (λ o. All (CanEvaluateAt meant (map_of (get_or ts k d))) (sides o)) is (of_tuples (CanTest meant) ts can k d h).key

  pub first_can : All (λ t. CanEvaluateAt meant (map_of t) first) ts
  first_can k d h = of_sides k d h 0 first (omega arith)

  pub second_can : All (λ t. CanEvaluateAt meant (map_of t) second) ts
  second_can k d h = of_sides k d h 1 first (omega arith)

-- the tuple that stands past the end of a list
abbrev pub no_tuple : Tuple
no_tuple = record { rows = record { ref_ptr = (0, 0); now = [] } }

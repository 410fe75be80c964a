-- The list of maps of a shape: all combinations of its items' rows, with special joins by their own ON lists over right
-- sides that are filtered by the clauses that are active there. No clause of the shape's own region is tested.
use Rattle.std.proofs.Common.{◌≡◌, ◌∙◌, ap, sym, subst, refl, ℕ, zero, suc, ◌+◌, ◌⊎◌, inl, inr, Bool, true, false, not, List, [], ◌∷◌, map, filter, length, None, arith}
use Rattle.std.specs.List.{flat_map}
use Rattle.jp_base.specs.Sets.{Has}
use Rattle.jp_facts.proofs.Members.{In, from_map, from_filter, from_flat_map}
use Rattle.jp_problem.specs.declared.types.Place.{Place}
use Rattle.jp_problem.specs.Blocks.{behind, in_right_side, items_at}
use Rattle.jp_problem.specs.Shapes.{Shape, nothing, item, beside, filtered, special, count_joins}
use Rattle.jp_conditions.proofs.Laying.{left_items, right_items}
use Rattle.jp_conditions.proofs.Spans.{has_span}
use Rattle.jp_frame.specs.Maps.{Map, at as row_of, both}
use Rattle.jp_frame.specs.Frames.{Frame, Kind, Left, Semi, Anti}
use Rattle.jp_frame.specs.Methods.{none_row, one_row, rows_of_item, matches, is_matched, left_rows, once_where, joined_rows}
use Rattle.jp_frame.proofs.MapLaws.{both_left, length_both}
use Rattle.jp_framed.specs.Environments.{LiesOn}
use Rattle.jp_spine.proofs.ActiveLaws.{active_test, each_with}

abbrev pub bare : Frame → Shape → Place → List Map
bare f nothing at = none_row f.items ∷ []
bare f (item tree) at = rows_of_item f.items at.items 0 (f.rows at.items)
bare f (beside left right) at = flat_map (each_with (bare f right (behind left at))) (bare f left at)
bare f (filtered shape conds) at = bare f shape at
bare f (special kind left right on) at =
    let s = at.joins + (count_joins left + count_joins right) in
    flat_map (joined_rows (f.kind s) (f.on s) (filter (active_test f (items_at (behind left at) right)) (bare f right (in_right_side left right at)))) (bare f left at)

-- a map of all items, with rows of the set's items alone
pub record Lain (f : Frame) (set : ℕ) (m : Map) : Type 0 where
  pub long : length m ≡ f.items
  pub off : LiesOn set m

none_long : (n : ℕ) → length (none_row n) ≡ n
none_long zero = refl
none_long (suc n) = ap suc (none_long n)

one_long : (n i r : ℕ) → length (one_row n i r) ≡ n
one_long zero i r = refl
one_long (suc n) zero r = ap suc (none_long n)
one_long (suc n) (suc i) r = ap suc (one_long n i r)

pub none_at : (n i : ℕ) → row_of (none_row n) i ≡ None
none_at zero i = refl
none_at (suc n) zero = refl
none_at (suc n) (suc i) = none_at n i

at_other : (n i r j : ℕ) → (j ≡ i → ⊥) → row_of (one_row n i r) j ≡ None
at_other zero i r j other = refl
at_other (suc n) zero r zero other = absurd (other refl)
at_other (suc n) zero r (suc j) other = none_at n j
at_other (suc n) (suc i) r zero other = refl
at_other (suc n) (suc i) r (suc j) other = at_other n i r j (λ e. other (ap suc e))

row_found : (n i r k : ℕ) (m : Map) → In m (rows_of_item n i r k) → (q : ℕ) × (one_row n i q ≡ m)
row_found n i r zero m h = absurd h
row_found n i r (suc k) m (inl e) = (r, e)
row_found n i r (suc k) m (inr h) = row_found n i (suc r) k m h

-- ---- what a join makes of a left map

alone_or : (a m : Map) (xs : List Map) → In m (left_rows a xs) → (a ≡ m) ⊎ In m xs
alone_or a m [] (inl e) = inl e
alone_or a m [] (inr h) = absurd h
alone_or a m (x ∷ xs) h = inr h

once_is : (b : Bool) (a m : Map) → In m (once_where b a) → a ≡ m
once_is true a m (inl e) = e
once_is true a m (inr h) = absurd h
once_is false a m h = absurd h

abbrev pub IsPair : List Map → Map → Map → Type 0
IsPair rights a m = (b : Map) × In b rights × (both a b ≡ m)

pub matched_from : (on : Map → Bool) (rights : List Map) (a m : Map) → In m (matches on rights a) → IsPair rights a m
matched_from on rights a m h = from_map (both a) m rights (from_filter on m (map (both a) rights) h).1

pub joined_from : (kind : Kind) (on : Map → Bool) (rights : List Map) (a m : Map) → In m (joined_rows kind on rights a) → (a ≡ m) ⊎ IsPair rights a m
joined_from Left on rights a m h = elim (alone_or a m (matches on rights a) h) [ inl e ↦ inl e | inr k ↦ inr (matched_from on rights a m k) ]
joined_from Semi on rights a m h = inl (once_is (is_matched on rights a) a m h)
joined_from Anti on rights a m h = inl (once_is (not (is_matched on rights a)) a m h)

module _ (f : Frame) where
  module _ (left right : Shape) (at : Place) where
    abbrev whole : ℕ
    whole = items_at at (beside left right)

    both_lain : (a b : Map) → Lain f (items_at at left) a → Lain f (items_at (behind left at) right) b → Lain f (items_at at (beside left right)) (both a b)
    both_lain a b x y = record {
      long = length_both a b (x.long ∙ sym y.long) ∙ x.long;
      off = λ i n. both_left a b i (y.off i (λ p. n (right_items [] left right at i p))) ∙ x.off i (λ p. n (left_items [] left right at i p));
    }

    alone_lain : (a : Map) → Lain f (items_at at left) a → Lain f (items_at at (beside left right)) a
    alone_lain a x = record { long = x.long; off = λ i n. x.off i (λ p. n (left_items [] left right at i p)) }

    pairs_lain : (lefts rights : List Map) → ((a : Map) → In a lefts → Lain f (items_at at left) a) → ((b : Map) → In b rights → Lain f (items_at (behind left at) right) b) → (m : Map) → In m (flat_map (each_with rights) lefts) → Lain f (items_at at (beside left right)) m
    pairs_lain lefts rights x y m h =
        let a = from_flat_map (each_with rights) m lefts h in
        let b = from_map (both a.0) m rights a.2 in
        subst (Lain f whole) b.2 (both_lain a.0 b.0 (x a.0 a.1) (y b.0 b.1))

    joined_lain : (kind : Kind) (on : Map → Bool) (lefts rights : List Map) → ((a : Map) → In a lefts → Lain f (items_at at left) a) → ((b : Map) → In b rights → Lain f (items_at (behind left at) right) b)
        → (m : Map) → In m (flat_map (joined_rows kind on rights) lefts) → Lain f (items_at at (beside left right)) m
    joined_lain kind on lefts rights x y m h =
        let a = from_flat_map (joined_rows kind on rights) m lefts h in
        elim (joined_from kind on rights a.0 m a.2) [
          | inl e ↦ subst (Lain f whole) e (alone_lain a.0 (x a.0 a.1))
          | inr b ↦ subst (Lain f whole) b.2 (both_lain a.0 b.0 (x a.0 a.1) (y b.0 b.1))
        ]

  pub lain : (shape : Shape) (at : Place) (m : Map) → In m (bare f shape at) → Lain f (items_at at shape) m
  lain nothing at m (inl e) = subst (Lain f (items_at at nothing)) e (record { long = none_long f.items; off = λ i n. none_at f.items i })
  lain nothing at m (inr h) = absurd h
  lain (item tree) at m h =
      let found = row_found f.items at.items 0 (f.rows at.items) m h in
      subst (Lain f (items_at at (item tree))) found.1 (record { long = one_long f.items at.items found.0; off = λ i n. at_other f.items at.items found.0 i (λ e. n (subst (Has (items_at at (item tree))) (sym e) ((has_span at.items 1 at.items).1 (omega arith, omega arith)))) })
  lain (beside left right) at m h = pairs_lain left right at (bare f left at) (bare f right (behind left at)) (lain left at) (lain right (behind left at)) m h
  lain (filtered shape conds) at m h = lain shape at m h
  lain (special kind left right on) at m h =
      let s = at.joins + (count_joins left + count_joins right) in
      let here = in_right_side left right at in
      let test = active_test f (items_at (behind left at) right) in
      joined_lain left right at (f.kind s) (f.on s) (bare f left at) (filter test (bare f right here)) (lain left at) (λ b k. lain right here b (from_filter test b (bare f right here) k).1) m h

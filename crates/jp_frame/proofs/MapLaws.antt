-- Parts and unions of maps, place by place, and the list of the maps on a set.
use Rattle.std.proofs.Common.{◌≡◌, ◌∙◌, ap, ap₂, sym, subst, refl, ℕ, suc, zero, ◌+◌, ◌<◌, ◌≤◌, ◌⊎◌, inl, inr, Bool, true, false, [], ◌∷◌, length, arith, Option, Some, None, add-zero}
use Rattle.std.specs.Int.{bit_at}
use Rattle.std.proofs.lemmas.Bool.{cases_eq, eq-eqb, ne_eqb}
use Rattle.jp_base.specs.Sets.{Has, Within}
use Rattle.jp_frame.specs.Maps.{Map, at, has, Agree, NoneOn, kept, part_from, part, either_row, both}
use Rattle.jp_frame.specs.Frames.{Frame, Apart}
use Rattle.jp_frame.specs.Rows.{Lives, rows_from, choices, with_first, maps_from, maps}
use Rattle.jp_frame.proofs.Sets.{decide_has}
use Rattle.jp_facts.proofs.Members.{In, Distinct, in_map, from_map, in_flat_map, from_flat_map, distinct_map, distinct_flat_map}

pub has_true : (set i : ℕ) → Has set i → has set i ≡ true
has_true set i h = eq-eqb (bit_at set i) 1 h

pub has_false : (set i : ℕ) → ¬ Has set i → has set i ≡ false
has_false set i h = ne_eqb (bit_at set i) 1 h

kept_none : (b : Bool) → None ≡ kept b None
kept_none true = refl
kept_none false = refl

at_part_from : (k set : ℕ) (m : Map) (i : ℕ) → at (part_from k set m) i ≡ kept (has set (k + i)) (at m i)
at_part_from k set [] i = kept_none (has set (k + i))
at_part_from k set (row ∷ m) zero = ap (λ n. kept (has set n) row) (sym (add-zero k))
at_part_from k set (row ∷ m) (suc i) = at_part_from (suc k) set m i ∙ ap (λ n. kept (has set n) (at m i)) (omega arith)

at_part : (set : ℕ) (m : Map) (i : ℕ) → at (part set m) i ≡ kept (has set i) (at m i)
at_part set m i = at_part_from 0 set m i ∙ ap (λ n. kept (has set n) (at m i)) (omega arith)

pub part_on : (set : ℕ) (m : Map) (i : ℕ) → Has set i → at (part set m) i ≡ at m i
part_on set m i h = at_part set m i ∙ ap (λ b. kept b (at m i)) (has_true set i h)

pub part_off : (set : ℕ) (m : Map) (i : ℕ) → ¬ Has set i → at (part set m) i ≡ None
part_off set m i h = at_part set m i ∙ ap (λ b. kept b (at m i)) (has_false set i h)

length_part_from : (k set : ℕ) (m : Map) → length (part_from k set m) ≡ length m
length_part_from k set [] = refl
length_part_from k set (row ∷ m) = ap suc (length_part_from (suc k) set m)

pub length_part : (set : ℕ) (m : Map) → length (part set m) ≡ length m
length_part set m = length_part_from 0 set m

pub either_none : (row : Option ℕ) → row ≡ either_row row None
either_none None = refl
either_none (Some r) = refl

pub at_both : (m n : Map) (i : ℕ) → at (both m n) i ≡ either_row (at m i) (at n i)
at_both [] n i = refl
at_both (row ∷ m) [] i = either_none (at (row ∷ m) i)
at_both (row ∷ m) (other ∷ n) zero = refl
at_both (row ∷ m) (other ∷ n) (suc i) = at_both m n i

pub both_left : (m n : Map) (i : ℕ) → at n i ≡ None → at (both m n) i ≡ at m i
both_left m n i e = at_both m n i ∙ ap (either_row (at m i)) e ∙ sym (either_none (at m i))

pub both_right : (m n : Map) (i : ℕ) → at m i ≡ None → at (both m n) i ≡ at n i
both_right m n i e = at_both m n i ∙ ap (λ row. either_row row (at n i)) e

pub length_both : (m n : Map) → length m ≡ length n → length (both m n) ≡ length m
length_both [] [] e = refl
length_both [] (other ∷ n) e = absurd (omega (arith, e))
length_both (row ∷ m) [] e = refl
length_both (row ∷ m) (other ∷ n) e = ap suc (length_both m n (omega (arith, e)))

pub map_same : (m n : Map) → length m ≡ length n → ((i : ℕ) → at m i ≡ at n i) → m ≡ n
map_same [] [] e h = refl
map_same [] (other ∷ n) e h = absurd (omega (arith, e))
map_same (row ∷ m) [] e h = absurd (omega (arith, e))
map_same (row ∷ m) (other ∷ n) e h = ap₂ ◌∷◌ (h 0) (map_same m n (omega (arith, e)) (λ i. h (suc i)))

pub none_or_some : (row : Option ℕ) → (row ≡ None) ⊎ ((r : ℕ) × (row ≡ Some r))
none_or_some None = inl refl
none_or_some (Some r) = inr (r, refl)

pub past_end : (m : Map) (i : ℕ) → length m ≤ i → at m i ≡ None
past_end [] i h = refl
past_end (row ∷ m) zero h = absurd (omega arith)
past_end (row ∷ m) (suc i) h = past_end m i (omega arith)

module _ (f : Frame) where
  pub outside : (set : ℕ) (m : Map) (i : ℕ) → Lives f set m → ¬ Has set i → at m i ≡ None
  outside set m i l out = elim (none_or_some (at m i)) [ inl e ↦ e | inr h ↦ absurd (out (l.placed i h.0 h.1).0) ]

  pub none_off : (a b : ℕ) (m : Map) → Lives f a m → Apart a b → NoneOn b m
  none_off a b m l apart i h = outside a m i l (λ p. apart i p h)

  pub lives_part : (set part_set : ℕ) (m : Map) → Lives f set m → Lives f part_set (part part_set m)
  lives_part set part_set m l = record {
    long = length_part part_set m ∙ l.long;
    placed = λ i r e. elim (decide_has part_set i) [
      | inl p ↦ (p, (l.placed i r (sym (part_on part_set m i p) ∙ e)).1)
      | inr n ↦ let clash = sym (part_off part_set m i n) ∙ e in cc
    ];
  }

  pub lives_wider : (a b : ℕ) (m : Map) → Within a b → Lives f a m → Lives f b m
  lives_wider a b m w l = record { long = l.long; placed = λ i r e. let h = l.placed i r e in (w i h.0, h.1) }

  pub lives_both : (a b set : ℕ) (m n : Map) → Within a set → Within b set → Lives f a m → Lives f b n → Lives f set (both m n)
  lives_both a b set m n in_a in_b l k = record {
    long = length_both m n (l.long ∙ sym k.long) ∙ l.long;
    placed = λ i r e. elim (none_or_some (at m i)) [
      | inl none ↦ let h = k.placed i r (sym (both_right m n i none) ∙ e) in (in_b i h.0, h.1)
      | inr some ↦
          let same : at m i ≡ Some r = some.1 ∙ sym (at_both m n i ∙ ap (λ row. either_row row (at n i)) some.1) ∙ e in
          let h = l.placed i r same in (in_a i h.0, h.1)
    ];
  }

  -- a map is its part on the set that it lives on
  pub part_whole : (set : ℕ) (m : Map) → Lives f set m → part set m ≡ m
  part_whole set m l = map_same (part set m) m (length_part set m) (λ i. elim (decide_has set i) [ inl p ↦ part_on set m i p | inr n ↦ part_off set m i n ∙ sym (outside set m i l n) ])

  pub part_agree : (set : ℕ) (m n : Map) → length m ≡ length n → Agree set m n → part set m ≡ part set n
  part_agree set m n e agree = map_same (part set m) (part set n) (length_part set m ∙ e ∙ sym (length_part set n))
      (λ i. elim (decide_has set i) [ inl p ↦ part_on set m i p ∙ agree i p ∙ sym (part_on set n i p) | inr out ↦ part_off set m i out ∙ sym (part_off set n i out) ])

  -- ---- the list of maps

  in_rows : (k n r : ℕ) → k ≤ r → r < k + n → In (Some r) (rows_from k n)
  in_rows k zero r low high = absurd (omega arith)
  in_rows k (suc n) r low high = elim (cases_eq k r) [ inl e ↦ inl (ap Some e) | inr other ↦ inr (in_rows (suc k) n r (omega (arith, low, other)) (omega (arith, high))) ]

  from_rows : (k n r : ℕ) → In (Some r) (rows_from k n) → (k ≤ r) × (r < k + n)
  from_rows k zero r h = absurd h
  from_rows k (suc n) r (inl e) = let same : k ≡ r = cc in (omega (arith, same), omega (arith, same))
  from_rows k (suc n) r (inr p) = let h = from_rows (suc k) n r p in (omega (arith, h.0), omega (arith, h.1))

  none_in_rows : (k n : ℕ) → In None (rows_from k n) → ⊥
  none_in_rows k zero h = h
  none_in_rows k (suc n) (inl e) = cc
  none_in_rows k (suc n) (inr p) = none_in_rows (suc k) n p

  distinct_rows : (k n : ℕ) → Distinct (rows_from k n)
  distinct_rows k zero = tt
  distinct_rows k (suc n) = (λ h. let low = (from_rows (suc k) n k h).0 in omega (arith, low), distinct_rows (suc k) n)

  distinct_choices : (b : Bool) (n : ℕ) → Distinct (choices b n)
  distinct_choices true n = (none_in_rows 0 n, distinct_rows 0 n)
  distinct_choices false n = (λ h. h, tt)

  in_choices : (set i : ℕ) (row : Option ℕ) → ((r : ℕ) → row ≡ Some r → Has set i × (r < f.rows i)) → In row (choices (has set i) (f.rows i))
  in_choices set i row h = elim (decide_has set i) [
    | inl p ↦ subst (λ b. In row (choices b (f.rows i))) (sym (has_true set i p)) (elim (none_or_some row) [ inl e ↦ inl (sym e) | inr k ↦ inr (subst (λ x. In x (rows_from 0 (f.rows i))) (sym k.1) (in_rows 0 (f.rows i) k.0 (omega arith) (let low = (h k.0 k.1).1 in omega (arith, low)))) ])
    | inr n ↦ subst (λ b. In row (choices b (f.rows i))) (sym (has_false set i n)) (elim (none_or_some row) [ inl e ↦ inl (sym e) | inr k ↦ absurd (n (h k.0 k.1).0) ])
  ]

  from_choices_at : (set i : ℕ) (row : Option ℕ) (b : Bool) → has set i ≡ b → In row (choices b (f.rows i)) → (r : ℕ) → row ≡ Some r → Has set i × (r < f.rows i)
  from_choices_at set i row true e (inl q) r s = let clash : None ≡ Some r = q ∙ s in cc
  from_choices_at set i row true e (inr p) r s =
      let h = from_rows 0 (f.rows i) r (subst (λ x. In x (rows_from 0 (f.rows i))) s p) in
      (elim (decide_has set i) [ inl k ↦ k | inr n ↦ let clash : true ≡ false = sym e ∙ has_false set i n in cc ], omega (arith, h.1))
  from_choices_at set i row false e (inl q) r s = let clash : None ≡ Some r = q ∙ s in cc
  from_choices_at set i row false e (inr p) r s = absurd p

  in_maps_from : (set i n : ℕ) (m : Map) → length m ≡ n → ((k r : ℕ) → at m k ≡ Some r → Has set (i + k) × (r < f.rows (i + k))) → In m (maps_from f set i n)
  in_maps_from set i zero [] e h = inl refl
  in_maps_from set i zero (row ∷ m) e h = absurd (omega (arith, e))
  in_maps_from set i (suc n) [] e h = absurd (omega (arith, e))
  in_maps_from set i (suc n) (row ∷ m) e h =
      in_flat_map (with_first (maps_from f set (suc i) n)) row (row ∷ m) (choices (has set i) (f.rows i))
      (in_choices set i row (λ r q. subst (λ x. Has set x × (r < f.rows x)) (add-zero i) (h 0 r q)))
      (in_map (◌∷◌ row) m (maps_from f set (suc i) n) (in_maps_from set (suc i) n m (omega (arith, e)) (λ k r q. subst (λ x. Has set x × (r < f.rows x)) (omega arith) (h (suc k) r q))))

  from_maps_from : (set i n : ℕ) (m : Map) → In m (maps_from f set i n) → (length m ≡ n) × ((k r : ℕ) → at m k ≡ Some r → Has set (i + k) × (r < f.rows (i + k)))
  from_maps_from set i zero m (inl e) = (ap length (sym e), λ k r q. let clash : None ≡ Some r = ap (λ x. at x k) e ∙ q in cc)
  from_maps_from set i zero m (inr p) = absurd p
  from_maps_from set i (suc n) m p =
      let h = from_flat_map (with_first (maps_from f set (suc i) n)) m (choices (has set i) (f.rows i)) p in
      let k = from_map (◌∷◌ h.0) m (maps_from f set (suc i) n) h.2 in
      let rest = from_maps_from set (suc i) n k.0 k.1 in
      (ap length (sym k.2) ∙ ap suc rest.0, λ x r q. placed h.0 k.0 h.1 rest.1 x r (ap (λ z. at z x) k.2 ∙ q))
    where
      placed : (row : Option ℕ) (tail : Map) → In row (choices (has set i) (f.rows i)) → ((k r : ℕ) → at tail k ≡ Some r → Has set (suc i + k) × (r < f.rows (suc i + k))) → (x r : ℕ) → at (row ∷ tail) x ≡ Some r → Has set (i + x) × (r < f.rows (i + x))
      placed row tail c more zero r q = subst (λ y. Has set y × (r < f.rows y)) (sym (add-zero i)) (from_choices_at set i row (has set i) refl c r q)
      placed row tail c more (suc x) r q = subst (λ y. Has set y × (r < f.rows y)) (omega arith) (more x r q)

  pub in_maps : (set : ℕ) (m : Map) → Lives f set m → In m (maps f set)
  in_maps set m l = in_maps_from set 0 f.items m l.long (λ k r q. subst (λ x. Has set x × (r < f.rows x)) (omega arith) (l.placed k r q))

  pub from_maps : (set : ℕ) (m : Map) → In m (maps f set) → Lives f set m
  from_maps set m p = let h = from_maps_from set 0 f.items m p in record { long = h.0; placed = λ k r q. subst (λ x. Has set x × (r < f.rows x)) (omega arith) (h.1 k r q) }

  distinct_maps_from : (set i n : ℕ) → Distinct (maps_from f set i n)
  distinct_maps_from set i zero = (λ h. h, tt)
  distinct_maps_from set i (suc n) =
      let rest = distinct_maps_from set (suc i) n in
      distinct_flat_map (with_first (maps_from f set (suc i) n)) (choices (has set i) (f.rows i)) (distinct_choices (has set i) (f.rows i))
      (λ row p. distinct_map (◌∷◌ row) (maps_from f set (suc i) n) rest (λ x y a b e. cc))
      (λ row other z a b p q. let h = from_map (◌∷◌ row) z (maps_from f set (suc i) n) p in let k = from_map (◌∷◌ other) z (maps_from f set (suc i) n) q in one row other h.0 k.0 (h.2 ∙ sym k.2))
    where
      one : (row other : Option ℕ) (x y : Map) → row ∷ x ≡ other ∷ y → row ≡ other
      one row other x y e = cc

  pub distinct_maps : (set : ℕ) → Distinct (maps f set)
  distinct_maps set = distinct_maps_from set 0 f.items

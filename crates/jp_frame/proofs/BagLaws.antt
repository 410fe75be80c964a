-- The lists of scans, of the plain step and of the methods hold each member of a row set once.
use Rattle.std.proofs.Common.{◌≡◌, ◌∙◌, ap, sym, subst, refl, ℕ, suc, zero, ◌+◌, ◌<◌, ◌^◌, ◌⊎◌, inl, inr, Bool, true, false, not, List, [], ◌∷◌, map, filter, length, arith, Some, None}
use Rattle.std.specs.Prelude.{bit_or}
use Rattle.std.specs.List.{flat_map}
use Rattle.std.proofs.lemmas.Bool.{cases_eq, both_ways, not-true, not_from_false, false_from_ne_true}
use Rattle.std.proofs.lemmas.Nat.Bits.{bit_at-pow_same, bit_at-pow_other}
use Rattle.jp_base.specs.Sets.{Has}
use Rattle.jp_base.proofs.SetLemmas.{has_or}
use Rattle.std.specs.List.Sorted.{IsPermutation}
use Rattle.jp_frame.specs.Maps.{Map, at, NoneOn, part, both}
use Rattle.jp_frame.specs.Frames.{Frame, IsFrame, Kind, Left, Semi, Anti, Apart}
use Rattle.jp_frame.specs.Legal.{IsInnerStep, IsStepBy}
use Rattle.jp_frame.specs.Rows.{Lives, maps, is_row, row_set, InRowSet, IsRow}
use Rattle.jp_frame.specs.Steps.{Step, Inner, By, IsLegal, HasPartner, HasNoPartner, JoinedBy, IsCandidate, IsEnough}
use Rattle.jp_frame.specs.Methods.{none_row, one_row, rows_of_item, scan, AllActive, IsEnoughAtScan, matches, is_matched, left_rows, once_where, joined_rows, plain, Method, IsAllowed, list_of}
use Rattle.jp_frame.proofs.Sets.{decide_has}
use Rattle.jp_facts.proofs.Members.{In, Distinct, from_filter, in_filter, any_in, any_none, from_any, none_any, in_map, from_map, in_flat_map, from_flat_map, distinct_filter, distinct_map, distinct_flat_map}
use Rattle.jp_frame.proofs.MapLaws.{part_on, part_off, length_part, both_left, both_right, length_both, map_same, none_or_some, outside, lives_wider, lives_both, part_whole, part_agree, in_maps, from_maps, distinct_maps}
use Rattle.jp_frame.proofs.Reading.{row_at, row_from}
use Rattle.jp_frame.proofs.PermutationLaws.{method_permuted, keeps}
use Rattle.jp_base.proofs.MaskAlgebra.{in_left, in_right}
use Rattle.jp_frame.proofs.StepLaws.{step_to, step_from, none_done}

pub record Lists (f : Frame) (set : ℕ) (rows : List Map) : Type 0 where
  pub to : (m : Map) → In m rows → InRowSet f set m
  pub from : (m : Map) → InRowSet f set m → In m rows
  pub distinct : Distinct rows

pub row_set_lists : (f : Frame) (set : ℕ) → Lists f set (row_set f set)
row_set_lists f set = record {
  to = λ m p. let h = from_filter (is_row f set) m (maps f set) p in record { lives = from_maps f set m h.1; row = h.0 };
  from = λ m h. in_filter (is_row f set) m (maps f set) h.row (in_maps f set m h.lives);
  distinct = distinct_filter (is_row f set) (maps f set) (distinct_maps f set);
}

pub permuted_lists : (f : Frame) (set : ℕ) (rows others : List Map) → IsPermutation rows others → Lists f set rows → Lists f set others
permuted_lists f set rows others p l = let k = keeps rows others p in record { to = λ m q. l.to m (k.from m q); from = λ m h. k.to m (l.from m h); distinct = k.distinct l.distinct }

-- ---- scans

length_none_row : (n : ℕ) → length (none_row n) ≡ n
length_none_row zero = refl
length_none_row (suc n) = ap suc (length_none_row n)

at_none_row : (n i : ℕ) → at (none_row n) i ≡ None
at_none_row zero i = refl
at_none_row (suc n) zero = refl
at_none_row (suc n) (suc i) = at_none_row n i

length_one_row : (n i r : ℕ) → length (one_row n i r) ≡ n
length_one_row zero i r = refl
length_one_row (suc n) zero r = ap suc (length_none_row n)
length_one_row (suc n) (suc i) r = ap suc (length_one_row n i r)

at_one_row : (n i r : ℕ) → i < n → at (one_row n i r) i ≡ Some r
at_one_row zero i r low = absurd (omega arith)
at_one_row (suc n) zero r low = refl
at_one_row (suc n) (suc i) r low = at_one_row n i r (omega arith)

off_one_row : (n i r k : ℕ) → (k ≡ i → ⊥) → at (one_row n i r) k ≡ None
off_one_row zero i r k other = refl
off_one_row (suc n) zero r zero other = absurd (other refl)
off_one_row (suc n) zero r (suc k) other = at_none_row n k
off_one_row (suc n) (suc i) r zero other = refl
off_one_row (suc n) (suc i) r (suc k) other = off_one_row n i r k (λ e. other (ap suc e))

pub only_power : (i k : ℕ) → Has (2 ^ i) k → k ≡ i
only_power i k h = elim (cases_eq k i) [ inl e ↦ e | inr n ↦ absurd (omega (arith, bit_at-pow_other i k n, h)) ]

in_rows_of_item : (items i r n k : ℕ) → k < n → In (one_row items i (r + k)) (rows_of_item items i r n)
in_rows_of_item items i r zero k low = absurd (omega arith)
in_rows_of_item items i r (suc n) zero low = inl (ap (one_row items i) (omega arith))
in_rows_of_item items i r (suc n) (suc k) low = inr (subst (λ x. In (one_row items i x) (rows_of_item items i (suc r) n)) (omega arith) (in_rows_of_item items i (suc r) n k (omega arith)))

from_rows_of_item : (items i r n : ℕ) (m : Map) → In m (rows_of_item items i r n) → (k : ℕ) × (k < n) × (one_row items i (r + k) ≡ m)
from_rows_of_item items i r zero m p = absurd p
from_rows_of_item items i r (suc n) m (inl e) = (0, omega arith, ap (one_row items i) (omega arith) ∙ e)
from_rows_of_item items i r (suc n) m (inr p) =
    let h = from_rows_of_item items i (suc r) n m p in
    (suc h.0, omega (arith, h.1), ap (one_row items i) (omega arith) ∙ h.2)

one_row_same : (items i a b : ℕ) → i < items → one_row items i a ≡ one_row items i b → a ≡ b
one_row_same items i a b low e = let same : Some a ≡ Some b = sym (at_one_row items i a low) ∙ ap (λ m. at m i) e ∙ at_one_row items i b low in cc

distinct_rows_of_item : (items i r n : ℕ) → i < items → Distinct (rows_of_item items i r n)
distinct_rows_of_item items i r zero low = tt
distinct_rows_of_item items i r (suc n) low =
    (λ p. let h = from_rows_of_item items i (suc r) n (one_row items i r) p in let e = one_row_same items i (suc r + h.0) r low h.2 in omega (arith, e), distinct_rows_of_item items i (suc r) n low)

module _ (f : Frame) (ok : IsFrame f) (i : ℕ) (low : i < f.items) where
  lives_one : (r : ℕ) → r < f.rows i → Lives f (2 ^ i) (one_row f.items i r)
  lives_one r below = record {
    long = length_one_row f.items i r;
    placed = λ k x e. elim (cases_eq k i) [
      | inl same ↦
          let row : Some r ≡ Some x = sym (at_one_row f.items i r low) ∙ ap (at (one_row f.items i r)) (sym same) ∙ e in
          let number : r ≡ x = cc in
          (subst (Has (2 ^ i)) (sym same) (bit_at-pow_same i), subst (λ y. x < f.rows y) (sym same) (omega (arith, below, number)))
      | inr other ↦ let clash : None ≡ Some x = sym (off_one_row f.items i r k other) ∙ e in cc
    ];
  }

  pub scan_from : (r : ℕ) → r < f.rows i → AllActive f (2 ^ i) (one_row f.items i r) → InRowSet f (2 ^ i) (one_row f.items i r)
  scan_from r below all = record {
    lives = lives_one r below;
    row = row_from f ok (2 ^ i) (one_row f.items i r) (record {
      items = λ k low_k here free none. let e = only_power i k here in let clash : Some r ≡ None = sym (at_one_row f.items i r low) ∙ ap (at (one_row f.items i r)) (sym e) ∙ none in cc;
      joins = λ s o. absurd (none_done f ok i (2 ^ i) (only_power i) s o.done);
      clauses = all;
    });
  }

  pub scan_to : (m : Map) → InRowSet f (2 ^ i) m → (r : ℕ) × (r < f.rows i) × (m ≡ one_row f.items i r) × AllActive f (2 ^ i) m
  scan_to m h = go (none_or_some (at m i)) (row_at f ok (2 ^ i) m h.row)
    where
      go : (at m i ≡ None) ⊎ ((r : ℕ) × (at m i ≡ Some r)) → IsRow f (2 ^ i) m → (r : ℕ) × (r < f.rows i) × (m ≡ one_row f.items i r) × AllActive f (2 ^ i) m
      go (inl e) row = absurd (row.items i low (bit_at-pow_same i) (λ u d. absurd (none_done f ok i (2 ^ i) (only_power i) u d)) e)
      go (inr k) row = (
        k.0,
        (h.lives.placed i k.0 k.1).1,
        map_same m (one_row f.items i k.0) (h.lives.long ∙ sym (length_one_row f.items i k.0)) (λ x. elim (cases_eq x i) [
          | inl e ↦ ap (at m) e ∙ k.1 ∙ sym (at_one_row f.items i k.0 low) ∙ ap (at (one_row f.items i k.0)) (sym e)
          | inr other ↦ outside f (2 ^ i) m x h.lives (λ p. other (only_power i x p)) ∙ sym (off_one_row f.items i k.0 x other)
        ]),
        row.clauses,
      )

  pub scan_lists : (test : Map → Bool) → IsEnoughAtScan f i test → Lists f (2 ^ i) (scan f i test)
  scan_lists test enough = record {
    to = λ m p.
        let h = from_filter test m (rows_of_item f.items i 0 (f.rows i)) p in
        let k = from_rows_of_item f.items i 0 (f.rows i) m h.1 in
        let e : one_row f.items i k.0 ≡ m = ap (one_row f.items i) (omega arith) ∙ k.2 in
        subst (InRowSet f (2 ^ i)) e (scan_from k.0 k.1 ((enough k.0 k.1).0 (ap test e ∙ h.0)));
    from = λ m h.
        let k = scan_to m h in
        let p : In m (rows_of_item f.items i 0 (f.rows i)) = subst (λ x. In x (rows_of_item f.items i 0 (f.rows i))) (ap (one_row f.items i) (omega arith) ∙ sym k.2) (in_rows_of_item f.items i 0 (f.rows i) k.0 k.1) in
        in_filter test m (rows_of_item f.items i 0 (f.rows i)) (ap test k.2 ∙ (enough k.0 k.1).1 (subst (AllActive f (2 ^ i)) k.2 k.3)) p;
    distinct = distinct_filter test (rows_of_item f.items i 0 (f.rows i)) (distinct_rows_of_item f.items i 0 (f.rows i) low);
  }

-- ---- parts of two maps together

module _ (f : Frame) (left right : ℕ) (apart : Apart left right) where
  pub part_first : (a b : Map) → Lives f left a → Lives f right b → part left (both a b) ≡ a
  part_first a b l r =
      part_agree f left (both a b) a (length_both a b (l.long ∙ sym r.long)) (λ i p. both_left a b i (outside f right b i r (apart i p))) ∙ part_whole f left a l

  pub part_second : (a b : Map) → Lives f left a → Lives f right b → part right (both a b) ≡ b
  part_second a b l r =
      part_agree f right (both a b) b (length_both a b (l.long ∙ sym r.long) ∙ l.long ∙ sym r.long) (λ i p. both_right a b i (outside f left a i l (λ q. apart i q p))) ∙ part_whole f right b r

  pub lives_union : (a b : Map) → Lives f left a → Lives f right b → Lives f (bit_or left right) (both a b)
  lives_union a b l r = lives_both f left right (bit_or left right) a b (in_left left right) (in_right left right) l r

  pub lives_alone : (a : Map) → Lives f left a → Lives f (bit_or left right) a
  lives_alone a l = lives_wider f left (bit_or left right) a (in_left left right) l

  pub none_alone : (a : Map) → Lives f left a → NoneOn right a
  none_alone a l i p = outside f left a i l (λ q. apart i q p)

  pub both_parts : (m : Map) → Lives f (bit_or left right) m → both (part left m) (part right m) ≡ m
  both_parts m l = map_same (both (part left m) (part right m)) m (length_both (part left m) (part right m) (length_part left m ∙ sym (length_part right m)) ∙ length_part left m)
      (λ i. elim (decide_has left i) [
        | inl p ↦ both_left (part left m) (part right m) i (part_off right m i (apart i p)) ∙ part_on left m i p
        | inr n ↦ both_right (part left m) (part right m) i (part_off left m i n) ∙ elim (decide_has right i) [
          | inl q ↦ part_on right m i q
          | inr k ↦ part_off right m i k ∙ sym (outside f (bit_or left right) m i l (λ h. elim ((has_or left right i).0 h) [ inl p ↦ n p | inr q ↦ k q ]))
        ]
      ])

  pub part_alone : (m : Map) → Lives f (bit_or left right) m → NoneOn right m → part left m ≡ m
  part_alone m l off = map_same (part left m) m (length_part left m) (λ i. elim (decide_has left i) [
    | inl p ↦ part_on left m i p
    | inr n ↦ part_off left m i n ∙ elim (decide_has right i) [
      | inl q ↦ sym (off i q)
      | inr k ↦ sym (outside f (bit_or left right) m i l (λ h. elim ((has_or left right i).0 h) [ inl p ↦ n p | inr q ↦ k q ]))
    ]
  ])

-- ---- the rows of one left map

in_left_rows : (a m : Map) (found : List Map) → In m found → In m (left_rows a found)
in_left_rows a m [] p = absurd p
in_left_rows a m (x ∷ found) p = p

alone_in_left_rows : (a : Map) (found : List Map) → ((x : Map) → In x found → ⊥) → In a (left_rows a found)
alone_in_left_rows a [] none = inl refl
alone_in_left_rows a (x ∷ found) none = absurd (none x (inl refl))

from_left_rows : (a m : Map) (found : List Map) → In m (left_rows a found) → In m found ⊎ ((a ≡ m) × ((x : Map) → In x found → ⊥))
from_left_rows a m [] (inl e) = inr (e, λ x p. p)
from_left_rows a m [] (inr p) = absurd p
from_left_rows a m (x ∷ found) p = inl p

distinct_left_rows : (a : Map) (found : List Map) → Distinct found → Distinct (left_rows a found)
distinct_left_rows a [] d = (λ p. p, tt)
distinct_left_rows a (x ∷ found) d = d

from_once : (b : Bool) (a m : Map) → In m (once_where b a) → (b ≡ true) × (a ≡ m)
from_once true a m (inl e) = (refl, e)
from_once true a m (inr p) = absurd p
from_once false a m p = absurd p

in_once : (b : Bool) (a : Map) → b ≡ true → In a (once_where b a)
in_once true a e = inl refl
in_once false a e = cc

distinct_once : (b : Bool) (a : Map) → Distinct (once_where b a)
distinct_once true a = (λ p. p, tt)
distinct_once false a = tt

from_matches : (test : Map → Bool) (right : List Map) (a m : Map) → In m (matches test right a) → (test m ≡ true) × ((b : Map) × In b right × (both a b ≡ m))
from_matches test right a m p = let h = from_filter test m (map (both a) right) p in (h.0, from_map (both a) m right h.1)

in_matches : (test : Map → Bool) (right : List Map) (a b : Map) → In b right → test (both a b) ≡ true → In (both a b) (matches test right a)
in_matches test right a b p e = in_filter test (both a b) (map (both a) right) e (in_map (both a) b right p)

module _ (f : Frame) (ok : IsFrame f) (left right : ℕ) (apart : Apart left right) (ls rs : List Map) (on_left : Lists f left ls) (on_right : Lists f right rs) where
  lives_a : (a : Map) → In a ls → Lives f left a
  lives_a a p = (on_left.to a p).lives

  lives_b : (b : Map) → In b rs → Lives f right b
  lives_b b p = (on_right.to b p).lives

  distinct_matches : (test : Map → Bool) (a : Map) → In a ls → Distinct (matches test rs a)
  distinct_matches test a p = distinct_filter test (map (both a) rs) (distinct_map (both a) rs on_right.distinct (λ x y q r e.
      sym (part_second f left right apart a x (lives_a a p) (lives_b x q)) ∙ ap (part right) e ∙ part_second f left right apart a y (lives_a a p) (lives_b y r)))

  matches_part : (test : Map → Bool) (a m : Map) → In a ls → In m (matches test rs a) → part left m ≡ a
  matches_part test a m p q = let h = (from_matches test rs a m q).1 in ap (part left) (sym h.2) ∙ part_first f left right apart a h.0 (lives_a a p) (lives_b h.0 h.1)

  -- a pair of members is a candidate of an inner step
  pub pair_lives : (a b m : Map) → In a ls → In b rs → both a b ≡ m → Lives f (bit_or left right) m
  pair_lives a b m p q e = subst (Lives f (bit_or left right)) e (lives_union f left right apart a b (lives_a a p) (lives_b b q))

  pub pair_left : (a b m : Map) → In a ls → In b rs → both a b ≡ m → InRowSet f left (part left m)
  pair_left a b m p q e = subst (InRowSet f left) (sym (part_first f left right apart a b (lives_a a p) (lives_b b q)) ∙ ap (part left) e) (on_left.to a p)

  pub pair_right : (a b m : Map) → In a ls → In b rs → both a b ≡ m → InRowSet f right (part right m)
  pair_right a b m p q e = subst (InRowSet f right) (sym (part_second f left right apart a b (lives_a a p) (lives_b b q)) ∙ ap (part right) e) (on_right.to b q)

  module _ (test : Map → Bool) (legal : IsInnerStep f left right) (enough : IsEnough f left right Inner test) where
    pub inner_lists : Lists f (bit_or left right) (plain f Inner test ls rs)
    inner_lists = record {
      to = λ m p.
          let h = from_flat_map (matches test rs) m ls p in
          let k = from_matches test rs h.0 m h.2 in
          let cand : IsCandidate f left right Inner m = record { lives = pair_lives h.0 k.1.0 m h.1 k.1.1 k.1.2; on_left = pair_left h.0 k.1.0 m h.1 k.1.1 k.1.2; joined = pair_right h.0 k.1.0 m h.1 k.1.1 k.1.2 } in
          step_from f ok left right Inner legal m cand ((enough m cand).0 k.0);
      from = λ m h.
          let k = step_to f ok left right Inner legal m h in
          let e = both_parts f left right apart m h.lives in
          in_flat_map (matches test rs) (part left m) m ls (on_left.from (part left m) k.0.on_left)
          (subst (λ x. In x (matches test rs (part left m))) e (in_matches test rs (part left m) (part right m) (on_right.from (part right m) k.0.joined) (ap test e ∙ (enough m k.0).1 k.1)));
      distinct = distinct_flat_map (matches test rs) ls on_left.distinct (distinct_matches test) (λ x y z p q r t. sym (matches_part test x z p r) ∙ matches_part test y z q t);
    }

  module _ (s : ℕ) where
    matched_where : (a : Map) → is_matched (f.on s) rs a ≡ true → HasPartner f right s a
    matched_where a e =
        let h = from_any (f.on s) (map (both a) rs) e in
        let k = from_map (both a) h.0 rs h.1 in
        (k.0, on_right.to k.0 k.1, ap (f.on s) k.2 ∙ h.2)

    where_matched : (a : Map) → HasPartner f right s a → is_matched (f.on s) rs a ≡ true
    where_matched a h = any_in (f.on s) (both a h.0) (map (both a) rs) (in_map (both a) h.0 rs (on_right.from h.0 h.1)) h.2

    unmatched_where : (a : Map) → is_matched (f.on s) rs a ≡ false → HasNoPartner f right s a
    unmatched_where a e b row = any_none (f.on s) (both a b) (map (both a) rs) e (in_map (both a) b rs (on_right.from b row))

    where_unmatched : (a : Map) → HasNoPartner f right s a → is_matched (f.on s) rs a ≡ false
    where_unmatched a h = none_any (f.on s) (map (both a) rs) (λ x p. let k = from_map (both a) x rs p in ap (f.on s) (sym k.2) ∙ h k.0 (on_right.to k.0 k.1))

    no_matches : (a : Map) → HasNoPartner f right s a → (x : Map) → In x (matches (f.on s) rs a) → ⊥
    no_matches a h x p = let k = from_matches (f.on s) rs a x p in both_ways (f.on s x) (ap (f.on s) (sym k.1.2) ∙ h k.1.0 (on_right.to k.1.0 k.1.1)) k.0

    none_left : (a : Map) → ((x : Map) → In x (matches (f.on s) rs a) → ⊥) → HasNoPartner f right s a
    none_left a none b row = false_from_ne_true (f.on s (both a b)) (λ e. none (both a b) (in_matches (f.on s) rs a b (on_right.from b row) e))

    part_of_alone : (a : Map) → In a ls → part left a ≡ a
    part_of_alone a p = part_whole f left a (lives_a a p)

    -- the rows of one left map are the candidates that it gives
    pub rows_part : (k : Kind) (a m : Map) → In a ls → In m (joined_rows k (f.on s) rs a) → part left m ≡ a
    rows_part Left a m p q = elim (from_left_rows a m (matches (f.on s) rs a) q) [ inl h ↦ matches_part (f.on s) a m p h | inr h ↦ ap (part left) (sym h.0) ∙ part_of_alone a p ]
    rows_part Semi a m p q = ap (part left) (sym (from_once (is_matched (f.on s) rs a) a m q).1) ∙ part_of_alone a p
    rows_part Anti a m p q = ap (part left) (sym (from_once (not (is_matched (f.on s) rs a)) a m q).1) ∙ part_of_alone a p

    alone_lives : (a m : Map) → In a ls → a ≡ m → Lives f (bit_or left right) m
    alone_lives a m p e = subst (Lives f (bit_or left right)) e (lives_alone f left right apart a (lives_a a p))

    alone_none : (a m : Map) → In a ls → a ≡ m → NoneOn right m
    alone_none a m p e = subst (NoneOn right) e (none_alone f left right apart a (lives_a a p))

    of_left : (a m : Map) → In a ls → a ≡ m → a ≡ part left m
    of_left a m p e = sym (ap (part left) (sym e) ∙ part_of_alone a p)

    pub rows_to : (k : Kind) (a m : Map) → In a ls → In m (joined_rows k (f.on s) rs a) → Lives f (bit_or left right) m × JoinedBy k f left right s m
    rows_to Left a m p q = elim (from_left_rows a m (matches (f.on s) rs a) q) [
      | inl h ↦ let k = from_matches (f.on s) rs a m h in (pair_lives a k.1.0 m p k.1.1 k.1.2, inl (pair_right a k.1.0 m p k.1.1 k.1.2, k.0))
      | inr h ↦ (alone_lives a m p h.0, inr (alone_none a m p h.0, subst (HasNoPartner f right s) (of_left a m p h.0) (none_left a h.1)))
    ]
    rows_to Semi a m p q = let h = from_once (is_matched (f.on s) rs a) a m q in (alone_lives a m p h.1, (alone_none a m p h.1, subst (HasPartner f right s) (of_left a m p h.1) (matched_where a h.0)))
    rows_to Anti a m p q =
        let h = from_once (not (is_matched (f.on s) rs a)) a m q in
        (alone_lives a m p h.1, (alone_none a m p h.1, subst (HasNoPartner f right s) (of_left a m p h.1) (unmatched_where a (not-true (is_matched (f.on s) rs a) h.0))))

    rows_from : (k : Kind) (m : Map) → Lives f (bit_or left right) m → JoinedBy k f left right s m → In m (joined_rows k (f.on s) rs (part left m))
    rows_from Left m l (inl h) =
        let e = both_parts f left right apart m l in
        in_left_rows (part left m) m (matches (f.on s) rs (part left m))
        (subst (λ x. In x (matches (f.on s) rs (part left m))) e (in_matches (f.on s) rs (part left m) (part right m) (on_right.from (part right m) h.0) (ap (f.on s) e ∙ h.1)))
    rows_from Left m l (inr h) =
        subst (λ x. In x (left_rows (part left m) (matches (f.on s) rs (part left m)))) (part_alone f left right apart m l h.0)
        (alone_in_left_rows (part left m) (matches (f.on s) rs (part left m)) (no_matches (part left m) h.1))
    rows_from Semi m l h =
        subst (λ x. In x (once_where (is_matched (f.on s) rs (part left m)) (part left m))) (part_alone f left right apart m l h.0) (in_once (is_matched (f.on s) rs (part left m)) (part left m) (where_matched (part left m) h.1))
    rows_from Anti m l h =
        subst (λ x. In x (once_where (not (is_matched (f.on s) rs (part left m))) (part left m))) (part_alone f left right apart m l h.0)
        (in_once (not (is_matched (f.on s) rs (part left m))) (part left m) (not_from_false (is_matched (f.on s) rs (part left m)) (where_unmatched (part left m) h.1)))

    distinct_joined : (k : Kind) (a : Map) → In a ls → Distinct (joined_rows k (f.on s) rs a)
    distinct_joined Left a p = distinct_left_rows a (matches (f.on s) rs a) (distinct_matches (f.on s) a p)
    distinct_joined Semi a p = distinct_once (is_matched (f.on s) rs a) a
    distinct_joined Anti a p = distinct_once (not (is_matched (f.on s) rs a)) a

    -- a list of the candidates, each once, tested by the step clauses
    filtered_lists : (test : Map → Bool) → IsStepBy f left right s → IsEnough f left right (By s) test → (raw : List Map) → Distinct raw → ((m : Map) → In m raw → IsCandidate f left right (By s) m) → ((m : Map) → IsCandidate f left right (By s) m → In m raw) → Lists f (bit_or left right) (filter test raw)
    filtered_lists test legal enough raw distinct to from = record {
      to = λ m p. let h = from_filter test m raw p in let cand = to m h.1 in step_from f ok left right (By s) legal m cand ((enough m cand).0 h.0);
      from = λ m h. let k = step_to f ok left right (By s) legal m h in in_filter test m raw ((enough m k.0).1 k.1) (from m k.0);
      distinct = distinct_filter test raw distinct;
    }

    pub by_lists : (test : Map → Bool) → IsStepBy f left right s → IsEnough f left right (By s) test → Lists f (bit_or left right) (plain f (By s) test ls rs)
    by_lists test legal enough = filtered_lists test legal enough (flat_map (joined_rows (f.kind s) (f.on s) rs) ls)
        (distinct_flat_map (joined_rows (f.kind s) (f.on s) rs) ls on_left.distinct (distinct_joined (f.kind s)) (λ x y z p q r t. sym (rows_part (f.kind s) x z p r) ∙ rows_part (f.kind s) y z q t))
        (λ m p.
        let h = from_flat_map (joined_rows (f.kind s) (f.on s) rs) m ls p in
        let k = rows_to (f.kind s) h.0 m h.1 h.2 in
        record { lives = k.0; on_left = subst (InRowSet f left) (sym (rows_part (f.kind s) h.0 m h.1 h.2)) (on_left.to h.0 h.1); joined = k.1 })
        (λ m cand. in_flat_map (joined_rows (f.kind s) (f.on s) rs) (part left m) m ls (on_left.from (part left m) cand.on_left) (rows_from (f.kind s) m cand.lives cand.joined))

-- ---- the methods

module _ (f : Frame) (ok : IsFrame f) (left right : ℕ) where
  step_apart : (step : Step) → IsLegal f left right step → Apart left right
  step_apart Inner legal = legal.step.apart
  step_apart (By s) legal = legal.step.apart

  pub plain_lists : (step : Step) (test : Map → Bool) (ls rs : List Map) → IsLegal f left right step → IsEnough f left right step test → Lists f left ls → Lists f right rs → Lists f (bit_or left right) (plain f step test ls rs)
  plain_lists Inner test ls rs legal enough l r = inner_lists f ok left right (step_apart Inner legal) ls rs l r test legal enough
  plain_lists (By s) test ls rs legal enough l r = by_lists f ok left right (step_apart (By s) legal) ls rs l r s test legal enough

  pub method_lists : (method : Method) (step : Step) (test : Map → Bool) (ls rs : List Map) → IsLegal f left right step → IsAllowed f method step → IsEnough f left right step test → Lists f left ls → Lists f right rs → Lists f (bit_or left right) (list_of f method step test ls rs)
  method_lists method step test ls rs legal allowed enough l r =
      permuted_lists f (bit_or left right) (plain f step test ls rs) (list_of f method step test ls rs) (method_permuted f test ls rs method step allowed) (plain_lists step test ls rs legal enough l r)

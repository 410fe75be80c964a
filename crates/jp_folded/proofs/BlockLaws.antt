-- Two blocks of parts, each of whose occurrences are some of those of a block before: so are those of both blocks, wherever
-- their parts stand.
use Rattle.std.proofs.Common.{◌≡◌, ◌∙◌, ap, sym, subst, refl, ℕ, suc, ◌+◌, ◌<◌, ◌⊎◌, inl, inr, Bool, true, false, ◌&&◌, List, [], ◌∷◌, ◌++◌, map, filter, length, Option, Some, None, nat_lt, append_assoc, arith}
use Rattle.std.proofs.lemmas.List.{append-nil}
use Rattle.std.proofs.lemmas.Bool.{ltb-true, lt-ltb}
use Rattle.jp_query.specs.Freshness.{Position, Larger, Occurrence, larger_below, position_below, below, from_parts}
use Rattle.jp_facts.proofs.Members.{In, in_append_left, in_append_right, from_append, in_map, from_map, in_filter, from_filter}
use Rattle.jp_laws.proofs.ValueLaws.{and_left, and_right}
use Rattle.jp_induction.proofs.EachPart.{append_map}
use Rattle.jp_folded.proofs.Lists.{both}
use Rattle.jp_folded.proofs.IntoLaws.{Into, into_append, into_crossed, into_map, into_weaker}
use Rattle.jp_folded.proofs.PositionLaws.{Renamed, IsOneToOne, AroundMoved, PlaceMoved, Moved, Embeds}

-- ---- positions in a block

-- a position in one of the first n parts
abbrev is_in : ℕ → Position → Bool
is_in n [] = false
is_in n (k ∷ p) = nat_lt k n

abbrev are_in : ℕ → ℕ → Renamed → Bool
are_in n m pair = is_in n pair.0 && is_in m pair.1

abbrev shifted : ℕ → Position → Position
shifted a [] = []
shifted a (k ∷ p) = (k + a) ∷ p

abbrev larger_shifted : ℕ → Larger → Larger
larger_shifted a l = record { number = l.number; position = shifted a l.position }

abbrev place_shifted : ℕ → Option Position → Option Position
place_shifted a None = None
place_shifted a (Some p) = Some (shifted a p)

abbrev occurrence_shifted : ℕ → Occurrence → Occurrence
occurrence_shifted a s = record { number = s.number; around = map (larger_shifted a) s.around; listed_in = place_shifted a s.listed_in }

around_shifted : (a i : ℕ) (ls : List Larger) → map (larger_shifted a) (map (larger_below i) ls) ≡ map (larger_below (i + a)) ls
around_shifted a i [] = refl
around_shifted a i (l ∷ ls) = ap (λ ms. larger_below (i + a) l ∷ ms) (around_shifted a i ls)

place_is_shifted : (a i : ℕ) (p : Option Position) → place_shifted a (position_below i p) ≡ position_below (i + a) p
place_is_shifted a i None = refl
place_is_shifted a i (Some p) = refl

below_shifted : (a i : ℕ) (s : Occurrence) → occurrence_shifted a (below i s) ≡ below (i + a) s
below_shifted a i s = λ k. record { number = s.number; around = around_shifted a i s.around k; listed_in = place_is_shifted a i s.listed_in k }

all_shifted : (a i : ℕ) (xs : List Occurrence) → map (occurrence_shifted a) (map (below i) xs) ≡ map (below (i + a)) xs
all_shifted a i [] = refl
all_shifted a i (x ∷ xs) = λ k. below_shifted a i x k ∷ all_shifted a i xs k

parts_shifted : (a i : ℕ) (parts : List (List Occurrence)) → map (occurrence_shifted a) (from_parts i parts) ≡ from_parts (i + a) parts
parts_shifted a i [] = refl
parts_shifted a i (part ∷ more) =
    append_map (occurrence_shifted a) (map (below i) part) (from_parts (i + 1) more)
    ∙ (λ k. all_shifted a i part k ++ parts_shifted a (i + 1) more k)
    ∙ ap (λ n. map (below (i + a)) part ++ from_parts n more) (let e : i + 1 + a ≡ i + a + 1 = omega arith in e)

from_first : (a : ℕ) (parts : List (List Occurrence)) → map (occurrence_shifted a) (from_parts 0 parts) ≡ from_parts a parts
from_first a parts = parts_shifted a 0 parts ∙ ap (λ n. from_parts n parts) (let e : 0 + a ≡ a = omega arith in e)

pub parts_append : (i : ℕ) (xs ys : List (List Occurrence)) → from_parts i (xs ++ ys) ≡ from_parts i xs ++ from_parts (i + length xs) ys
parts_append i [] ys = ap (λ n. from_parts n ys) (let e : i ≡ i + 0 = omega arith in e)
parts_append i (x ∷ xs) ys = ap (λ os. map (below i) x ++ os) (parts_append (i + 1) xs ys ∙ ap (λ n. from_parts (i + 1) xs ++ from_parts n ys) (let e : i + 1 + length xs ≡ i + suc (length xs) = omega arith in e))
    ∙ sym (append_assoc (map (below i) x) (from_parts (i + 1) xs) (from_parts (i + suc (length xs)) ys))

-- an occurrence in parts from the i-th on stands below one of them
at_part : (i : ℕ) (parts : List (List Occurrence)) (s : Occurrence) → In s (from_parts i parts) → (k : ℕ) × (t : Occurrence) × (below k t ≡ s) × (k < i + length parts)
at_part i [] s p = absurd p
at_part i (part ∷ more) s p = elim (from_append s (map (below i) part) (from_parts (i + 1) more) p) [
  | inl q ↦ let r = from_map (below i) s part q in (i, r.0, r.2, omega arith)
  | inr q ↦ let r = at_part (i + 1) more s q in (r.0, r.1, r.2, omega (arith, r.3))
]

-- ---- the renamings of a block alone

module _ (n m : ℕ) (pairs : List Renamed) where
  abbrev kept_pairs : List Renamed
  kept_pairs = filter (are_in n m) pairs

  stays : (p' p : Position) → In (p', p) pairs → is_in n p' ≡ true → is_in m p ≡ true → In (p', p) kept_pairs
  stays p' p h k l = in_filter (are_in n m) (p', p) pairs (both (is_in n p') (is_in m p) k l) h

  around_kept : (k i : ℕ) → k < n → i < m → (ls' ls : List Larger) → AroundMoved pairs (map (larger_below k) ls') (map (larger_below i) ls) → AroundMoved kept_pairs (map (larger_below k) ls') (map (larger_below i) ls)
  around_kept k i lk li [] [] h = tt
  around_kept k i lk li [] (l ∷ ls) h = absurd h
  around_kept k i lk li (l' ∷ ls') [] h = absurd h
  around_kept k i lk li (l' ∷ ls') (l ∷ ls) h = (h.0, stays (k ∷ l'.position) (i ∷ l.position) h.1 (lt-ltb k n lk) (lt-ltb i m li), around_kept k i lk li ls' ls h.2)

  place_kept : (k i : ℕ) → k < n → i < m → (p' p : Option Position) → PlaceMoved pairs (position_below k p') (position_below i p) → PlaceMoved kept_pairs (position_below k p') (position_below i p)
  place_kept k i lk li None None h = tt
  place_kept k i lk li None (Some p) h = absurd h
  place_kept k i lk li (Some p') None h = absurd h
  place_kept k i lk li (Some p') (Some p) h = stays (k ∷ p') (i ∷ p) h (lt-ltb k n lk) (lt-ltb i m li)

  moved_kept : (g h : List (List Occurrence)) → length g ≡ n → length h ≡ m → (s' s : Occurrence) → In s' (from_parts 0 g) → In s (from_parts 0 h) → Moved pairs s' s → Moved kept_pairs s' s
  moved_kept g h ln lm s' s p q moved =
      let (k, t', is', lk) = at_part 0 g s' p in
      let (i, t, is, li) = at_part 0 h s q in
      let here : Moved pairs (below k t') (below i t) = subst (λ x. Moved pairs x (below i t)) (sym is') (subst (Moved pairs s') (sym is) moved) in
      let now : Moved kept_pairs (below k t') (below i t) = record { number = here.number; around = around_kept k i (omega (arith, lk, ln)) (omega (arith, li, lm)) t'.around t.around here.around; place = place_kept k i (omega (arith, lk, ln)) (omega (arith, li, lm)) t'.listed_in t.listed_in here.place } in
      subst (λ x. Moved kept_pairs x s) is' (subst (Moved kept_pairs (below k t')) is now)

-- ---- and shifted

abbrev pair_shifted : ℕ → ℕ → Renamed → Renamed
pair_shifted a b pair = (shifted a pair.0, shifted b pair.1)

module _ (a b : ℕ) (pairs : List Renamed) where
  around_moves : (ls' ls : List Larger) → AroundMoved pairs ls' ls → AroundMoved (map (pair_shifted a b) pairs) (map (larger_shifted a) ls') (map (larger_shifted b) ls)
  around_moves [] [] h = tt
  around_moves [] (l ∷ ls) h = absurd h
  around_moves (l' ∷ ls') [] h = absurd h
  around_moves (l' ∷ ls') (l ∷ ls) h = (h.0, in_map (pair_shifted a b) (l'.position, l.position) pairs h.1, around_moves ls' ls h.2)

  place_moves : (p' p : Option Position) → PlaceMoved pairs p' p → PlaceMoved (map (pair_shifted a b) pairs) (place_shifted a p') (place_shifted b p)
  place_moves None None h = tt
  place_moves None (Some p) h = absurd h
  place_moves (Some p') None h = absurd h
  place_moves (Some p') (Some p) h = in_map (pair_shifted a b) (p', p) pairs h

  moves : (s' s : Occurrence) → Moved pairs s' s → Moved (map (pair_shifted a b) pairs) (occurrence_shifted a s') (occurrence_shifted b s)
  moves s' s h = record { number = h.number; around = around_moves s'.around s.around h.around; place = place_moves s'.listed_in s.listed_in h.place }

-- ---- more renamings

module _ (pairs more : List Renamed) (sub : (x : Renamed) → In x pairs → In x more) where
  around_more : (ls' ls : List Larger) → AroundMoved pairs ls' ls → AroundMoved more ls' ls
  around_more [] [] h = tt
  around_more [] (l ∷ ls) h = absurd h
  around_more (l' ∷ ls') [] h = absurd h
  around_more (l' ∷ ls') (l ∷ ls) h = (h.0, sub (l'.position, l.position) h.1, around_more ls' ls h.2)

  place_more : (p' p : Option Position) → PlaceMoved pairs p' p → PlaceMoved more p' p
  place_more None None h = tt
  place_more None (Some p) h = absurd h
  place_more (Some p') None h = absurd h
  place_more (Some p') (Some p) h = sub (p', p) h

  pub moved_more : (s' s : Occurrence) → Moved pairs s' s → Moved more s' s
  moved_more s' s h = record { number = h.number; around = around_more s'.around s.around h.around; place = place_more s'.listed_in s.listed_in h.place }

-- ---- a block at its place

abbrev head_of : Position → ℕ
head_of [] = 0
head_of (k ∷ p) = k

abbrev tail_of : Position → Position
tail_of [] = []
tail_of (k ∷ p) = p

shift_apart : (a : ℕ) (p q : Position) (n m : ℕ) → is_in n p ≡ true → is_in m q ≡ true → shifted a p ≡ shifted a q → p ≡ q
shift_apart a [] q n m h k e = cc
shift_apart a (i ∷ p) [] n m h k e = cc
shift_apart a (i ∷ p) (j ∷ q) n m h k e =
    let heads : i + a ≡ j + a = ap head_of e in
    let same : i ≡ j = omega (arith, heads) in
    λ x. same x ∷ ap tail_of e x

module _ (g h : List (List Occurrence)) (block : Embeds (from_parts 0 g) (from_parts 0 h)) (a b : ℕ) where
  abbrev pairs_at : List Renamed
  pairs_at = map (pair_shifted a b) (kept_pairs (length g) (length h) block.pairs)

  record At (x : Renamed) : Type 0 where
    new : Position
    old : Position
    there : In (new, old) block.pairs
    in_new : is_in (length g) new ≡ true
    in_old : is_in (length h) old ≡ true
    is_new : x.0 ≡ shifted a new
    is_old : x.1 ≡ shifted b old

  comes_from : (x : Renamed) → In x pairs_at → At x
  comes_from x p =
      let (y, q, e) = from_map (pair_shifted a b) x (kept_pairs (length g) (length h) block.pairs) p in
      let r = from_filter (are_in (length g) (length h)) y block.pairs q in
      record {
        new = y.0;
        old = y.1;
        there = r.1;
        in_new = and_left (is_in (length g) y.0) (is_in (length h) y.1) r.0;
        in_old = and_right (is_in (length g) y.0) (is_in (length h) y.1) r.0;
        is_new = sym (ap (λ (z : Renamed). z.0) e);
        is_old = sym (ap (λ (z : Renamed). z.1) e);
      }

  one_at : IsOneToOne pairs_at
  one_at x y p q =
      let u = comes_from x p in
      let v = comes_from y q in
      let one = block.one (u.new, u.old) (v.new, v.old) u.there v.there in (
        λ e. u.is_old ∙ ap (shifted b) (one.0 (shift_apart a u.new v.new (length g) (length g) u.in_new v.in_new (sym u.is_new ∙ e ∙ v.is_new))) ∙ sym v.is_old,
        λ e. u.is_new ∙ ap (shifted a) (one.1 (shift_apart b u.old v.old (length h) (length h) u.in_old v.in_old (sym u.is_old ∙ e ∙ v.is_old))) ∙ sym v.is_new,
      )

  into_at : Into (Moved pairs_at) (from_parts a g) (from_parts b h)
  into_at =
      let kept = into_weaker (Moved block.pairs) (Moved (kept_pairs (length g) (length h) block.pairs)) (from_parts 0 g) (from_parts 0 h) (λ s' s p q m. moved_kept (length g) (length h) block.pairs g h refl refl s' s p q m) block.into in
      let moved = into_map (Moved (kept_pairs (length g) (length h) block.pairs)) (Moved pairs_at) (occurrence_shifted a) (occurrence_shifted b) (moves a b (kept_pairs (length g) (length h) block.pairs)) (from_parts 0 g) (from_parts 0 h) kept in
      subst (λ x. Into (Moved pairs_at) x (from_parts b h)) (from_first a g) (subst (Into (Moved pairs_at) (map (occurrence_shifted a) (from_parts 0 g))) (from_first b h) moved)

-- ---- two blocks at their places

part_of : (n a : ℕ) (p : Position) → is_in n p ≡ true → (k : ℕ) × (k < n) × (q : Position) × (shifted a p ≡ (k + a) ∷ q)
part_of n a [] h = cc
part_of n a (k ∷ p) h = (k, ltb-true k n h, p, refl)

some_place : (n a : ℕ) (p : Position) → is_in n p ≡ true → shifted a p ≡ [] → ⊥
some_place n a [] h e = cc
some_place n a (k ∷ p) h e = cc

pub record Placed (new1 old1 new2 old2 : List Occurrence) : Type 0 where
  pub pairs : List Renamed
  pub one : IsOneToOne pairs
  pub first : Into (Moved pairs) new1 old1
  pub second : Into (Moved pairs) new2 old2
  -- no renaming is one of the empty position
  pub new_some : (x : Renamed) → In x pairs → x.0 ≡ [] → ⊥
  pub old_some : (x : Renamed) → In x pairs → x.1 ≡ [] → ⊥

module _ (g1 h1 g2 h2 : List (List Occurrence)) (block1 : Embeds (from_parts 0 g1) (from_parts 0 h1)) (block2 : Embeds (from_parts 0 g2) (from_parts 0 h2)) (a1 b1 a2 b2 : ℕ)
    (new_apart : (i j : ℕ) → i < length g1 → j < length g2 → i + a1 ≡ j + a2 → ⊥) (old_apart : (i j : ℕ) → i < length h1 → j < length h2 → i + b1 ≡ j + b2 → ⊥) where
  abbrev P1 : List Renamed
  P1 = pairs_at g1 h1 block1 a1 b1

  abbrev P2 : List Renamed
  P2 = pairs_at g2 h2 block2 a2 b2

  other_new : (x y : Renamed) → In x P1 → In y P2 → x.0 ≡ y.0 → ⊥
  other_new x y p q e =
      let u = comes_from g1 h1 block1 a1 b1 x p in
      let v = comes_from g2 h2 block2 a2 b2 y q in
      let (i, li, r, is) = part_of (length g1) a1 u.new u.in_new in
      let (j, lj, t, js) = part_of (length g2) a2 v.new v.in_new in
      new_apart i j li lj (ap head_of (sym is ∙ sym u.is_new ∙ e ∙ v.is_new ∙ js))

  other_old : (x y : Renamed) → In x P1 → In y P2 → x.1 ≡ y.1 → ⊥
  other_old x y p q e =
      let u = comes_from g1 h1 block1 a1 b1 x p in
      let v = comes_from g2 h2 block2 a2 b2 y q in
      let (i, li, r, is) = part_of (length h1) b1 u.old u.in_old in
      let (j, lj, t, js) = part_of (length h2) b2 v.old v.in_old in
      old_apart i j li lj (ap head_of (sym is ∙ sym u.is_old ∙ e ∙ v.is_old ∙ js))

  both_one : IsOneToOne (P1 ++ P2)
  both_one x y p q = at (from_append x P1 P2 p) (from_append y P1 P2 q)
    where
      at : In x P1 ⊎ In x P2 → In y P1 ⊎ In y P2 → (x.0 ≡ y.0 → x.1 ≡ y.1) × (x.1 ≡ y.1 → x.0 ≡ y.0)
      at (inl p) (inl q) = one_at g1 h1 block1 a1 b1 x y p q
      at (inr p) (inr q) = one_at g2 h2 block2 a2 b2 x y p q
      at (inl p) (inr q) = (λ e. absurd (other_new x y p q e), λ e. absurd (other_old x y p q e))
      at (inr p) (inl q) = (λ e. absurd (other_new y x q p (sym e)), λ e. absurd (other_old y x q p (sym e)))

  pub placed : Placed (from_parts a1 g1) (from_parts b1 h1) (from_parts a2 g2) (from_parts b2 h2)
  placed = record {
    pairs = P1 ++ P2;
    one = both_one;
    first = into_weaker (Moved P1) (Moved (P1 ++ P2)) (from_parts a1 g1) (from_parts b1 h1) (λ s' s p q m. moved_more P1 (P1 ++ P2) (λ x r. in_append_left x P1 P2 r) s' s m) (into_at g1 h1 block1 a1 b1);
    second = into_weaker (Moved P2) (Moved (P1 ++ P2)) (from_parts a2 g2) (from_parts b2 h2) (λ s' s p q m. moved_more P2 (P1 ++ P2) (λ x r. in_append_right x P1 P2 r) s' s m) (into_at g2 h2 block2 a2 b2);
    new_some = λ x p e. elim (from_append x P1 P2 p) [
      | inl q ↦ let u = comes_from g1 h1 block1 a1 b1 x q in some_place (length g1) a1 u.new u.in_new (sym u.is_new ∙ e)
      | inr q ↦ let u = comes_from g2 h2 block2 a2 b2 x q in some_place (length g2) a2 u.new u.in_new (sym u.is_new ∙ e)
    ];
    old_some = λ x p e. elim (from_append x P1 P2 p) [
      | inl q ↦ let u = comes_from g1 h1 block1 a1 b1 x q in some_place (length h1) b1 u.old u.in_old (sym u.is_old ∙ e)
      | inr q ↦ let u = comes_from g2 h2 block2 a2 b2 x q in some_place (length h2) b2 u.old u.in_old (sym u.is_old ∙ e)
    ];
  }

-- ---- both blocks together

after : (xs ys : List (List Occurrence)) → from_parts 0 (xs ++ ys) ≡ from_parts 0 xs ++ from_parts (length xs) ys
after xs ys = parts_append 0 xs ys ∙ ap (λ n. from_parts 0 xs ++ from_parts n ys) (let e : 0 + length xs ≡ length xs = omega arith in e)

pub none : (old : List Occurrence) → Embeds [] old
none old = record { pairs = []; one = λ a b p q. absurd p; into = tt }

module _ (g1 h1 g2 h2 : List (List Occurrence)) (block1 : Embeds (from_parts 0 g1) (from_parts 0 h1)) (block2 : Embeds (from_parts 0 g2) (from_parts 0 h2)) where
  pub together : Embeds (from_parts 0 (g1 ++ g2)) (from_parts 0 (h1 ++ h2))
  together =
      let p = placed g1 h1 g2 h2 block1 block2 0 0 (length g1) (length h1) (λ i j l m e. let e' : i + 0 ≡ j + length g1 = e in absurd (omega (arith, e', l))) (λ i j l m e. let e' : i + 0 ≡ j + length h1 = e in absurd (omega (arith, e', l))) in
      let all = into_append (Moved p.pairs) (from_parts 0 g1) (from_parts (length g1) g2) (from_parts 0 h1) (from_parts (length h1) h2) p.first p.second in
      record {
        pairs = p.pairs;
        one = p.one;
        into = subst (λ x. Into (Moved p.pairs) x (from_parts 0 (h1 ++ h2))) (sym (after g1 g2)) (subst (Into (Moved p.pairs) (from_parts 0 g1 ++ from_parts (length g1) g2)) (sym (after h1 h2)) all);
      }

  -- the other way round
  pub crossed : Embeds (from_parts 0 (g2 ++ g1)) (from_parts 0 (h1 ++ h2))
  crossed =
      let p = placed g1 h1 g2 h2 block1 block2 (length g2) 0 0 (length h1) (λ i j l m e. let e' : i + length g2 ≡ j + 0 = e in absurd (omega (arith, e', m))) (λ i j l m e. let e' : i + 0 ≡ j + length h1 = e in absurd (omega (arith, e', l))) in
      let all = into_crossed (Moved p.pairs) (from_parts 0 g2) (from_parts (length g2) g1) (from_parts 0 h1) (from_parts (length h1) h2) p.second p.first in
      record {
        pairs = p.pairs;
        one = p.one;
        into = subst (λ x. Into (Moved p.pairs) x (from_parts 0 (h1 ++ h2))) (sym (after g2 g1)) (subst (Into (Moved p.pairs) (from_parts 0 g2 ++ from_parts (length g2) g1)) (sym (after h1 h2)) all);
      }

-- ---- one part alone

module _ (pairs : List Renamed) where
  abbrev in_part : List Renamed
  in_part = map (λ (x : Renamed). (0 ∷ x.0, x.1)) pairs

  around_part : (ls' ls : List Larger) → AroundMoved pairs ls' ls → AroundMoved in_part (map (larger_below 0) ls') ls
  around_part [] [] h = tt
  around_part [] (l ∷ ls) h = absurd h
  around_part (l' ∷ ls') [] h = absurd h
  around_part (l' ∷ ls') (l ∷ ls) h = (h.0, in_map (λ (x : Renamed). (0 ∷ x.0, x.1)) (l'.position, l.position) pairs h.1, around_part ls' ls h.2)

  place_part : (p' p : Option Position) → PlaceMoved pairs p' p → PlaceMoved in_part (position_below 0 p') p
  place_part None None h = tt
  place_part None (Some p) h = absurd h
  place_part (Some p') None h = absurd h
  place_part (Some p') (Some p) h = in_map (λ (x : Renamed). (0 ∷ x.0, x.1)) (p', p) pairs h

  part_moves : (s' s : Occurrence) → Moved pairs s' s → Moved in_part (below 0 s') s
  part_moves s' s h = record { number = h.number; around = around_part s'.around s.around h.around; place = place_part s'.listed_in s.listed_in h.place }

  abbrev out_of_part : List Renamed
  out_of_part = map (λ (x : Renamed). (tail_of x.0, x.1)) (filter (λ (x : Renamed). is_in 1 x.0) pairs)

  stays_out : (p' p : Position) → In (0 ∷ p', p) pairs → In (p', p) out_of_part
  stays_out p' p h = in_map (λ (x : Renamed). (tail_of x.0, x.1)) (0 ∷ p', p) (filter (λ (x : Renamed). is_in 1 x.0) pairs) (in_filter (λ (x : Renamed). is_in 1 x.0) (0 ∷ p', p) pairs refl h)

  around_out : (ls' ls : List Larger) → AroundMoved pairs (map (larger_below 0) ls') ls → AroundMoved out_of_part ls' ls
  around_out [] [] h = tt
  around_out [] (l ∷ ls) h = absurd h
  around_out (l' ∷ ls') [] h = absurd h
  around_out (l' ∷ ls') (l ∷ ls) h = (h.0, stays_out l'.position l.position h.1, around_out ls' ls h.2)

  place_out : (p' p : Option Position) → PlaceMoved pairs (position_below 0 p') p → PlaceMoved out_of_part p' p
  place_out None None h = tt
  place_out None (Some p) h = absurd h
  place_out (Some p') None h = absurd h
  place_out (Some p') (Some p) h = stays_out p' p h

  out_moves : (s' s : Occurrence) → Moved pairs (below 0 s') s → Moved out_of_part s' s
  out_moves s' s h = record { number = h.number; around = around_out s'.around s.around h.around; place = place_out s'.listed_in s.listed_in h.place }

  first_is : (p : Position) → is_in 1 p ≡ true → p ≡ 0 ∷ tail_of p
  first_is [] h = cc
  first_is (k ∷ p) h = let low : k < 1 = ltb-true k 1 h in let zero_ : k ≡ 0 = omega (arith, low) in λ i. zero_ i ∷ p

  out_one : IsOneToOne pairs → IsOneToOne out_of_part
  out_one one x y p q =
      let (u, pu, eu) = from_map (λ (x : Renamed). (tail_of x.0, x.1)) x (filter (λ (x : Renamed). is_in 1 x.0) pairs) p in
      let (v, pv, ev) = from_map (λ (x : Renamed). (tail_of x.0, x.1)) y (filter (λ (x : Renamed). is_in 1 x.0) pairs) q in
      let fu = from_filter (λ (x : Renamed). is_in 1 x.0) u pairs pu in
      let fv = from_filter (λ (x : Renamed). is_in 1 x.0) v pairs pv in
      let both_ways = one u v fu.1 fv.1 in (
        λ e. sym (ap (λ (z : Renamed). z.1) eu) ∙ both_ways.0 (first_is u.0 fu.0 ∙ ap (λ r. 0 ∷ r) (ap (λ (z : Renamed). z.0) eu ∙ e ∙ sym (ap (λ (z : Renamed). z.0) ev)) ∙ sym (first_is v.0 fv.0)) ∙ ap (λ (z : Renamed). z.1) ev,
        λ e. sym (ap (λ (z : Renamed). z.0) eu) ∙ ap tail_of (both_ways.1 (ap (λ (z : Renamed). z.1) eu ∙ e ∙ sym (ap (λ (z : Renamed). z.1) ev))) ∙ ap (λ (z : Renamed). z.0) ev,
      )

  part_one : IsOneToOne pairs → IsOneToOne in_part
  part_one one x y p q =
      let (u, pu, eu) = from_map (λ (x : Renamed). (0 ∷ x.0, x.1)) x pairs p in
      let (v, pv, ev) = from_map (λ (x : Renamed). (0 ∷ x.0, x.1)) y pairs q in
      let both_ways = one u v pu pv in (
        λ e. sym (ap (λ (z : Renamed). z.1) eu) ∙ both_ways.0 (ap tail_of (ap (λ (z : Renamed). z.0) eu ∙ e ∙ sym (ap (λ (z : Renamed). z.0) ev))) ∙ ap (λ (z : Renamed). z.1) ev,
        λ e. sym (ap (λ (z : Renamed). z.0) eu) ∙ ap (λ r. 0 ∷ r) (both_ways.1 (ap (λ (z : Renamed). z.1) eu ∙ e ∙ sym (ap (λ (z : Renamed). z.1) ev))) ∙ ap (λ (z : Renamed). z.0) ev,
      )

unmapped : {X Y Z : Type 0} (R : X → Y → Type 0) (S : Z → Y → Type 0) (f : Z → X) → ((z : Z) (y : Y) → R (f z) y → S z y) → (zs : List Z) (ys : List Y) → Into R (map f zs) ys → Into S zs ys
unmapped R S f kept [] ys h = tt
unmapped R S f kept (z ∷ zs) ys h = (h.0, h.1, h.2, h.3, kept z h.1 h.4, unmapped R S f kept zs (h.0 ++ h.2) h.5)

mapped : {X Y Z : Type 0} (R : X → Y → Type 0) (S : Z → Y → Type 0) (f : X → Z) → ((x : X) (y : Y) → R x y → S (f x) y) → (xs : List X) (ys : List Y) → Into R xs ys → Into S (map f xs) ys
mapped R S f kept [] ys h = tt
mapped R S f kept (x ∷ xs) ys h = (h.0, h.1, h.2, h.3, kept x h.1 h.4, mapped R S f kept xs (h.0 ++ h.2) h.5)

-- what is some of a list stays so as the only part, and what is so as the only part is so by itself
pub as_part : (new old : List Occurrence) → Embeds new old → Embeds (from_parts 0 (new ∷ [])) old
as_part new old h = record {
  pairs = in_part h.pairs;
  one = part_one h.pairs h.one;
  into = subst (λ x. Into (Moved (in_part h.pairs)) x old) (sym (append-nil (map (below 0) new))) (mapped (Moved h.pairs) (Moved (in_part h.pairs)) (below 0) (part_moves h.pairs) new old h.into);
}

pub from_part : (new old : List Occurrence) → Embeds (from_parts 0 (new ∷ [])) old → Embeds new old
from_part new old h = record {
  pairs = out_of_part h.pairs;
  one = out_one h.pairs h.one;
  into = unmapped (Moved h.pairs) (Moved (out_of_part h.pairs)) (below 0) (out_moves h.pairs) new old (subst (λ x. Into (Moved h.pairs) x old) (append-nil (map (below 0) new)) h.into);
}

-- what is some of a list is some of it as the only part
module _ (pairs : List Renamed) where
  abbrev under_part : List Renamed
  under_part = map (λ (x : Renamed). (x.0, 0 ∷ x.1)) pairs

  around_under : (ls' ls : List Larger) → AroundMoved pairs ls' ls → AroundMoved under_part ls' (map (larger_below 0) ls)
  around_under [] [] h = tt
  around_under [] (l ∷ ls) h = absurd h
  around_under (l' ∷ ls') [] h = absurd h
  around_under (l' ∷ ls') (l ∷ ls) h = (h.0, in_map (λ (x : Renamed). (x.0, 0 ∷ x.1)) (l'.position, l.position) pairs h.1, around_under ls' ls h.2)

  place_under : (p' p : Option Position) → PlaceMoved pairs p' p → PlaceMoved under_part p' (position_below 0 p)
  place_under None None h = tt
  place_under None (Some p) h = absurd h
  place_under (Some p') None h = absurd h
  place_under (Some p') (Some p) h = in_map (λ (x : Renamed). (x.0, 0 ∷ x.1)) (p', p) pairs h

  under_one : IsOneToOne pairs → IsOneToOne under_part
  under_one one x y p q =
      let (u, pu, eu) = from_map (λ (x : Renamed). (x.0, 0 ∷ x.1)) x pairs p in
      let (v, pv, ev) = from_map (λ (x : Renamed). (x.0, 0 ∷ x.1)) y pairs q in
      let both_ways = one u v pu pv in (
        λ e. sym (ap (λ (z : Renamed). z.1) eu) ∙ ap (λ r. 0 ∷ r) (both_ways.0 (ap (λ (z : Renamed). z.0) eu ∙ e ∙ sym (ap (λ (z : Renamed). z.0) ev))) ∙ ap (λ (z : Renamed). z.1) ev,
        λ e. sym (ap (λ (z : Renamed). z.0) eu) ∙ both_ways.1 (ap tail_of (ap (λ (z : Renamed). z.1) eu ∙ e ∙ sym (ap (λ (z : Renamed). z.1) ev))) ∙ ap (λ (z : Renamed). z.0) ev,
      )

same_map : {X : Type 0} (xs : List X) → map (λ (x : X). x) xs ≡ xs
same_map [] = refl
same_map (x ∷ xs) = ap (λ ys. x ∷ ys) (same_map xs)

pub under : (new old : List Occurrence) → Embeds new old → Embeds new (from_parts 0 (old ∷ []))
under new old h = record {
  pairs = under_part h.pairs;
  one = under_one h.pairs h.one;
  into = subst (Into (Moved (under_part h.pairs)) new) (sym (append-nil (map (below 0) old)))
      (subst (λ x. Into (Moved (under_part h.pairs)) x (map (below 0) old)) (same_map new)
      (into_map (Moved h.pairs) (Moved (under_part h.pairs)) (λ x. x) (below 0) (λ s' s m. record { number = m.number; around = around_under h.pairs s'.around s.around m.around; place = place_under h.pairs s'.listed_in s.listed_in m.place }) new old h.into));
}

pub alone : (new old : List Occurrence) → Embeds new old → Embeds (from_parts 0 (new ∷ [])) (from_parts 0 (old ∷ []))
alone new old h = as_part new (from_parts 0 (old ∷ [])) (under new old h)

-- How the special joins of a tree stand to each other: what is said of their sides, numbers and regions alone.
use Rattle.std.proofs.Common.{◌≡◌, sym, subst, refl, ℕ, suc, ◌<◌, ◌≤◌, ◌⊎◌, inl, inr, List, [], ◌∷◌, ◌++◌, arith}
use Rattle.std.specs.Prelude.{bit_or}
use Rattle.std.proofs.lemmas.Bool.{cases_eq}
use Rattle.jp_base.specs.Sets.{Has, Within}
use Rattle.jp_base.proofs.MaskAlgebra.{in_left, in_right}
use Rattle.jp_facts.proofs.Members.{In, from_append, in_append_left, in_append_right}
use Rattle.jp_problem.specs.Legal.{Apart}
use Rattle.jp_conditions.proofs.Spans.{apart_within, apart_turned, through}

pub record Sides : Type 0 where
  pub no : ℕ
  pub left : ℕ
  pub right : ℕ
  pub region : ℕ

-- the items of both sides
abbrev pub whole : Sides → ℕ
whole s = bit_or s.left s.right

pub data Related (s t : Sides) : Type 0 where
  in_its_left : Within (whole s) t.left → s.no < t.no → Related s t
  in_its_right : Within (whole s) t.right → s.no < t.no → Related s t
  has_left : Within (whole t) s.left → t.no < s.no → Related s t
  has_right : Within (whole t) s.right → t.no < s.no → Related s t
  apart : Apart (whole s) (whole t) → Related s t

-- both sides have items, and those to the left stand before those to the right, of which one is the first
pub record IsJoin (s : Sides) : Type 0 where
  pub left_some : (i : ℕ) × Has s.left i
  pub right_first : (j : ℕ) × Has s.right j × ((k : ℕ) → Has s.right k → j ≤ k)
  pub in_order : (i j : ℕ) → Has s.left i → Has s.right j → i < j

-- s stands in the right side of a join of this number
abbrev pub Encloses : List Sides → ℕ → Sides → Type 0
Encloses xs region s = (r : Sides) × In r xs × (r.no ≡ region) × Within (whole s) r.right × (s.no < r.no)

-- the join that is the region of s is t, or stands in the right side of t
abbrev pub IsInnermost : List Sides → Sides → Sides → Type 0
IsInnermost xs s t = (s.region ≡ t.no) ⊎ ((u : Sides) × In u xs × (u.no ≡ s.region) × Within (whole u) t.right)

-- The joins of a part of a tree that has these items, with numbers above `low` and up to `high`, in this region.
pub record Standing (set low high region : ℕ) (xs : List Sides) : Type 0 where
  pub joins : (s : Sides) → In s xs → IsJoin s
  pub within : (s : Sides) → In s xs → Within (whole s) set
  pub above : (s : Sides) → In s xs → low < s.no
  pub below : (s : Sides) → In s xs → s.no ≤ high
  pub related : (s t : Sides) → In s xs → In t xs → (s.no ≡ t.no → ⊥) → Related s t
  pub enclosed : (s : Sides) → In s xs → (s.region ≡ region) ⊎ Encloses xs s.region s
  pub innermost : (s t : Sides) → In s xs → In t xs → Within (whole s) t.right → IsInnermost xs s t

pub none : (set low high region : ℕ) → Standing set low high region []
none set low high region = record {
  joins = λ s h. absurd h;
  within = λ s h. absurd h;
  above = λ s h. absurd h;
  below = λ s h. absurd h;
  related = λ s t h. absurd h;
  enclosed = λ s h. absurd h;
  innermost = λ s t h. absurd h;
}

-- a join of one part isn't in a side of a join of another
never_inside : (a b : ℕ) (s t : Sides) → IsJoin s → Within (whole s) a → Within (whole t) b → Apart a b → Within (whole s) t.right → ⊥
never_inside a b s t join p q parts w =
    let i = join.left_some in
    let here = in_left s.left s.right i.0 i.1 in
    parts (i.0, p i.0 here, q i.0 (in_right t.left t.right i.0 (w i.0 here)))

more_encloses : (xs ys : List Sides) → ((r : Sides) → In r xs → In r ys) → (region : ℕ) (s : Sides) → Encloses xs region s → Encloses ys region s
more_encloses xs ys more region s e = (e.0, more e.0 e.1, e.2, e.3, e.4)

more_innermost : (xs ys : List Sides) → ((r : Sides) → In r xs → In r ys) → (s t : Sides) → IsInnermost xs s t → IsInnermost ys s t
more_innermost xs ys more s t (inl e) = inl e
more_innermost xs ys more s t (inr u) = inr (u.0, more u.0 u.1, u.2, u.3)

module _ (a b low mid high region : ℕ) (xs ys : List Sides) (p : Standing a low mid region xs) (q : Standing b mid high region ys) (parts : Apart a b) (up : low ≤ mid) (on : mid ≤ high) where
  abbrev First : Sides → Type 0
  First s = In s xs ⊎ In s ys

  first : (s : Sides) → In s (xs ++ ys) → First s
  first s h = from_append s xs ys h

  to_left : (s : Sides) → In s xs → In s (xs ++ ys)
  to_left s h = in_append_left s xs ys h

  to_right : (s : Sides) → In s ys → In s (xs ++ ys)
  to_right s h = in_append_right s xs ys h

  join_of : (s : Sides) → First s → IsJoin s
  join_of s (inl h) = p.joins s h
  join_of s (inr h) = q.joins s h

  within_of : (s : Sides) → First s → Within (whole s) (bit_or a b)
  within_of s (inl h) i k = in_left a b i (p.within s h i k)
  within_of s (inr h) i k = in_right a b i (q.within s h i k)

  above_of : (s : Sides) → First s → low < s.no
  above_of s (inl h) = p.above s h
  above_of s (inr h) = let k = q.above s h in omega (arith, k, up)

  below_of : (s : Sides) → First s → s.no ≤ high
  below_of s (inl h) = let k = p.below s h in omega (arith, k, on)
  below_of s (inr h) = q.below s h

  related_of : (s t : Sides) → First s → First t → (s.no ≡ t.no → ⊥) → Related s t
  related_of s t (inl h) (inl k) other = p.related s t h k other
  related_of s t (inr h) (inr k) other = q.related s t h k other
  related_of s t (inl h) (inr k) other = Related.apart (apart_within (whole s) (whole t) a b (p.within s h) (q.within t k) parts)
  related_of s t (inr h) (inl k) other = Related.apart (apart_within (whole s) (whole t) b a (q.within s h) (p.within t k) (apart_turned a b parts))

  enclosed_of : (s : Sides) → First s → (s.region ≡ region) ⊎ Encloses (xs ++ ys) s.region s
  enclosed_of s (inl h) = elim (p.enclosed s h) [ inl e ↦ inl e | inr e ↦ inr (more_encloses xs (xs ++ ys) to_left s.region s e) ]
  enclosed_of s (inr h) = elim (q.enclosed s h) [ inl e ↦ inl e | inr e ↦ inr (more_encloses ys (xs ++ ys) to_right s.region s e) ]

  innermost_of : (s t : Sides) → First s → First t → Within (whole s) t.right → IsInnermost (xs ++ ys) s t
  innermost_of s t (inl h) (inl k) w = more_innermost xs (xs ++ ys) to_left s t (p.innermost s t h k w)
  innermost_of s t (inr h) (inr k) w = more_innermost ys (xs ++ ys) to_right s t (q.innermost s t h k w)
  innermost_of s t (inl h) (inr k) w = absurd (never_inside a b s t (p.joins s h) (p.within s h) (q.within t k) parts w)
  innermost_of s t (inr h) (inl k) w = absurd (never_inside b a s t (q.joins s h) (q.within s h) (p.within t k) (apart_turned a b parts) w)

  -- two parts of a tree beside each other
  pub together : Standing (bit_or a b) low high region (xs ++ ys)
  together = record {
    joins = λ s h. join_of s (first s h);
    within = λ s h. within_of s (first s h);
    above = λ s h. above_of s (first s h);
    below = λ s h. below_of s (first s h);
    related = λ s t h k. related_of s t (first s h) (first t k);
    enclosed = λ s h. enclosed_of s (first s h);
    innermost = λ s t h k. innermost_of s t (first s h) (first t k);
  }

-- ---- a special join over its two sides

module _ (low mid high : ℕ) (xs ys : List Sides) (s : Sides) (p : Standing s.left low mid s.region xs) (q : Standing s.right mid high s.no ys) (join : IsJoin s) (sides : Apart s.left s.right) (up : low ≤ mid) (on : mid ≤ high) (next : s.no ≡ suc high) where
  abbrev all : List Sides
  all = xs ++ ys ++ s ∷ []

  data Place (t : Sides) : Type 0 where
    of_left : In t xs → Place t
    of_right : In t ys → Place t
    itself : s ≡ t → Place t

  place : (t : Sides) → In t all → Place t
  place t h = elim (from_append t (xs ++ ys) (s ∷ []) h) [
    | inl k ↦ elim (from_append t xs ys k) [ inl m ↦ of_left m | inr m ↦ of_right m ]
    | inr k ↦ elim k [ inl e ↦ itself e | inr gone ↦ absurd gone ]
  ]

  from_left : (t : Sides) → In t xs → In t all
  from_left t h = in_append_left t (xs ++ ys) (s ∷ []) (in_append_left t xs ys h)

  from_right : (t : Sides) → In t ys → In t all
  from_right t h = in_append_left t (xs ++ ys) (s ∷ []) (in_append_right t xs ys h)

  self : In s all
  self = in_append_right s (xs ++ ys) (s ∷ []) (inl refl)

  joins_at : (t : Sides) → Place t → IsJoin t
  joins_at t (of_left h) = p.joins t h
  joins_at t (of_right h) = q.joins t h
  joins_at t (itself e) = subst IsJoin e join

  within_at : (t : Sides) → Place t → Within (whole t) (whole s)
  within_at t (of_left h) = through (whole t) s.left (whole s) (p.within t h) (in_left s.left s.right)
  within_at t (of_right h) = through (whole t) s.right (whole s) (q.within t h) (in_right s.left s.right)
  within_at t (itself e) = subst (λ r. Within (whole r) (whole s)) e (λ i k. k)

  above_at : (t : Sides) → Place t → low < t.no
  above_at t (of_left h) = p.above t h
  above_at t (of_right h) = let k = q.above t h in omega (arith, k, up)
  above_at t (itself e) = subst (λ (r : Sides). low < r.no) e (omega (arith, next, up, on))

  below_at : (t : Sides) → Place t → t.no ≤ s.no
  below_at t (of_left h) = let k = p.below t h in omega (arith, k, on, next)
  below_at t (of_right h) = let k = q.below t h in omega (arith, k, next)
  below_at t (itself e) = subst (λ (r : Sides). r.no ≤ s.no) e (omega arith)

  left_low : (t : Sides) → In t xs → t.no < s.no
  left_low t h = let k = p.below t h in omega (arith, k, on, next)

  right_low : (t : Sides) → In t ys → t.no < s.no
  right_low t h = let k = q.below t h in omega (arith, k, next)

  related_at : (t u : Sides) → Place t → Place u → (t.no ≡ u.no → ⊥) → Related t u
  related_at t u (of_left h) (of_left k) other = p.related t u h k other
  related_at t u (of_right h) (of_right k) other = q.related t u h k other
  related_at t u (of_left h) (of_right k) other = Related.apart (apart_within (whole t) (whole u) s.left s.right (p.within t h) (q.within u k) sides)
  related_at t u (of_right h) (of_left k) other = Related.apart (apart_within (whole t) (whole u) s.right s.left (q.within t h) (p.within u k) (apart_turned s.left s.right sides))
  related_at t u (of_left h) (itself e) other = subst (Related t) e (Related.in_its_left (p.within t h) (left_low t h))
  related_at t u (of_right h) (itself e) other = subst (Related t) e (Related.in_its_right (q.within t h) (right_low t h))
  related_at t u (itself e) (of_left k) other = subst (λ r. Related r u) e (Related.has_left (p.within u k) (left_low u k))
  related_at t u (itself e) (of_right k) other = subst (λ r. Related r u) e (Related.has_right (q.within u k) (right_low u k))
  related_at t u (itself e) (itself f) other = absurd (other (subst (λ (r : Sides). r.no ≡ u.no) e (subst (λ (r : Sides). s.no ≡ r.no) f refl)))

  enclosed_at : (t : Sides) → Place t → (t.region ≡ s.region) ⊎ Encloses all t.region t
  enclosed_at t (of_left h) = elim (p.enclosed t h) [ inl e ↦ inl e | inr e ↦ inr (more_encloses xs all from_left t.region t e) ]
  enclosed_at t (of_right h) = elim (q.enclosed t h) [ inl e ↦ inr (s, self, sym e, q.within t h, right_low t h) | inr e ↦ inr (more_encloses ys all from_right t.region t e) ]
  enclosed_at t (itself e) = inl (subst (λ (r : Sides). r.region ≡ s.region) e refl)

  over_right : (t : Sides) → In t ys → IsInnermost all t s
  over_right t h = elim (q.enclosed t h) [ inl e ↦ inl e | inr e ↦ inr (e.0, from_right e.0 e.1, e.2, q.within e.0 e.1) ]

  innermost_at : (t u : Sides) → Place t → Place u → Within (whole t) u.right → IsInnermost all t u
  innermost_at t u (of_left h) (of_left k) w = more_innermost xs all from_left t u (p.innermost t u h k w)
  innermost_at t u (of_right h) (of_right k) w = more_innermost ys all from_right t u (q.innermost t u h k w)
  innermost_at t u (of_left h) (of_right k) w = absurd (never_inside s.left s.right t u (p.joins t h) (p.within t h) (q.within u k) sides w)
  innermost_at t u (of_right h) (of_left k) w = absurd (never_inside s.right s.left t u (q.joins t h) (q.within t h) (p.within u k) (apart_turned s.left s.right sides) w)
  innermost_at t u (of_right h) (itself e) w = subst (IsInnermost all t) e (over_right t h)
  innermost_at t u (of_left h) (itself e) w =
      let i = (p.joins t h).left_some in
      let here = in_left t.left t.right i.0 i.1 in
      absurd (sides (i.0, p.within t h i.0 here, subst (λ (r : Sides). Has r.right i.0) (sym e) (w i.0 here)))
  innermost_at t u (itself e) (of_left k) w =
      let j = join.right_first in
      let here : Has (whole t) j.0 = subst (λ (r : Sides). Has (whole r) j.0) e (in_right s.left s.right j.0 j.1) in
      absurd (sides (j.0, p.within u k j.0 (in_right u.left u.right j.0 (w j.0 here)), j.1))
  innermost_at t u (itself e) (of_right k) w =
      let i = join.left_some in
      let here : Has (whole t) i.0 = subst (λ (r : Sides). Has (whole r) i.0) e (in_left s.left s.right i.0 i.1) in
      absurd (sides (i.0, i.1, q.within u k i.0 (in_right u.left u.right i.0 (w i.0 here))))
  innermost_at t u (itself e) (itself f) w =
      let i = join.left_some in
      let here : Has (whole t) i.0 = subst (λ (r : Sides). Has (whole r) i.0) e (in_left s.left s.right i.0 i.1) in
      absurd (sides (i.0, i.1, subst (λ (r : Sides). Has r.right i.0) (sym f) (w i.0 here)))

  pub joined : Standing (whole s) low s.no s.region (xs ++ ys ++ s ∷ [])
  joined = record {
    joins = λ t h. joins_at t (place t h);
    within = λ t h. within_at t (place t h);
    above = λ t h. above_at t (place t h);
    below = λ t h. below_at t (place t h);
    related = λ t u h k. related_at t u (place t h) (place u k);
    enclosed = λ t h. enclosed_at t (place t h);
    innermost = λ t u h k. innermost_at t u (place t h) (place u k);
  }

-- ---- what follows of all joins of a tree

module _ (set low high region : ℕ) (xs : List Sides) (p : Standing set low high region xs) where
  -- two sides of one join share no item
  pub sides_apart : (s : Sides) → In s xs → Apart s.left s.right
  sides_apart s h m = let k = (p.joins s h).in_order m.0 m.0 m.1 m.2 in omega (arith, k)

  -- neither stands in a side of the other that stands in a side of it
  crossed : (s t : Sides) (a b : ℕ) → In s xs → Within (whole s) a → Within a (whole t) → Within (whole t) b → Within b s.left ⊎ Within b s.right → ⊥
  crossed s t a b h v av w (inl bl) =
      let j = (p.joins s h).right_first in
      sides_apart s h (j.0, bl j.0 (w j.0 (av j.0 (v j.0 (in_right s.left s.right j.0 j.1)))), j.1)
  crossed s t a b h v av w (inr br) =
      let i = (p.joins s h).left_some in
      sides_apart s h (i.0, i.1, br i.0 (w i.0 (av i.0 (v i.0 (in_left s.left s.right i.0 i.1)))))

  -- what stands in a side of a join has a lower number
  pub lower : (one : (s t : Sides) → In s xs → In t xs → s.no ≡ t.no → s ≡ t) (s t : Sides) → In s xs → In t xs → (b : ℕ) → Within (whole t) b → Within b s.left ⊎ Within b s.right → t.no < s.no
  lower one s t h k b w side = elim (cases_eq s.no t.no) [
    | inl e ↦ absurd (crossed s t (whole s) b h (λ i m. m) (subst (λ r. Within (whole s) (whole r)) (one s t h k e) (λ i m. m)) w side)
    | inr other ↦ by_kind (p.related s t h k other)
  ]
    where
      by_kind : Related s t → t.no < s.no
      by_kind (Related.in_its_left v n) = absurd (crossed s t t.left b h v (in_left t.left t.right) w side)
      by_kind (Related.in_its_right v n) = absurd (crossed s t t.right b h v (in_right t.left t.right) w side)
      by_kind (Related.has_left v n) = n
      by_kind (Related.has_right v n) = n
      by_kind (Related.apart away) = absurd (stray side)
        where
          stray : Within b s.left ⊎ Within b s.right → ⊥
          stray (inl bl) = let i = (p.joins t k).left_some in let here = in_left t.left t.right i.0 i.1 in away (i.0, in_left s.left s.right i.0 (bl i.0 (w i.0 here)), here)
          stray (inr br) = let i = (p.joins t k).left_some in let here = in_left t.left t.right i.0 i.1 in away (i.0, in_right s.left s.right i.0 (br i.0 (w i.0 here)), here)

-- Each special join of a block is one that is written, with its sets, made from the joins of lower numbers.
use Rattle.std.proofs.Common.{◌≡◌, ◌∙◌, ap, sym, subst, refl, ℕ, suc, ◌<◌, ◌≤◌, inl, inr, List, [], ◌∷◌, ◌++◌, map, length, length-append, append_assoc, append-nil, arith}
use Rattle.std.specs.Prelude.{fold}
use Rattle.jp_facts.proofs.Members.{In, from_append, in_append_left}
use Rattle.jp_problem.specs.declared.types.Outline.{Outline}
use Rattle.jp_problem.specs.declared.types.Special.{Special}
use Rattle.jp_problem.specs.declared.types.Written.{Written}
use Rattle.jp_problem.specs.MinimumSets.{with_sets, one_more, specials_in}
use Rattle.jp_conditions.proofs.Numbers.{Numbered, numbered_map, numbered_mapped}
use Rattle.jp_conditions.proofs.Places.{sides_of, written_no}
use Rattle.jp_conditions.proofs.Standing.{Sides}

abbrev pub special_no : Special → ℕ
special_no s = s.no

abbrev pub sides_no : Sides → ℕ
sides_no s = s.no

abbrev pub special_sides : Special → Sides
special_sides s = record { no = s.no; left = s.syn_left; right = s.syn_right; region = s.region }

module _ (block : Outline) where
  pub record IsFrom (joins : List Special) (s : Special) : Type 0 where
    pub before : List Special
    pub written : Written
    pub stands : In written block.joins
    pub is : s ≡ with_sets block before written
    pub earlier : (t : Special) → In t before → In t joins × (t.no < s.no)
    pub all : (t : Special) → In t joins → t.no < s.no → In t before

  pub record AreFrom (joins : List Special) : Type 0 where
    pub low : (t : Special) → In t joins → t.no ≤ length joins
    pub each : (s : Special) → In s joins → IsFrom joins s

  module _ (joins : List Special) (w : Written) (here : In w block.joins) (next : w.no ≡ suc (length joins)) (p : AreFrom joins) where
    abbrev made : Special
    made = with_sets block joins w

    abbrev more : List Special
    more = joins ++ made ∷ []

    longer : length more ≡ suc (length joins)
    longer = omega (arith, length-append joins (made ∷ []))

    data Was (t : Special) : Type 0 where
      before : In t joins → Was t
      new : made ≡ t → Was t

    was : (t : Special) → In t more → Was t
    was t h = elim (from_append t joins (made ∷ []) h) [ inl k ↦ before k | inr k ↦ elim k [ inl e ↦ new e | inr gone ↦ absurd gone ] ]

    low_of : (t : Special) → Was t → t.no ≤ length more
    low_of t (before h) = let k = p.low t h in omega (arith, k, longer)
    low_of t (new e) = subst (λ (s : Special). s.no ≤ length more) e (omega (arith, next, longer))

    older : (s t : Special) → s.no ≤ length joins → Was t → t.no < s.no → In t joins
    older s t bound (before h) low = h
    older s t bound (new e) low = absurd (omega (arith, ap special_no e, next, bound, low))

    from_of : (s : Special) → Was s → IsFrom more s
    from_of s (before h) = let f = p.each s h in record {
      before = f.before;
      written = f.written;
      stands = f.stands;
      is = f.is;
      earlier = λ t k. (in_append_left t joins (made ∷ []) (f.earlier t k).0, (f.earlier t k).1);
      all = λ t k low. f.all t (older s t (p.low s h) (was t k) low) low;
    }
    from_of s (new e) = record {
      before = joins;
      written = w;
      stands = here;
      is = sym e;
      earlier = λ t k. (in_append_left t joins (made ∷ []) k, (let low = p.low t k in omega (arith, low, next, ap special_no e)));
      all = λ t k low. elim (from_append t joins (made ∷ []) k) [ inl m ↦ m | inr m ↦ elim m [ inl f ↦ absurd (omega (arith, ap special_no e, ap special_no f, low)) | inr gone ↦ absurd gone ] ];
    }

    pub one_more_from : AreFrom more
    one_more_from = record { low = λ t h. low_of t (was t h); each = λ s h. from_of s (was s h) }

  folded : (joins : List Special) (ws : List Written) → ((w : Written) → In w ws → In w block.joins) → Numbered written_no (length joins) ws → AreFrom joins → AreFrom (fold (one_more block) joins ws)
  folded joins [] sub n p = p
  folded joins (w ∷ ws) sub n p =
      folded (joins ++ with_sets block joins w ∷ []) ws (λ v h. sub v (inr h)) (subst (λ k. Numbered written_no k ws) (sym (longer joins w (sub w (inl refl)) n.0 p)) n.1) (one_more_from joins w (sub w (inl refl)) n.0 p)

  pub all_from : Numbered written_no 0 block.joins → AreFrom (specials_in block)
  all_from n = folded [] block.joins (λ w h. h) n (record { low = λ t h. absurd h; each = λ s h. absurd h })

  map_more : (joins : List Special) (s : Special) → map special_sides (joins ++ s ∷ []) ≡ map special_sides joins ++ special_sides s ∷ []
  map_more [] s = refl
  map_more (t ∷ joins) s = ap (λ rest. special_sides t ∷ rest) (map_more joins s)

  sides_folded : (joins : List Special) (ws : List Written) → map special_sides (fold (one_more block) joins ws) ≡ map special_sides joins ++ map sides_of ws
  sides_folded joins [] = sym (append-nil (map special_sides joins))
  sides_folded joins (w ∷ ws) =
      sides_folded (joins ++ with_sets block joins w ∷ []) ws
      ∙ ap (λ list. list ++ map sides_of ws) (map_more joins (with_sets block joins w))
      ∙ append_assoc (map special_sides joins) (sides_of w ∷ []) (map sides_of ws)

  -- the special joins have the sides of those that are written
  pub same_sides : map special_sides (specials_in block) ≡ map sides_of block.joins
  same_sides = sides_folded [] block.joins

  pub special_numbers : Numbered written_no 0 block.joins → Numbered special_no 0 (specials_in block)
  special_numbers n =
      numbered_mapped special_sides special_no sides_no (λ s. refl) 0 (specials_in block)
      (subst (Numbered sides_no 0) (sym same_sides) (numbered_map sides_of written_no sides_no (λ w. refl) 0 block.joins n))

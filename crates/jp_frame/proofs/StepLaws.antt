-- The step law: the row set of a union is what a legal step makes of the row sets of its parts.
use Rattle.std.proofs.Common.{◌≡◌, ◌∙◌, ap, sym, subst, refl, ℕ, ◌<◌, ◌⊎◌, inl, inr, true, arith, None}
use Rattle.std.specs.Prelude.{bit_or}
use Rattle.jp_base.specs.Sets.{Has, Within}
use Rattle.jp_base.proofs.MaskAlgebra.{in_left, in_right}
use Rattle.jp_base.proofs.SetLemmas.{has_or}
use Rattle.jp_frame.specs.Maps.{Map, at, NoneOn, part, both}
use Rattle.jp_frame.specs.Frames.{Frame, IsFrame, Kind, Left, Semi, Anti, Apart, IsInside}
use Rattle.jp_frame.specs.Legal.{IsDone, IsOuter, IsInnerStep, IsStepBy, IsByPlace, IsHanging, IsActive}
use Rattle.jp_frame.specs.Rows.{Lives, is_row, InRowSet, HasNoMatch, HasMatch, ConditionOf, Condition, IsRow}
use Rattle.jp_frame.specs.Steps.{Step, Inner, By, IsLegal, IsDue, AllDue, HasPartner, HasNoPartner, JoinedBy, IsCandidate}
use Rattle.jp_frame.proofs.Sets.{decide_has, decide_within}
use Rattle.jp_frame.proofs.LegalLaws.{covered, region_here, only_right, none_hangs}
use Rattle.jp_frame.proofs.MapLaws.{part_on, part_off, length_part, both_left, both_right, map_same, outside, lives_part}
use Rattle.jp_frame.proofs.Reading.{row_at, row_from}
use Rattle.jp_frame.proofs.RowLaws.{condition_local, in_part, hanging_met, in_whole, of_part, none_everywhere, none_meets}

done_wider : (f : Frame) (a b s : ℕ) → Within a b → IsDone f a s → IsDone f b s
done_wider f a b s w d = record { join = d.join; left = λ i p. w i (d.left i p); right = λ i p. w i (d.right i p) }

module _ (f : Frame) (ok : IsFrame f) (m : Map) where
  -- the condition of a join that is done in a set looks at the part on it
  to_part : (set s : ℕ) → IsDone f set s → Condition f s m → Condition f s (part set m)
  to_part set s d = condition_local f ok s d.join m (part set m) (λ i p. sym (part_on set m i (elim p [ inl q ↦ d.left i q | inr q ↦ d.right i q ]))) (sym (length_part set m))

  from_part : (set s : ℕ) → IsDone f set s → Condition f s (part set m) → Condition f s m
  from_part set s d = condition_local f ok s d.join (part set m) m (λ i p. part_on set m i (elim p [ inl q ↦ d.left i q | inr q ↦ d.right i q ])) (length_part set m)

  clause_part : (set c : ℕ) → c < f.clauses → Within (f.needs c) set → f.holds c m ≡ f.holds c (part set m)
  clause_part set c clause w = ok.clause_local c m (part set m) clause (λ i p. sym (part_on set m i (w i (ok.uses_within c clause i p))))

  -- One part of a set: a join that is done in the set is done in the part, or its right set lies in what is apart from the part.
  module _ (a b set : ℕ) (wider : Within a set) (apart : Apart a b) (split : (u : ℕ) → IsDone f set u → IsDone f a u ⊎ Within (f.right u) b) where
    outer_wider : (u : ℕ) → IsOuter f a u → IsOuter f set u
    outer_wider u o = record {
      done = done_wider f a set u wider o.done;
      free = λ t d i. elim (split t d) [
        | inl here ↦ o.free t here i
        | inr w ↦ let some = ok.right_some u o.done.join in apart some.0 (o.done.right some.0 some.1) (w some.0 (i.right some.0 some.1))
      ];
    }

    outer_narrower : (u : ℕ) → IsDone f a u → IsOuter f set u → IsOuter f a u
    outer_narrower u d o = record { done = d; free = λ t e i. o.free t (done_wider f a set t wider e) i }

    active_wider : (c : ℕ) → IsActive f a c → IsActive f set c
    active_wider c x = record {
      clause = x.clause;
      within = λ i p. wider i (x.within i p);
      open_region = λ r e d. elim (split r d) [
        | inl here ↦ x.open_region r e here
        | inr w ↦ let some = ok.needs_some c x.clause in apart some.0 (x.within some.0 some.1) (w some.0 (ok.needs_within c r x.clause e some.0 some.1))
      ];
    }

    active_narrower : (c : ℕ) → Within (f.needs c) a → IsActive f set c → IsActive f a c
    active_narrower c w x = record { clause = x.clause; within = w; open_region = λ r e d. x.open_region r e (done_wider f a set r wider d) }

    row_of_part : IsRow f set m → IsRow f a (part a m)
    row_of_part r = record {
      items = λ i low here free none. r.items i low (wider i here) (λ u d p. elim (split u d) [ inl q ↦ free u q p | inr w ↦ apart i here (w i p) ]) (sym (part_on a m i here) ∙ none);
      joins = λ u o. to_part a u o.done (r.joins u (outer_wider u o));
      clauses = λ c x. sym (clause_part a c x.clause x.within) ∙ r.clauses c (active_wider c x);
    }

    item_of_part : IsRow f a (part a m) → (i : ℕ) → i < f.items → Has a i → ((u : ℕ) → IsDone f set u → ¬ Has (f.right u) i) → at m i ≡ None → ⊥
    item_of_part r i low here free none = r.items i low here (λ u d. free u (done_wider f a set u wider d)) (part_on a m i here ∙ none)

    join_of_part : IsRow f a (part a m) → (u : ℕ) → IsDone f a u → IsOuter f set u → Condition f u m
    join_of_part r u d o = from_part a u d (r.joins u (outer_narrower u d o))

    clause_of_part : IsRow f a (part a m) → (c : ℕ) → Within (f.needs c) a → IsActive f set c → f.holds c m ≡ true
    clause_of_part r c w x = clause_part a c x.clause w ∙ r.clauses c (active_narrower c w x)

module _ (f : Frame) (ok : IsFrame f) (left right : ℕ) (m : Map) (lives : Lives f (bit_or left right) m) where
  in_row : (set : ℕ) → IsRow f set (part set m) → InRowSet f set (part set m)
  in_row set r = record { lives = lives_part f (bit_or left right) set m lives; row = row_from f ok set (part set m) r }

  row_in : (set : ℕ) → InRowSet f set (part set m) → IsRow f set (part set m)
  row_in set h = row_at f ok set (part set m) h.row

  due_active : (c : ℕ) → IsDue f left right c → IsActive f (bit_or left right) c
  due_active c d = record { clause = d.clause; within = d.within; open_region = d.open_region }

  -- a clause that is active in the union has its needs in a part, or is due
  clause_cases : (c : ℕ) → IsActive f (bit_or left right) c → (Within (f.needs c) left → f.holds c m ≡ true) → (Within (f.needs c) right → f.holds c m ≡ true) → AllDue f left right m → f.holds c m ≡ true
  clause_cases c x on_left on_right due = elim (decide_within (f.needs c) left) [
    | inl w ↦ on_left w
    | inr not_left ↦ elim (decide_within (f.needs c) right) [
      | inl w ↦ on_right w
      | inr not_right ↦ due c (record { clause = x.clause; within = x.within; not_left = not_left; not_right = not_right; open_region = x.open_region })
    ]
  ]

  -- ---- inner steps

  module _ (legal : IsInnerStep f left right) where
    split_left : (u : ℕ) → IsDone f (bit_or left right) u → IsDone f left u ⊎ Within (f.right u) right
    split_left u d = elim (legal.no_new u d) [ inl p ↦ inl p | inr q ↦ inr q.right ]

    split_right : (u : ℕ) → IsDone f (bit_or left right) u → IsDone f right u ⊎ Within (f.right u) left
    split_right u d = elim (legal.no_new u d) [ inl p ↦ inr p.right | inr q ↦ inl q ]

    flipped : Apart right left
    flipped i p q = legal.step.apart i q p

    inner_to : IsRow f (bit_or left right) m → IsCandidate f left right Inner m × AllDue f left right m
    inner_to r = (
      record {
        lives = lives;
        on_left = in_row left (row_of_part f ok m left right (bit_or left right) (in_left left right) legal.step.apart split_left r);
        joined = in_row right (row_of_part f ok m right left (bit_or left right) (in_right left right) flipped split_right r);
      },
      λ c d. r.clauses c (due_active c d),
    )

    inner_from : IsCandidate f left right Inner m → AllDue f left right m → IsRow f (bit_or left right) m
    inner_from cand due = record {
      items = λ i low here. elim ((has_or left right i).0 here) [
        | inl p ↦ item_of_part f ok m left right (bit_or left right) (in_left left right) legal.step.apart split_left one i low p
        | inr q ↦ item_of_part f ok m right left (bit_or left right) (in_right left right) flipped split_right two i low q
      ];
      joins = λ u o. elim (legal.no_new u o.done) [
        | inl d ↦ join_of_part f ok m left right (bit_or left right) (in_left left right) legal.step.apart split_left one u d o
        | inr d ↦ join_of_part f ok m right left (bit_or left right) (in_right left right) flipped split_right two u d o
      ];
      clauses = λ c x. clause_cases c x
          (λ w. clause_of_part f ok m left right (bit_or left right) (in_left left right) legal.step.apart split_left one c w x)
          (λ w. clause_of_part f ok m right left (bit_or left right) (in_right left right) flipped split_right two c w x) due;
    }
      where
        one : IsRow f left (part left m)
        one = row_in left cand.on_left

        two : IsRow f right (part right m)
        two = row_in right cand.joined

  -- ---- steps by a join

  module _ (s : ℕ) (legal : IsStepBy f left right s) where
    pub place : IsByPlace f right s
    place = record { join = legal.join; joinable = legal.step.right_joinable; within = legal.on_right; misses = λ i p q. legal.step.apart i (legal.on_left i p) q }

    split_by : (u : ℕ) → IsDone f (bit_or left right) u → IsDone f left u ⊎ Within (f.right u) right
    split_by u d = elim (legal.one_new u d) [
      | inl p ↦ elim p [ inl q ↦ inl q | inr q ↦ inr q.right ]
      | inr e ↦ inr (subst (λ x. Within (f.right x) right) (sym e) legal.on_right)
    ]

    s_done : IsDone f (bit_or left right) s
    s_done = record { join = legal.join; left = λ i p. in_left left right i (legal.on_left i p); right = λ i p. in_right left right i (legal.on_right i p) }

    s_outer : IsOuter f (bit_or left right) s
    s_outer = record {
      done = s_done;
      free = λ t d i. elim (legal.one_new t d) [
        | inl p ↦ elim p [
          | inl q ↦ let some = ok.right_some s legal.join in legal.step.apart some.0 (q.right some.0 (i.right some.0 some.1)) (legal.on_right some.0 some.1)
          | inr q ↦ let some = ok.left_some s legal.join in legal.step.apart some.0 (legal.on_left some.0 some.1) (q.right some.0 (i.left some.0 some.1))
        ]
        | inr e ↦ i.other (sym e)
      ];
    }

    hanging_outer : (u : ℕ) → IsHanging f right s u → IsOuter f (bit_or left right) u
    hanging_outer u h = record {
      done = done_wider f right (bit_or left right) u (in_right left right) h.outer.done;
      free = λ t d i. elim (legal.one_new t d) [
        | inl p ↦ elim p [
          | inl q ↦ let some = ok.right_some u h.outer.done.join in legal.step.apart some.0 (q.right some.0 (i.right some.0 some.1)) (h.outer.done.right some.0 some.1)
          | inr q ↦ h.outer.free t q i
        ]
        | inr e ↦ h.free (subst (IsInside f u) e i)
      ];
    }

    outer_hanging : (u : ℕ) → IsDone f right u → IsOuter f (bit_or left right) u → IsHanging f right s u
    outer_hanging u d o = record {
      outer = record { done = d; free = λ t e i. o.free t (done_wider f right (bit_or left right) t (in_right left right) e) i };
      free = λ i. o.free s s_done i;
    }

    record_parts : IsRow f (bit_or left right) m → IsRow f left (part left m) × Condition f s m × ((u : ℕ) → IsHanging f right s u → Condition f u m) × AllDue f left right m
    record_parts r = (
      row_of_part f ok m left right (bit_or left right) (in_left left right) legal.step.apart split_by r,
      r.joins s s_outer,
      λ u h. r.joins u (hanging_outer u h),
      λ c d. r.clauses c (due_active c d),
    )

    from_parts : IsRow f left (part left m) → Condition f s m → ((u : ℕ) → IsHanging f right s u → Condition f u m) → AllDue f left right m → IsRow f (bit_or left right) m
    from_parts one own hang due = record {
      items = λ i low here. elim ((has_or left right i).0 here) [
        | inl p ↦ item_of_part f ok m left right (bit_or left right) (in_left left right) legal.step.apart split_by one i low p
        | inr q ↦ λ free none. elim (decide_has (f.right s) i) [
          | inl k ↦ free s s_done k
          | inr out ↦ let h = covered f ok right s place i q out in free h.0 (hanging_outer h.0 h.1).done h.2
        ]
      ];
      joins = λ u o. elim (legal.one_new u o.done) [
        | inl p ↦ elim p [
          | inl d ↦ join_of_part f ok m left right (bit_or left right) (in_left left right) legal.step.apart split_by one u d o
          | inr d ↦ hang u (outer_hanging u d o)
        ]
        | inr e ↦ subst (λ x. Condition f x m) (sym e) own
      ];
      clauses = λ c x. clause_cases c x
          (λ w. clause_of_part f ok m left right (bit_or left right) (in_left left right) legal.step.apart split_by one c w x)
          (λ w. elim (region_here f ok right s place c x.clause w) [
            | inl e ↦ absurd (x.open_region s e s_done)
            | inr h ↦ absurd (x.open_region h.0 h.1 (done_wider f right (bit_or left right) h.0 (in_right left right) h.2))
          ]) due;
    }

    -- where m is none on the right set of s, a member of the right row set and its part on that set make ON hold alike
    partner_same : (b : Map) → Lives f right b → NoneOn (f.right s) m → f.on s (both (part left m) b) ≡ f.on s (both m (part (f.right s) b))
    partner_same b live off = ok.on_local s (both (part left m) b) (both m (part (f.right s) b)) legal.join (λ i p. elim (ok.on_uses_within s i legal.join p) [
      | inl l ↦
          both_left (part left m) b i (outside f right b i live (λ q. place.misses i l q)) ∙ part_on left m i (legal.on_left i l)
          ∙ sym (both_left m (part (f.right s) b) i (part_off (f.right s) b i (λ q. place.misses i l (legal.on_right i q))))
      | inr r ↦
          both_right (part left m) b i (part_off left m i (λ q. legal.step.apart i q (legal.on_right i r)))
          ∙ sym (part_on (f.right s) b i r) ∙ sym (both_right m (part (f.right s) b) i (off i r))
    ])

    to_partner : NoneOn (f.right s) m → HasMatch f s m → HasPartner f right s (part left m)
    to_partner off h =
        let b = of_part f ok right s place h.0 h.1 in
        (b.0, b.1, partner_same b.0 b.1.lives off ∙ ap (λ x. f.on s (both m x)) b.2 ∙ h.2)

    from_partner : NoneOn (f.right s) m → HasPartner f right s (part left m) → HasMatch f s m
    from_partner off h = (part (f.right s) h.0, in_part f ok right s place h.0 h.1, sym (partner_same h.0 h.1.lives off) ∙ h.2)

    to_no_partner : NoneOn (f.right s) m → HasNoMatch f s m → HasNoPartner f right s (part left m)
    to_no_partner off h b row = partner_same b row.lives off ∙ h (part (f.right s) b) (in_part f ok right s place b row)

    from_no_partner : NoneOn (f.right s) m → HasNoPartner f right s (part left m) → HasNoMatch f s m
    from_no_partner off h x row =
        let b = of_part f ok right s place x row in
        ap (λ y. f.on s (both m y)) (sym b.2) ∙ sym (partner_same b.0 b.1.lives off) ∙ h b.0 b.1

    lives_right : Lives f right (part right m)
    lives_right = lives_part f (bit_or left right) right m lives

    part_part : part (f.right s) (part right m) ≡ part (f.right s) m
    part_part = map_same (part (f.right s) (part right m)) (part (f.right s) m) (length_part (f.right s) (part right m) ∙ length_part right m ∙ sym (length_part (f.right s) m))
        (λ i. elim (decide_has (f.right s) i) [
          | inl p ↦ part_on (f.right s) (part right m) i p ∙ part_on right m i (legal.on_right i p) ∙ sym (part_on (f.right s) m i p)
          | inr out ↦ part_off (f.right s) (part right m) i out ∙ sym (part_off (f.right s) m i out)
        ])

    hang_part : ((u : ℕ) → IsHanging f right s u → Condition f u m) → (u : ℕ) → IsHanging f right s u → Condition f u (part right m)
    hang_part hang u h = to_part f ok m right u h.outer.done (hang u h)

    hang_whole : ((u : ℕ) → IsHanging f right s u → Condition f u (part right m)) → (u : ℕ) → IsHanging f right s u → Condition f u m
    hang_whole hang u h = from_part f ok m right u h.outer.done (hang u h)

    -- the condition of s and those of the hanging joins, together, are the step's own words
    to_joined : (k : Kind) → f.kind s ≡ k → ConditionOf k f s m → ((u : ℕ) → IsHanging f right s u → Condition f u m) → JoinedBy k f left right s m
    to_joined Left e (inl h) hang = inl (in_whole f ok right s place (part right m) lives_right (subst (λ x. is_row f (f.right s) x ≡ true) (sym part_part) h.0) (hang_part hang), h.1)
    to_joined Left e (inr h) hang =
        let empty = none_everywhere f ok right s place (part right m) lives_right (λ i p. part_on right m i (legal.on_right i p) ∙ h.0 i p) (hang_part hang) in
        inr (λ i p. sym (part_on right m i p) ∙ empty i, to_no_partner h.0 h.1)
    to_joined Semi e h hang = (λ i p. h.0 i (only_right f ok right s place (λ q. let clash = sym e ∙ q in cc) i p), to_partner h.0 h.1)
    to_joined Anti e h hang = (λ i p. h.0 i (only_right f ok right s place (λ q. let clash = sym e ∙ q in cc) i p), to_no_partner h.0 h.1)

    none_right : NoneOn right m → NoneOn (f.right s) m
    none_right h i p = h i (legal.on_right i p)

    empty_part : NoneOn right m → (i : ℕ) → at (part right m) i ≡ None
    empty_part h i = elim (decide_has right i) [ inl p ↦ part_on right m i p ∙ h i p | inr out ↦ part_off right m i out ]

    from_joined : (k : Kind) → f.kind s ≡ k → JoinedBy k f left right s m → ConditionOf k f s m × ((u : ℕ) → IsHanging f right s u → Condition f u m)
    from_joined Left e (inl h) = (inl (subst (λ x. is_row f (f.right s) x ≡ true) part_part (in_part f ok right s place (part right m) h.0).row, h.1), hang_whole (hanging_met f ok right s place (part right m) h.0))
    from_joined Left e (inr h) = (inr (none_right h.0, from_no_partner (none_right h.0) h.1), hang_whole (none_meets f ok right s place (part right m) (empty_part h.0)))
    from_joined Semi e h = ((none_right h.0, from_partner (none_right h.0) h.1), λ u x. absurd (none_hangs f ok right s place (λ q. let clash = sym e ∙ q in cc) u x))
    from_joined Anti e h = ((none_right h.0, from_no_partner (none_right h.0) h.1), λ u x. absurd (none_hangs f ok right s place (λ q. let clash = sym e ∙ q in cc) u x))

    by_to : IsRow f (bit_or left right) m → IsCandidate f left right (By s) m × AllDue f left right m
    by_to r =
        let h = record_parts r in
        (record { lives = lives; on_left = in_row left h.0; joined = to_joined (f.kind s) refl h.1 h.2 }, h.3)

    by_from : IsCandidate f left right (By s) m → AllDue f left right m → IsRow f (bit_or left right) m
    by_from cand due = let h = from_joined (f.kind s) refl cand.joined in from_parts (row_in left cand.on_left) h.0 h.1 due

module _ (f : Frame) (ok : IsFrame f) (left right : ℕ) where
  pub step_to : (step : Step) → IsLegal f left right step → (m : Map) → InRowSet f (bit_or left right) m → IsCandidate f left right step m × AllDue f left right m
  step_to Inner legal m h = inner_to f ok left right m h.lives legal (row_at f ok (bit_or left right) m h.row)
  step_to (By s) legal m h = by_to f ok left right m h.lives s legal (row_at f ok (bit_or left right) m h.row)

  pub step_from : (step : Step) → IsLegal f left right step → (m : Map) → IsCandidate f left right step m → AllDue f left right m → InRowSet f (bit_or left right) m
  step_from Inner legal m cand due = record { lives = cand.lives; row = row_from f ok (bit_or left right) m (inner_from f ok left right m cand.lives legal cand due) }
  step_from (By s) legal m cand due = record { lives = cand.lives; row = row_from f ok (bit_or left right) m (by_from f ok left right m cand.lives s legal cand due) }
  -- ---- scans

module _ (f : Frame) (ok : IsFrame f) (i : ℕ) (set : ℕ) (only : (k : ℕ) → Has set k → k ≡ i) where
  -- no join is done in the set of one item
  pub none_done : (s : ℕ) → IsDone f set s → ⊥
  none_done s d =
      let l = ok.left_some s d.join in
      let r = ok.right_some s d.join in
      let e = only l.0 (d.left l.0 l.1) in
      let g = only r.0 (d.right r.0 r.1) in
      let order = ok.in_order s l.0 r.0 d.join l.1 r.1 in
      omega (arith, order, e, g)

-- Row sets at a place of a step by a join: a member is a member on the right set and conditions of the hanging joins.
use Rattle.std.proofs.Common.{◌≡◌, ◌∙◌, ap, sym, subst, refl, ℕ, suc, zero, ◌<◌, ◌⊎◌, inl, inr, true, false, length, arith}
use Rattle.std.proofs.lemmas.Bool.{cases_eq, cases_Bool, both_ways}
use Rattle.jp_base.specs.Sets.{Has}
use Rattle.jp_frame.specs.Maps.{Map, at, Agree, NoneOn, NoneEverywhere, part, both, either_row}
use Rattle.jp_frame.specs.Frames.{Frame, IsFrame, Kind, Left, Semi, Anti, Apart, IsInside}
use Rattle.jp_frame.specs.Legal.{IsDone, IsOuter, IsByPlace, IsHanging, HangsOn, IsActive}
use Rattle.jp_frame.specs.Rows.{Lives, outer, is_row, InRowSet, HasNoMatch, ConditionOf, Condition, IsRow}
use Rattle.jp_frame.proofs.Sets.{Decision, decide_has, member_below, Search, found, none, search_below}
use Rattle.jp_frame.proofs.LegalLaws.{decide_less, decide_inside, inside_done, done_inside, right_apart, off_right, hanging_off, covered, hangs_on, active_region, active_in_right, region_active}
use Rattle.jp_frame.proofs.MapLaws.{part_on, part_off, length_part, at_both, both_left, both_right, map_same, outside, lives_part, lives_wider, lives_both, part_agree}
use Rattle.jp_frame.proofs.Reading.{outer_at, outer_from, decide_match, row_at, row_from}

pub decide_outer : (f : Frame) (set s : ℕ) → Decision (IsOuter f set s)
decide_outer f set s = elim (decide_less s f.joins) [
  | inl join ↦ elim (cases_Bool (outer f set s)) [ inl e ↦ inl (outer_at f set s join e) | inr e ↦ inr (λ o. both_ways (outer f set s) e (outer_from f set s o)) ]
  | inr n ↦ inr (λ o. n o.done.join)
]

pub decide_hanging : (f : Frame) (set s u : ℕ) → Decision (IsHanging f set s u)
decide_hanging f set s u = elim (decide_outer f set u) [
  | inl o ↦ elim (decide_inside f u s) [ inl i ↦ inr (λ h. h.free i) | inr n ↦ inl (record { outer = o; free = n }) ]
  | inr n ↦ inr (λ h. n h.outer)
]

pub left_condition : (f : Frame) (s : ℕ) (m : Map) → f.kind s ≡ Left → ConditionOf Left f s m → Condition f s m
left_condition f s m e h = subst (λ k. ConditionOf k f s m) (sym e) h

pub condition_left : (f : Frame) (s : ℕ) (m : Map) → f.kind s ≡ Left → Condition f s m → ConditionOf Left f s m
condition_left f s m e h = subst (λ k. ConditionOf k f s m) e h

module _ (f : Frame) (ok : IsFrame f) where
  module _ (s : ℕ) (join : s < f.joins) (m n : Map) (agree : (i : ℕ) → Has (f.left s) i ⊎ Has (f.right s) i → at m i ≡ at n i) where
    pub on_same : f.on s m ≡ f.on s n
    on_same = ok.on_local s m n join (λ i p. agree i (ok.on_uses_within s i join p))

    pub on_both_same : (x : Map) → f.on s (both m x) ≡ f.on s (both n x)
    on_both_same x = ok.on_local s (both m x) (both n x) join (λ i p. at_both m x i ∙ ap (λ row. either_row row (at x i)) (agree i (ok.on_uses_within s i join p)) ∙ sym (at_both n x i))

    local_at : (k : Kind) → length m ≡ length n → ConditionOf k f s m → ConditionOf k f s n
    local_at Left e (inl h) = inl (subst (λ x. is_row f (f.right s) x ≡ true) (part_agree f (f.right s) m n e (λ i p. agree i (inr p))) h.0, sym on_same ∙ h.1)
    local_at Left e (inr h) = inr (λ i p. sym (agree i (inr p)) ∙ h.0 i p, λ x r. sym (on_both_same x) ∙ h.1 x r)
    local_at Semi e h = (λ i p. sym (agree i (inr p)) ∙ h.0 i p, (h.1.0, h.1.1, sym (on_both_same h.1.0) ∙ h.1.2))
    local_at Anti e h = (λ i p. sym (agree i (inr p)) ∙ h.0 i p, λ x r. sym (on_both_same x) ∙ h.1 x r)

    -- a condition looks at the two sets of its join
    pub condition_local : length m ≡ length n → Condition f s m → Condition f s n
    condition_local e h = local_at (f.kind s) e h

  module _ (set s : ℕ) (place : IsByPlace f set s) where
    outer_in : (u : ℕ) → IsOuter f (f.right s) u → IsOuter f set u
    outer_in u o = record {
      done = record { join = o.done.join; left = λ i p. place.within i (o.done.left i p); right = λ i p. place.within i (o.done.right i p) };
      free = λ t d i. elim (decide_inside f t s) [
        | inl k ↦ o.free t (inside_done f ok (f.right s) t s d.join k (λ x p. p)) i
        | inr n ↦ let some = ok.right_some u o.done.join in off_right f ok set s place t d n some.0 (i.right some.0 some.1) (o.done.right some.0 some.1)
      ];
    }

    outer_out : (u : ℕ) → IsOuter f set u → IsInside f u s → IsOuter f (f.right s) u
    outer_out u o i = record {
      done = inside_done f ok (f.right s) u s o.done.join i (λ x p. p);
      free = λ t d k. o.free t (inside_done f ok set t s d.join (done_inside f ok t s d) place.within) k;
    }

    module _ (m : Map) where
      right_agree : (i : ℕ) → Has (f.right s) i → at m i ≡ at (part (f.right s) m) i
      right_agree i p = sym (part_on (f.right s) m i p)

      part_long : length m ≡ length (part (f.right s) m)
      part_long = sym (length_part (f.right s) m)

      two : (u i : ℕ) → IsDone f (f.right s) u → Has (f.left u) i ⊎ Has (f.right u) i → Has (f.right s) i
      two u i d (inl p) = d.left i p
      two u i d (inr p) = d.right i p

      to_part : (u : ℕ) → IsDone f (f.right s) u → Condition f u m → Condition f u (part (f.right s) m)
      to_part u d = condition_local u d.join m (part (f.right s) m) (λ i p. right_agree i (two u i d p)) part_long

      from_part : (u : ℕ) → IsDone f (f.right s) u → Condition f u (part (f.right s) m) → Condition f u m
      from_part u d = condition_local u d.join (part (f.right s) m) m (λ i p. sym (right_agree i (two u i d p))) (sym part_long)

      clause_same : (c : ℕ) → IsActive f (f.right s) c → f.holds c m ≡ f.holds c (part (f.right s) m)
      clause_same c a = ok.clause_local c m (part (f.right s) m) a.clause (λ i p. right_agree i (a.within i (ok.uses_within c a.clause i p)))

      pub row_part : IsRow f set m → IsRow f (f.right s) (part (f.right s) m)
      row_part r = record {
        items = λ i low here free none. r.items i low (place.within i here) (λ u d p. elim (decide_inside f u s) [
          | inl k ↦ free u (inside_done f ok (f.right s) u s d.join k (λ x q. q)) p
          | inr n ↦ off_right f ok set s place u d n i p here
        ]) (right_agree i here ∙ none);
        joins = λ u o. to_part u o.done (r.joins u (outer_in u o));
        clauses = λ c a. sym (clause_same c a) ∙ r.clauses c (region_active f ok set s place c a.clause (active_in_right f ok set s place c a)).0;
      }

      pub row_whole : IsRow f (f.right s) (part (f.right s) m) → ((u : ℕ) → IsHanging f set s u → Condition f u m) → IsRow f set m
      row_whole r hang = record {
        items = λ i low here free none. elim (decide_has (f.right s) i) [
          | inl p ↦ r.items i low p (λ u d. free u (inside_done f ok set u s d.join (done_inside f ok u s d) place.within)) (sym (right_agree i p) ∙ none)
          | inr out ↦ let k = covered f ok set s place i here out in free k.0 k.1.outer.done k.2
        ];
        joins = λ u o. elim (decide_inside f u s) [
          | inl k ↦ let inner = outer_out u o k in from_part u inner.done (r.joins u inner)
          | inr n ↦ hang u (record { outer = o; free = n })
        ];
        clauses = λ c a. let inner = (region_active f ok set s place c a.clause (active_region f ok set s place c a)).1 in clause_same c inner ∙ r.clauses c inner;
      }

    -- ---- each map on the right set is the part of a map that meets the hanging joins

    begins : (n u : ℕ) → Decision (IsHanging f set s u × Has (f.right u) n × ((i : ℕ) → Has (f.right u) i → i < n → ⊥))
    begins n u = elim (decide_hanging f set s u) [
      | inr not_so ↦ inr (λ h. not_so h.0)
      | inl hang_u ↦ elim (decide_has (f.right u) n) [
        | inr not_so ↦ inr (λ h. not_so h.1)
        | inl here ↦ go hang_u here (search_below (Has (f.right u)) (decide_has (f.right u)) n)
      ]
    ]
      where
        go : IsHanging f set s u → Has (f.right u) n → Search (Has (f.right u)) n → Decision (IsHanging f set s u × Has (f.right u) n × ((i : ℕ) → Has (f.right u) i → i < n → ⊥))
        go hang_u here (found i low p least) = inr (λ h. h.2 i p low)
        go hang_u here (none fails) = inl (hang_u, here, λ i p low. fails i low p)

pub record Built (f : Frame) (set s : ℕ) (a : Map) (n : ℕ) (m : Map) : Type 0 where
  pub lives : Lives f set m
  pub kept : Agree (f.right s) m a
  -- the hanging joins that begin below n are met, the later ones are none
  pub met : (u i : ℕ) → IsHanging f set s u → Has (f.right u) i → i < n → Condition f u m
  pub later : (u : ℕ) → IsHanging f set s u → ((i : ℕ) → Has (f.right u) i → i < n → ⊥) → NoneOn (f.right u) m

module _ (f : Frame) (ok : IsFrame f) (set s : ℕ) (place : IsByPlace f set s) (a : Map) (on_right : Lives f (f.right s) a) where
  built_none : Built f set s a 0 a
  built_none = record {
    lives = lives_wider f (f.right s) set a place.within on_right;
    kept = λ i p. refl;
    met = λ u i h p low. absurd (omega arith);
    later = λ u h none i p. outside f (f.right s) a i on_right (hanging_off f ok set s place u h i p);
  }

  module _ (n : ℕ) (m : Map) (b : Built f set s a n m) where
    -- no join begins at n
    built_same : ((u : ℕ) → IsHanging f set s u → Has (f.right u) n → (i : ℕ) × (i < n) × Has (f.right u) i) → Built f set s a (suc n) m
    built_same earlier = record {
      lives = b.lives;
      kept = b.kept;
      met = λ u i h p low. elim (cases_eq i n) [
        | inl e ↦ let k = earlier u h (subst (Has (f.right u)) e p) in b.met u k.0 h k.2 k.1
        | inr other ↦ b.met u i h p (omega (arith, low, other))
      ];
      later = λ u h empty. b.later u h (λ i p low. empty i p (omega (arith, low)));
    }

    module _ (u : ℕ) (h : IsHanging f set s u) (here : Has (f.right u) n) (first : (i : ℕ) → Has (f.right u) i → i < n → ⊥) where
      kind : f.kind u ≡ Left
      kind = (hangs_on f ok set s place u h).2.left_kind

      none_yet : NoneOn (f.right u) m
      none_yet = b.later u h first

      other_apart : (v : ℕ) → IsHanging f set s v → (v ≡ u → ⊥) → Apart (f.right v) (f.right u)
      other_apart v k other = right_apart f ok set v u k.outer h.outer other

      -- another join that begins up to n begins below it
      below : (v i : ℕ) → IsHanging f set s v → (v ≡ u → ⊥) → Has (f.right v) i → i < suc n → i < n
      below v i k other p low = elim (cases_eq i n) [ inl e ↦ absurd (other_apart v k other i p (subst (Has (f.right u)) (sym e) here)) | inr not_so ↦ omega (arith, low, not_so) ]

      not_first : (v : ℕ) → ((i : ℕ) → Has (f.right v) i → i < suc n → ⊥) → v ≡ u → ⊥
      not_first v empty e = empty n (subst (λ x. Has (f.right x) n) (sym e) here) (omega arith)

      built_unmatched : HasNoMatch f u m → Built f set s a (suc n) m
      built_unmatched not_so = record {
        lives = b.lives;
        kept = b.kept;
        met = λ v i k p low. elim (cases_eq v u) [
          | inl e ↦ subst (λ x. Condition f x m) (sym e) (left_condition f u m kind (inr (none_yet, not_so)))
          | inr other ↦ b.met v i k p (below v i k other p low)
        ];
        later = λ v k empty. b.later v k (λ i p low. empty i p (omega (arith, low)));
      }

      module _ (x : Map) (row : InRowSet f (f.right u) x) (on : f.on u (both m x) ≡ true) where
        off_x : (i : ℕ) → ¬ Has (f.right u) i → at (both m x) i ≡ at m i
        off_x i out = both_left m x i (outside f (f.right u) x i row.lives out)

        whole : Lives f set (both m x)
        whole = lives_both f set (f.right u) set m x (λ i p. p) h.outer.done.right b.lives row.lives

        part_x : part (f.right u) (both m x) ≡ x
        part_x = map_same (part (f.right u) (both m x)) x (length_part (f.right u) (both m x) ∙ whole.long ∙ sym row.lives.long)
            (λ i. elim (decide_has (f.right u) i) [
              | inl p ↦ part_on (f.right u) (both m x) i p ∙ both_right m x i (none_yet i p)
              | inr out ↦ part_off (f.right u) (both m x) i out ∙ sym (outside f (f.right u) x i row.lives out)
            ])

        -- the sets of a join that began before lie off the right set of u
        old_off : (v i j : ℕ) → IsHanging f set s v → (v ≡ u → ⊥) → Has (f.right v) i → i < n → Has (f.left v) j ⊎ Has (f.right v) j → ¬ Has (f.right u) j
        old_off v i j k other p low (inl l) q = let order = ok.in_order v j i k.outer.done.join l p in first j q (omega (arith, order, low))
        old_off v i j k other p low (inr r) q = other_apart v k other j r q

        built_matched : Built f set s a (suc n) (both m x)
        built_matched = record {
          lives = whole;
          kept = λ i p. off_x i (λ q. hanging_off f ok set s place u h i q p) ∙ b.kept i p;
          met = λ v i k p low. elim (cases_eq v u) [
            | inl e ↦ subst (λ y. Condition f y (both m x)) (sym e) (left_condition f u (both m x) kind (inl (subst (λ y. is_row f (f.right u) y ≡ true) (sym part_x) row.row, on)))
            | inr other ↦
                let low_n = below v i k other p low in
                condition_local f ok v k.outer.done.join m (both m x) (λ j q. sym (off_x j (old_off v i j k other p low_n q))) (b.lives.long ∙ sym whole.long) (b.met v i k p low_n)
          ];
          later = λ v k empty i p.
              off_x i (λ q. other_apart v k (not_first v empty) i p q) ∙ b.later v k (λ j r low. empty j r (omega (arith, low))) i p;
        }

    built_more : (m : Map) × Built f set s a (suc n) m
    built_more = go (search_below (λ u. IsHanging f set s u × Has (f.right u) n × ((i : ℕ) → Has (f.right u) i → i < n → ⊥)) (begins f ok set s place n) f.joins)
      where
        earlier : (u : ℕ) → ¬ (IsHanging f set s u × Has (f.right u) n × ((i : ℕ) → Has (f.right u) i → i < n → ⊥)) → IsHanging f set s u → Has (f.right u) n → Search (Has (f.right u)) n → (i : ℕ) × (i < n) × Has (f.right u) i
        earlier u not_so h here (found i low p least) = (i, low, p)
        earlier u not_so h here (none fails) = absurd (not_so (h, here, λ i p low. fails i low p))

        go : Search (λ u. IsHanging f set s u × Has (f.right u) n × ((i : ℕ) → Has (f.right u) i → i < n → ⊥)) f.joins → (m : Map) × Built f set s a (suc n) m
        go (found u low h least) = elim (decide_match f ok u m) [
          | inl match ↦ (both m match.0, built_matched u h.0 h.1 h.2 match.0 match.1 match.2)
          | inr not_so ↦ (m, built_unmatched u h.0 h.1 h.2 not_so)
        ]
        go (none fails) = (m, built_same (λ u h here. earlier u (fails u h.outer.done.join) h here (search_below (Has (f.right u)) (decide_has (f.right u)) n)))

  built : (n : ℕ) → (m : Map) × Built f set s a n m
  built zero = (a, built_none)
  built (suc n) = let h = built n in built_more n h.0 h.1

  pub extended : (m : Map) × Lives f set m × (part (f.right s) m ≡ a) × ((u : ℕ) → IsHanging f set s u → Condition f u m)
  extended =
      let h = built set in (
        h.0,
        h.1.lives,
        map_same (part (f.right s) h.0) a (length_part (f.right s) h.0 ∙ h.1.lives.long ∙ sym on_right.long)
            (λ i. elim (decide_has (f.right s) i) [ inl p ↦ part_on (f.right s) h.0 i p ∙ h.1.kept i p | inr out ↦ part_off (f.right s) h.0 i out ∙ sym (outside f (f.right s) a i on_right out) ]),
        λ u k. let some = ok.right_some u k.outer.done.join in h.1.met u some.0 k some.1 (member_below set some.0 (k.outer.done.right some.0 some.1)),
      )

module _ (f : Frame) (ok : IsFrame f) (set s : ℕ) (place : IsByPlace f set s) where
  pub in_part : (m : Map) → InRowSet f set m → InRowSet f (f.right s) (part (f.right s) m)
  in_part m h = record { lives = lives_part f set (f.right s) m h.lives; row = row_from f ok (f.right s) (part (f.right s) m) (row_part f ok set s place m (row_at f ok set m h.row)) }

  pub hanging_met : (m : Map) → InRowSet f set m → (u : ℕ) → IsHanging f set s u → Condition f u m
  hanging_met m h u k = (row_at f ok set m h.row).joins u k.outer

  pub in_whole : (m : Map) → Lives f set m → is_row f (f.right s) (part (f.right s) m) ≡ true → ((u : ℕ) → IsHanging f set s u → Condition f u m) → InRowSet f set m
  in_whole m l e hang = record { lives = l; row = row_from f ok set m (row_whole f ok set s place m (row_at f ok (f.right s) (part (f.right s) m) e) hang) }

  pub of_part : (a : Map) → InRowSet f (f.right s) a → (m : Map) × InRowSet f set m × (part (f.right s) m ≡ a)
  of_part a h =
      let k = extended f ok set s place a h.lives in
      (k.0, in_whole k.0 k.1 (subst (λ x. is_row f (f.right s) x ≡ true) (sym k.2) h.row) k.3, k.2)

  -- ---- where a map is none on the right set, it is none

  module _ (m : Map) where
    none_hanging : NoneOn (f.right s) m → ((u : ℕ) → IsHanging f set s u → Condition f u m) → (n u i : ℕ) → IsHanging f set s u → Has (f.right u) i → i < n → NoneOn (f.right u) m
    none_hanging off hang zero u i h p low = absurd (omega arith)
    none_hanging off hang (suc n) u i h p low = go (hangs_on f ok set s place u h) (none_hanging off hang n)
      where
        void_at : (t j : ℕ) → HangsOn f set s u t j → ((v k : ℕ) → IsHanging f set s v → Has (f.right v) k → k < n → NoneOn (f.right v) m) → f.on u m ≡ false
        void_at t j k more = k.void m (elim k.base [ inl e ↦ subst (λ x. NoneOn (f.right x) m) (sym e) off | inr q ↦ let first = k.before i p in more t j q k.item (omega (arith, first, low)) ])

        by_condition : f.on u m ≡ false → ConditionOf Left f u m → NoneOn (f.right u) m
        by_condition e (inl c) = absurd (both_ways (f.on u m) e c.1)
        by_condition e (inr c) = c.0

        go : (t : ℕ) × (j : ℕ) × HangsOn f set s u t j → ((v k : ℕ) → IsHanging f set s v → Has (f.right v) k → k < n → NoneOn (f.right v) m) → NoneOn (f.right u) m
        go k more = by_condition (void_at k.0 k.1 k.2 more) (condition_left f u m k.2.left_kind (hang u h))

    pub none_everywhere : Lives f set m → NoneOn (f.right s) m → ((u : ℕ) → IsHanging f set s u → Condition f u m) → NoneEverywhere m
    none_everywhere l off hang i = elim (decide_has set i) [
      | inr out ↦ outside f set m i l out
      | inl here ↦ elim (decide_has (f.right s) i) [
        | inl p ↦ off i p
        | inr out ↦ let k = covered f ok set s place i here out in none_hanging off hang (suc i) k.0 i k.1 k.2 (omega arith) i k.2
      ]
    ]

    pub none_meets : NoneEverywhere m → (u : ℕ) → IsHanging f set s u → Condition f u m
    none_meets empty u h =
        let k = hangs_on f ok set s place u h in
        left_condition f u m k.2.left_kind (inr (
          λ i p. empty i,
          λ x row. k.2.void (both m x) (λ i p.
              both_right m x i (empty i) ∙ outside f (f.right u) x i row.lives (λ q. k.2.off i q p)),
        ))

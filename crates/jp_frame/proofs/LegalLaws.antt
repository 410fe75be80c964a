-- What follows from the conditions of a frame for joinable sets and for places of a step by a join.
use Rattle.std.proofs.Common.{◌≡◌, ℕ, zero, suc, ◌+◌, ◌<◌, ◌⊎◌, inl, inr, sym, ◌∙◌, subst, ap, refl, arith}
use Rattle.std.proofs.lemmas.Bool.{cases_eq, cases_lt}
use Rattle.jp_base.specs.Sets.{Has, Within, Meets, IsLeastMember}
use Rattle.jp_base.proofs.SetLemmas.{within_le}
use Rattle.jp_frame.specs.Frames.{Frame, IsFrame, Left, Apart, IsInside, IsUnder, Covers, takes_in, rejects, Nested, apart, within, around}
use Rattle.jp_frame.specs.Legal.{IsDone, IsOuter, Stands, misses, lies_in, is_done, hangs, IsJoinable, IsByPlace, IsHanging, HangsOn, IsActive}
use Rattle.jp_frame.proofs.Sets.{Decision, decide_has, decide_within, Search, found, none, search_below, least_of, within_lt}

pub decide_less : (a b : ℕ) → Decision (a < b)
decide_less a b = elim (cases_lt a b) [ inl p ↦ inl p | inr q ↦ inr (λ h. omega (arith, q, h)) ]

pub decide_done : (f : Frame) (set s : ℕ) → Decision (IsDone f set s)
decide_done f set s = go (decide_less s f.joins) (decide_within (f.left s) set) (decide_within (f.right s) set)
  where
    go : Decision (s < f.joins) → Decision (Within (f.left s) set) → Decision (Within (f.right s) set) → Decision (IsDone f set s)
    go (inl j) (inl l) (inl r) = inl (record { join = j; left = l; right = r })
    go (inr n) l r = inr (λ d. n d.join)
    go (inl j) (inr n) r = inr (λ d. n d.left)
    go (inl j) (inl l) (inr n) = inr (λ d. n d.right)

pub decide_inside : (f : Frame) (u t : ℕ) → Decision (IsInside f u t)
decide_inside f u t = go (cases_eq u t) (decide_within (f.left u) (f.right t)) (decide_within (f.right u) (f.right t))
  where
    go : Decision (u ≡ t) → Decision (Within (f.left u) (f.right t)) → Decision (Within (f.right u) (f.right t)) → Decision (IsInside f u t)
    go (inr n) (inl l) (inl r) = inl (record { other = n; left = l; right = r })
    go (inl e) l r = inr (λ d. d.other e)
    go (inr n) (inr m) r = inr (λ d. m d.left)
    go (inr n) (inl l) (inr m) = inr (λ d. m d.right)

module _ (f : Frame) (ok : IsFrame f) where
  -- no item to the left of a join lies in its right set
  pub left_outside : (s i : ℕ) → s < f.joins → Has (f.left s) i → ¬ Has (f.right s) i
  left_outside s i join l r = omega (arith, ok.in_order s i i join l r)

  pub left_not_within : (s t : ℕ) → s < f.joins → Within (f.left s) (f.right t) → Within (f.right t) (f.right s) → ⊥
  left_not_within s t join l w = let some = ok.left_some s join in left_outside s some.0 join some.1 (w some.0 (l some.0 some.1))

  pub own_not_done : (s : ℕ) → IsDone f (f.right s) s → ⊥
  own_not_done s d = left_not_within s s d.join d.left (λ i h. h)

  -- the right set of a join is a smaller number than each set in which the join is done
  pub right_smaller : (set s : ℕ) → IsDone f set s → f.right s < set
  right_smaller set s d = let some = ok.left_some s d.join in within_lt (f.right s) set some.0 d.right (d.left some.0 some.1) (left_outside s some.0 d.join some.1)

  pub inside_from : (s t : ℕ) → s < f.joins → t < f.joins → (s ≡ t → ⊥) → Within (f.right s) (f.right t) → IsInside f s t
  inside_from s t join_s join_t other w = record { other = other; left = ok.left_within s t join_s join_t other w; right = w }

  -- two joins with one right set are one join
  pub same_right : (s t : ℕ) → s < f.joins → t < f.joins → Within (f.right s) (f.right t) → Within (f.right t) (f.right s) → s ≡ t
  same_right s t join_s join_t w v = elim (cases_eq s t) [ inl e ↦ e | inr n ↦ absurd (left_not_within s t join_s (ok.left_within s t join_s join_t n w) v) ]

  pub inside_smaller : (s t : ℕ) → s < f.joins → IsInside f s t → f.right s < f.right t
  inside_smaller s t join i = let some = ok.left_some s join in within_lt (f.right s) (f.right t) some.0 i.right (i.left some.0 some.1) (left_outside s some.0 join some.1)

  pub inside_trans : (s t w : ℕ) → s < f.joins → t < f.joins → IsInside f s t → IsInside f t w → IsInside f s w
  inside_trans s t w join_s join_t i k =
      let first = inside_smaller s t join_s i in
      let second = inside_smaller t w join_t k in
      record {
        other = λ e. omega (arith, first, second, ap f.right e);
        left = λ x h. k.right x (i.left x h);
        right = λ x h. k.right x (i.right x h);
      }

  -- what is inside a join that is done is done
  pub inside_done : (set u t : ℕ) → u < f.joins → IsInside f u t → Within (f.right t) set → IsDone f set u
  inside_done set u t join i w = record { join = join; left = λ x h. w x (i.left x h); right = λ x h. w x (i.right x h) }

  -- the joins that are done in the right set of s are those inside s
  pub done_inside : (u s : ℕ) → IsDone f (f.right s) u → IsInside f u s
  done_inside u s d = record { other = λ e. own_not_done s (subst (IsDone f (f.right s)) e d); left = d.left; right = d.right }

  pub right_apart : (set u t : ℕ) → IsOuter f set u → IsOuter f set t → (u ≡ t → ⊥) → Apart (f.right u) (f.right t)
  right_apart set u t a b other = go (ok.nested u t a.done.join b.done.join other)
    where
      go : Nested (f.right u) (f.right t) → Apart (f.right u) (f.right t)
      go (apart h) = h
      go (within w) = absurd (a.free t b.done (inside_from u t a.done.join b.done.join other w))
      go (around w) = absurd (b.free u a.done (inside_from t u b.done.join a.done.join (λ e. other (sym e)) w))

  -- each done join is outer or inside an outer one
  over : (n set s : ℕ) → set < n + f.right s → IsDone f set s → (u : ℕ) × IsOuter f set u × Within (f.right s) (f.right u)
  over zero set s low d = absurd (omega (arith, low, within_le (f.right s) set d.right))
  over (suc n) set s low d = go (search_below (λ t. IsDone f set t × IsInside f s t) decide f.joins) (over n set)
    where
      decide : (t : ℕ) → Decision (IsDone f set t × IsInside f s t)
      decide t = elim (decide_done f set t) [ inl p ↦ elim (decide_inside f s t) [ inl q ↦ inl (p, q) | inr m ↦ inr (λ h. m h.1) ] | inr m ↦ inr (λ h. m h.0) ]

      go : Search (λ t. IsDone f set t × IsInside f s t) f.joins → ((t : ℕ) → set < n + f.right t → IsDone f set t → (u : ℕ) × IsOuter f set u × Within (f.right t) (f.right u)) → (u : ℕ) × IsOuter f set u × Within (f.right s) (f.right u)
      go (found t low_t here least) more =
          let rises = inside_smaller s t d.join here.1 in
          let h = more t (omega (arith, low, rises)) here.0 in
          (h.0, h.1, λ i p. h.2 i (here.1.right i p))
      go (none fails) more = (s, record { done = d; free = λ t done inside. fails t done.join (done, inside) }, λ i p. p)

  pub outer_over : (set s : ℕ) → IsDone f set s → (u : ℕ) × IsOuter f set u × Within (f.right s) (f.right u)
  outer_over set s d = let some = ok.right_some s d.join in over (suc set) set s (omega arith) d

  pub least_item : (set s i : ℕ) → IsJoinable f set → s < f.joins → Meets set (f.right s) → (IsDone f set s → ⊥) → IsLeastMember set i → Has (f.right s) i
  least_item set s i joinable join meets not_done least = go (joinable.stands s join)
    where
      go : Stands f set s → Has (f.right s) i
      go (misses h) = absurd (h meets.0 meets.1 meets.2)
      go (lies_in w) = w i least.member
      go (is_done d) = absurd (not_done d)
      go (hangs kind off on) = elim (decide_has (f.right s) i) [
        | inl p ↦ p
        | inr n ↦
            let h = on i least.member n in
            let some = ok.left_some h.0 h.1.join in
            absurd (least.least some.0 (ok.in_order h.0 some.0 i h.1.join some.1 h.4) (h.1.left some.0 some.1))
      ]

  module _ (set s : ℕ) (place : IsByPlace f set s) where
    pub not_done : IsDone f set s → ⊥
    not_done d = let some = ok.left_some s place.join in place.misses some.0 some.1 (d.left some.0 some.1)

    pub right_meets : Meets set (f.right s)
    right_meets = let some = ok.right_some s place.join in (some.0, place.within some.0 some.1, some.1)

    pub begins_right : (i : ℕ) → IsLeastMember set i → Has (f.right s) i
    begins_right i least = least_item set s i place.joinable place.join right_meets not_done least

    pub other_join : (u : ℕ) → IsDone f set u → u ≡ s → ⊥
    other_join u d e = not_done (subst (IsDone f set) e d)

    -- a done join that isn't inside s keeps apart from s
    pub off_right : (u : ℕ) → IsDone f set u → (IsInside f u s → ⊥) → Apart (f.right u) (f.right s)
    off_right u d free = go (ok.nested u s d.join place.join (other_join u d))
      where
        go : Nested (f.right u) (f.right s) → Apart (f.right u) (f.right s)
        go (apart h) = h
        go (within w) = absurd (free (inside_from u s d.join place.join (other_join u d) w))
        go (around w) =
            let some = ok.left_some s place.join in
            let l = ok.left_within s u place.join d.join (λ e. other_join u d (sym e)) w in
            absurd (place.misses some.0 some.1 (d.right some.0 (l some.0 some.1)))

    -- each item outside the right set of s lies in that of a hanging join
    pub covered : (i : ℕ) → Has set i → ¬ Has (f.right s) i → (u : ℕ) × IsHanging f set s u × Has (f.right u) i
    covered i here out = go (place.joinable.stands s place.join)
      where
        go : Stands f set s → (u : ℕ) × IsHanging f set s u × Has (f.right u) i
        go (misses h) = absurd (h right_meets.0 right_meets.1 right_meets.2)
        go (lies_in w) = absurd (out (w i here))
        go (is_done d) = absurd (not_done d)
        go (hangs kind off on) =
            let h = on i here out in
            let t = outer_over set h.0 h.1 in
            (t.0, record { outer = t.1; free = λ inside. out (inside.right i (t.2 i h.4)) }, t.2 i h.4)

    pub only_right : (f.kind s ≡ Left → ⊥) → Within set (f.right s)
    only_right not_left i here = elim (decide_has (f.right s) i) [ inl p ↦ p | inr out ↦ absurd (go out (place.joinable.stands s place.join)) ]
      where
        go : ¬ Has (f.right s) i → Stands f set s → ⊥
        go out (misses h) = h right_meets.0 right_meets.1 right_meets.2
        go out (lies_in w) = out (w i here)
        go out (is_done d) = not_done d
        go out (hangs kind off on) = not_left kind

    pub none_hangs : (f.kind s ≡ Left → ⊥) → (u : ℕ) → IsHanging f set s u → ⊥
    none_hangs not_left u h = h.free (record { other = other_join u h.outer.done; left = λ i p. only_right not_left i (h.outer.done.left i p); right = λ i p. only_right not_left i (h.outer.done.right i p) })

    pub hanging_off : (u : ℕ) → IsHanging f set s u → Apart (f.right u) (f.right s)
    hanging_off u h = off_right u h.outer.done h.free

    -- the left items of a hanging join lie in s or in a hanging join that begins before it
    pub left_lies : (u j : ℕ) → IsHanging f set s u → Has (f.left u) j → Has (f.right s) j ⊎ ((t : ℕ) × IsHanging f set s t × Has (f.right t) j)
    left_lies u j h p = elim (decide_has (f.right s) j) [ inl q ↦ inl q | inr n ↦ inr (covered j (h.outer.done.left j p) n) ]

    hangs_at : (u j t : ℕ) → IsHanging f set s u → IsLeastMember (f.left u) j → (t ≡ s) ⊎ IsHanging f set s t → Has (f.right t) j → HangsOn f set s u t j
    hangs_at u j t h least base item = from (ok.covers u t join_u join_t other (j, least.member, item) free)
      where
        join_u : u < f.joins
        join_u = h.outer.done.join

        join_t : t < f.joins
        join_t = elim base [ inl e ↦ subst (λ x. x < f.joins) (sym e) place.join | inr k ↦ k.outer.done.join ]

        other : u ≡ t → ⊥
        other e = left_outside u j join_u least.member (subst (λ x. Has (f.right x) j) (sym e) item)

        free : IsInside f u t → ⊥
        free i = elim base [ inl e ↦ h.free (subst (IsInside f u) e i) | inr k ↦ h.outer.free t k.outer.done i ]

        before : (i : ℕ) → Has (f.right u) i → j < i
        before i p = ok.in_order u j i join_u least.member p

        off : Apart (f.right u) (f.right t)
        off = elim base [ inl e ↦ subst (λ x. Apart (f.right u) (f.right x)) (sym e) (hanging_off u h) | inr k ↦ right_apart set u t h.outer k.outer other ]

        -- L(t) has an item below j, or it lies in the set
        not_held : Within (f.left t) (f.left u) → ⊥
        not_held w = elim base [
          | inl e ↦ let some = ok.left_some s place.join in place.misses some.0 some.1 (h.outer.done.left some.0 (subst (λ x. Within (f.left x) (f.left u)) e w some.0 some.1))
          | inr k ↦ let some = ok.left_some t join_t in least.least some.0 (ok.in_order t some.0 j join_t some.1 item) (w some.0 some.1)
        ]

        from : Covers f u t → HangsOn f set s u t j
        from (takes_in l r) = absurd (not_held l)
        from (rejects kind void) = record { left_kind = kind; base = base; item = item; before = before; off = off; void = void }

    pub hangs_on : (u : ℕ) → IsHanging f set s u → (t : ℕ) × (j : ℕ) × HangsOn f set s u t j
    hangs_on u h = go (least_of (f.left u) (ok.left_some u h.outer.done.join))
      where
        go : (j : ℕ) × IsLeastMember (f.left u) j → (t : ℕ) × (j : ℕ) × HangsOn f set s u t j
        go l = elim (left_lies u l.0 h l.1.member) [
          | inl p ↦ (s, l.0, hangs_at u l.0 s h l.1 (inl refl) p)
          | inr k ↦ (k.0, l.0, hangs_at u l.0 k.0 h l.1 (inr k.1) k.2)
        ]

    -- a clause whose needs lie in the set stands in the region of s, or its region is done there
    no_needs : (c : ℕ) → c < f.clauses → Within (f.needs c) set → ((t : ℕ) → (t ≡ s) ⊎ IsHanging f set s t → Meets (f.right t) (f.needs c) → IsUnder f t (f.region c)) → ⊥
    no_needs c clause w under = go (least_of (f.needs c) (ok.needs_some c clause))
      where
        go : (j : ℕ) × IsLeastMember (f.needs c) j → ⊥
        go l = elim (decide_has (f.right s) l.0) [
          | inl p ↦
              let meets : Meets (f.right s) (f.needs c) = (l.0, p, l.1.member) in
              let closed = ok.needs_closed c s clause place.join (under s (inl refl) meets) meets in
              let some = ok.left_some s place.join in
              place.misses some.0 some.1 (w some.0 (closed.0 some.0 some.1))
          | inr n ↦
              let k = covered l.0 (w l.0 l.1.member) n in
              let join = k.1.outer.done.join in
              let meets : Meets (f.right k.0) (f.needs c) = (l.0, k.2, l.1.member) in
              let closed = ok.needs_closed c k.0 clause join (under k.0 (inr k.1) meets) meets in
              let some = ok.left_some k.0 join in
              l.1.least some.0 (ok.in_order k.0 some.0 l.0 join some.1 k.2) (closed.0 some.0 some.1)
        ]

    pub region_here : (c : ℕ) → c < f.clauses → Within (f.needs c) set → (f.region c ≡ suc s) ⊎ ((r : ℕ) × (f.region c ≡ suc r) × IsDone f set r)
    region_here c clause w = go (f.region c) refl
      where
        open_at : (r : ℕ) → f.region c ≡ suc r → (r ≡ s → ⊥) → (IsDone f set r → ⊥) → ⊥
        open_at r e other undone = no_needs c clause w (λ t base meets. subst (IsUnder f t) (sym e) (inside t base meets))
          where
            join : r < f.joins
            join = ok.region_join c r clause e

            in_r : Within (f.needs c) (f.right r)
            in_r = ok.needs_within c r clause e

            -- the least item of the set lies in both right sets
            meets_r : Meets (f.right r) (f.right s)
            meets_r =
                let some = ok.needs_some c clause in
                let first = least_of set (some.0, w some.0 some.1) in
                (first.0, least_item set r first.0 place.joinable join (some.0, w some.0 some.1, in_r some.0 some.1) undone first.1, begins_right first.0 first.1)

            inside_s : IsInside f s r
            inside_s = at_s (ok.nested r s join place.join other)
              where
                at_s : Nested (f.right r) (f.right s) → IsInside f s r
                at_s (apart h) = absurd (h meets_r.0 meets_r.1 meets_r.2)
                at_s (within v) = absurd (undone (inside_done set r s join (inside_from r s join place.join other v) place.within))
                at_s (around v) = inside_from s r place.join join (λ e. other (sym e)) v

            inside : (t : ℕ) → (t ≡ s) ⊎ IsHanging f set s t → Meets (f.right t) (f.needs c) → IsInside f t r
            inside t (inl e) meets = subst (λ x. IsInside f x r) (sym e) inside_s
            inside t (inr k) meets = at_t (ok.nested t r join_t join apart_t)
              where
                join_t : t < f.joins
                join_t = k.outer.done.join

                apart_t : t ≡ r → ⊥
                apart_t e = undone (subst (IsDone f set) e k.outer.done)

                at_t : Nested (f.right t) (f.right r) → IsInside f t r
                at_t (apart h) = absurd (h meets.0 meets.1 (in_r meets.0 meets.2))
                at_t (within v) = inside_from t r join_t join apart_t v
                at_t (around v) = absurd (undone (inside_done set r t join (inside_from r t join join_t (λ e. apart_t (sym e)) v) k.outer.done.right))

        go : (n : ℕ) → f.region c ≡ n → (f.region c ≡ suc s) ⊎ ((r : ℕ) × (f.region c ≡ suc r) × IsDone f set r)
        go zero e = absurd (no_needs c clause w (λ t base meets. subst (IsUnder f t) (sym e) tt))
        go (suc r) e = elim (cases_eq r s) [
          | inl same ↦ inl (e ∙ ap suc same)
          | inr other ↦ elim (decide_done f set r) [ inl d ↦ inr (r, e, d) | inr undone ↦ absurd (open_at r e other undone) ]
        ]

    -- the active clauses are those of the region of s, in the set and in the right set of s alike
    pub active_region : (c : ℕ) → IsActive f set c → f.region c ≡ suc s
    active_region c a = elim (region_here c a.clause a.within) [ inl e ↦ e | inr h ↦ absurd (a.open_region h.0 h.1 h.2) ]

    pub active_in_right : (c : ℕ) → IsActive f (f.right s) c → f.region c ≡ suc s
    active_in_right c a = elim (region_here c a.clause (λ i p. place.within i (a.within i p))) [ inl e ↦ e | inr h ↦ absurd (go h.0 h.1 h.2) ]
      where
        go : (r : ℕ) → f.region c ≡ suc r → IsDone f set r → ⊥
        go r e d =
            let some = ok.needs_some c a.clause in
            let off = off_right r d (λ i. a.open_region r e (inside_done (f.right s) r s d.join i (λ x p. p))) in
            off some.0 (ok.needs_within c r a.clause e some.0 some.1) (a.within some.0 some.1)

    pub region_active : (c : ℕ) → c < f.clauses → f.region c ≡ suc s → IsActive f set c × IsActive f (f.right s) c
    region_active c clause e =
        let w = ok.needs_within c s clause e in (
          record { clause = clause; within = λ i p. place.within i (w i p); open_region = λ r q d. not_done (subst (IsDone f set) (same r q) d) },
          record { clause = clause; within = w; open_region = λ r q d. own_not_done s (subst (IsDone f (f.right s)) (same r q) d) },
        )
      where
        same : (r : ℕ) → f.region c ≡ suc r → r ≡ s
        same r q = omega (arith, q, e)

  -- the right set of a join is joinable, and a place of a step by it
  pub right_place : (s : ℕ) → s < f.joins → IsByPlace f (f.right s) s
  right_place s join = record {
    join = join;
    joinable = record { some = ok.right_some s join; stands = stands };
    within = λ i p. p;
    misses = λ i p q. left_outside s i join p q;
  }
    where
      stands : (w : ℕ) → w < f.joins → Stands f (f.right s) w
      stands w join_w = elim (cases_eq w s) [ inl e ↦ lies_in (λ i p. subst (λ x. Has (f.right x) i) (sym e) p) | inr n ↦ go n (ok.nested w s join_w join n) ]
        where
          go : (w ≡ s → ⊥) → Nested (f.right w) (f.right s) → Stands f (f.right s) w
          go n (apart h) = misses (λ i p q. h i q p)
          go n (within v) = is_done (inside_done (f.right s) w s join_w (inside_from w s join_w join n v) (λ i p. p))
          go n (around v) = lies_in v

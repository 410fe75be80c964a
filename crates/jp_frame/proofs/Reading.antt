-- What the tests of a row set say.
use Rattle.std.proofs.Common.{◌≡◌, ◌∙◌, ap, ap₂, sym, refl, ℕ, suc, zero, ◌<◌, ◌⊎◌, ◌↔◌, inl, inr, Bool, true, false, not, ◌&&◌, ◌||◌, filter, length, arith, Option, Some, None, nat_eq, is_some}
use mathlib.Core.Path.{fun_ext}
use Rattle.std.specs.Prelude.{bit_and}
use Rattle.std.proofs.lemmas.Bool.{cases_eq, cases_lt, cases_Bool, eq-eqb, ne_eqb, eqb-true, and_parts, and_from, and_left, or_cases, or_left, or_right, not-true, not_from_false, false_from_ne_true, both_ways}
use Rattle.jp_base.specs.Sets.{Has, Within}
use Rattle.jp_base.proofs.SetLemmas.{within_and}
use Rattle.jp_frame.specs.Maps.{Map, at, has, NoneOn, part, all_below, any_below}
use Rattle.jp_frame.specs.Frames.{Frame, IsFrame, Kind, Left, Semi, Anti, IsInside}
use Rattle.jp_frame.specs.Legal.{IsDone, IsOuter, IsActive}
use Rattle.jp_frame.specs.Rows.{maps, is_within, done, inside, holds_inside, outer, region_done, active, may_be_none_by, is_none_at, is_none_on, meets_with, has_match, condition_of, condition, item_met, join_met, clause_met, is_row_within, is_row, InRowSet, HasNoMatch, HasMatch, ConditionOf, IsRow}
use Rattle.jp_frame.proofs.Sets.{decide_has}
use Rattle.jp_facts.proofs.Members.{In, in_filter, from_filter, any_in, from_any, any_none, none_any}
use Rattle.jp_frame.proofs.MapLaws.{has_true, has_false, past_end, none_or_some, in_maps, from_maps}
use Rattle.jp_frame.proofs.LegalLaws.{right_smaller}

pub all_at : (n : ℕ) (test : ℕ → Bool) (k : ℕ) → all_below n test ≡ true → k < n → test k ≡ true
all_at zero test k e low = absurd (omega arith)
all_at (suc n) test k e low =
    let parts = and_parts (test n) (all_below n test) e in
    elim (cases_eq k n) [ inl same ↦ ap test same ∙ parts.0 | inr other ↦ all_at n test k parts.1 (omega (arith, low, other)) ]

pub all_from : (n : ℕ) (test : ℕ → Bool) → ((k : ℕ) → k < n → test k ≡ true) → all_below n test ≡ true
all_from zero test h = refl
all_from (suc n) test h = and_from (test n) (all_below n test) (h n (omega arith)) (all_from n test (λ k low. h k (omega arith)))

pub all_same : (n : ℕ) (test other : ℕ → Bool) → ((k : ℕ) → k < n → test k ≡ other k) → all_below n test ≡ all_below n other
all_same zero test other h = refl
all_same (suc n) test other h = ap₂ ◌&&◌ (h n (omega arith)) (all_same n test other (λ k low. h k (omega arith)))

pub any_from : (n : ℕ) (test : ℕ → Bool) (k : ℕ) → k < n → test k ≡ true → any_below n test ≡ true
any_from zero test k low e = absurd (omega arith)
any_from (suc n) test k low e = elim (cases_eq k n) [
  | inl same ↦ or_left (test n) (any_below n test) (ap test (sym same) ∙ e)
  | inr other ↦ or_right (test n) (any_below n test) (any_from n test k (omega (arith, low, other)) e)
]

pub any_at : (n : ℕ) (test : ℕ → Bool) → any_below n test ≡ true → (k : ℕ) × (k < n) × (test k ≡ true)
any_at zero test e = cc
any_at (suc n) test e = elim (or_cases (test n) (any_below n test) e) [ inl q ↦ (n, omega arith, q) | inr q ↦ let h = any_at n test q in (h.0, omega (arith, h.1), h.2) ]

-- an implication as a test
pub implies_at : (a b : Bool) → (not a || b) ≡ true → a ≡ true → b ≡ true
implies_at true b e h = e
implies_at false b e h = cc

pub implies_from : (a b : Bool) → (a ≡ true → b ≡ true) → (not a || b) ≡ true
implies_from true b h = h refl
implies_from false b h = refl

pub within_is : (a b : ℕ) → (is_within a b ≡ true) ↔ Within a b
within_is a b = (λ e. (within_and a b).0 (eqb-true (bit_and a b) a e), λ w. eq-eqb (bit_and a b) a ((within_and a b).1 w))

pub has_is : (set i : ℕ) → has set i ≡ true → Has set i
has_is set i e = elim (decide_has set i) [ inl p ↦ p | inr n ↦ absurd (both_ways (has set i) (has_false set i n) e) ]

module _ (f : Frame) where
  pub done_at : (set s : ℕ) → s < f.joins → done f set s ≡ true → IsDone f set s
  done_at set s join e =
      let parts = and_parts (is_within (f.left s) set) (is_within (f.right s) set) e in
      record { join = join; left = (within_is (f.left s) set).0 parts.0; right = (within_is (f.right s) set).0 parts.1 }

  pub done_from : (set s : ℕ) → IsDone f set s → done f set s ≡ true
  done_from set s d = and_from (is_within (f.left s) set) (is_within (f.right s) set) ((within_is (f.left s) set).1 d.left) ((within_is (f.right s) set).1 d.right)

  pub inside_at : (u t : ℕ) → inside f u t ≡ true → IsInside f u t
  inside_at u t e =
      let first = and_parts (not (nat_eq u t)) (is_within (f.left u) (f.right t) && is_within (f.right u) (f.right t)) e in
      let parts = and_parts (is_within (f.left u) (f.right t)) (is_within (f.right u) (f.right t)) first.1 in
      record {
        other = λ same. both_ways (nat_eq u t) (not-true (nat_eq u t) first.0) (eq-eqb u t same);
        left = (within_is (f.left u) (f.right t)).0 parts.0;
        right = (within_is (f.right u) (f.right t)).0 parts.1;
      }

  pub inside_from_parts : (u t : ℕ) → IsInside f u t → inside f u t ≡ true
  inside_from_parts u t i =
      and_from (not (nat_eq u t)) (is_within (f.left u) (f.right t) && is_within (f.right u) (f.right t)) (not_from_false (nat_eq u t) (ne_eqb u t i.other))
      (and_from (is_within (f.left u) (f.right t)) (is_within (f.right u) (f.right t)) ((within_is (f.left u) (f.right t)).1 i.left) ((within_is (f.right u) (f.right t)).1 i.right))

  pub outer_at : (set s : ℕ) → s < f.joins → outer f set s ≡ true → IsOuter f set s
  outer_at set s join e =
      let parts = and_parts (done f set s) (not (any_below f.joins (holds_inside f set s))) e in
      record {
        done = done_at set s join parts.0;
        free = λ t d i. both_ways (any_below f.joins (holds_inside f set s)) (not-true (any_below f.joins (holds_inside f set s)) parts.1)
            (any_from f.joins (holds_inside f set s) t d.join (and_from (done f set t) (inside f s t) (done_from set t d) (inside_from_parts s t i)));
      }

  pub outer_from : (set s : ℕ) → IsOuter f set s → outer f set s ≡ true
  outer_from set s o =
      and_from (done f set s) (not (any_below f.joins (holds_inside f set s))) (done_from set s o.done)
      (not_from_false (any_below f.joins (holds_inside f set s)) (false_from_ne_true (any_below f.joins (holds_inside f set s)) (λ e.
      let h = any_at f.joins (holds_inside f set s) e in
      let parts = and_parts (done f set h.0) (inside f s h.0) h.2 in
      o.free h.0 (done_at set h.0 h.1 parts.0) (inside_at s h.0 parts.1))))

  pub none_at : (set : ℕ) (m : Map) → is_none_on set m ≡ true → NoneOn set m
  none_at set m e i h = elim (cases_lt i (length m)) [ inl low ↦ go (at m i) refl (all_at (length m) (is_none_at set m) i e low) | inr high ↦ past_end m i high ]
    where
      go : (row : Option ℕ) → at m i ≡ row → not (has set i && is_some (at m i)) ≡ true → at m i ≡ None
      go None q t = q
      go (Some r) q t = absurd (both_ways (has set i && is_some (at m i)) (not-true (has set i && is_some (at m i)) t) (and_from (has set i) (is_some (at m i)) (has_true set i h) (ap is_some q)))

  pub none_from : (set : ℕ) (m : Map) → NoneOn set m → is_none_on set m ≡ true
  none_from set m h = all_from (length m) (is_none_at set m) (λ i low. elim (decide_has set i) [
    | inl p ↦ not_from_false (has set i && is_some (at m i)) (false_from_ne_true (has set i && is_some (at m i)) (λ e. let some = (and_parts (has set i) (is_some (at m i)) e).1 in both_ways (is_some (at m i)) (ap is_some (h i p)) some))
    | inr n ↦ not_from_false (has set i && is_some (at m i)) (and_left (has set i) (is_some (at m i)) (has_false set i n))
  ])

  -- two tests of members that agree give one condition
  condition_same : (row other : Map → Bool) (m : Map) (s : ℕ) → ((x : Map) → row x ≡ other x) → condition f row m s ≡ condition f other m s
  condition_same row other m s h = ap (λ (member : Map → Bool). condition f member m s) (fun_ext h)

  join_met_same : (set : ℕ) (row other : ℕ → Map → Bool) (m : Map) (s : ℕ) (b : Bool) → outer f set s ≡ b → (b ≡ true → (x : Map) → row (f.right s) x ≡ other (f.right s) x) → (not b || condition f (row (f.right s)) m s) ≡ (not b || condition f (other (f.right s)) m s)
  join_met_same set row other m s true e h = condition_same (row (f.right s)) (other (f.right s)) m s (h refl)
  join_met_same set row other m s false e h = refl

module _ (f : Frame) (ok : IsFrame f) where
  -- the bound of the recursion doesn't matter above the set
  pub same_fuel : (n k set : ℕ) (m : Map) → set < n → set < k → is_row_within n f set m ≡ is_row_within k f set m
  unfolding is_row_within
  same_fuel zero k set m low high = absurd (omega arith)
  same_fuel (suc n) zero set m low high = absurd (omega arith)
  same_fuel (suc n) (suc k) set m low high =
      ap (λ b. all_below f.items (item_met f set m) && (b && all_below f.clauses (clause_met f set m)))
      (all_same f.joins (join_met f (is_row_within n f) set m) (join_met f (is_row_within k f) set m) (λ s join.
      join_met_same f set (is_row_within n f) (is_row_within k f) m s (outer f set s) refl (λ e x.
      let smaller = right_smaller f ok set s (outer_at f set s join e).done in
      same_fuel n k (f.right s) x (omega (arith, low, smaller)) (omega (arith, high, smaller)))))

  row_within : (set s : ℕ) (x : Map) → IsDone f set s → is_row_within set f (f.right s) x ≡ is_row f (f.right s) x
  row_within set s x d = same_fuel set (suc (f.right s)) (f.right s) x (right_smaller f ok set s d) (omega arith)

  -- ---- the condition of a join

  pub match_at : (s : ℕ) (m : Map) → has_match f (is_row f (f.right s)) m s ≡ true → HasMatch f s m
  match_at s m e =
      let h = from_any (meets_with f s m) (filter (is_row f (f.right s)) (maps f (f.right s))) e in
      let k = from_filter (is_row f (f.right s)) h.0 (maps f (f.right s)) h.1 in
      (h.0, record { lives = from_maps f (f.right s) h.0 k.1; row = k.0 }, h.2)

  in_rows : (s : ℕ) (x : Map) → InRowSet f (f.right s) x → In x (filter (is_row f (f.right s)) (maps f (f.right s)))
  in_rows s x h = in_filter (is_row f (f.right s)) x (maps f (f.right s)) h.row (in_maps f (f.right s) x h.lives)

  pub match_from : (s : ℕ) (m : Map) → HasMatch f s m → has_match f (is_row f (f.right s)) m s ≡ true
  match_from s m h = any_in (meets_with f s m) h.0 (filter (is_row f (f.right s)) (maps f (f.right s))) (in_rows s h.0 h.1) h.2

  pub no_match_at : (s : ℕ) (m : Map) → has_match f (is_row f (f.right s)) m s ≡ false → HasNoMatch f s m
  no_match_at s m e x h = any_none (meets_with f s m) x (filter (is_row f (f.right s)) (maps f (f.right s))) e (in_rows s x h)

  pub no_match_from : (s : ℕ) (m : Map) → HasNoMatch f s m → has_match f (is_row f (f.right s)) m s ≡ false
  no_match_from s m h = none_any (meets_with f s m) (filter (is_row f (f.right s)) (maps f (f.right s))) (λ x p.
      let k = from_filter (is_row f (f.right s)) x (maps f (f.right s)) p in
      h x (record { lives = from_maps f (f.right s) x k.1; row = k.0 }))

  pub decide_match : (s : ℕ) (m : Map) → HasMatch f s m ⊎ HasNoMatch f s m
  decide_match s m = elim (cases_Bool (has_match f (is_row f (f.right s)) m s)) [ inl e ↦ inl (match_at s m e) | inr e ↦ inr (no_match_at s m e) ]

  condition_of_at : (k : Kind) (s : ℕ) (m : Map) → condition_of k (is_row f (f.right s) (part (f.right s) m) && f.on s m) (is_none_on (f.right s) m) (has_match f (is_row f (f.right s)) m s) ≡ true → ConditionOf k f s m
  condition_of_at Left s m e = elim (or_cases (is_row f (f.right s) (part (f.right s) m) && f.on s m) (is_none_on (f.right s) m && not (has_match f (is_row f (f.right s)) m s)) e) [
    | inl q ↦ inl (and_parts (is_row f (f.right s) (part (f.right s) m)) (f.on s m) q)
    | inr q ↦ let parts = and_parts (is_none_on (f.right s) m) (not (has_match f (is_row f (f.right s)) m s)) q in inr (none_at f (f.right s) m parts.0, no_match_at s m (not-true (has_match f (is_row f (f.right s)) m s) parts.1))
  ]
  condition_of_at Semi s m e = let parts = and_parts (is_none_on (f.right s) m) (has_match f (is_row f (f.right s)) m s) e in (none_at f (f.right s) m parts.0, match_at s m parts.1)
  condition_of_at Anti s m e = let parts = and_parts (is_none_on (f.right s) m) (not (has_match f (is_row f (f.right s)) m s)) e in (none_at f (f.right s) m parts.0, no_match_at s m (not-true (has_match f (is_row f (f.right s)) m s) parts.1))

  condition_of_from : (k : Kind) (s : ℕ) (m : Map) → ConditionOf k f s m → condition_of k (is_row f (f.right s) (part (f.right s) m) && f.on s m) (is_none_on (f.right s) m) (has_match f (is_row f (f.right s)) m s) ≡ true
  condition_of_from Left s m (inl h) = or_left (is_row f (f.right s) (part (f.right s) m) && f.on s m) (is_none_on (f.right s) m && not (has_match f (is_row f (f.right s)) m s)) (and_from (is_row f (f.right s) (part (f.right s) m)) (f.on s m) h.0 h.1)
  condition_of_from Left s m (inr h) =
      or_right (is_row f (f.right s) (part (f.right s) m) && f.on s m) (is_none_on (f.right s) m && not (has_match f (is_row f (f.right s)) m s))
      (and_from (is_none_on (f.right s) m) (not (has_match f (is_row f (f.right s)) m s)) (none_from f (f.right s) m h.0) (not_from_false (has_match f (is_row f (f.right s)) m s) (no_match_from s m h.1)))
  condition_of_from Semi s m h = and_from (is_none_on (f.right s) m) (has_match f (is_row f (f.right s)) m s) (none_from f (f.right s) m h.0) (match_from s m h.1)
  condition_of_from Anti s m h = and_from (is_none_on (f.right s) m) (not (has_match f (is_row f (f.right s)) m s)) (none_from f (f.right s) m h.0) (not_from_false (has_match f (is_row f (f.right s)) m s) (no_match_from s m h.1))

  -- ---- clauses

  region_done_at : (set c n : ℕ) → c < f.clauses → f.region c ≡ n → region_done f set n ≡ true → (r : ℕ) × (f.region c ≡ suc r) × IsDone f set r
  region_done_at set c zero clause e t = cc
  region_done_at set c (suc r) clause e t = (r, e, done_at f set r (ok.region_join c r clause e) t)

  -- the region of a clause isn't done in a set
  pub region_open_at : (set c : ℕ) → not (region_done f set (f.region c)) ≡ true → (r : ℕ) → f.region c ≡ suc r → IsDone f set r → ⊥
  region_open_at set c e r q d = both_ways (region_done f set (f.region c)) (not-true (region_done f set (f.region c)) e) (ap (region_done f set) q ∙ done_from f set r d)

  pub region_open_from : (set c : ℕ) → c < f.clauses → ((r : ℕ) → f.region c ≡ suc r → IsDone f set r → ⊥) → not (region_done f set (f.region c)) ≡ true
  region_open_from set c clause h =
      not_from_false (region_done f set (f.region c)) (false_from_ne_true (region_done f set (f.region c)) (λ e. let k = region_done_at set c (f.region c) clause refl e in h k.0 k.1 k.2))

  pub active_at : (set c : ℕ) → c < f.clauses → active f set c ≡ true → IsActive f set c
  active_at set c clause e =
      let parts = and_parts (is_within (f.needs c) set) (not (region_done f set (f.region c))) e in
      record { clause = clause; within = (within_is (f.needs c) set).0 parts.0; open_region = region_open_at set c parts.1 }

  pub active_from : (set c : ℕ) → IsActive f set c → active f set c ≡ true
  active_from set c a =
      and_from (is_within (f.needs c) set) (not (region_done f set (f.region c))) ((within_is (f.needs c) set).1 a.within) (region_open_from set c a.clause a.open_region)

  -- ---- the row set

  item_at : (set : ℕ) (m : Map) (i : ℕ) → item_met f set m i ≡ true → Has set i → ((u : ℕ) → IsDone f set u → ¬ Has (f.right u) i) → at m i ≡ None → ⊥
  item_at set m i e h free none =
      elim (or_cases (any_below f.joins (may_be_none_by f set i)) (is_some (at m i)) (implies_at (has set i) (any_below f.joins (may_be_none_by f set i) || is_some (at m i)) e (has_true set i h))) [
        | inl q ↦
            let k = any_at f.joins (may_be_none_by f set i) q in
            let parts = and_parts (done f set k.0) (has (f.right k.0) i) k.2 in
            free k.0 (done_at f set k.0 k.1 parts.0) (has_is (f.right k.0) i parts.1)
        | inr q ↦ both_ways (is_some (at m i)) (ap is_some none) q
      ]

  item_from : (set : ℕ) (m : Map) (i : ℕ) → (Has set i → ((u : ℕ) → IsDone f set u → ¬ Has (f.right u) i) → at m i ≡ None → ⊥) → item_met f set m i ≡ true
  item_from set m i h = implies_from (has set i) (any_below f.joins (may_be_none_by f set i) || is_some (at m i)) (λ p. go (has_is set i p) (cases_Bool (any_below f.joins (may_be_none_by f set i))))
    where
      go : Has set i → (any_below f.joins (may_be_none_by f set i) ≡ true) ⊎ (any_below f.joins (may_be_none_by f set i) ≡ false) → (any_below f.joins (may_be_none_by f set i) || is_some (at m i)) ≡ true
      go p (inl e) = or_left (any_below f.joins (may_be_none_by f set i)) (is_some (at m i)) e
      go p (inr e) = or_right (any_below f.joins (may_be_none_by f set i)) (is_some (at m i)) (elim (none_or_some (at m i)) [
        | inl none ↦ absurd (h p (λ u d q. both_ways (any_below f.joins (may_be_none_by f set i)) e (any_from f.joins (may_be_none_by f set i) u d.join (and_from (done f set u) (has (f.right u) i) (done_from f set u d) (has_true (f.right u) i q)))) none)
        | inr some ↦ ap is_some some.1
      ])

  pub row_at : (set : ℕ) (m : Map) → is_row f set m ≡ true → IsRow f set m
  unfolding is_row_within
  row_at set m e =
      let first = and_parts (all_below f.items (item_met f set m)) (all_below f.joins (join_met f (is_row_within set f) set m) && all_below f.clauses (clause_met f set m)) e in
      let rest = and_parts (all_below f.joins (join_met f (is_row_within set f) set m)) (all_below f.clauses (clause_met f set m)) first.1 in
      record {
        items = λ i low. item_at set m i (all_at f.items (item_met f set m) i first.0 low);
        joins = λ s o.
            let met = implies_at (outer f set s) (condition f (is_row_within set f (f.right s)) m s) (all_at f.joins (join_met f (is_row_within set f) set m) s rest.0 o.done.join) (outer_from f set s o) in
            condition_of_at (f.kind s) s m (condition_same f (is_row f (f.right s)) (is_row_within set f (f.right s)) m s (λ x. sym (row_within set s x o.done)) ∙ met);
        clauses = λ c a. implies_at (active f set c) (f.holds c m) (all_at f.clauses (clause_met f set m) c rest.1 a.clause) (active_from set c a);
      }

  pub row_from : (set : ℕ) (m : Map) → IsRow f set m → is_row f set m ≡ true
  unfolding is_row_within
  row_from set m r =
      and_from (all_below f.items (item_met f set m)) (all_below f.joins (join_met f (is_row_within set f) set m) && all_below f.clauses (clause_met f set m))
      (all_from f.items (item_met f set m) (λ i low. item_from set m i (r.items i low)))
      (and_from (all_below f.joins (join_met f (is_row_within set f) set m)) (all_below f.clauses (clause_met f set m))
      (all_from f.joins (join_met f (is_row_within set f) set m) (λ s join. implies_from (outer f set s) (condition f (is_row_within set f (f.right s)) m s) (λ e.
      let o = outer_at f set s join e in
      condition_same f (is_row_within set f (f.right s)) (is_row f (f.right s)) m s (λ x. row_within set s x o.done) ∙ condition_of_from (f.kind s) s m (r.joins s o))))
      (all_from f.clauses (clause_met f set m) (λ c clause. implies_from (active f set c) (f.holds c m) (λ e. r.clauses c (active_at set c clause e)))))

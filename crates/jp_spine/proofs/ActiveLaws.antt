-- The clauses that are active in a union are those of its parts and those that are due; so a step's list is the filtered
-- list of all combinations.
use Rattle.std.proofs.Common.{◌≡◌, ◌∙◌, ap, ap₂, sym, subst, refl, ℕ, ◌⊎◌, ◌↔◌, inl, inr, Bool, true, false, ◌&&◌, cond, List, [], ◌∷◌, ◌++◌, map, filter}
use Rattle.std.specs.Prelude.{bit_or}
use Rattle.std.specs.List.{flat_map}
use Rattle.std.proofs.lemmas.Bool.{and_parts, and_from}
use Rattle.std.proofs.lemmas.List.Elements.{filter-append}
use Rattle.jp_base.specs.Sets.{Has, Within}
use Rattle.jp_base.proofs.MaskAlgebra.{in_left, in_right}
use Rattle.jp_facts.proofs.Members.{In}
use Rattle.jp_frame.specs.Maps.{Map, Agree, both, all_below}
use Rattle.jp_frame.specs.Frames.{Frame, IsFrame}
use Rattle.jp_frame.specs.Legal.{IsDone, IsInnerStep, IsStepBy, IsByPlace, IsActive}
use Rattle.jp_frame.specs.Methods.{AllActive, matches}
use Rattle.jp_frame.specs.Rows.{active, clause_met}
use Rattle.jp_frame.specs.Steps.{IsDue, AllDue, due, due_met, step_test}
use Rattle.jp_frame.proofs.EnoughLaws.{due_at, due_from}
use Rattle.jp_frame.proofs.LegalLaws.{region_here}
use Rattle.jp_frame.proofs.MapLaws.{both_left, both_right}
use Rattle.jp_frame.proofs.Reading.{all_at, all_from, implies_at, implies_from, active_at, active_from}
use Rattle.jp_frame.proofs.Sets.{decide_within}
use Rattle.jp_framed.specs.Environments.{LiesOn}

pub same_truth : (a b : Bool) → (a ≡ true → b ≡ true) → (b ≡ true → a ≡ true) → a ≡ b
same_truth true b h k = sym (h refl)
same_truth false true h k = k refl
same_truth false false h k = refl

abbrev pub active_test : Frame → ℕ → Map → Bool
active_test f set m = all_below f.clauses (clause_met f set m)

module _ (f : Frame) (ok : IsFrame f) where
  pub active_says : (set : ℕ) (m : Map) → (active_test f set m ≡ true) ↔ AllActive f set m
  active_says set m = (
    λ e c a. implies_at (active f set c) (f.holds c m) (all_at f.clauses (clause_met f set m) c e a.clause) (active_from f ok set c a),
    λ all. all_from f.clauses (clause_met f set m) (λ c clause. implies_from (active f set c) (f.holds c m) (λ e. all c (active_at f ok set c clause e))),
  )

  local : (set : ℕ) (m n : Map) → Agree set m n → AllActive f set m → AllActive f set n
  local set m n agree all c a = sym (ok.clause_local c m n a.clause (λ i p. agree i (a.within i (ok.uses_within c a.clause i p)))) ∙ all c a

  module _ (left right : ℕ) where
    due_says : (m : Map) → (step_test f left right m ≡ true) ↔ AllDue f left right m
    due_says m = (
      λ e c d. implies_at (due f left right c) (f.holds c m) (all_at f.clauses (due_met f left right m) c e d.clause) (due_from f ok left right c d),
      λ all. all_from f.clauses (due_met f left right m) (λ c clause. implies_from (due f left right c) (f.holds c m) (λ e. all c (due_at f ok left right c clause e))),
    )

    due_active : (c : ℕ) → IsDue f left right c → IsActive f (bit_or left right) c
    due_active c d = record { clause = d.clause; within = d.within; open_region = d.open_region }

    wider : (part : ℕ) (u : ℕ) → Within part (bit_or left right) → IsDone f part u → IsDone f (bit_or left right) u
    wider part u w d = record { join = d.join; left = λ i p. w i (d.left i p); right = λ i p. w i (d.right i p) }

    narrower : (part c : ℕ) → Within part (bit_or left right) → Within (f.needs c) part → IsActive f (bit_or left right) c → IsActive f part c
    narrower part c w inside x = record { clause = x.clause; within = inside; open_region = λ r e d. x.open_region r e (wider part r w d) }

    -- what is done in the union is done in a part, or its right set lies in the other one
    active_wider : (a b c : ℕ) → Within a (bit_or left right) → ((i : ℕ) → Has a i → ¬ Has b i) → ((u : ℕ) → IsDone f (bit_or left right) u → IsDone f a u ⊎ Within (f.right u) b) → IsActive f a c → IsActive f (bit_or left right) c
    active_wider a b c w apart split x = record {
      clause = x.clause;
      within = λ i p. w i (x.within i p);
      open_region = λ r e d. elim (split r d) [
        | inl here ↦ x.open_region r e here
        | inr v ↦ let some = ok.needs_some c x.clause in apart some.0 (x.within some.0 some.1) (v some.0 (ok.needs_within c r x.clause e some.0 some.1))
      ];
    }

    cases : (c : ℕ) (m : Map) → IsActive f (bit_or left right) c → (Within (f.needs c) left → f.holds c m ≡ true) → (Within (f.needs c) right → f.holds c m ≡ true) → AllDue f left right m → f.holds c m ≡ true
    cases c m x on_left on_right all = elim (decide_within (f.needs c) left) [
      | inl w ↦ on_left w
      | inr not_left ↦ elim (decide_within (f.needs c) right) [
        | inl w ↦ on_right w
        | inr not_right ↦ all c (record { clause = x.clause; within = x.within; not_left = not_left; not_right = not_right; open_region = x.open_region })
      ]
    ]

    module _ (legal : IsInnerStep f left right) where
      split_left : (u : ℕ) → IsDone f (bit_or left right) u → IsDone f left u ⊎ Within (f.right u) right
      split_left u d = elim (legal.no_new u d) [ inl p ↦ inl p | inr q ↦ inr q.right ]

      split_right : (u : ℕ) → IsDone f (bit_or left right) u → IsDone f right u ⊎ Within (f.right u) left
      split_right u d = elim (legal.no_new u d) [ inl p ↦ inr p.right | inr q ↦ inl q ]

      inner_to : (m : Map) → AllActive f (bit_or left right) m → AllActive f left m × AllActive f right m × AllDue f left right m
      inner_to m all = (
        λ c x. all c (active_wider left right c (in_left left right) legal.step.apart split_left x),
        λ c x. all c (active_wider right left c (in_right left right) (λ i p q. legal.step.apart i q p) split_right x),
        λ c d. all c (due_active c d),
      )

      inner_from : (m : Map) → AllActive f left m → AllActive f right m → AllDue f left right m → AllActive f (bit_or left right) m
      inner_from m on_left on_right all c x = cases c m x (λ w. on_left c (narrower left c (in_left left right) w x)) (λ w. on_right c (narrower right c (in_right left right) w x)) all

      pub inner_test : (a b : Map) → LiesOn left a → LiesOn right b → active_test f (bit_or left right) (both a b) ≡ (active_test f left a && (active_test f right b && step_test f left right (both a b)))
      inner_test a b lies lies_too = same_truth (active_test f (bit_or left right) (both a b)) (active_test f left a && (active_test f right b && step_test f left right (both a b)))
          (λ e. let all = inner_to (both a b) ((active_says (bit_or left right) (both a b)).0 e) in
          and_from (active_test f left a) (active_test f right b && step_test f left right (both a b)) ((active_says left a).1 (local left (both a b) a to_a all.0))
          (and_from (active_test f right b) (step_test f left right (both a b)) ((active_says right b).1 (local right (both a b) b to_b all.1)) ((due_says (both a b)).1 all.2)))
          (λ e. let first = and_parts (active_test f left a) (active_test f right b && step_test f left right (both a b)) e in
          let rest = and_parts (active_test f right b) (step_test f left right (both a b)) first.1 in
          (active_says (bit_or left right) (both a b)).1 (inner_from (both a b) (local left a (both a b) (λ i p. sym (to_a i p)) ((active_says left a).0 first.0)) (local right b (both a b) (λ i p. sym (to_b i p)) ((active_says right b).0 rest.0)) ((due_says (both a b)).0 rest.1)))
        where
          to_a : Agree left (both a b) a
          to_a i p = both_left a b i (lies_too i (legal.step.apart i p))

          to_b : Agree right (both a b) b
          to_b i p = both_right a b i (lies i (λ q. legal.step.apart i q p))

    module _ (s : ℕ) (legal : IsStepBy f left right s) where
      pub place : IsByPlace f right s
      place = record { join = legal.join; joinable = legal.step.right_joinable; within = legal.on_right; misses = λ i p q. legal.step.apart i (legal.on_left i p) q }

      split : (u : ℕ) → IsDone f (bit_or left right) u → IsDone f left u ⊎ Within (f.right u) right
      split u d = elim (legal.one_new u d) [
        | inl either ↦ elim either [ inl p ↦ inl p | inr q ↦ inr q.right ]
        | inr same ↦ inr (subst (λ k. Within (f.right k) right) (sym same) legal.on_right)
      ]

      this_done : IsDone f (bit_or left right) s
      this_done = record { join = legal.join; left = λ i p. in_left left right i (legal.on_left i p); right = λ i p. in_right left right i (legal.on_right i p) }

      never : (c : ℕ) → IsActive f (bit_or left right) c → Within (f.needs c) right → ⊥
      never c x w = elim (region_here f ok right s place c x.clause w) [
        | inl e ↦ x.open_region s e this_done
        | inr r ↦ x.open_region r.0 r.1 (wider right r.0 (in_right left right) r.2)
      ]

      pub by_test : (a m : Map) → Agree left m a → active_test f (bit_or left right) m ≡ (active_test f left a && step_test f left right m)
      by_test a m agree = same_truth (active_test f (bit_or left right) m) (active_test f left a && step_test f left right m)
          (λ e. let all = (active_says (bit_or left right) m).0 e in
          and_from (active_test f left a) (step_test f left right m) ((active_says left a).1 (local left m a agree (λ c x. all c (active_wider left right c (in_left left right) legal.step.apart split x)))) ((due_says m).1 (λ c d. all c (due_active c d))))
          (λ e. let parts = and_parts (active_test f left a) (step_test f left right m) e in
          let on_left = local left a m (λ i p. sym (agree i p)) ((active_says left a).0 parts.0) in
          (active_says (bit_or left right) m).1 (λ c x. cases c m x (λ w. on_left c (narrower left c (in_left left right) w x)) (λ w. absurd (never c x w)) ((due_says m).0 parts.1)))

-- ---- lists

pub filter_same : {X : Type 0} (p q : X → Bool) (xs : List X) → ((x : X) → In x xs → p x ≡ q x) → filter p xs ≡ filter q xs
filter_same p q [] h = refl
filter_same p q (x ∷ xs) h = ap₂ (λ b rest. cond b (x ∷ rest) rest) (h x (inl refl)) (filter_same p q xs (λ y m. h y (inr m)))

pub filter_none : {X : Type 0} (p : X → Bool) (xs : List X) → ((x : X) → In x xs → p x ≡ false) → filter p xs ≡ []
filter_none p [] h = refl
filter_none p (x ∷ xs) h = ap₂ (λ b rest. cond b (x ∷ rest) rest) (h x (inl refl)) (filter_none p xs (λ y m. h y (inr m)))

abbrev pub each_with : List Map → Map → List Map
each_with rights a = map (both a) rights

module _ (p q t all : Map → Bool) (rs : List Map) where
  abbrev Splits : Map → List Map → Type 0
  Splits a bs = (b : Map) → In b bs → all (both a b) ≡ (p a && (q b && t (both a b)))

  row_kept : (a b : Map) (bs : List Map) (c : Bool) → q b ≡ c → filter t (map (both a) (cond c (b ∷ filter q bs) (filter q bs))) ≡ cond (c && t (both a b)) (both a b ∷ filter t (map (both a) (filter q bs))) (filter t (map (both a) (filter q bs)))
  row_kept a b bs true e = refl
  row_kept a b bs false e = refl

  rows_kept : (a : Map) → p a ≡ true → (bs : List Map) → Splits a bs → filter t (map (both a) (filter q bs)) ≡ filter all (map (both a) bs)
  rows_kept a e [] h = refl
  rows_kept a e (b ∷ bs) h =
      row_kept a b bs (q b) refl
      ∙ ap₂ (λ c rest. cond c (both a b ∷ rest) rest) (sym (h b (inl refl) ∙ ap (λ x. x && (q b && t (both a b))) e)) (rows_kept a e bs (λ x m. h x (inr m)))

  rows_gone : (a : Map) → p a ≡ false → (bs : List Map) → Splits a bs → filter all (map (both a) bs) ≡ []
  rows_gone a e [] h = refl
  rows_gone a e (b ∷ bs) h = ap₂ (λ c rest. cond c (both a b ∷ rest) rest) (h b (inl refl) ∙ ap (λ x. x && (q b && t (both a b))) e) (rows_gone a e bs (λ x m. h x (inr m)))

  abbrev found : List Map → List Map
  found ls = flat_map (matches t (filter q rs)) ls

  pub inner_rows : (ls : List Map) → ((a : Map) → In a ls → Splits a rs) → flat_map (matches t (filter q rs)) (filter p ls) ≡ filter all (flat_map (each_with rs) ls)
  inner_rows [] h = refl
  inner_rows (a ∷ ls) h = by (p a) refl (inner_rows ls (λ x m. h x (inr m))) ∙ sym (filter-append all (map (both a) rs) (flat_map (each_with rs) ls))
    where
      by : (c : Bool) → p a ≡ c → found (filter p ls) ≡ filter all (flat_map (each_with rs) ls) → found (cond c (a ∷ filter p ls) (filter p ls)) ≡ filter all (map (both a) rs) ++ filter all (flat_map (each_with rs) ls)
      by true e rest = ap₂ ◌++◌ (rows_kept a e rs (h a (inl refl))) rest
      by false e rest = rest ∙ ap (λ xs. xs ++ filter all (flat_map (each_with rs) ls)) (sym (rows_gone a e rs (h a (inl refl))))

module _ (p t all : Map → Bool) (J : Map → List Map) where
  pub by_rows : (ls : List Map) → ((a : Map) → In a ls → (m : Map) → In m (J a) → all m ≡ (p a && t m)) → filter t (flat_map J (filter p ls)) ≡ filter all (flat_map J ls)
  by_rows [] h = refl
  by_rows (a ∷ ls) h = by (p a) refl (by_rows ls (λ x m. h x (inr m))) ∙ sym (filter-append all (J a) (flat_map J ls))
    where
      by : (c : Bool) → p a ≡ c → filter t (flat_map J (filter p ls)) ≡ filter all (flat_map J ls) → filter t (flat_map J (cond c (a ∷ filter p ls) (filter p ls))) ≡ filter all (J a) ++ filter all (flat_map J ls)
      by true e rest = filter-append t (J a) (flat_map J (filter p ls)) ∙ ap₂ ◌++◌ (filter_same t all (J a) (λ m k. sym (h a (inl refl) m k ∙ ap (λ x. x && t m) e))) rest
      by false e rest = rest ∙ ap (λ xs. xs ++ filter all (flat_map J ls)) (sym (filter_none all (J a) (λ m k. h a (inl refl) m k ∙ ap (λ x. x && t m) e)))

-- The legal steps of a problem are legal steps of its frame.
use Rattle.std.proofs.Common.{◌≡◌, ◌∙◌, ap, sym, subst, refl, ℕ, zero, suc, ◌<◌, ◌⊎◌, inl, inr, true, List, [], ◌∷◌, length, Some, eq-eqb, arith}
use Rattle.std.specs.Prelude.{bit_or, if◌then◌else◌}
use Rattle.std.proofs.lemmas.Bool.{cases_eq, ne_eqb}
use Rattle.std.proofs.lemmas.List.Elements.{All-contains}
use Rattle.jp_base.specs.Sets.{Has, Within}
use Rattle.jp_facts.proofs.Members.{In, from_in}
use Rattle.jp_query.specs.declared.JoinKind.TheVariants as join
use Rattle.jp_conditions.proofs.Covering.{left_kind}
use Rattle.jp_problem.specs.declared.types.Problem.{Problem}
use Rattle.jp_problem.specs.declared.types.Special.{Special}
use Rattle.jp_problem.specs.declared.types.Method.{Method}
use Rattle.jp_problem.specs.declared.types.Method.TheVariants as method
use Rattle.jp_problem.specs.declared.types.Step.{Step}
use Rattle.jp_problem.specs.declared.types.Step.TheVariants as step
use Rattle.jp_problem.specs.Conditions.{MeetsConditions}
use Rattle.jp_problem.specs.Keys.{is_some_left, is_by_left, IsAllowed}
use Rattle.jp_problem.specs.Legal as legal
use Rattle.jp_problem.specs.Problems.{join_of}
use Rattle.jp_frame.specs.Frames.{Frame, Left, Apart, IsInside}
use Rattle.jp_frame.specs.Legal.{IsDone, Stands, IsJoinable, IsStep, IsInnerStep, IsStepBy}
use Rattle.jp_frame.specs.Methods.{Method as RunMethod, IsAllowed as IsAllowedRun}
use Rattle.jp_frame.specs.Steps.{IsLegal}
use Rattle.jp_frame.proofs.Sets.{Decision, decide_within}
use Rattle.jp_framed.specs.Environments.{Setting}
use Rattle.jp_framed.specs.Framing.{kind_of, join_at, frame_of}
use Rattle.jp_framed.specs.Running.{step_of, IsSameMethod}
use Rattle.jp_framed.proofs.Reading.{join_stands, join_there, join_is, low_of, placed}
use Rattle.jp_framed.proofs.FrameLaws.{numbered_at}

module _ (problem : Problem) (setting : Setting) where
  abbrev f : Frame
  f = frame_of problem setting

  -- ---- done joins

  done_of : (set s : ℕ) → IsDone f set s → legal.IsDone set (join_at problem.joins s)
  done_of set s d = record { left = d.left; right = d.right }

  pub done_from : (set s : ℕ) → s < length problem.joins → legal.IsDone set (join_at problem.joins s) → IsDone f set s
  done_from set s low d = record { join = low; left = d.left; right = d.right }

  decide_done : (set s : ℕ) → s < length problem.joins → Decision (IsDone f set s)
  decide_done set s low = elim (decide_within (join_at problem.joins s).min_left set) [
    | inr n ↦ inr (λ d. n d.left)
    | inl l ↦ elim (decide_within (join_at problem.joins s).min_right set) [ inl r ↦ inl (record { join = low; left = l; right = r }) | inr n ↦ inr (λ d. n d.right) ]
  ]

  apart_from : (a b : ℕ) → legal.Apart a b → Apart a b
  apart_from a b away i p q = away (i, p, q)

  -- ---- joinable sets

  hangs_from : (set s i : ℕ) → legal.Hangs problem.joins set (join_at problem.joins s) i → (u : ℕ) × IsDone f set u × (f.kind u ≡ Left) × ¬ IsInside f u s × Has (f.right u) i
  hangs_from set s i h =
      let p = placed problem.joins h.0 h.1 in
      let by : legal.HangsBy set (join_at problem.joins s) i (join_at problem.joins p.place) = subst (legal.HangsBy set (join_at problem.joins s) i) (sym p.is) h.2 in
      (p.place, done_from set p.place p.low by.done, ap kind_of by.kind, (λ inside. by.outside (record { left = inside.left; right = inside.right })), by.right)

  stands_from : (set s : ℕ) → s < length problem.joins → legal.Stands problem.joins set (join_at problem.joins s) → Stands f set s
  stands_from set s low (legal.Stands.misses away) = Stands.misses (apart_from set (join_at problem.joins s).min_right away)
  stands_from set s low (legal.Stands.lies_in w) = Stands.lies_in w
  stands_from set s low (legal.Stands.is_done d) = Stands.is_done (done_from set s low d)
  stands_from set s low (legal.Stands.hangs kind away each) = Stands.hangs (ap kind_of kind) (apart_from set (join_at problem.joins s).min_left away) (λ i here out. hangs_from set s i (each i here out))

  pub joinable_from : (set : ℕ) → legal.IsJoinable problem set → IsJoinable f set
  joinable_from set j = record {
    some = j.some;
    stands = λ s low. stands_from set s low (All-contains (legal.Stands problem.joins set) problem.joins (join_at problem.joins s) j.stands (join_stands problem.joins s low));
  }

  -- ---- steps

  step_from : (left right : ℕ) → legal.IsStep problem left right → IsStep f left right
  step_from left right s = record {
    apart = apart_from left right s.apart;
    left_joinable = joinable_from left s.left_joinable;
    right_joinable = joinable_from right s.right_joinable;
    joinable = joinable_from (bit_or left right) s.joinable;
  }

  -- a join that is done in the union is done in a part, or new
  old_or_new : (left right u : ℕ) → IsDone f (bit_or left right) u → (IsDone f left u ⊎ IsDone f right u) ⊎ legal.IsNew left right (join_at problem.joins u)
  old_or_new left right u d = elim (decide_done left u d.join) [
    | inl l ↦ inl (inl l)
    | inr l ↦ elim (decide_done right u d.join) [
      | inl r ↦ inl (inr r)
      | inr r ↦ inr (record {
        in_union = done_of (bit_or left right) u d;
        not_left = λ k. l (done_from left u d.join k);
        not_right = λ k. r (done_from right u d.join k);
      })
    ]
  ]

  inner_from : (left right : ℕ) → legal.IsStep problem left right → legal.IsInner problem.joins left right → IsInnerStep f left right
  inner_from left right s none = record {
    step = step_from left right s;
    no_new = λ u d. elim (old_or_new left right u d) [ inl old ↦ old | inr new ↦ absurd (none u (join_at problem.joins u) (join_there problem.joins u d.join) new) ];
  }

  by_from : (left right place : ℕ) (s : Special) → legal.IsStep problem left right → (only : legal.IsOnlyNew left right problem.joins s) → only.place ≡ place → Within s.min_left left → Within s.min_right right → IsStepBy f left right place
  by_from left right place s step only e l r =
      let is : join_at problem.joins place ≡ s = subst (λ n. join_at problem.joins n ≡ s) e (join_is problem.joins only.place s only.join) in
      record {
        step = step_from left right step;
        join = subst (λ n. n < length problem.joins) e (low_of problem.joins only.place s only.join);
        on_left = subst (λ (t : Special). Within t.min_left left) (sym is) l;
        on_right = subst (λ (t : Special). Within t.min_right right) (sym is) r;
        one_new = λ u d. elim (old_or_new left right u d) [ inl old ↦ inl old | inr new ↦ inr (only.only u (join_at problem.joins u) (join_there problem.joins u d.join) new ∙ e) ];
      }

  module _ (m : MeetsConditions problem) where
    pub legal_from : (left right : ℕ) (kind : Step) → legal.IsLegalStep problem left right kind → IsLegal f left right (step_of kind)
    legal_from left right step.Inner h = inner_from left right h.step h.of_kind
    legal_from left right (step.By zero) h = absurd (let e = m.numbered h.of_kind.only_new.place h.of_kind.join h.of_kind.only_new.join in omega (arith, e, h.of_kind.numbered))
    legal_from left right (step.By (suc k)) h =
        let by = h.of_kind in
        by_from left right k by.join h.step by.only_new (let e = m.numbered by.only_new.place by.join by.only_new.join in omega (arith, e, by.numbered)) by.on_left by.on_right

    -- ---- methods

    found_left : (joins : List Special) (number : ℕ) → is_some_left (join_of joins number) ≡ true → (s : Special) × In s joins × (s.no ≡ number) × (s.kind ≡ join.Left)
    found_left [] number e = cc
    found_left (s ∷ joins) number e = elim (cases_eq s.no number) [
      | inl same ↦ (s, inl refl, same, left_kind s.kind (subst (λ b. is_some_left (if b then Some s else join_of joins number) ≡ true) (eq-eqb s.no number same) e))
      | inr other ↦ (let r = found_left joins number (subst (λ b. is_some_left (if b then Some s else join_of joins number) ≡ true) (ne_eqb s.no number other) e) in (r.0, inr r.1, r.2, r.3))
    ]

    left_by : (kind : Step) → is_by_left problem kind ≡ true → IsAllowedRun f RunMethod.HashRight (step_of kind)
    left_by step.Inner e = cc
    left_by (step.By zero) e =
        let s = found_left problem.joins 0 e in
        let p = placed problem.joins s.0 (from_in s.0 problem.joins s.1) in
        let n = m.numbered p.place s.0 p.there in absurd (omega (arith, n, s.2))
    left_by (step.By (suc k)) e =
        let s = found_left problem.joins (suc k) e in
        let at = numbered_at problem setting m s.0 k (from_in s.0 problem.joins s.1) s.2 in
        ap (λ (t : Special). kind_of t.kind) at.1 ∙ ap kind_of s.3

    pub allowed_from : (left right : ℕ) (kind : Step) (by : Method) (run : RunMethod) → IsAllowed problem left right kind by → IsSameMethod by run → IsAllowedRun f run (step_of kind)
    allowed_from left right kind method.Nest RunMethod.Nest h same = tt
    allowed_from left right kind method.Hash RunMethod.Hash h same = tt
    allowed_from left right kind method.HashRight RunMethod.HashRight h same = left_by kind h.1
    allowed_from left right kind method.Merge (RunMethod.Merge a b) h same = tt
    allowed_from left right kind _ _ h same = absurd same

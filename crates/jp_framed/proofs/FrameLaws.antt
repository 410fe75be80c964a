-- A problem that meets the conditions is a frame.
use Rattle.std.proofs.Common.{◌≡◌, ◌∙◌, ap, sym, subst, refl, ℕ, zero, suc, ◌<◌, inl, inr, length, arith}
use Rattle.std.specs.Prelude.{Contains}
use Rattle.jp_query.specs.declared.JoinKind.{JoinKind}
use Rattle.jp_query.specs.declared.JoinKind.TheVariants as join
use Rattle.jp_problem.specs.declared.types.Problem.{Problem}
use Rattle.jp_problem.specs.declared.types.Special.{Special}
use Rattle.jp_problem.specs.Conditions as cond
use Rattle.jp_problem.specs.Conditions.{MeetsConditions}
use Rattle.jp_problem.specs.Legal as legal
use Rattle.jp_problem.specs.Problems.{problem_rels}
use Rattle.jp_frame.specs.Frames.{Frame, Left, IsInside, IsUnder, Covers, Nested, IsFrame}
use Rattle.jp_framed.specs.Environments.{Setting, env_of}
use Rattle.jp_framed.specs.Framing.{AreApart, AreConditionsTyped, kind_of, join_at, clause_at, frame_of}
use Rattle.jp_framed.proofs.MapRows.{absent_rows}
use Rattle.jp_framed.proofs.Reading.{join_stands, join_there, clause_stands, placed, expr_agrees, list_agrees, void_by}

module _ (problem : Problem) (setting : Setting) (m : MeetsConditions problem) where
  abbrev f : Frame
  f = frame_of problem setting

  -- the join at place k has the number k + 1
  pub number_at : (k : ℕ) → k < length problem.joins → (join_at problem.joins k).no ≡ suc k
  number_at k low = m.numbered k (join_at problem.joins k) (join_there problem.joins k low)

  -- a join of the number k + 1 stands at place k
  pub numbered_at : (s : Special) (k : ℕ) → Contains problem.joins s → s.no ≡ suc k → (k < length problem.joins) × (join_at problem.joins k ≡ s)
  numbered_at s k h e =
      let p = placed problem.joins s h in
      let same : p.place ≡ k = omega (arith, m.numbered p.place s p.there, e) in
      (subst (λ n. n < length problem.joins) same p.low, subst (λ n. join_at problem.joins n ≡ s) same p.is)

  two : (s t : ℕ) → s < length problem.joins → t < length problem.joins → (s ≡ t → ⊥) → cond.AreTwo problem (join_at problem.joins s) (join_at problem.joins t)
  two s t low high other = record {
    first = join_stands problem.joins s low;
    second = join_stands problem.joins t high;
    differ = λ e. other (omega (arith, number_at s low, number_at t high, e));
  }

  pub region_low : (c r : ℕ) → c < length problem.clauses → (clause_at problem.clauses c).region ≡ suc r → r < length problem.joins
  region_low c r low e = elim (m.region_join (clause_at problem.clauses c) (clause_stands problem.clauses c low)) [
    | inl top ↦ absurd (omega (arith, top, e))
    | inr k ↦ (numbered_at k.0 r k.1 (k.2 ∙ e)).0
  ]

  nested_same : (a b : ℕ) → cond.Nested a b → Nested a b
  nested_same a b (cond.Nested.apart away) = Nested.apart (λ i p q. away (i, p, q))
  nested_same a b (cond.Nested.within w) = Nested.within w
  nested_same a b (cond.Nested.around w) = Nested.around w

  left_kind : (kind : JoinKind) → kind ≡ join.Left → kind_of kind ≡ Left
  left_kind kind e = ap kind_of e

  pub inside_of : (u t : ℕ) → IsInside f u t → legal.IsInside (join_at problem.joins u) (join_at problem.joins t)
  inside_of u t i = record { left = i.left; right = i.right }

  pub inside_from : (u t : ℕ) → (u ≡ t → ⊥) → legal.IsInside (join_at problem.joins u) (join_at problem.joins t) → IsInside f u t
  inside_from u t other i = record { other = other; left = i.left; right = i.right }

  under : (t region : ℕ) → (r : ℕ) → ((k : ℕ) → region ≡ suc k → k < length problem.joins) → region ≡ r → IsUnder f t region → cond.IsUnder problem (join_at problem.joins t) region
  under t region zero low e h = inl e
  under t region (suc r) low e h =
      let here = low r e in
      inr (join_at problem.joins r, join_stands problem.joins r here, number_at r here ∙ sym e, inside_of t r (subst (IsUnder f t) e h))

  module _ (typed : AreConditionsTyped problem) (apart : AreApart (problem_rels problem)) where
    covered : (u t : ℕ) → cond.Covers problem (join_at problem.joins u) (join_at problem.joins t) → Covers f u t
    covered u t (cond.Covers.takes_in l r) = Covers.takes_in l r
    covered u t (cond.Covers.rejects kind void) = Covers.rejects (left_kind (join_at problem.joins u).kind kind)
        (λ n none. void_by problem (join_at problem.joins u) (join_at problem.joins t).min_right setting.sublinks (env_of (problem_rels problem) setting n) void (absent_rows (problem_rels problem) setting (join_at problem.joins t).min_right n apart none))

    pub is_frame : IsFrame f
    is_frame = record {
      on_local = λ s a b low agree. list_agrees (problem_rels problem) setting a b (join_at problem.joins s).on (typed.joins (join_at problem.joins s) (join_stands problem.joins s low)) agree;
      clause_local = λ c a b low agree. expr_agrees (problem_rels problem) setting a b (clause_at problem.clauses c).expr (typed.clauses (clause_at problem.clauses c) (clause_stands problem.clauses c low)) agree;
      region_join = region_low;
      left_some = λ s low. m.left_some (join_at problem.joins s) (join_stands problem.joins s low);
      right_some = λ s low. m.right_some (join_at problem.joins s) (join_stands problem.joins s low);
      in_order = λ s i j low p q. m.in_order (join_at problem.joins s) i j (join_stands problem.joins s low) p q;
      nested = λ s t low high other. nested_same (join_at problem.joins s).min_right (join_at problem.joins t).min_right (m.nested (join_at problem.joins s) (join_at problem.joins t) (two s t low high other));
      left_within = λ s t low high other w. m.left_within (join_at problem.joins s) (join_at problem.joins t) (two s t low high other) w;
      covers = λ u t low high other met outside. covered u t (m.covers (join_at problem.joins u) (join_at problem.joins t) (two u t low high other) met (λ i. outside (inside_from u t other i)));
      needs_some = λ c low. m.needs_some (clause_at problem.clauses c) (clause_stands problem.clauses c low);
      needs_within = λ c r low e. let here = region_low c r low e in m.needs_within (clause_at problem.clauses c) (join_at problem.joins r) (clause_stands problem.clauses c low) (join_stands problem.joins r here) (number_at r here ∙ sym e);
      needs_closed = λ c t low high h met. m.needs_closed (clause_at problem.clauses c) (join_at problem.joins t) (clause_stands problem.clauses c low) (join_stands problem.joins t high) (under t (clause_at problem.clauses c).region (clause_at problem.clauses c).region (λ k e. region_low c k low e) refl h) met;
      uses_within = λ c low. m.uses_within (clause_at problem.clauses c) (clause_stands problem.clauses c low);
      on_uses_within = λ s i low h. m.on_uses_within (join_at problem.joins s) i (join_stands problem.joins s low) h;
    }

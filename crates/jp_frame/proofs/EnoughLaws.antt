-- The clauses of a frame by themselves are enough at each step and at each scan.
use Rattle.std.proofs.Common.{◌≡◌, ℕ, ◌<◌, ◌^◌, inl, inr, true, not, ◌&&◌, ◌||◌}
use Rattle.std.specs.Prelude.{bit_or}
use Rattle.std.proofs.lemmas.Bool.{and_parts, and_from, or_cases, or_parts, not-true, not_from_false, false_from_ne_true, both_ways}
use Rattle.jp_frame.specs.Frames.{Frame, IsFrame}
use Rattle.jp_frame.specs.Rows.{is_within, region_done, clause_met, active}
use Rattle.jp_frame.specs.Steps.{Step, IsDue, IsEnough, due, due_met, step_test}
use Rattle.jp_frame.specs.Methods.{one_row, IsEnoughAtScan, scan_test}
use Rattle.jp_frame.proofs.Reading.{all_at, all_from, implies_at, implies_from, within_is, region_open_at, region_open_from, active_at, active_from}

module _ (f : Frame) (ok : IsFrame f) (left right : ℕ) where
  pub due_at : (c : ℕ) → c < f.clauses → due f left right c ≡ true → IsDue f left right c
  due_at c clause e =
      let first = and_parts (is_within (f.needs c) (bit_or left right)) (not (is_within (f.needs c) left || is_within (f.needs c) right) && not (region_done f (bit_or left right) (f.region c))) e in
      let rest = and_parts (not (is_within (f.needs c) left || is_within (f.needs c) right)) (not (region_done f (bit_or left right) (f.region c))) first.1 in
      let parts = or_parts (is_within (f.needs c) left) (is_within (f.needs c) right) (not-true (is_within (f.needs c) left || is_within (f.needs c) right) rest.0) in
      record {
        clause = clause;
        within = (within_is (f.needs c) (bit_or left right)).0 first.0;
        not_left = λ w. both_ways (is_within (f.needs c) left) parts.0 ((within_is (f.needs c) left).1 w);
        not_right = λ w. both_ways (is_within (f.needs c) right) parts.1 ((within_is (f.needs c) right).1 w);
        open_region = region_open_at f ok (bit_or left right) c rest.1;
      }

  pub due_from : (c : ℕ) → IsDue f left right c → due f left right c ≡ true
  due_from c d =
      and_from (is_within (f.needs c) (bit_or left right)) (not (is_within (f.needs c) left || is_within (f.needs c) right) && not (region_done f (bit_or left right) (f.region c)))
      ((within_is (f.needs c) (bit_or left right)).1 d.within)
      (and_from (not (is_within (f.needs c) left || is_within (f.needs c) right)) (not (region_done f (bit_or left right) (f.region c)))
      (not_from_false (is_within (f.needs c) left || is_within (f.needs c) right) (false_from_ne_true (is_within (f.needs c) left || is_within (f.needs c) right) (λ e. elim (or_cases (is_within (f.needs c) left) (is_within (f.needs c) right) e) [
        | inl p ↦ d.not_left ((within_is (f.needs c) left).0 p)
        | inr p ↦ d.not_right ((within_is (f.needs c) right).0 p)
      ])))
      (region_open_from f ok (bit_or left right) c d.clause d.open_region))

  pub step_enough : (step : Step) → IsEnough f left right step (step_test f left right)
  step_enough step m cand = (
    λ e c d. implies_at (due f left right c) (f.holds c m) (all_at f.clauses (due_met f left right m) c e d.clause) (due_from c d),
    λ all. all_from f.clauses (due_met f left right m) (λ c clause. implies_from (due f left right c) (f.holds c m) (λ e. all c (due_at c clause e))),
  )

module _ (f : Frame) (ok : IsFrame f) (i : ℕ) where
  pub scan_enough : IsEnoughAtScan f i (scan_test f i)
  scan_enough r low = (
    λ e c a. implies_at (active f (2 ^ i) c) (f.holds c (one_row f.items i r)) (all_at f.clauses (clause_met f (2 ^ i) (one_row f.items i r)) c e a.clause) (active_from f ok (2 ^ i) c a),
    λ all. all_from f.clauses (clause_met f (2 ^ i) (one_row f.items i r)) (λ c clause. implies_from (active f (2 ^ i) c) (f.holds c (one_row f.items i r)) (λ e. all c (active_at f ok (2 ^ i) c clause e))),
  )

-- All runs of one tree by Nest, with tests that are enough, give one list.
use Rattle.std.proofs.Common.{◌≡◌, ◌∙◌, ap, ap₂, sym, subst, ℕ, zero, suc, ◌+◌, ◌<◌, inl, inr, Bool, List, map, filter, arith}
use Rattle.std.specs.List.{flat_map}
use Rattle.jp_facts.proofs.Members.{In, from_map, from_flat_map}
use Rattle.jp_problem.specs.declared.types.Problem.{Problem}
use Rattle.jp_problem.specs.Conditions.{MeetsConditions}
use Rattle.jp_problem.specs.Trees.{Tree, set_of, IsLegalTree}
use Rattle.jp_problem.specs.Trees.Tree.{Scan, Join}
use Rattle.jp_conditions.proofs.WithClasses.{IsNested}
use Rattle.jp_frame.specs.Maps.{Map, both}
use Rattle.jp_frame.specs.Frames.{Frame, IsFrame}
use Rattle.jp_frame.specs.Methods.{Method as RunMethod, one_row, rows_of_item, matches, joined_rows, plain, IsEnoughAtScan, scan_test}
use Rattle.jp_frame.specs.Rows.{InRowSet}
use Rattle.jp_frame.specs.Steps.{Step, Inner, By, IsLegal, IsCandidate, IsEnough, step_test}
use Rattle.jp_frame.specs.Trees.{Tree as Run, set_of as run_set, rows_of}
use Rattle.jp_frame.proofs.BagLaws.{Lists, pair_lives, pair_left, pair_right, rows_part, rows_to}
use Rattle.jp_frame.proofs.EnoughLaws.{step_enough, scan_enough}
use Rattle.jp_frame.proofs.TreeLaws.{tree_lists}
use Rattle.jp_framed.specs.Environments.{Setting}
use Rattle.jp_framed.specs.Framing.{frame_of}
use Rattle.jp_framed.specs.Running.{step_of, IsSameMethod, IsRunOf}
use Rattle.jp_framed.proofs.RunLaws.{same_set}
use Rattle.jp_framed.proofs.StepLaws.{legal_from}
use Rattle.jp_spine.proofs.ActiveLaws.{same_truth, filter_same}
use Rattle.jp_spine.proofs.ListLaws.{flat_same}
use Rattle.jp_spine.proofs.SpineRows.{plain_run, plain_set, plain_legal}

module _ (f : Frame) (ok : IsFrame f) (left right : ℕ) (ls rs : List Map) (on_left : Lists f left ls) (on_right : Lists f right rs) (test other : Map → Bool) where
  both_enough : (step : Step) → IsEnough f left right step test → IsEnough f left right step other → (m : Map) → IsCandidate f left right step m → test m ≡ other m
  both_enough step p q m cand = same_truth (test m) (other m) (λ e. (q m cand).1 ((p m cand).0 e)) (λ e. (p m cand).1 ((q m cand).0 e))

  pub plain_same : (step : Step) → IsLegal f left right step → IsEnough f left right step test → IsEnough f left right step other → plain f step test ls rs ≡ plain f step other ls rs
  plain_same Inner legal p q = flat_same (matches test rs) (matches other rs) ls (λ a h. filter_same test other (map (both a) rs) (λ m k.
      let b = from_map (both a) m rs k in
      both_enough Inner p q m (record {
        lives = pair_lives f ok left right legal.step.apart ls rs on_left on_right a b.0 m h b.1 b.2;
        on_left = pair_left f ok left right legal.step.apart ls rs on_left on_right a b.0 m h b.1 b.2;
        joined = pair_right f ok left right legal.step.apart ls rs on_left on_right a b.0 m h b.1 b.2;
      })))
  plain_same (By s) legal p q = filter_same test other (flat_map (joined_rows (f.kind s) (f.on s) rs) ls) (λ m k.
      let a = from_flat_map (joined_rows (f.kind s) (f.on s) rs) m ls k in
      let to = rows_to f ok left right legal.step.apart ls rs on_left on_right s (f.kind s) a.0 m a.1 a.2 in
      both_enough (By s) p q m (record {
        lives = to.0;
        on_left = subst (InRowSet f left) (sym (rows_part f ok left right legal.step.apart ls rs on_left on_right s (f.kind s) a.0 m a.1 a.2)) (on_left.to a.0 a.1);
        joined = to.1;
      }))

row_within : (n i r k : ℕ) (m : Map) → In m (rows_of_item n i r k) → (q : ℕ) × (q < r + k) × (one_row n i q ≡ m)
row_within n i r zero m h = absurd h
row_within n i r (suc k) m (inl e) = (r, omega arith, e)
row_within n i r (suc k) m (inr h) = let x = row_within n i (suc r) k m h in let low = x.1 in (x.0, omega (arith, low), x.2)

scan_same : (f : Frame) (i : ℕ) (test other : Map → Bool) → IsEnoughAtScan f i test → IsEnoughAtScan f i other → filter test (rows_of_item f.items i 0 (f.rows i)) ≡ filter other (rows_of_item f.items i 0 (f.rows i))
scan_same f i test other p q = filter_same test other (rows_of_item f.items i 0 (f.rows i)) (λ m h.
    let row = row_within f.items i 0 (f.rows i) m h in
    let low = row.1 in
    let there : row.0 < f.rows i = omega (arith, low) in
    subst (λ x. test x ≡ other x) row.2 (same_truth (test (one_row f.items i row.0)) (other (one_row f.items i row.0)) (λ e. (q row.0 there).1 ((p row.0 there).0 e)) (λ e. (p row.0 there).1 ((q row.0 there).0 e))))

module _ (problem : Problem) (setting : Setting) (ok : IsFrame (frame_of problem setting)) (m : MeetsConditions problem) where
  abbrev f : Frame
  f = frame_of problem setting

  plain_lists : (t : Tree) → IsLegalTree problem t → Lists f (set_of t) (rows_of f (plain_run f t))
  plain_lists t legal = subst (λ n. Lists f n (rows_of f (plain_run f t))) (plain_set problem setting ok m t) (tree_lists f ok (plain_run f t) (plain_legal problem setting ok m t legal))

  pub nest_rows : (t : Tree) (r : Run) → IsNested t → IsLegalTree problem t → IsRunOf f t r → rows_of f r ≡ rows_of f (plain_run f t)
  nest_rows (Scan i) (Run.Scan j test) nest legal h =
      ap (λ k. filter test (rows_of_item f.items k 0 (f.rows k))) (sym h.0) ∙ scan_same f i test (scan_test f i) (subst (λ k. IsEnoughAtScan f k test) (sym h.0) h.1) (scan_enough f ok i)
  nest_rows (Join method kind left right) (Run.Join RunMethod.Nest step test on_left on_right) nest legal h =
      let l = same_set problem setting left on_left h.3 in
      let r = same_set problem setting right on_right h.4 in
      let enough = subst (λ n. IsEnough f n (set_of right) (step_of kind) test) l (subst (λ n. IsEnough f (run_set on_left) n (step_of kind) test) r (subst (λ s. IsEnough f (run_set on_left) (run_set on_right) s test) h.1 h.2)) in
      ap₂ (λ xs ys. plain f step test xs ys) (nest_rows left on_left nest.1 legal.2 h.3) (nest_rows right on_right nest.2 legal.3 h.4)
      ∙ ap (λ s. plain f s test (rows_of f (plain_run f left)) (rows_of f (plain_run f right))) h.1
      ∙ plain_same f ok (set_of left) (set_of right) (rows_of f (plain_run f left)) (rows_of f (plain_run f right)) (plain_lists left legal.2) (plain_lists right legal.3) test (step_test f (set_of left) (set_of right)) (step_of kind)
      (legal_from problem setting m (set_of left) (set_of right) kind legal.0) enough (step_enough f ok (set_of left) (set_of right) (step_of kind))
  nest_rows (Join method kind left right) (Run.Join RunMethod.Hash step test on_left on_right) nest legal h = absurd (subst (λ x. IsSameMethod x RunMethod.Hash) nest.0 h.0)
  nest_rows (Join method kind left right) (Run.Join RunMethod.HashRight step test on_left on_right) nest legal h = absurd (subst (λ x. IsSameMethod x RunMethod.HashRight) nest.0 h.0)
  nest_rows (Join method kind left right) (Run.Join (RunMethod.Merge by_left by_right) step test on_left on_right) nest legal h = absurd (subst (λ x. IsSameMethod x (RunMethod.Merge by_left by_right)) nest.0 h.0)
  nest_rows (Scan i) (Run.Join how step test on_left on_right) nest legal h = absurd h
  nest_rows (Join method kind left right) (Run.Scan j test) nest legal h = absurd h

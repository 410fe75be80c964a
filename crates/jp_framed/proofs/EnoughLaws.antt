-- Without classes the clauses of a step and of a scan are enough.
use Rattle.std.proofs.Common.{◌≡◌, ◌∙◌, ap, sym, subst, refl, ℕ, zero, suc, ◌+◌, ◌<◌, inl, inr, true, not, ◌&&◌, ◌||◌, List, [], ◌∷◌, ◌++◌, map, filter, length, Some, eq-eqb, arith}
use Rattle.std.specs.Prelude.{◌^◌, bit_or, is_none, slice_get, if◌then◌else◌}
use Rattle.std.specs.List.{flat_map}
use Rattle.std.proofs.lemmas.Bool.{and_parts, and_from, or_cases, or_parts, not-true, not_from_false, false_from_ne_true, both_ways, ne_eqb}
use Rattle.jp_facts.proofs.Members.{In, to_in, in_map, from_map, in_filter, from_filter}
use Rattle.jp_query.specs.declared.Expr.{Expr}
use Rattle.jp_problem.specs.declared.types.Class.{Class}
use Rattle.jp_problem.specs.declared.types.Problem.{Problem}
use Rattle.jp_problem.specs.declared.types.Special.{Special}
use Rattle.jp_problem.specs.declared.types.Stage.{Stage}
use Rattle.jp_problem.specs.Conditions.{MeetsConditions}
use Rattle.jp_problem.specs.Problems.{problem_rels, join_of}
use Rattle.jp_problem.specs.Sets.{is_within}
use Rattle.jp_problem.specs.StepClauses.{step_stage, scan_stage, is_some_done, region_done, is_open, is_open_class, of_class, comes_up, stands_alone, expr_of, clauses_of_stage}
use Rattle.jp_problem.proofs.SetTests.{is_within_says}
use Rattle.jp_frame.specs.Maps.{Map}
use Rattle.jp_frame.specs.Frames.{Frame}
use Rattle.jp_frame.specs.Legal.{IsDone, IsActive}
use Rattle.jp_frame.specs.Steps.{Step, IsDue, IsEnough}
use Rattle.jp_frame.specs.Methods.{one_row, IsEnoughAtScan}
use Rattle.jp_framed.specs.Environments.{Setting}
use Rattle.jp_framed.specs.Framing.{join_at, clause_at, list_holds, expr_holds, frame_of}
use Rattle.jp_framed.specs.Running.{HasNoClasses, step_clauses_hold, scan_clauses_hold}
use Rattle.jp_framed.proofs.Reading.{join_there, clause_stands, clause_placed}
use Rattle.jp_framed.proofs.FrameLaws.{region_low}

-- a list of conditions holds where each of them does
module _ (rels : List ℕ) (setting : Setting) (m : Map) where
  pub each_holds : (conds : List Expr) → list_holds rels setting conds m ≡ true → (e : Expr) → In e conds → expr_holds rels setting e m ≡ true
  each_holds [] h e k = absurd k
  each_holds (x ∷ conds) h e (inl same) = subst (λ y. expr_holds rels setting y m ≡ true) same (and_parts (expr_holds rels setting x m) (list_holds rels setting conds m) h).0
  each_holds (x ∷ conds) h e (inr k) = each_holds conds (and_parts (expr_holds rels setting x m) (list_holds rels setting conds m) h).1 e k

  pub all_hold : (conds : List Expr) → ((e : Expr) → In e conds → expr_holds rels setting e m ≡ true) → list_holds rels setting conds m ≡ true
  all_hold [] each = refl
  all_hold (x ∷ conds) each = and_from (expr_holds rels setting x m) (list_holds rels setting conds m) (each x (inl refl)) (all_hold conds (λ e k. each e (inr k)))

-- joins that are numbered in order are found by their numbers
found_from : (first : ℕ) (joins : List Special) → ((j : ℕ) (s : Special) → slice_get joins j ≡ Some s → s.no ≡ suc (first + j)) → (k : ℕ) (s : Special) → slice_get joins k ≡ Some s → join_of joins (suc (first + k)) ≡ Some s
found_from first [] numbered k s e = cc
found_from first (t ∷ joins) numbered zero s e = ap (λ b. if b then Some t else join_of joins (suc (first + 0))) (eq-eqb t.no (suc (first + 0)) (numbered 0 t refl)) ∙ e
found_from first (t ∷ joins) numbered (suc k) s e =
    ap (λ b. if b then Some t else join_of joins (suc (first + suc k))) (ne_eqb t.no (suc (first + suc k)) (λ same. let n = numbered 0 t refl in omega (arith, n, same)))
    ∙ ap (λ n. join_of joins n) (omega arith)
    ∙ found_from (suc first) joins (λ j u f. let n = numbered (suc j) u f in omega (arith, n)) k s e

module _ (problem : Problem) (setting : Setting) (m : MeetsConditions problem) where
  abbrev f : Frame
  f = frame_of problem setting

  join_found : (k : ℕ) → k < length problem.joins → join_of problem.joins (suc k) ≡ Some (join_at problem.joins k)
  join_found k low = ap (λ n. join_of problem.joins n) (omega arith) ∙ found_from 0 problem.joins (λ j s e. m.numbered j s e ∙ omega arith) k (join_at problem.joins k) (join_there problem.joins k low)

  -- ---- open regions

  done_at : (set k : ℕ) → k < length problem.joins → region_done problem.joins set (suc k) ≡ true → IsDone f set k
  done_at set k low e =
      let s = join_at problem.joins k in
      let parts = and_parts (is_within s.min_left set) (is_within s.min_right set) (sym (ap (is_some_done set) (join_found k low)) ∙ e) in
      record { join = low; left = (is_within_says s.min_left set).0 parts.0; right = (is_within_says s.min_right set).0 parts.1 }

  done_from : (set k : ℕ) → IsDone f set k → region_done problem.joins set (suc k) ≡ true
  done_from set k d =
      let s = join_at problem.joins k in
      ap (is_some_done set) (join_found k d.join) ∙ and_from (is_within s.min_left set) (is_within s.min_right set) ((is_within_says s.min_left set).1 d.left) ((is_within_says s.min_right set).1 d.right)

  abbrev IsOpen : ℕ → ℕ → Type 0
  IsOpen set region = (r : ℕ) → region ≡ suc r → IsDone f set r → ⊥

  open_at : (set region : ℕ) → is_open problem.joins set region ≡ true → IsOpen set region
  open_at set region e r is d = both_ways (region_done problem.joins set region) (not-true (region_done problem.joins set region) e) (subst (λ n. region_done problem.joins set n ≡ true) (sym is) (done_from set r d))

  open_from : (set region n : ℕ) → region ≡ n → ((r : ℕ) → region ≡ suc r → r < length problem.joins) → IsOpen set region → is_open problem.joins set region ≡ true
  open_from set region zero is low stays = subst (λ n. is_open problem.joins set n ≡ true) (sym is) refl
  open_from set region (suc r) is low stays = subst (λ n. is_open problem.joins set n ≡ true) (sym is)
      (not_from_false (region_done problem.joins set (suc r)) (false_from_ne_true (region_done problem.joins set (suc r)) (λ e. stays r is (done_at set r (low r is) e))))

  clause_open : (set c : ℕ) → c < length problem.clauses → IsOpen set (clause_at problem.clauses c).region → is_open problem.joins set (clause_at problem.clauses c).region ≡ true
  clause_open set c low stays = open_from set (clause_at problem.clauses c).region (clause_at problem.clauses c).region refl (λ r e. region_low problem setting m c r low e) stays

  module _ (none : HasNoClasses problem) where
    no_class : (c : ℕ) → c < length problem.clauses → is_none (clause_at problem.clauses c).class ≡ true
    no_class c low = ap is_none (none.clauses (clause_at problem.clauses c) (clause_stands problem.clauses c low))

    -- ---- a stage

    module _ (stage : Stage) where
      abbrev Tested : ℕ → Type 0
      Tested c = (c < length problem.clauses) × (stands_alone problem.joins stage (clause_at problem.clauses c) ≡ true)

      only_clauses : clauses_of_stage problem stage ≡ map expr_of (filter (stands_alone problem.joins stage) problem.clauses)
      only_clauses = ap (λ (classes : List Class). flat_map (of_class stage) (filter (is_open_class problem.joins stage.whole) classes) ++ map expr_of (filter (stands_alone problem.joins stage) problem.clauses)) none.classes

      tested_hold : (x : Map) → list_holds (problem_rels problem) setting (clauses_of_stage problem stage) x ≡ true → (c : ℕ) → Tested c → f.holds c x ≡ true
      tested_hold x h c t = each_holds (problem_rels problem) setting x (map expr_of (filter (stands_alone problem.joins stage) problem.clauses)) (subst (λ conds. list_holds (problem_rels problem) setting conds x ≡ true) only_clauses h) (clause_at problem.clauses c).expr
          (in_map expr_of (clause_at problem.clauses c) (filter (stands_alone problem.joins stage) problem.clauses)
          (in_filter (stands_alone problem.joins stage) (clause_at problem.clauses c) problem.clauses t.1 (to_in (clause_at problem.clauses c) problem.clauses (clause_stands problem.clauses c t.0))))

      hold_tested : (x : Map) → ((c : ℕ) → Tested c → f.holds c x ≡ true) → list_holds (problem_rels problem) setting (clauses_of_stage problem stage) x ≡ true
      hold_tested x each = subst (λ conds. list_holds (problem_rels problem) setting conds x ≡ true) (sym only_clauses) (all_hold (problem_rels problem) setting x (map expr_of (filter (stands_alone problem.joins stage) problem.clauses)) at)
        where
          at : (e : Expr) → In e (map expr_of (filter (stands_alone problem.joins stage) problem.clauses)) → expr_holds (problem_rels problem) setting e x ≡ true
          at e h =
              let origin = from_map expr_of e (filter (stands_alone problem.joins stage) problem.clauses) h in
              let facts = from_filter (stands_alone problem.joins stage) origin.0 problem.clauses origin.1 in
              let p = clause_placed problem.clauses origin.0 facts.1 in
              subst (λ y. expr_holds (problem_rels problem) setting y x ≡ true) (ap expr_of p.2 ∙ origin.2) (each p.0 (p.1, subst (λ d. stands_alone problem.joins stage d ≡ true) (sym p.2) facts.0))

      parts_of : (c : ℕ) → Tested c → (is_open problem.joins stage.whole (clause_at problem.clauses c).region ≡ true) × (comes_up stage (clause_at problem.clauses c).req ≡ true)
      parts_of c t =
          let d = clause_at problem.clauses c in
          and_parts (is_open problem.joins stage.whole d.region) (comes_up stage d.req) (and_parts (is_none d.class) (is_open problem.joins stage.whole d.region && comes_up stage d.req) t.1).1

      tested_from : (c : ℕ) → c < length problem.clauses → IsOpen stage.whole (clause_at problem.clauses c).region → comes_up stage (clause_at problem.clauses c).req ≡ true → Tested c
      tested_from c low stays up =
          let d = clause_at problem.clauses c in
          (low, and_from (is_none d.class) (is_open problem.joins stage.whole d.region && comes_up stage d.req) (no_class c low) (and_from (is_open problem.joins stage.whole d.region) (comes_up stage d.req) (clause_open stage.whole c low stays) up))

    -- ---- steps

    due_of : (left right c : ℕ) → Tested (step_stage left right) c → IsDue f left right c
    due_of left right c t =
        let d = clause_at problem.clauses c in
        let parts = parts_of (step_stage left right) c t in
        let up = and_parts (is_within d.req (bit_or left right)) (not (is_within d.req left || is_within d.req right)) parts.1 in
        let before = or_parts (is_within d.req left) (is_within d.req right) (not-true (is_within d.req left || is_within d.req right) up.1) in
        record {
          clause = t.0;
          within = (is_within_says d.req (bit_or left right)).0 up.0;
          not_left = λ w. both_ways (is_within d.req left) before.0 ((is_within_says d.req left).1 w);
          not_right = λ w. both_ways (is_within d.req right) before.1 ((is_within_says d.req right).1 w);
          open_region = open_at (bit_or left right) d.region parts.0;
        }

    of_due : (left right c : ℕ) → IsDue f left right c → Tested (step_stage left right) c
    of_due left right c due =
        let d = clause_at problem.clauses c in
        tested_from (step_stage left right) c due.clause due.open_region
        (and_from (is_within d.req (bit_or left right)) (not (is_within d.req left || is_within d.req right)) ((is_within_says d.req (bit_or left right)).1 due.within)
        (not_from_false (is_within d.req left || is_within d.req right) (false_from_ne_true (is_within d.req left || is_within d.req right) (λ e. elim (or_cases (is_within d.req left) (is_within d.req right) e) [
          | inl p ↦ due.not_left ((is_within_says d.req left).0 p)
          | inr p ↦ due.not_right ((is_within_says d.req right).0 p)
        ]))))

    pub step_enough : (left right : ℕ) (step : Step) → IsEnough f left right step (step_clauses_hold problem setting left right)
    step_enough left right step x candidate = (
      λ h c due. tested_hold (step_stage left right) x h c (of_due left right c due),
      λ all. hold_tested (step_stage left right) x (λ c t. all c (due_of left right c t)),
    )

    -- ---- scans

    active_of : (i c : ℕ) → Tested (scan_stage i) c → IsActive f (2 ^ i) c
    active_of i c t =
        let d = clause_at problem.clauses c in
        let parts = parts_of (scan_stage i) c t in
        record {
          clause = t.0;
          within = (is_within_says d.req (2 ^ i)).0 (and_parts (is_within d.req (2 ^ i)) true parts.1).0;
          open_region = open_at (2 ^ i) d.region parts.0;
        }

    of_active : (i c : ℕ) → IsActive f (2 ^ i) c → Tested (scan_stage i) c
    of_active i c active =
        let d = clause_at problem.clauses c in
        tested_from (scan_stage i) c active.clause active.open_region (and_from (is_within d.req (2 ^ i)) true ((is_within_says d.req (2 ^ i)).1 active.within) refl)

    pub scan_enough : (i : ℕ) → IsEnoughAtScan f i (scan_clauses_hold problem setting i)
    scan_enough i r low = (
      λ h c active. tested_hold (scan_stage i) (one_row f.items i r) h c (of_active i c active),
      λ all. hold_tested (scan_stage i) (one_row f.items i r) (λ c t. all c (active_of i c t)),
    )

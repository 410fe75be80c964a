-- The estimate in rounds, and one join at a time.
use Rattle.std.proofs.Common.{◌≡◌, ◌∙◌, ap, refl, ℕ, zero, suc, Bool, true, false, ◌&&◌, ◌||◌, cond, List, [], ◌∷◌, map, filter, fold}
use Rattle.std.specs.Prelude.{not, bit_or, if◌then◌else◌}
use Rattle.std.specs.List.{list_any}
use Rattle.jp_problem.specs.declared.types.Problem.{Problem}
use Rattle.jp_problem.specs.declared.types.Special.{Special}
use Rattle.jp_problem.specs.LegalTests.{is_inside}
use Rattle.jp_problem.specs.MinimumSets.{right_of}
use Rattle.jp_problem.specs.Sets.{is_within}
use Rattle.jp_problem.specs.StepClauses.{is_done}
use Rattle.jp_query.specs.Refs.{union}
use Rattle.jp_cost.specs.Estimates.{done_in, estimate_by, estimate_in, is_outermost, join_rows, outermost_in}
use Rattle.jp_cost.specs.Rounds.{after_outer, is_around, is_outer, with_right}

pub no_round : (problem : Problem) (set : ℕ) → estimate_in zero problem set ≡ 1
unfolding estimate_in
no_round problem set = refl

pub one_round : (rounds : ℕ) (problem : Problem) (set : ℕ) → estimate_in (suc rounds) problem set ≡ estimate_by problem (estimate_in rounds problem) set
unfolding estimate_in
one_round rounds problem set = refl

pub ruleset rounds_equations = (no_round, one_round)

pub inside_is : (s t : Special) → is_inside s t ≡ is_within s.min_left t.min_right && is_within s.min_right t.min_right
unfolding is_inside
inside_is s t = refl

-- ---- folds over filtered lists

right_sets : (set items : ℕ) (joins : List Special) → fold (with_right set) items joins ≡ fold bit_or items (map right_of (filter (is_done set) joins))
unfolding with_right
right_sets set items [] = refl
right_sets set items (s ∷ joins) = by (is_done set s) (λ n. right_sets set n joins)
  where
    by : (b : Bool) → ((n : ℕ) → fold (with_right set) n joins ≡ fold bit_or n (map right_of (filter (is_done set) joins)))
        → fold (with_right set) (if b then bit_or items s.min_right else items) joins ≡ fold bit_or items (map right_of (cond b (s ∷ filter (is_done set) joins) (filter (is_done set) joins)))
    by true more = more (bit_or items s.min_right)
    by false more = more items

pub absent_is : (set : ℕ) (joins : List Special) → fold (with_right set) 0 joins ≡ union (map right_of (filter (is_done set) joins))
absent_is set joins = right_sets set 0 joins

around : (set : ℕ) (s : Special) (joins : List Special) → list_any (is_around set s) joins ≡ list_any (is_inside s) (filter (is_done set) joins)
unfolding is_around
around set s [] = refl
around set s (t ∷ joins) = by (is_done set t) (around set s joins)
  where
    by : (b : Bool) → list_any (is_around set s) joins ≡ list_any (is_inside s) (filter (is_done set) joins)
        → ((b && is_inside s t) || list_any (is_around set s) joins) ≡ list_any (is_inside s) (cond b (t ∷ filter (is_done set) joins) (filter (is_done set) joins))
    by true more = ap (λ x. is_inside s t || x) more
    by false more = more

module _ (problem : Problem) (set : ℕ) (estimate : ℕ → ℕ) where
  abbrev by_join : ℕ → Special → ℕ
  by_join = join_rows problem estimate

  step : (rows : ℕ) (s : Special) → after_outer problem set estimate rows s ≡ (if is_done set s && is_outermost (done_in problem set) s then by_join rows s else rows)
  unfolding after_outer is_outer
  step rows s = ap (λ b. if is_done set s && not b then by_join rows s else rows) (around set s problem.joins)

  one_by_one : (rows : ℕ) (joins : List Special) → fold (after_outer problem set estimate) rows joins ≡ fold by_join rows (filter (is_outermost (done_in problem set)) (filter (is_done set) joins))
  one_by_one rows [] = refl
  one_by_one rows (s ∷ joins) = ap (λ r. fold (after_outer problem set estimate) r joins) (step rows s) ∙ by (is_done set s) (is_outermost (done_in problem set) s) refl (λ r. one_by_one r joins)
    where
      rest : List Special
      rest = filter (is_done set) joins

      by : (b c : Bool) → is_outermost (done_in problem set) s ≡ c → ((r : ℕ) → fold (after_outer problem set estimate) r joins ≡ fold by_join r (filter (is_outermost (done_in problem set)) rest))
          → fold (after_outer problem set estimate) (if b && c then by_join rows s else rows) joins ≡ fold by_join rows (filter (is_outermost (done_in problem set)) (cond b (s ∷ rest) rest))
      by false c e more = more rows
      by true true e more = rw e (more (by_join rows s))
      by true false e more = rw e (more rows)

  pub joins_one_by_one : (rows : ℕ) → fold (after_outer problem set estimate) rows problem.joins ≡ fold by_join rows (outermost_in problem set)
  joins_one_by_one rows = one_by_one rows problem.joins

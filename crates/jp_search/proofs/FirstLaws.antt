-- The first trees of the parts give the first tree of each split, and the best split gives that of the set.
use Rattle.std.proofs.Common.{◌≡◌, ◌∙◌, sym, ap, ap₂, subst, subst₂, refl, ℕ, ◌+◌, ◌^◌, ◌<◌, ◌≤◌, inl, inr, arith, List, Option, Some, None}
use Rattle.std.specs.Prelude.{bit_or}
use Rattle.jp_base.specs.Sets.{Has, Within}
use Rattle.jp_base.proofs.MaskAlgebra.{in_left}
use Rattle.jp_problem.specs.declared.types.Problem.{Problem}
use Rattle.jp_problem.specs.declared.types.Method.{Method}
use Rattle.jp_problem.specs.declared.types.Step.{Step}
use Rattle.jp_problem.specs.Keys.{IsAllowed}
use Rattle.jp_problem.specs.Legal.{IsLegalStep}
use Rattle.jp_problem.specs.LegalTests.{step_of}
use Rattle.jp_problem.specs.Sets.{without}
use Rattle.jp_problem.specs.Trees.{Tree, Scan, Join, set_of, IsLegalTree}
use Rattle.jp_problem.proofs.LegalLaws.{step_says}
use Rattle.jp_cost.specs.Costs.{cost}
use Rattle.jp_cost.specs.Estimates.{estimate}
use Rattle.jp_tree.specs.declared.pool.PlanNode.{PlanNode}
use Rattle.jp_search.specs.declared.table.Choice.{Choice}
use Rattle.jp_search.specs.declared.table.Found.{Found}
use Rattle.jp_search.specs.Entries.{IsEntry, Knows}
use Rattle.jp_search.specs.Splits.{IsPartAbove, IsLeastAbove, at_part, method_of, stepped}
use Rattle.jp_search.specs.Tables.{entry_at}
use Rattle.jp_cost.specs.TreeCosts.{tree_cost}
use Rattle.std.proofs.lemmas.Bool.{cases_lt}
use Rattle.jp_search.specs.TreeOrder.{ComesBefore, Then, IsFirst, rank}
use Rattle.jp_search.proofs.MethodLaws.{method_allowed, method_first}
use Rattle.jp_search.proofs.PartLaws.{part_and_rest, rest_is, part_below, other_below, positive, rest_below}
use Rattle.jp_search.proofs.SplitLaws.{IsOf, made_of, all_there}
use Rattle.jp_search.proofs.TreeLaws.{IsTreeBy, one_kind, tree_item}

-- the left set of the root; of a scan none
abbrev left_of : Tree → ℕ
left_of (Scan i) = 0
left_of (Join method kind left right) = set_of left

none_some : {X : Type 0} (x : X) → None ≡ Some x → ⊥
none_some x e = cc

-- a legal tree of the set
record IsCandidate (problem : Problem) (set : ℕ) (t : Tree) : Type 0 where
  pub legal : IsLegalTree problem t
  pub covers : set_of t ≡ set

pub by_cost : (problem : Problem) (a b : Tree) → tree_cost problem a < tree_cost problem b → ComesBefore problem a b
by_cost problem (Join m k a b) (Join n l c d) less = inl less
by_cost problem (Join m k a b) (Scan i) less = less
by_cost problem (Scan i) (Join n l c d) less = less
by_cost problem (Scan i) (Scan k) less = less

pub at_most : (problem : Problem) (a b : Tree) → ComesBefore problem a b → tree_cost problem a ≤ tree_cost problem b
at_most problem (Join m k a b) (Join n l c d) (inl less) = omega (arith, less)
at_most problem (Join m k a b) (Join n l c d) (inr more) = omega (arith, more.0)
at_most problem (Join m k a b) (Scan i) less = omega (arith, less)
at_most problem (Scan i) (Join n l c d) less = omega (arith, less)
at_most problem (Scan i) (Scan k) less = omega (arith, less)

-- at equal costs the left sets tell, where they differ
left_at_most : (problem : Problem) (a b : Tree) → ComesBefore problem a b → tree_cost problem a ≡ tree_cost problem b → left_of a ≤ left_of b
left_at_most problem (Join m k a b) (Join n l c d) (inl less) same = absurd (omega (arith, less, same))
left_at_most problem (Join m k a b) (Join n l c d) (inr (tie, inl less)) same = omega (arith, less)
left_at_most problem (Join m k a b) (Join n l c d) (inr (tie, inr more)) same = omega (arith, more.0)
left_at_most problem (Join m k a b) (Scan i) less same = absurd (omega (arith, less, same))
left_at_most problem (Scan i) (Join n l c d) less same = absurd (omega (arith, less, same))
left_at_most problem (Scan i) (Scan k) less same = absurd (omega (arith, less, same))

costs : (c d a b : ℕ) → ¬ (c < a) → ¬ (d < b) → a + b ≤ c + d
costs c d a b not_c not_d = elim (cases_lt c a) [ inl p ↦ absurd (not_c p) | inr p ↦ elim (cases_lt d b) [ inl q ↦ absurd (not_d q) | inr q ↦ omega (arith, p, q) ] ]

-- A step of the first trees of two sets, by the first of the methods that it allows, is before each step of trees of these
-- sets.
module _ (problem : Problem) (m : Method) (kind : Step) (p q : ℕ) (a b : Tree) (first_a : IsFirst problem p a) (first_b : IsFirst problem q b)
    (least : (n : Method) → IsAllowed problem p q kind n → Then (cost m (estimate problem p) (estimate problem q)) (cost n (estimate problem p) (estimate problem q)) (rank m ≤ rank n)) where
  none_before : (n : Method) (l : Step) (c d : Tree) → IsAllowed problem p q kind n → IsCandidate problem p c → IsCandidate problem q d → ¬ ComesBefore problem (Join n l c d) (Join m kind a b)
  none_before n l c d allowed on_c on_d before = elim before [
    | inl cheaper ↦ elim (least n allowed) [ inl less ↦ omega (arith, cheaper, parts, here, there, less) | inr tie ↦ omega (arith, cheaper, parts, here, there, tie.0) ]
    | inr (same_cost, inl less) ↦ omega (arith, less, on_c.covers, first_a.covers)
    | inr (same_cost, inr (same_left, inl lower)) ↦ elim (least n allowed) [ inl less ↦ omega (arith, same_cost, parts, here, there, less) | inr tie ↦ omega (arith, lower, tie.1) ]
    | inr (same_cost, inr (same_left, inr (same_method, inl left_before))) ↦ first_a.first c on_c.legal on_c.covers left_before
    | inr (same_cost, inr (same_left, inr (same_method, inr (same_tree, right_before)))) ↦ first_b.first d on_d.legal on_d.covers right_before
  ]
    where
      there : cost n (estimate problem (set_of c)) (estimate problem (set_of d)) ≡ cost n (estimate problem p) (estimate problem q)
      there = ap₂ (λ x y. cost n (estimate problem x) (estimate problem y)) on_c.covers on_d.covers

      here : cost m (estimate problem (set_of a)) (estimate problem (set_of b)) ≡ cost m (estimate problem p) (estimate problem q)
      here = ap₂ (λ x y. cost m (estimate problem x) (estimate problem y)) first_a.covers first_b.covers

      parts : tree_cost problem a + tree_cost problem b ≤ tree_cost problem c + tree_cost problem d
      parts = costs (tree_cost problem c) (tree_cost problem d) (tree_cost problem a) (tree_cost problem b)
          (λ less. first_a.first c on_c.legal on_c.covers (by_cost problem c a less))
          (λ less. first_b.first d on_d.legal on_d.covers (by_cost problem d b less))

-- ---- the splits of a set, whose parts are known

module _ (problem : Problem) (nodes : List PlanNode) (entries : List (Option Found)) (set : ℕ) (knows : Knows problem nodes entries set) where
  -- the first tree of those with this left set at the root
  record IsBestAt (p : ℕ) (c : Choice) (t : Tree) : Type 0 where
    pub by : IsTreeBy nodes c.node t
    pub candidate : IsCandidate problem set t
    pub cost : c.cost ≡ tree_cost problem t
    pub at : left_of t ≡ p
    pub first : (other : Tree) → IsCandidate problem set other → left_of other ≡ p → ¬ ComesBefore problem other t

  known_at : (part : ℕ) (found : Found) → part < set → entry_at entries part ≡ Some found → IsEntry problem nodes part (Some found)
  known_at part found below e = subst (IsEntry problem nodes part) e (knows.known part below)

  unknown_at : (part : ℕ) → part < set → entry_at entries part ≡ None → IsEntry problem nodes part None
  unknown_at part below e = subst (IsEntry problem nodes part) e (knows.known part below)

  best_at : (p : ℕ) (c : Choice) → IsPartAbove set 0 p → at_part problem entries set p ≡ Some c → (t : Tree) × IsBestAt p c t
  best_at p c part e = (
    Join m kind a b,
    record {
      by = subst (λ (d : Choice). IsTreeBy nodes d.node (Join m kind a b)) (sym split.is) (a, b, left.1, right.1, refl);
      candidate = record {
        legal = (
          subst₂ (λ x y. IsLegalStep problem x y kind) (sym first_a.covers) (sym first_b.covers) step,
          subst₂ (λ x y. IsAllowed problem x y kind m) (sym first_a.covers) (sym first_b.covers) (method_allowed problem p q kind split.left_tree.rows split.right_tree.rows),
          first_a.legal,
          first_b.legal,
        );
        covers = ap₂ bit_or first_a.covers first_b.covers ∙ part_and_rest set p part.within;
      };
      cost = ap (λ (d : Choice). d.cost) split.is ∙ ap₂ (λ x y. x + y) (ap₂ (λ x y. x + y) left.3 right.3) (ap₂ (cost m) (left.4 ∙ ap (estimate problem) (sym first_a.covers)) (right.4 ∙ ap (estimate problem) (sym first_b.covers)));
      at = first_a.covers;
      first = first;
    },
  )
    where
      q : ℕ
      q = without set p

      split : IsOf problem entries p q c
      split = made_of problem entries p q c e

      kind : Step
      kind = split.kind

      step : IsLegalStep problem p q kind
      step = (step_says problem p q kind).0 split.legal

      left : IsEntry problem nodes p (Some split.left_tree)
      left = known_at p split.left_tree part.below split.on_left

      right : IsEntry problem nodes q (Some split.right_tree)
      right = known_at q split.right_tree (rest_below set p part.above part.within) split.on_right

      a : Tree
      a = left.0

      b : Tree
      b = right.0

      first_a : IsFirst problem p a
      first_a = left.2

      first_b : IsFirst problem q b
      first_b = right.2

      m : Method
      m = method_of problem p q kind split.left_tree.rows split.right_tree.rows

      least : (n : Method) → IsAllowed problem p q kind n → Then (cost m (estimate problem p) (estimate problem q)) (cost n (estimate problem p) (estimate problem q)) (rank m ≤ rank n)
      least n allowed = subst₂ (λ x y. Then (cost m x y) (cost n x y) (rank m ≤ rank n)) left.4 right.4 (method_first problem p q kind split.left_tree.rows split.right_tree.rows n allowed)

      first : (other : Tree) → IsCandidate problem set other → left_of other ≡ p → ¬ ComesBefore problem other (Join m kind a b)
      first (Scan i) is at before = omega (arith, at, part.above)
      first (Join n l c d) is at before =
          let rest : set_of d ≡ q = rest_is (set_of c) (set_of d) is.legal.0.step.apart ∙ ap₂ without is.covers at in
          let same : l ≡ kind = one_kind problem (set_of c) (set_of d) p q l kind at rest is.legal.0 step in
          none_before problem m kind p q a b first_a first_b least n l c d
          (subst (λ k. IsAllowed problem p q k n) same (subst₂ (λ x y. IsAllowed problem x y l n) at rest is.legal.1))
          (record { legal = is.legal.2; covers = at })
          (record { legal = is.legal.3; covers = rest })
          before

  -- each tree that is no scan comes from a split
  split_by : (m : Method) (l : Step) (a b : Tree) → IsCandidate problem set (Join m l a b) → IsPartAbove set 0 (set_of a) × ((c : Choice) × (at_part problem entries set (set_of a) ≡ Some c))
  split_by m l a b is = (part, found (entry_at entries (set_of a)) (entry_at entries rest) refl refl)
    where
      step : IsLegalStep problem (set_of a) (set_of b) l
      step = is.legal.0

      item_a : (i : ℕ) × Has (set_of a) i
      item_a = tree_item problem a is.legal.2

      item_b : (i : ℕ) × Has (set_of b) i
      item_b = tree_item problem b is.legal.3

      rest : ℕ
      rest = without set (set_of a)

      rest_same : set_of b ≡ rest
      rest_same = rest_is (set_of a) (set_of b) step.step.apart ∙ ap (λ s. without s (set_of a)) is.covers

      part : IsPartAbove set 0 (set_of a)
      part = record {
        within = subst (Within (set_of a)) is.covers (in_left (set_of a) (set_of b));
        above = positive (set_of a) item_a.0 item_a.1;
        below = subst (λ s. set_of a < s) is.covers (part_below (set_of a) (set_of b) item_b.0 step.step.apart item_b.1);
      }

      below_b : rest < set
      below_b = subst₂ (λ r s. r < s) rest_same is.covers (other_below (set_of a) (set_of b) item_a.0 step.step.apart item_a.1)

      computed : step_of problem.joins (set_of a) rest ≡ Some l
      computed = (step_says problem (set_of a) rest l).1 (subst (λ r. IsLegalStep problem (set_of a) r l) rest_same step)

      found : (x y : Option Found) → entry_at entries (set_of a) ≡ x → entry_at entries rest ≡ y → (c : Choice) × (at_part problem entries set (set_of a) ≡ Some c)
      found (Some f) (Some g) is_x is_y = let c = stepped (method_of problem (set_of a) rest l f.rows g.rows) l f g in (c, sym (all_there problem entries (set_of a) rest l f g c computed is_x is_y refl))
      found (Some f) None is_x is_y = absurd (unknown_at rest below_b is_y b is.legal.3 rest_same)
      found None y is_x is_y = absurd (unknown_at (set_of a) part.below is_x a is.legal.2 refl)

  -- of a set of several items
  module _ (several : (i : ℕ) → ¬ (set ≡ 2 ^ i)) where
    pub no_tree : IsLeastAbove problem entries set 0 None → IsEntry problem nodes set None
    no_tree none (Scan i) legal covers = several i (sym covers)
    no_tree none (Join m l a b) legal covers =
        let split = split_by m l a b (record { legal = legal; covers = covers }) in
        none_some split.1.0 (sym (none (set_of a) split.0) ∙ split.1.1)

    -- the best split gives the first tree
    pub first_tree : (c : Choice) → IsLeastAbove problem entries set 0 (Some c) → (t : Tree) × IsTreeBy nodes c.node t × IsFirst problem set t × (c.cost ≡ tree_cost problem t)
    first_tree c (p, part, e, least) = (t, best.by, record { legal = best.candidate.legal; covers = best.candidate.covers; first = first }, best.cost)
      where
        t : Tree
        t = (best_at p c part e).0

        best : IsBestAt p c t
        best = (best_at p c part e).1

        -- against the best tree with the same left set
        against : (other : Tree) (q : ℕ) (d : Choice) (u : Tree) → IsCandidate problem set other → left_of other ≡ q → IsBestAt q d u → Then c.cost d.cost (p ≤ q) → ¬ ComesBefore problem other t
        against other q d u is at best_u (inl less) before =
            elim (cases_lt (tree_cost problem other) (tree_cost problem u)) [
              | inl cheaper ↦ best_u.first other is at (by_cost problem other u cheaper)
              | inr no_less ↦ omega (arith, no_less, less, at_most problem other t before, best.cost, best_u.cost)
            ]
        against other q d u is at best_u (inr (tie, before_q)) before =
            elim (cases_lt (tree_cost problem other) (tree_cost problem u)) [
              | inl cheaper ↦ best_u.first other is at (by_cost problem other u cheaper)
              | inr no_less ↦
                  let same : tree_cost problem other ≡ tree_cost problem t = omega (arith, no_less, tie, at_most problem other t before, best.cost, best_u.cost) in
                  best.first other is (omega (arith, left_at_most problem other t before same, before_q, at, best.at)) before
            ]

        first : (other : Tree) → IsLegalTree problem other → set_of other ≡ set → ¬ ComesBefore problem other t
        first (Scan i) legal covers before = several i (sym covers)
        first (Join m l a b) legal covers before =
            let is : IsCandidate problem set (Join m l a b) = record { legal = legal; covers = covers } in
            let split = split_by m l a b is in
            let found = best_at (set_of a) split.1.0 split.0 split.1.1 in
            against (Join m l a b) (set_of a) split.1.0 found.0 is refl found.1 (least (set_of a) split.1.0 split.0 split.1.1) before

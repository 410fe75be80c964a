-- What a split gives.
use Rattle.std.proofs.Common.{◌≡◌, ◌∙◌, sym, ap, subst, refl, ℕ, ◌<◌, ◌≤◌, ◌⊎◌, inl, inr, Bool, true, false, arith, List, length, Option, Some, None}
use Rattle.std.specs.Prelude.{nat_lt, if◌then◌else◌}
use Rattle.std.proofs.lemmas.Bool.{both_ways, cases_eq, cases_lt, ltb-true, ltb-false}
use Rattle.jp_base.specs.Sets.{Within, IsGreatestBelow}
use Rattle.jp_problem.specs.declared.types.Problem.{Problem}
use Rattle.jp_problem.specs.declared.types.Step.{Step}
use Rattle.jp_problem.specs.Legal.{IsJoinable}
use Rattle.jp_problem.specs.LegalTests.{is_joinable, step_of}
use Rattle.jp_problem.specs.Sets.{without}
use Rattle.jp_problem.proofs.LegalLaws.{joinable_says, step_says}
use Rattle.jp_search.specs.declared.table.Choice.{Choice}
use Rattle.jp_search.specs.declared.table.Found.{Found}
use Rattle.jp_search.specs.Ready.{IsReady, IsTold}
use Rattle.jp_search.specs.Splits.{method_of, stepped, joined, split_of, at_part, IsPartAbove, IsLeastAbove, lesser}
use Rattle.jp_search.specs.Tables.{entry_at}
use Rattle.jp_search.specs.TreeOrder.{Then}
use Rattle.jp_search.proofs.PartLaws.{part_and_rest, rest_below}

none_some : {X : Type 0} (x : X) → None ≡ Some x → ⊥
none_some x e = cc

module _ (problem : Problem) (entries : List (Option Found)) (left right : ℕ) where
  pub all_there : (kind : Step) (f g : Found) (c : Choice) → step_of problem.joins left right ≡ Some kind → entry_at entries left ≡ Some f → entry_at entries right ≡ Some g → c ≡ stepped (method_of problem left right kind f.rows g.rows) kind f g → Some c ≡ split_of problem entries left right
  unfolding split_of
  all_there kind f g c a b d e = rw (a, b, d, e) refl

  pub no_right : entry_at entries right ≡ None → None ≡ split_of problem entries left right
  unfolding split_of
  no_right e = rw e (go (step_of problem.joins left right) (entry_at entries left))
    where
      go : (s : Option Step) (x : Option Found) → None ≡ joined problem left right s x None
      go (Some kind) (Some f) = refl
      go (Some kind) None = refl
      go None x = refl

  pub no_left : entry_at entries left ≡ None → None ≡ split_of problem entries left right
  unfolding split_of
  no_left e = rw e (go (step_of problem.joins left right))
    where
      go : (s : Option Step) → None ≡ joined problem left right s None (entry_at entries right)
      go (Some kind) = refl
      go None = refl

  pub no_step : step_of problem.joins left right ≡ None → None ≡ split_of problem entries left right
  unfolding split_of
  no_step a = rw a refl

  -- what a split is made of
  pub record IsOf (c : Choice) : Type 0 where
    pub kind : Step
    pub left_tree : Found
    pub right_tree : Found
    pub legal : step_of problem.joins left right ≡ Some kind
    pub on_left : entry_at entries left ≡ Some left_tree
    pub on_right : entry_at entries right ≡ Some right_tree
    pub is : c ≡ stepped (method_of problem left right kind left_tree.rows right_tree.rows) kind left_tree right_tree

  pub made_of : (c : Choice) → split_of problem entries left right ≡ Some c → IsOf c
  unfolding split_of
  made_of c e = go (step_of problem.joins left right) (entry_at entries left) (entry_at entries right) refl refl refl e
    where
      same : (a b : Choice) → Some a ≡ Some b → b ≡ a
      same a b e = cc

      go : (s : Option Step) (x y : Option Found) → step_of problem.joins left right ≡ s → entry_at entries left ≡ x → entry_at entries right ≡ y → joined problem left right s x y ≡ Some c → IsOf c
      go (Some kind) (Some f) (Some g) a b d e = record { kind = kind; left_tree = f; right_tree = g; legal = a; on_left = b; on_right = d; is = same (stepped (method_of problem left right kind f.rows g.rows) kind f g) c e }
      go (Some kind) (Some f) None a b d e = absurd (none_some c e)
      go (Some kind) None y a b d e = absurd (none_some c e)
      go None x y a b d e = absurd (none_some c e)

-- ---- the best of the splits

module _ (problem : Problem) (entries : List (Option Found)) (set : ℕ) where
  -- no part lies above the greatest one
  pub none_yet : (left : ℕ) → IsGreatestBelow set set left → IsLeastAbove problem entries set left None
  none_yet left greatest part above = absurd (omega (arith, greatest.greatest part above.within above.below, above.above))

  -- one part more
  module _ (left next : ℕ) (some : 0 < left) (within : Within left set) (below : left < set) (greatest : IsGreatestBelow set left next) where
    later : (part : ℕ) → IsPartAbove set next part → (part ≡ left) ⊎ IsPartAbove set left part
    later part above = elim (cases_lt left part) [
      | inl more ↦ inr (record { within = above.within; above = more; below = above.below })
      | inr less ↦ elim (cases_eq part left) [
        | inl same ↦ inl same
        | inr other ↦ absurd (omega (arith, greatest.greatest part above.within (omega (arith, less, other)), above.above))
      ]
    ]

    here : IsPartAbove set next left
    here = record { within = within; above = greatest.below; below = below }

    earlier : (part : ℕ) → IsPartAbove set left part → IsPartAbove set next part
    earlier part above = record { within = above.within; above = omega (arith, above.above, greatest.below); below = above.below }

    at_left : (part : ℕ) (o : Option Choice) → part ≡ left → at_part problem entries set left ≡ o → at_part problem entries set part ≡ o
    at_left part o e is = ap (at_part problem entries set) e ∙ is

    some_is : (a b : Choice) → Some a ≡ Some b → a ≡ b
    some_is a b e = cc

    one_more : (least found : Option Choice) → IsLeastAbove problem entries set left least → found ≡ split_of problem entries left (without set left) → IsLeastAbove problem entries set next (lesser least found)
    one_more None None known is = λ part above. elim (later part above) [ inl e ↦ at_left part None e (sym is) | inr more ↦ known part more ]
    one_more None (Some b) known is = (left, here, sym is, only)
      where
        only : (q : ℕ) (d : Choice) → IsPartAbove set next q → at_part problem entries set q ≡ Some d → Then b.cost d.cost (left ≤ q)
        only q d above e = elim (later q above) [
          | inl same ↦ inr (ap (λ (c : Choice). c.cost) (some_is b d (is ∙ sym (ap (at_part problem entries set) same) ∙ e)), omega (arith, same))
          | inr more ↦ absurd (none_some d (sym (known q more) ∙ e))
        ]
    one_more (Some a) None known is = (known.0, earlier known.0 known.1, known.2, only)
      where
        only : (q : ℕ) (d : Choice) → IsPartAbove set next q → at_part problem entries set q ≡ Some d → Then a.cost d.cost (known.0 ≤ q)
        only q d above e = elim (later q above) [
          | inl same ↦ absurd (none_some d (is ∙ sym (ap (at_part problem entries set) same) ∙ e))
          | inr more ↦ known.3 q d more e
        ]
    one_more (Some a) (Some b) known is = go (nat_lt a.cost b.cost) refl
      where
        go : (t : Bool) → nat_lt a.cost b.cost ≡ t → IsLeastAbove problem entries set next (if t then Some a else Some b)
        go true less = (known.0, earlier known.0 known.1, known.2, only)
          where
            only : (q : ℕ) (d : Choice) → IsPartAbove set next q → at_part problem entries set q ≡ Some d → Then a.cost d.cost (known.0 ≤ q)
            only q d above e = elim (later q above) [
              | inl same ↦ inl (subst (λ (c : Choice). a.cost < c.cost) (some_is b d (is ∙ sym (ap (at_part problem entries set) same) ∙ e)) (ltb-true a.cost b.cost less))
              | inr more ↦ known.3 q d more e
            ]
        go false more = (left, here, sym is, only)
          where
            no_more : b.cost ≤ a.cost
            no_more = ltb-false a.cost b.cost more

            only : (q : ℕ) (d : Choice) → IsPartAbove set next q → at_part problem entries set q ≡ Some d → Then b.cost d.cost (left ≤ q)
            only q d above e = elim (later q above) [
              | inl same ↦ inr (ap (λ (c : Choice). c.cost) (some_is b d (is ∙ sym (ap (at_part problem entries set) same) ∙ e)), omega (arith, same))
              | inr further ↦ elim (known.3 q d further e) [
                | inl less ↦ inl (omega (arith, less, no_more))
                | inr tie ↦ elim (cases_eq b.cost d.cost) [ inl equal ↦ inr (equal, omega (arith, further.above)) | inr differ ↦ inl (omega (arith, tie.0, no_more, differ)) ]
              ]
            ]

    pub further : (rest : ℕ) (least found after : Option Choice) → IsLeastAbove problem entries set left least → rest ≡ without set left → lesser least found ≡ lesser least (split_of problem entries left rest) → after ≡ lesser least found → IsLeastAbove problem entries set next after
    further rest least found after known rest_is is e =
        subst (IsLeastAbove problem entries set next) (sym (e ∙ is ∙ ap (λ r. lesser least (split_of problem entries left r)) rest_is)) (one_more least (at_part problem entries set left) known refl)

-- a set that can't be joined by itself has no split
pub no_split : (problem : Problem) (entries : List (Option Found)) (set : ℕ) → is_joinable problem.joins set ≡ false → IsLeastAbove problem entries set 0 None
no_split problem entries set e part above = sym (no_step problem entries part (without set part) (none (step_of problem.joins part (without set part)) refl))
  where
    none : (s : Option Step) → step_of problem.joins part (without set part) ≡ s → step_of problem.joins part (without set part) ≡ None
    none None is = is
    none (Some kind) is =
        let step = (step_says problem part (without set part) kind).0 is in
        absurd (both_ways (is_joinable problem.joins set) e ((joinable_says problem set).1 (subst (IsJoinable problem) (part_and_rest set part above.within) step.step.joinable)))

-- ---- the rest of a part

module _ (problem : Problem) (entries : List (Option Found)) (set left rest : ℕ) (ready : IsReady problem entries set) (some : 0 < left) (within : Within left set) (is : rest ≡ without set left) where
  pub rest_there : rest < length entries
  rest_there = omega (arith, is, rest_below set left some within, ready.there)

  pub rest_told : IsTold problem entries rest
  rest_told = subst (IsTold problem entries) (sym is) (ready.told (without set left) (rest_below set left some within))

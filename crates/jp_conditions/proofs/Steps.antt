-- The steps that join two parts of a block's tree as it is written are legal, each of its kind.
use Rattle.std.proofs.Common.{◌≡◌, ap, sym, subst, ℕ, suc, ◌+◌, ◌⊎◌, inl, inr, List, map, Some, arith}
use Rattle.std.specs.Prelude.{bit_or, slice_get}
use Rattle.jp_base.specs.Sets.{Has, Within}
use Rattle.jp_base.proofs.MaskAlgebra.{in_left}
use Rattle.jp_facts.proofs.Members.{In}
use Rattle.jp_problem.specs.declared.types.Item.{Item}
use Rattle.jp_problem.specs.declared.types.Outline.{Outline}
use Rattle.jp_problem.specs.declared.types.Special.{Special}
use Rattle.jp_problem.specs.declared.types.Step.TheVariants.{Inner, By}
use Rattle.jp_problem.specs.Legal.{Apart, IsDone, IsNew, IsJoinable, IsStep, IsLegalStep}
use Rattle.jp_problem.specs.MinimumSets.{specials_in}
use Rattle.jp_problem.specs.Problems.{problem_in}
use Rattle.jp_conditions.proofs.Bounds.{Laid, bounded, numbers}
use Rattle.jp_conditions.proofs.Nesting.{left_some, right_some}
use Rattle.jp_conditions.proofs.Numbers.{number_at, at_place, from_place}
use Rattle.jp_conditions.proofs.Places.{sides_of}
use Rattle.jp_conditions.proofs.SetForms as forms
use Rattle.jp_conditions.proofs.Sources.{special_no, special_sides}
use Rattle.jp_conditions.proofs.Stages.{Stage, joinable, own_done, done_own}
use Rattle.jp_conditions.proofs.Standing.{Sides}

module _ (items : List Item) (block : Outline) (set : ℕ) (laid : Laid block set) (a b part : ℕ) (xs ys zs : List Sides) (same : bit_or a b ≡ part) (apart : Apart a b) (some : forms.Some a) (more : forms.Some b)
    (left : Stage (map sides_of block.joins) a xs) (right : Stage (map sides_of block.joins) b ys) (both : Stage (map sides_of block.joins) part zs) where
  some_part : forms.Some part
  some_part = (some.0, subst (λ n. Has n some.0) same (in_left a b some.0 some.1))

  is_step : IsStep (problem_in items block) a b
  is_step = record {
    apart = apart;
    left_joinable = joinable block set laid a xs left items some;
    right_joinable = joinable block set laid b ys right items more;
    joinable = subst (λ n. IsJoinable (problem_in items block) n) (sym same) (joinable block set laid part zs both items some_part);
  }

  -- a join that is new is one of the union
  new_own : (s : Special) → In s (specials_in block) → IsNew a b s → In (special_sides s) zs
  new_own s h new = done_own block set laid part zs both s h (subst (λ n. IsDone n s) same new.in_union)

  -- without a join of its own the union has none that is new
  pub inner_step : ((u : Sides) → In u zs → In u xs ⊎ In u ys) → IsLegalStep (problem_in items block) a b Inner
  inner_step each = record { step = is_step; of_kind = λ k s at new. none s (from_place (specials_in block) k s at) new (each (special_sides s) (new_own s (from_place (specials_in block) k s at) new)) }
    where
      none : (s : Special) → In s (specials_in block) → IsNew a b s → In (special_sides s) xs ⊎ In (special_sides s) ys → ⊥
      none s h new (inl m) = new.not_left (own_done block set laid a xs left s h m)
      none s h new (inr m) = new.not_right (own_done block set laid b ys right s h m)

  -- the join over the two parts, whose sides they are
  module _ (w : Special) (here : In w (specials_in block)) (on_left : w.syn_left ≡ a) (on_right : w.syn_right ≡ b) (own : In (special_sides w) zs) (each : (u : Sides) → In u zs → (In u xs ⊎ In u ys) ⊎ (special_sides w ≡ u)) where
    left_in : Within w.min_left a
    left_in = subst (Within w.min_left) on_left (bounded block set laid w here).left

    right_in : Within w.min_right b
    right_in = subst (Within w.min_right) on_right (bounded block set laid w here).right

    is_new : IsNew a b w
    is_new = record {
      in_union = subst (λ n. IsDone n w) (sym same) (own_done block set laid part zs both w here own);
      not_left = λ done. let j = right_some block set laid w here in apart (j.0, done.right j.0 j.1, right_in j.0 j.1);
      not_right = λ done. let i = left_some block set laid w here in apart (i.0, left_in i.0 i.1, done.left i.0 i.1);
    }

    only_it : (t : Special) → In t (specials_in block) → IsNew a b t → t.no ≡ w.no
    only_it t h new = by (each (special_sides t) (new_own t h new))
      where
        by : (In (special_sides t) xs ⊎ In (special_sides t) ys) ⊎ (special_sides w ≡ special_sides t) → t.no ≡ w.no
        by (inl (inl m)) = absurd (new.not_left (own_done block set laid a xs left t h m))
        by (inl (inr m)) = absurd (new.not_right (own_done block set laid b ys right t h m))
        by (inr e) = sym (ap (λ (s : Sides). s.no) e)

    numbered_at : (k : ℕ) (t : Special) → slice_get (specials_in block) k ≡ Some t → t.no ≡ suc (0 + k)
    numbered_at k t e = number_at special_no 0 (specials_in block) k t (numbers block set laid) e

    pub by_step : (number : ℕ) → w.no ≡ number → IsLegalStep (problem_in items block) a b (By number)
    by_step number is = record {
      step = is_step;
      of_kind = record {
        join = w;
        numbered = is;
        only_new = (let place = at_place (specials_in block) w here in record {
          place = place.0;
          join = place.1;
          new = is_new;
          only = λ k t at new. omega (arith, numbered_at k t at, numbered_at place.0 w place.1, only_it t (from_place (specials_in block) k t at) new);
        });
        on_left = left_in;
        on_right = right_in;
      };
    }

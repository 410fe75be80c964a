-- Runs of legal trees are legal, and give one bag.
use Rattle.std.proofs.Common.{◌≡◌, ap₂, sym, subst, refl, ◌<◌, Bool, length}
use Rattle.std.specs.Prelude.{◌^◌, bit_or}
use Rattle.std.specs.List.Sorted.{IsPermutation}
use Rattle.std.proofs.lemmas.List.Sorted.{IsPermutation-sym, IsPermutation-trans, IsPermutation-map}
use Rattle.jp_problem.specs.declared.types.Method.{Method}
use Rattle.jp_problem.specs.declared.types.Method.TheVariants as method
use Rattle.jp_problem.specs.declared.types.Problem.{Problem}
use Rattle.jp_problem.specs.Conditions.{MeetsConditions}
use Rattle.jp_problem.specs.Made.{IsMade}
use Rattle.jp_problem.specs.Problems.{problem_rels}
use Rattle.jp_problem.specs.Trees.{Tree, set_of, IsLegalTree}
use Rattle.jp_conditions.proofs.MadeLaws.{made_conditions}
use Rattle.jp_frame.specs.Frames.{Frame}
use Rattle.jp_frame.specs.Maps.{Map}
use Rattle.jp_frame.specs.Rows.{row_set}
use Rattle.jp_frame.specs.Steps.{IsLegal, IsEnough}
use Rattle.jp_frame.specs.Methods.{ListsOnce, IsAllowed as IsAllowedRun}
use Rattle.jp_frame.specs.Trees.{Tree as Run, set_of as run_set, IsLegalTree as IsLegalRun, rows_of}
use Rattle.jp_frame.proofs.TreeLaws.{tree_bag, tree_lists, once_from}
use Rattle.jp_framed.specs.Environments.{Setting, env_of}
use Rattle.jp_framed.specs.Framing.{frame_of}
use Rattle.jp_framed.specs.Running.{step_of, IsSameMethod, IsRunOf, tuples_of_run, step_clauses_hold, HasNoClasses, Orders, method_of, run_of}
use Rattle.jp_framed.proofs.EnoughLaws.{step_enough, scan_enough}
use Rattle.jp_framed.proofs.MadeLaws.{made_frame}
use Rattle.jp_framed.proofs.StepLaws.{legal_from, allowed_from}

module _ (problem : Problem) (setting : Setting) where
  abbrev f : Frame
  f = frame_of problem setting

  pub same_set : (t : Tree) (r : Run) → IsRunOf f t r → run_set r ≡ set_of t
  same_set (Tree.Scan i) (Run.Scan j test) h = λ k. 2 ^ sym h.0 k
  same_set (Tree.Join method kind left right) (Run.Join how step test on_left on_right) h = ap₂ bit_or (same_set left on_left h.3) (same_set right on_right h.4)
  same_set (Tree.Scan i) (Run.Join how step test on_left on_right) h = absurd h
  same_set (Tree.Join method kind left right) (Run.Scan j test) h = absurd h

  module _ (m : MeetsConditions problem) where
    pub run_legal : (t : Tree) (r : Run) → IsLegalTree problem t → IsRunOf f t r → IsLegalRun f r
    run_legal (Tree.Scan i) (Run.Scan j test) legal h = (subst (λ n. n < length problem.items) h.0 legal, h.1)
    run_legal (Tree.Join method kind left right) (Run.Join how step test on_left on_right) legal h =
        let l = same_set left on_left h.3 in
        let r = same_set right on_right h.4 in
        let here : IsLegal f (run_set on_left) (run_set on_right) (step_of kind) =
        subst (λ n. IsLegal f n (run_set on_right) (step_of kind)) (sym l) (subst (λ n. IsLegal f (set_of left) n (step_of kind)) (sym r) (legal_from problem setting m (set_of left) (set_of right) kind legal.0)) in (
          subst (IsLegal f (run_set on_left) (run_set on_right)) (sym h.1) here,
          subst (λ s. IsAllowedRun f how s) (sym h.1) (allowed_from problem setting m (set_of left) (set_of right) kind method how legal.1 h.0),
          h.2,
          run_legal left on_left legal.2 h.3,
          run_legal right on_right legal.3 h.4,
        )
    run_legal (Tree.Scan i) (Run.Join how step test on_left on_right) legal h = absurd h
    run_legal (Tree.Join method kind left right) (Run.Scan j test) legal h = absurd h

  -- ---- the run by step clauses

  same_method : (by_left by_right : Map → Map → Bool) (by : Method) → IsSameMethod by (method_of by_left by_right by)
  same_method by_left by_right method.Nest = tt
  same_method by_left by_right method.Hash = tt
  same_method by_left by_right method.HashRight = tt
  same_method by_left by_right method.Merge = tt

  module _ (orders : Orders) where
    run_items : (t : Tree) → run_set (run_of problem setting orders t) ≡ set_of t
    run_items (Tree.Scan i) = refl
    run_items (Tree.Join by kind left right) = ap₂ bit_or (run_items left) (run_items right)

    pub own_run : MeetsConditions problem → HasNoClasses problem → (t : Tree) → IsRunOf f t (run_of problem setting orders t)
    own_run m none (Tree.Scan i) = (refl, scan_enough problem setting m none i)
    own_run m none (Tree.Join by kind left right) =
        let test = step_clauses_hold problem setting (set_of left) (set_of right) in (
          same_method (orders.by_left (set_of left) (set_of right) kind) (orders.by_right (set_of left) (set_of right) kind) by,
          refl,
          subst (λ n. IsEnough f n (run_set (run_of problem setting orders right)) (step_of kind) test) (sym (run_items left)) (subst (λ n. IsEnough f (set_of left) n (step_of kind) test) (sym (run_items right)) (step_enough problem setting m none (set_of left) (set_of right) (step_of kind))),
          own_run m none left,
          own_run m none right,
        )

  module _ (made : IsMade problem) where
    pub run_bag : (t : Tree) (r : Run) → IsLegalTree problem t → IsRunOf f t r → IsPermutation (rows_of f r) (row_set f (set_of t))
    run_bag t r legal h = subst (λ n. IsPermutation (rows_of f r) (row_set f n)) (same_set t r h) (tree_bag f (made_frame problem setting made) r (run_legal (made_conditions problem made) t r legal h))

    pub run_once : (t : Tree) (r : Run) → IsLegalTree problem t → IsRunOf f t r → ListsOnce f (set_of t) (rows_of f r)
    run_once t r legal h = subst (λ n. ListsOnce f n (rows_of f r)) (same_set t r h) (once_from f (run_set r) (rows_of f r) (tree_lists f (made_frame problem setting made) r (run_legal (made_conditions problem made) t r legal h)))

    pub one_bag : (t u : Tree) (r q : Run) → IsLegalTree problem t → IsLegalTree problem u → set_of t ≡ set_of u → IsRunOf f t r → IsRunOf f u q → IsPermutation (rows_of f r) (rows_of f q)
    one_bag t u r q first second same h k = IsPermutation-trans (rows_of f r) (row_set f (set_of t)) (rows_of f q) (run_bag t r first h)
        (IsPermutation-sym (rows_of f q) (row_set f (set_of t)) (subst (λ n. IsPermutation (rows_of f q) (row_set f n)) (sym same) (run_bag u q second k)))

    pub one_bag_of_tuples : (t u : Tree) (r q : Run) → IsLegalTree problem t → IsLegalTree problem u → set_of t ≡ set_of u → IsRunOf f t r → IsRunOf f u q → IsPermutation (tuples_of_run problem setting r) (tuples_of_run problem setting q)
    one_bag_of_tuples t u r q first second same h k = IsPermutation-map (env_of (problem_rels problem) setting) (rows_of f r) (rows_of f q) (one_bag t u r q first second same h k)

-- The spine's list is the list of its shape, filtered by the clauses that are active there.
use Rattle.std.proofs.Common.{◌≡◌, ◌∙◌, ap, ap₂, sym, subst, refl, ℕ, zero, suc, ◌+◌, ◌≤◌, ◌⊎◌, inl, inr, List, [], ◌∷◌, map, filter, length, Option, Some, None, length-append, arith}
use Rattle.std.specs.Prelude.{bit_or}
use Rattle.std.specs.List.{flat_map}
use Rattle.std.proofs.lemmas.List.{append-nil}
use Rattle.jp_facts.proofs.Members.{In, from_filter}
use Rattle.jp_query.specs.declared.Expr.{Expr}
use Rattle.jp_query.specs.declared.JoinKind.{JoinKind}
use Rattle.jp_problem.specs.declared.types.Method.TheVariants.{Nest}
use Rattle.jp_problem.specs.declared.types.Place.{Place}
use Rattle.jp_problem.specs.declared.types.Problem.{Problem}
use Rattle.jp_problem.specs.declared.types.Step.{Step}
use Rattle.jp_problem.specs.declared.types.Step.TheVariants.{Inner, By}
use Rattle.jp_problem.specs.Blocks.{behind, in_right_side, number_of, items_at}
use Rattle.jp_problem.specs.Conditions.{MeetsConditions}
use Rattle.jp_problem.specs.Sets.{span}
use Rattle.jp_problem.specs.Shapes.{Shape, nothing, item, beside, filtered, special, count_joins, items_in}
use Rattle.jp_problem.specs.Trees.{Tree, set_of, IsLegalTree, stepped, spine_at}
use Rattle.jp_problem.specs.Trees.Tree.{Scan, Join}
use Rattle.jp_conditions.proofs.Places.{IsRooted, items_beside}
use Rattle.jp_conditions.proofs.SpineLaws.{one_item, behind_none, before_none}
use Rattle.jp_frame.specs.Maps.{Map, Agree, both}
use Rattle.jp_frame.specs.Frames.{Frame, IsFrame}
use Rattle.jp_frame.specs.Legal.{IsInnerStep, IsStepBy, IsByPlace}
use Rattle.jp_frame.specs.Methods.{Method as RunMethod, none_row, matches, joined_rows, scan_test}
use Rattle.jp_frame.specs.Steps.{IsLegal, IsEnough, step_test}
use Rattle.jp_frame.specs.Trees.{Tree as Run, set_of as run_set, IsLegalTree as IsLegalRun, rows_of}
use Rattle.jp_frame.proofs.EnoughLaws.{step_enough, scan_enough}
use Rattle.jp_frame.proofs.MapLaws.{both_left}
use Rattle.jp_framed.specs.Environments.{Setting}
use Rattle.jp_framed.specs.Framing.{frame_of}
use Rattle.jp_framed.specs.Running.{step_of}
use Rattle.jp_framed.proofs.StepLaws.{legal_from}
use Rattle.jp_spine.proofs.ActiveLaws.{active_test, place, inner_test, by_test, each_with, inner_rows, by_rows}
use Rattle.jp_spine.proofs.BareLists.{bare, lain, joined_from}

-- nothing is added by a map without rows
with_none : (n : ℕ) (m : Map) → length m ≡ n → both (none_row n) m ≡ m
with_none zero m e = refl
with_none (suc n) [] e = cc
with_none (suc n) (row ∷ m) e = ap (λ rest. row ∷ rest) (with_none n m (omega (arith, e)))

none_with : (n : ℕ) (m : Map) → length m ≡ n → both m (none_row n) ≡ m
none_with zero [] e = refl
none_with zero (row ∷ m) e = absurd (omega (arith, e))
none_with (suc n) [] e = cc
none_with (suc n) (None ∷ m) e = ap (λ rest. None ∷ rest) (none_with n m (omega (arith, e)))
none_with (suc n) (Some r ∷ m) e = ap (λ rest. Some r ∷ rest) (none_with n m (omega (arith, e)))

each_none : (n : ℕ) (xs : List Map) → ((m : Map) → In m xs → length m ≡ n) → map (both (none_row n)) xs ≡ xs
each_none n [] h = refl
each_none n (m ∷ xs) h = ap₂ ◌∷◌ (with_none n m (h m (inl refl))) (each_none n xs (λ x k. h x (inr k)))

none_each : (n : ℕ) (xs : List Map) → ((m : Map) → In m xs → length m ≡ n) → flat_map (each_with (none_row n ∷ [])) xs ≡ xs
none_each n [] h = refl
none_each n (m ∷ xs) h = ap₂ ◌∷◌ (none_with n m (h m (inl refl))) (none_each n xs (λ x k. h x (inr k)))

same_some : {X : Type 0} (a b : X) → Some a ≡ Some b → a ≡ b
same_some a b e = cc

-- the run of a tree by the frame's own clauses, by Nest alone
abbrev pub plain_run : Frame → Tree → Run
plain_run f (Scan i) = Run.Scan i (scan_test f i)
plain_run f (Join method kind left right) = Run.Join RunMethod.Nest (step_of kind) (step_test f (set_of left) (set_of right)) (plain_run f left) (plain_run f right)

module _ (problem : Problem) (setting : Setting) (ok : IsFrame (frame_of problem setting)) (m : MeetsConditions problem) where
  abbrev f : Frame
  f = frame_of problem setting

  pub plain_set : (t : Tree) → run_set (plain_run f t) ≡ set_of t
  plain_set (Scan i) = refl
  plain_set (Join method kind left right) = ap₂ bit_or (plain_set left) (plain_set right)

  step_legal : (t u : Tree) (kind : Step) → IsLegal f (set_of t) (set_of u) (step_of kind) → IsLegal f (run_set (plain_run f t)) (run_set (plain_run f u)) (step_of kind)
  step_legal t u kind h = subst (λ n. IsLegal f n (run_set (plain_run f u)) (step_of kind)) (sym (plain_set t)) (subst (λ n. IsLegal f (set_of t) n (step_of kind)) (sym (plain_set u)) h)

  enough : (t u : Tree) (kind : Step) → IsEnough f (run_set (plain_run f t)) (run_set (plain_run f u)) (step_of kind) (step_test f (set_of t) (set_of u))
  enough t u kind = subst (λ n. IsEnough f n (run_set (plain_run f u)) (step_of kind) (step_test f (set_of t) (set_of u))) (sym (plain_set t))
      (subst (λ n. IsEnough f (set_of t) n (step_of kind) (step_test f (set_of t) (set_of u))) (sym (plain_set u)) (step_enough f ok (set_of t) (set_of u) (step_of kind)))

  pub plain_legal : (t : Tree) → IsLegalTree problem t → IsLegalRun f (plain_run f t)
  plain_legal (Scan i) legal = (legal, scan_enough f ok i)
  plain_legal (Join method kind left right) legal = (step_legal left right kind (legal_from problem setting m (set_of left) (set_of right) kind legal.0), tt, enough left right kind, plain_legal left legal.2, plain_legal right legal.3)

  -- the right side of each special join of a shape is a place of a step by it
  abbrev pub HasPlaces : Shape → Place → Type 0
  HasPlaces nothing at = Unit {0}
  HasPlaces (item tree) at = Unit {0}
  HasPlaces (beside left right) at = HasPlaces left at × HasPlaces right (behind left at)
  HasPlaces (filtered shape conds) at = HasPlaces shape at
  HasPlaces (special kind left right on) at = IsByPlace f (items_at (behind left at) right) (at.joins + (count_joins left + count_joins right)) × HasPlaces left at × HasPlaces right (in_right_side left right at)

  -- the list of a tree that is the spine of a shape
  pub record Ran (shape : Shape) (at : Place) (t : Tree) : Type 0 where
    pub all : set_of t ≡ items_at at shape
    pub rows : rows_of f (plain_run f t) ≡ filter (active_test f (items_at at shape)) (bare f shape at)
    pub places : HasPlaces shape at

  abbrev IsEmpty : Shape → Place → Type 0
  IsEmpty shape at = (length (items_in shape) ≡ 0) × (bare f shape at ≡ none_row f.items ∷ []) × HasPlaces shape at

  abbrev NoSpine : Shape → Place → Type 0
  NoSpine shape at = spine_at shape at ≡ None → IsEmpty shape at

  abbrev OfSpine : Shape → Place → Type 0
  OfSpine shape at = (t : Tree) → spine_at shape at ≡ Some t → IsLegalTree problem t → Ran shape at t

  long : (shape : Shape) (at : Place) (x : Map) → In x (bare f shape at) → length x ≡ f.items
  long shape at x h = (lain f shape at x h).long

  -- ---- two parts

  module _ (left right : Shape) (at : Place) where
    abbrev L : ℕ
    L = items_at at left

    abbrev R : ℕ
    R = items_at (behind left at) right

    abbrev W : ℕ
    W = items_at at (beside left right)

    same : bit_or L R ≡ W
    same = items_beside at.items left right

    both_none : IsEmpty left at → IsEmpty right (behind left at) → IsEmpty (beside left right) at
    both_none x y = (
      length-append (items_in left) (items_in right) ∙ ap₂ ◌+◌ x.0 y.0,
      ap (λ xs. flat_map (each_with (bare f right (behind left at))) xs) x.1 ∙ append-nil (map (both (none_row f.items)) (bare f right (behind left at))) ∙ each_none f.items (bare f right (behind left at)) (long right (behind left at)) ∙ y.1,
      (x.2, y.2),
    )

    right_only : (t : Tree) → IsEmpty left at → Ran right (behind left at) t → Ran (beside left right) at t
    right_only t x y =
        let set : R ≡ W = behind_none at.items (length (items_in left)) (length (items_in right)) x.0 ∙ ap (span at.items) (sym (length-append (items_in left) (items_in right))) in
        let list : bare f right (behind left at) ≡ bare f (beside left right) at = sym (ap (λ xs. flat_map (each_with (bare f right (behind left at))) xs) x.1 ∙ append-nil (map (both (none_row f.items)) (bare f right (behind left at))) ∙ each_none f.items (bare f right (behind left at)) (long right (behind left at))) in
        record { all = y.all ∙ set; rows = y.rows ∙ ap₂ (λ n xs. filter (active_test f n) xs) set list; places = (x.2, y.places) }

    left_only : (t : Tree) → Ran left at t → IsEmpty right (behind left at) → Ran (beside left right) at t
    left_only t x y =
        let set : L ≡ W = before_none at.items (length (items_in left)) (length (items_in right)) y.0 ∙ ap (span at.items) (sym (length-append (items_in left) (items_in right))) in
        let list : bare f left at ≡ bare f (beside left right) at = sym (ap (λ xs. flat_map (each_with xs) (bare f left at)) y.1 ∙ none_each f.items (bare f left at) (long left at)) in
        record { all = x.all ∙ set; rows = x.rows ∙ ap₂ (λ n xs. filter (active_test f n) xs) set list; places = (x.places, y.2) }

    legal_at : (here : Place) (t u : Tree) (kind : Step) → set_of t ≡ L → set_of u ≡ R → IsLegalTree problem (Join Nest kind t u) → IsLegal f L R (step_of kind)
    legal_at here t u kind e g legal = subst (λ n. IsLegal f n R (step_of kind)) e (subst (λ n. IsLegal f (set_of t) n (step_of kind)) g (legal_from problem setting m (set_of t) (set_of u) kind legal.0))

    inner_ran : (t u : Tree) → Ran left at t → Ran right (behind left at) u → IsLegalTree problem (Join Nest Inner t u) → Ran (beside left right) at (Join Nest Inner t u)
    inner_ran t u x y legal =
        let step : IsInnerStep f L R = legal_at (behind left at) t u Inner x.all y.all legal in
        let lefts = bare f left at in
        let rights = bare f right (behind left at) in
        record {
          all = ap₂ bit_or x.all y.all ∙ same;
          rows = ap₂ (λ n k. flat_map (matches (step_test f n k) (rows_of f (plain_run f u))) (rows_of f (plain_run f t))) x.all y.all
              ∙ ap₂ (λ xs ys. flat_map (matches (step_test f L R) ys) xs) x.rows y.rows
              ∙ inner_rows (active_test f L) (active_test f R) (step_test f L R) (active_test f (bit_or L R)) rights lefts (λ a h b k. inner_test f ok L R step a b (lain f left at a h).off (lain f right (behind left at) b k).off)
              ∙ ap (λ n. filter (active_test f n) (bare f (beside left right) at)) same;
          places = (x.places, y.places);
        }

    beside_ran : NoSpine left at → NoSpine right (behind left at) → OfSpine left at → OfSpine right (behind left at) → (l r : Option Tree) → spine_at left at ≡ l → spine_at right (behind left at) ≡ r → (t : Tree) → stepped Inner l r ≡ Some t → IsLegalTree problem t → Ran (beside left right) at t
    beside_ran a b c d None None e g t h legal = cc
    beside_ran a b c d None (Some u) e g t h legal = right_only t (a e) (d t (g ∙ h) legal)
    beside_ran a b c d (Some u) None e g t h legal = left_only t (c t (e ∙ h) legal) (b g)
    beside_ran a b c d (Some u) (Some v) e g t h legal =
        let is = same_some (Join Nest Inner u v) t h in
        let good = subst (IsLegalTree problem) (sym is) legal in
        subst (Ran (beside left right) at) is (inner_ran u v (c u e good.2) (d v g good.3) good)

    beside_none : NoSpine left at → NoSpine right (behind left at) → (l r : Option Tree) → spine_at left at ≡ l → spine_at right (behind left at) ≡ r → stepped Inner l r ≡ None → IsEmpty (beside left right) at
    beside_none a b None None e g h = both_none (a e) (b g)
    beside_none a b None (Some u) e g h = cc
    beside_none a b (Some u) None e g h = cc
    beside_none a b (Some u) (Some v) e g h = cc

    -- ---- a special join

    module _ (kind : JoinKind) (on : List Expr) (some : 1 ≤ length (items_in left)) (more : 1 ≤ length (items_in right)) where
      abbrev s : ℕ
      s = at.joins + (count_joins left + count_joins right)

      abbrev here : Place
      here = in_right_side left right at

      by_ran : (t u : Tree) → Ran left at t → Ran right here u → IsLegalTree problem (Join Nest (By (number_of left right at)) t u) → Ran (special kind left right on) at (Join Nest (By (number_of left right at)) t u)
      by_ran t u x y legal =
          let step : IsStepBy f L R s = legal_at here t u (By (number_of left right at)) x.all y.all legal in
          let lefts = bare f left at in
          let test = active_test f R in
          let rights = filter test (bare f right here) in
          let J = joined_rows (f.kind s) (f.on s) in
          record {
            all = ap₂ bit_or x.all y.all ∙ same;
            rows = ap₂ (λ n k. filter (step_test f n k) (flat_map (J (rows_of f (plain_run f u))) (rows_of f (plain_run f t)))) x.all y.all
                ∙ ap₂ (λ xs ys. filter (step_test f L R) (flat_map (J ys) xs)) x.rows y.rows
                ∙ by_rows (active_test f L) (step_test f L R) (active_test f (bit_or L R)) (J rights) lefts (λ a h x k. by_test f ok L R s step a x (agree step a x (joined_from (f.kind s) (f.on s) rights a x k)))
                ∙ ap (λ n. filter (active_test f n) (bare f (special kind left right on) at)) same;
            places = (place f ok L R s step, x.places, y.places);
          }
        where
          agree : IsStepBy f L R s → (a x : Map) → (a ≡ x) ⊎ ((b : Map) × In b (filter (active_test f R) (bare f right (in_right_side left right at))) × (both a b ≡ x)) → Agree L x a
          agree step a x (inl e) = subst (λ z. Agree L z a) e (λ i p. refl)
          agree step a x (inr b) = subst (λ z. Agree L z a) b.2 (λ i p. both_left a b.0 i ((lain f right (in_right_side left right at) b.0 (from_filter (active_test f R) b.0 (bare f right (in_right_side left right at)) b.1).1).off i (step.step.apart i p)))

      special_ran : NoSpine left at → NoSpine right here → OfSpine left at → OfSpine right here → (l r : Option Tree) → spine_at left at ≡ l → spine_at right here ≡ r → (t : Tree) → stepped (By (number_of left right at)) l r ≡ Some t → IsLegalTree problem t → Ran (special kind left right on) at t
      special_ran a b c d None r e g t h legal = let none = (a e).0 in absurd (omega (arith, none, some))
      special_ran a b c d (Some u) None e g t h legal = let none = (b g).0 in absurd (omega (arith, none, more))
      special_ran a b c d (Some u) (Some v) e g t h legal =
          let is = same_some (Join Nest (By (number_of left right at)) u v) t h in
          let good = subst (IsLegalTree problem) (sym is) legal in
          subst (Ran (special kind left right on) at) is (by_ran u v (c u e good.2) (d v g good.3) good)

      special_none : NoSpine left at → NoSpine right here → (l r : Option Tree) → spine_at left at ≡ l → spine_at right here ≡ r → stepped (By (number_of left right at)) l r ≡ None → IsEmpty (special kind left right on) at
      special_none a b None r e g h = let none = (a e).0 in absurd (omega (arith, none, some))
      special_none a b (Some u) None e g h = cc
      special_none a b (Some u) (Some v) e g h = cc

  none : (shape : Shape) (at : Place) → IsRooted shape → NoSpine shape at
  none nothing at r e = (refl, refl, tt)
  none (item tree) at r e = cc
  none (filtered shape conds) at r e = none shape at r e
  none (beside left right) at r e = beside_none left right at (none left at r.0) (none right (behind left at) r.1) (spine_at left at) (spine_at right (behind left at)) refl refl e
  none (special kind left right on) at r e = special_none left right at kind on r.0 r.1 (none left at r.2) (none right (in_right_side left right at) r.3) (spine_at left at) (spine_at right (in_right_side left right at)) refl refl e

  scanned : (tree : Tree) (i : ℕ) → Some (Scan i) ≡ Some tree → Scan i ≡ tree
  scanned tree i e = same_some (Scan i) tree e

  pub ran : (shape : Shape) (at : Place) → IsRooted shape → OfSpine shape at
  ran nothing at r t e legal = cc
  ran (item tree) at r t e legal = subst (Ran (item tree) at) (scanned t at.items e) (record {
    all = one_item at.items;
    rows = ap (λ n. filter (active_test f n) (bare f (item tree) at)) (one_item at.items);
    places = tt;
  })
  ran (filtered shape conds) at r t e legal = let x = ran shape at r t e legal in record { all = x.all; rows = x.rows; places = x.places }
  ran (beside left right) at r t e legal = beside_ran left right at (none left at r.0) (none right (behind left at) r.1) (ran left at r.0) (ran right (behind left at) r.1) (spine_at left at) (spine_at right (behind left at)) refl refl t e legal
  ran (special kind left right on) at r t e legal =
      special_ran left right at kind on r.0 r.1 (none left at r.2) (none right (in_right_side left right at) r.3) (ran left at r.2) (ran right (in_right_side left right at) r.3) (spine_at left at) (spine_at right (in_right_side left right at)) refl refl t e legal

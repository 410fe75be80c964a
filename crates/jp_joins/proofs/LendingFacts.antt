-- Rows that are lent by number.
use Rattle.std.proofs.Common.{◌≡◌, ◌∙◌, eqb-true, ap, ap₂, sym, subst, refl, ℕ, ◌+◌, ◌<◌, ◌≤◌, inl, inr, Bool, true, false, List, [], ◌∷◌, ◌++◌, map, length, get_or, take}
use Rattle.std.specs.Prelude.{All, ◌==◌, if◌then◌else◌}
use Rattle.std.proofs.lemmas.Bool.{eqb-false}
use Rattle.std.proofs.lemmas.List.{map-append, take_more, take_all}
use Rattle.jp_query.specs.declared.Expr.{Expr}
use Rattle.jp_query.specs.Meaning.{Row, Env, value_given, truth_given}
use Rattle.jp_query.specs.Operators.{truth_of_value}
use Rattle.jp_base.specs.declared.truth.Truth.{Truth}
use Rattle.jp_facts.proofs.Members.{In}
use Rattle.jp_induction.proofs.EachPart.{Each, each_of, all_of_each, each_append, each_in_all, each_mapped}
use Rattle.jp_eval.specs.Evaluation.{CanEvaluate}
use Rattle.jp_joins.specs.Lending.{rows_by_number, number_of, numbers_in, numbers_in_all, IsLentFor}
use Rattle.jp_joins.specs.declared.lending.Lent.{Lent}
use Rattle.jp_joins.proofs.SameRows.{values_same, can_same}

abbrev pub IsRight : (ℕ → List Row) → Lent → Type 0
IsRight rows lent = lent.rows.items ≡ rows lent.number

module _ (rows : ℕ → List Row) where
  pick : (l : Lent) (xs : List Lent) (k : ℕ) (b : Bool) → (l.number == k) ≡ b → l.rows.items ≡ rows l.number → (b ≡ false → rows_by_number xs k ≡ rows k) → (if b then l.rows.items else rows_by_number xs k) ≡ rows k
  pick l xs k true e here rest = here ∙ ap rows (eqb-true l.number k e)
  pick l xs k false e here rest = rest refl

  later : (l : Lent) (xs : List Lent) (k : ℕ) → (l.number == k) ≡ false → In k (number_of l ∷ map number_of xs) → In k (map number_of xs)
  later l xs k e (inl p) = absurd (eqb-false l.number k e p)
  later l xs k e (inr q) = q

  found : (xs : List Lent) → Each (IsRight rows) xs → (k : ℕ) → In k (map number_of xs) → IsLentFor rows xs k
  found [] r k h = absurd h
  found (l ∷ xs) r k h = pick l xs k (l.number == k) refl r.0 (λ e. found xs r.1 k (later l xs k e h))

  each_found : (xs : List Lent) → Each (IsRight rows) xs → (ks : List ℕ) → ((k : ℕ) → In k ks → In k (map number_of xs)) → Each (IsLentFor rows xs) ks
  each_found xs r [] h = tt
  each_found xs r (k ∷ ks) h = (found xs r k (h k (inl refl)), each_found xs r ks (λ j p. h j (inr p)))

  pub all_found : (xs : List Lent) (ks : List ℕ) → Each (IsRight rows) xs → map number_of xs ≡ ks → All (IsLentFor rows xs) ks
  all_found xs ks r is = all_of_each (IsLentFor rows xs) ks (each_found xs r ks (λ k p. subst (λ ns. In k ns) (sym is) p))

  -- the rows lent for a list of conditions are lent for each of them
  pub lent_for_one : (xs : List Lent) (conds : List Expr) (i : ℕ) (e : Expr) → i < length conds → e ≡ get_or conds i e → All (IsLentFor rows xs) (numbers_in_all conds) → Each (IsLentFor rows xs) (numbers_in e)
  lent_for_one xs conds i e h is lent =
      let each = each_mapped (Each (IsLentFor rows xs)) numbers_in conds (each_in_all (IsLentFor rows xs) (map numbers_in conds) (each_of (IsLentFor rows xs) (numbers_in_all conds) lent)) in
      subst (λ x. Each (IsLentFor rows xs) (numbers_in x)) (sym is) (all_of_each (λ x. Each (IsLentFor rows xs) (numbers_in x)) conds each i e h)

  turned : (xs : List Lent) (ks : List ℕ) → Each (IsLentFor rows xs) ks → Each (λ k. rows k ≡ rows_by_number xs k) ks
  turned xs [] h = tt
  turned xs (k ∷ ks) h = (sym h.0, turned xs ks h.1)

  pub can_lent : (xs : List Lent) (e : Expr) (env : Env) → Each (IsLentFor rows xs) (numbers_in e) → CanEvaluate rows e env → CanEvaluate (rows_by_number xs) e env
  can_lent xs e env h can = can_same rows (rows_by_number xs) env e (turned xs (numbers_in e) h) can

  pub value_lent : (xs : List Lent) (e : Expr) (env : Env) → Each (IsLentFor rows xs) (numbers_in e) → value_given (rows_by_number xs) e env ≡ value_given rows e env
  value_lent xs e env h = sym (values_same rows (rows_by_number xs) env e (turned xs (numbers_in e) h))

  pub truth_lent : (xs : List Lent) (e : Expr) (env : Env) (t : Truth) → Each (IsLentFor rows xs) (numbers_in e) → t ≡ truth_given (rows_by_number xs) e env → t ≡ truth_given rows e env
  truth_lent xs e env t h is = is ∙ ap truth_of_value (value_lent xs e env h)

-- ---- one more sublink

pub right_more : (rows : ℕ → List Row) (xs : List Lent) (l : Lent) → Each (IsRight rows) xs → l.rows.items ≡ rows l.number → Each (IsRight rows) (xs ++ l ∷ [])
right_more rows xs l h is = each_append (IsRight rows) xs (l ∷ []) h (is, tt)

pub numbers_more : (ks : List ℕ) (i d : ℕ) (xs : List Lent) (l : Lent) → i < length ks → l.number ≡ get_or ks i d → map number_of xs ≡ take i ks → map number_of (xs ++ l ∷ []) ≡ take (i + 1) ks
numbers_more ks i d xs l h n e = map-append number_of xs (l ∷ []) ∙ ap₂ (λ (a : List ℕ) (b : ℕ). a ++ b ∷ []) e n ∙ sym (take_more ks i d h)

pub numbers_done : (rows : ℕ → List Row) (ks : List ℕ) (i : ℕ) (xs : List Lent) → length ks ≤ i → Each (IsRight rows) xs → map number_of xs ≡ take i ks → All (IsLentFor rows xs) ks
numbers_done rows ks i xs past r e = all_found rows xs ks r (e ∙ take_all i ks past)

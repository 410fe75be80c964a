-- Cells that are put in.
use Rattle.std.proofs.Common.{◌≡◌, ◌∙◌, ap, ap₂, sym, subst, refl, ℕ, ◌+◌, ◌<◌, ◌^◌, Bool, true, false, List, [], ◌∷◌, ◌++◌, length, get_or, take, Option, Some}
use Rattle.std.specs.Prelude.{All, cond, unwrap_or, if◌then◌else◌}
use Rattle.std.specs.BTreeMap.{get, is_at}
use Rattle.std.specs.Ordering.{MatchOrdering, is_eq, nat_cmp, ordering_then}
use Rattle.std.specs.declared.cmp.Ordering.{Ordering}
use Rattle.std.specs.declared.cmp.Ordering.TheVariants.{Less, Equal, Greater}
use Rattle.std.proofs.lemmas.Cmp.{nat_cmp_total, ranked, tied_itself}
use Rattle.std.proofs.lemmas.List.{take_more}
use Rattle.jp_base.specs.declared.values.Value.{Value}
use Rattle.jp_base.specs.declared.values.Value.TheVariants as value
use Rattle.jp_query.specs.Meaning.{Env, cell_in}
use Rattle.jp_induction.proofs.EachPart.{Each, all_of_each, each_append, each_of}
use Rattle.jp_items.specs.Params.{Cells, cell_given, column_order}
use Rattle.jp_exec.specs.Cells.{AddsCell, IsGivenCell, is_column}

same_number : (a b : ℕ) → nat_cmp a b ≡ Equal → a ≡ b
same_number a b e = subst (λ o. MatchOrdering o (a < b) (a ≡ b) (b < a)) e (ranked a b (nat_cmp a b) refl)

both_equal : (o p : Ordering) → is_eq (ordering_then o p) ≡ true → (o ≡ Equal) × (p ≡ Equal)
both_equal Less p e = cc
both_equal Equal Less e = cc
both_equal Equal Equal e = (refl, refl)
both_equal Equal Greater e = cc
both_equal Greater p e = cc

the_column : (rel col r c : ℕ) → is_column rel col r c ≡ true → (rel ≡ r) × (col ≡ c)
the_column rel col r c e =
    let both = both_equal (nat_cmp rel r) (nat_cmp col c) e in
    (same_number rel r both.0, same_number col c both.1)

itself : (rel col : ℕ) → is_column rel col rel col ≡ true
itself rel col = ap₂ (λ o p. is_eq (ordering_then o p)) (tied_itself nat_cmp_total rel) (tied_itself nat_cmp_total col)

pub adds : (old new : Cells) (rel col : ℕ) (v : Value) → ((q : ℕ × ℕ) → get column_order new q ≡ cond (is_at (column_order (rel, col)) q) (Some v) (get column_order old q)) → AddsCell old new rel col v
adds old new rel col v updates r c = ap (λ o. unwrap_or o value.Null) (updates (r, c)) ∙ given (is_column rel col r c) (get column_order old (r, c))
  where
    given : (b : Bool) (o : Option Value) → unwrap_or (cond b (Some v) o) value.Null ≡ (if b then v else unwrap_or o value.Null)
    given true o = refl
    given false o = refl

module _ (env : Env) (old new : Cells) (rel col : ℕ) (v : Value) (more : AddsCell old new rel col v) (is : v ≡ cell_in (env rel) col) where
  by_test : (r c : ℕ) (b : Bool) → is_column rel col r c ≡ b → cell_given old r c ≡ cell_in (env r) c → (if b then v else cell_given old r c) ≡ cell_in (env r) c
  by_test r c true e given =
      let same = the_column rel col r c e in
      is ∙ ap₂ (λ (a b : ℕ). cell_in (env a) b) same.0 same.1
  by_test r c false e given = given

  kept : (column : ℕ × ℕ) → IsGivenCell env old column → IsGivenCell env new column
  kept column given = (more column.0 column.1 ∙ by_test column.0 column.1 (is_column rel col column.0 column.1) refl given.0, given.1)

  put : col < 2 ^ 32 → IsGivenCell env new (rel, col)
  put small = (more rel col ∙ ap (λ b. if b then v else cell_given old rel col) (itself rel col) ∙ is, small)

  each_kept : (columns : List (ℕ × ℕ)) → Each (IsGivenCell env old) columns → Each (IsGivenCell env new) columns
  each_kept [] h = tt
  each_kept (column ∷ columns) h = (kept column h.0, each_kept columns h.1)

pub one_more : (env : Env) (old new : Cells) (columns : List (ℕ × ℕ)) (i : ℕ) (d : ℕ × ℕ) (v : Value) → i < length columns → AddsCell old new (get_or columns i d).0 (get_or columns i d).1 v
    → v ≡ cell_in (env (get_or columns i d).0) (get_or columns i d).1 → (get_or columns i d).1 < 2 ^ 32 → All (IsGivenCell env old) (take i columns) → All (IsGivenCell env new) (take (i + 1) columns)
one_more env old new columns i d v low more is small given =
    let column = get_or columns i d in
    subst (All (IsGivenCell env new)) (sym (take_more columns i d low))
    (all_of_each (IsGivenCell env new) (take i columns ++ column ∷ []) (each_append (IsGivenCell env new) (take i columns) (column ∷ [])
    (each_kept env old new column.0 column.1 v more is (take i columns) (each_of (IsGivenCell env old) (take i columns) given))
    (put env old new column.0 column.1 v more is small, tt)))

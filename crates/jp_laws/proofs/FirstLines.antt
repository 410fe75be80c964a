-- The first lines are a subsequence, grow by new outputs, and of permuted lines have one bag of outputs.
use Rattle.std.proofs.Common.{◌≡◌, ◌∙◌, ap, sym, subst, refl, Bool, true, false, cond, not, List, [], ◌∷◌, ◌++◌, map, filter, ◌||◌}
use Rattle.std.specs.List.{list_any}
use Rattle.std.specs.List.Sorted.{IsPermutation}
use Rattle.std.proofs.lemmas.List.Elements.{filter-append}
use Rattle.std.proofs.lemmas.List.Sorted.{IsPermutation-refl, IsPermutation-cons, IsPermutation-sym, IsPermutation-trans, IsPermutation-middle, IsPermutation-map}
use Rattle.sqlite_keyed.proofs.ListLemmas.{along_permutation, IsPermutation-same, IsPermutation-filter, filter-map}
use Rattle.jp_query.specs.Ordering.{Row, Line, outputs_of, same_rows, differs, first_lines, distinct_lines}
use Rattle.jp_laws.specs.Lines.{is_same, IsSubsequence, none, kept, left_out}
use Rattle.std.proofs.lemmas.Bool.{not-false}
use Rattle.jp_laws.proofs.ValueLaws.{rows_equal, rows_same}

-- ---- a subsequence

module _ {X : Type 0} where
  sub_at : (p : X → Bool) (x : X) (xs ys : List X) (b : Bool) → IsSubsequence (filter p xs) ys → IsSubsequence (cond b (x ∷ filter p xs) (filter p xs)) (x ∷ ys)
  sub_at p x xs ys true h = kept h
  sub_at p x xs ys false h = left_out h

  filter_sub : {xs ys : List X} (p : X → Bool) → IsSubsequence xs ys → IsSubsequence (filter p xs) ys
  filter_sub p none = none
  filter_sub p (kept {x} {xs} {ys} h) = sub_at p x xs ys (p x) (filter_sub p h)
  filter_sub p (left_out h) = left_out (filter_sub p h)

pub first_lines_in_order : (lines : List Line) → IsSubsequence (first_lines lines) lines
first_lines_in_order [] = none
first_lines_in_order (x ∷ xs) = kept (filter_sub (differs x) (first_lines_in_order xs))

-- ---- one line more

module _ (line : Line) where
  new : List Line → List Line
  new found = cond (list_any (is_same line) found) [] (line ∷ [])

  any_at : (x y : Line) (ys : List Line) (d : Bool) → differs x y ≡ d → is_same line x ≡ false → list_any (is_same line) (filter (differs x) ys) ≡ list_any (is_same line) ys → list_any (is_same line) (cond d (y ∷ filter (differs x) ys) (filter (differs x) ys)) ≡ (is_same line y || list_any (is_same line) ys)
  any_at x y ys true e n ih = ap (λ b. is_same line y || b) ih
  any_at x y ys false e n ih =
      let same : x.outputs ≡ y.outputs = rows_equal x.outputs y.outputs (not-false (same_rows x.outputs y.outputs) e) in
      let other : is_same line y ≡ false = ap (λ r. same_rows r line.outputs) (sym same) ∙ n in
      ih ∙ sym (ap (λ b. b || list_any (is_same line) ys) other)

  any_kept : (x : Line) (xs : List Line) → is_same line x ≡ false → list_any (is_same line) (filter (differs x) xs) ≡ list_any (is_same line) xs
  any_kept x [] n = refl
  any_kept x (y ∷ ys) n = any_at x y ys (differs x y) refl n (any_kept x ys n)

  left_at : (x : Line) (b : Bool) → is_same line x ≡ true → filter (differs x) (cond b [] (line ∷ [])) ≡ []
  left_at x true e = refl
  left_at x false e = ap (λ c. cond (not c) (line ∷ []) []) e

  stays_at : (x : Line) (b : Bool) → is_same line x ≡ false → filter (differs x) (cond b [] (line ∷ [])) ≡ cond b [] (line ∷ [])
  stays_at x true e = refl
  stays_at x false e = ap (λ c. cond (not c) (line ∷ []) []) e

  new_at : (x : Line) (found : List Line) (s : Bool) → is_same line x ≡ s → filter (differs x) (new found) ≡ cond (s || list_any (is_same line) (filter (differs x) found)) [] (line ∷ [])
  unfolding new
  new_at x found true e = left_at x (list_any (is_same line) found) e
  new_at x found false e = stays_at x (list_any (is_same line) found) e ∙ ap (λ b. cond b [] (line ∷ [])) (sym (any_kept x found e))

  pub first_lines_grow : (lines : List Line) → first_lines (lines ++ line ∷ []) ≡ first_lines lines ++ cond (list_any (is_same line) (first_lines lines)) [] (line ∷ [])
  unfolding new
  first_lines_grow [] = refl
  first_lines_grow (x ∷ xs) =
      let found = first_lines xs in
      ap (λ l. x ∷ filter (differs x) l) (first_lines_grow xs)
      ∙ ap (λ l. x ∷ l) (filter-append (differs x) found (new found))
      ∙ ap (λ l. x ∷ (filter (differs x) found ++ l)) (new_at x found (is_same line x) refl)

-- ---- permuted lines

module _ {X : Type 0} where
  filter_cond : (p : X → Bool) (x : X) (xs : List X) (b : Bool) → filter p (cond b (x ∷ xs) xs) ≡ cond b (cond (p x) (x ∷ filter p xs) (filter p xs)) (filter p xs)
  filter_cond p x xs true = refl
  filter_cond p x xs false = refl

  cond_turn : (x : X) (xs : List X) (a b : Bool) → cond b (cond a (x ∷ xs) xs) xs ≡ cond a (cond b (x ∷ xs) xs) xs
  cond_turn x xs true true = refl
  cond_turn x xs true false = refl
  cond_turn x xs false true = refl
  cond_turn x xs false false = refl

  filters_turn : (p q : X → Bool) (xs : List X) → filter p (filter q xs) ≡ filter q (filter p xs)
  filters_turn p q [] = refl
  filters_turn p q (x ∷ xs) =
      filter_cond p x (filter q xs) (q x)
      ∙ ap (λ l. cond (q x) (cond (p x) (x ∷ l) l) l) (filters_turn p q xs)
      ∙ cond_turn x (filter q (filter p xs)) (p x) (q x)
      ∙ sym (filter_cond q x (filter p xs) (p x))

  two_turned : (x y : X) (xs : List X) → IsPermutation (x ∷ y ∷ xs) (y ∷ x ∷ xs)
  two_turned x y xs = IsPermutation-sym (y ∷ x ∷ xs) (x ∷ y ∷ xs) (IsPermutation-middle (y ∷ []) x xs)

abbrev OneBag : List Line → List Line → Type 0
OneBag xs ys = IsPermutation (map outputs_of (first_lines xs)) (map outputs_of (first_lines ys))

abbrev other_than : Row → Row → Bool
other_than a b = not (same_rows a b)

under_head : (x : Line) (xs ys : List Line) → OneBag xs ys → OneBag (x ∷ xs) (x ∷ ys)
under_head x xs ys h =
    IsPermutation-cons x.outputs (map outputs_of (filter (differs x) (first_lines xs))) (map outputs_of (filter (differs x) (first_lines ys)))
    (subst (λ l. IsPermutation l (map outputs_of (filter (differs x) (first_lines ys)))) (filter-map (other_than x.outputs) outputs_of (first_lines xs))
    (subst (λ l. IsPermutation (filter (other_than x.outputs) (map outputs_of (first_lines xs))) l) (filter-map (other_than x.outputs) outputs_of (first_lines ys))
    (IsPermutation-filter (other_than x.outputs) (map outputs_of (first_lines xs)) (map outputs_of (first_lines ys)) h)))

never : (a b : Row) → other_than a b ≡ false → other_than b a ≡ true → ⊥
never a b f e =
    let same : a ≡ b = rows_equal a b (not-false (same_rows a b) f) in
    let contrary : false ≡ true = sym (ap not (rows_same b)) ∙ ap (other_than b) (sym same) ∙ e in
    cc

-- two lines in both orders, before the first lines of the rest
heads_at : (x y : Line) (xs ys : List Line) (a b : Bool) → other_than x.outputs y.outputs ≡ a → other_than y.outputs x.outputs ≡ b → map outputs_of xs ≡ map outputs_of ys → IsPermutation (x.outputs ∷ map outputs_of (cond a (y ∷ xs) xs)) (y.outputs ∷ map outputs_of (cond b (x ∷ ys) ys))
heads_at x y xs ys true true e f h = subst (λ l. IsPermutation (x.outputs ∷ y.outputs ∷ map outputs_of xs) (y.outputs ∷ x.outputs ∷ l)) h (two_turned x.outputs y.outputs (map outputs_of xs))
heads_at x y xs ys true false e f h = absurd (never y.outputs x.outputs f e)
heads_at x y xs ys false true e f h = absurd (never x.outputs y.outputs e f)
heads_at x y xs ys false false e f h =
    let same : x.outputs ≡ y.outputs = rows_equal x.outputs y.outputs (not-false (same_rows x.outputs y.outputs) e) in
    IsPermutation-same (x.outputs ∷ map outputs_of xs) (y.outputs ∷ map outputs_of ys) (ap (λ r. r ∷ map outputs_of xs) same ∙ ap (λ rs. y.outputs ∷ rs) h)

heads_turned : (x y : Line) (xs : List Line) → OneBag (x ∷ y ∷ xs) (y ∷ x ∷ xs)
heads_turned x y xs =
    let rest = first_lines xs in
    heads_at x y (filter (differs x) (filter (differs y) rest)) (filter (differs y) (filter (differs x) rest)) (differs x y) (differs y x) refl refl (ap (map outputs_of) (filters_turn (differs x) (differs y) rest))

pub first_lines_bag : (xs ys : List Line) → IsPermutation xs ys → IsPermutation (map outputs_of (first_lines xs)) (map outputs_of (first_lines ys))
first_lines_bag = along_permutation OneBag (λ xs. IsPermutation-refl (map outputs_of (first_lines xs))) under_head heads_turned
    (λ xs ys zs. IsPermutation-trans (map outputs_of (first_lines xs)) (map outputs_of (first_lines ys)) (map outputs_of (first_lines zs)))

pub distinct_bag : (distinct : Bool) (xs ys : List Line) → IsPermutation xs ys → IsPermutation (map outputs_of (distinct_lines distinct xs)) (map outputs_of (distinct_lines distinct ys))
distinct_bag false xs ys p = IsPermutation-map outputs_of xs ys p
distinct_bag true xs ys p = first_lines_bag xs ys p

-- DISTINCT keeps the first of the lines with the same outputs.
use Rattle.std.proofs.Common.{◌≡◌, ap, sym, subst, refl, ℕ, suc, zero, ◌<◌, inl, inr, Bool, true, false, cond, List, [], ◌∷◌, ◌++◌, filter, length, get_or, arith}
use Rattle.std.specs.Prelude.{All, Contains}
use Rattle.std.specs.List.{AllPairs}
use Rattle.std.proofs.lemmas.Bool.{not-false}
use Rattle.std.proofs.lemmas.List.Elements.{All-cons}
use Rattle.jp_facts.proofs.Members.{In, to_in, from_in, from_filter, in_filter}
use Rattle.jp_query.specs.Ordering.{Row, Line, same_rows, differs, first_lines}
use Rattle.jp_laws.specs.Lines.{IsDifferent, IsDifferentFrom}
use Rattle.jp_laws.proofs.ValueLaws.{rows_equal, rows_same}

firsts_in : (lines : List Line) (line : Line) → In line (first_lines lines) → (before : List Line) × (after : List Line) × (lines ≡ before ++ line ∷ after) × All (IsDifferentFrom line) before
firsts_in [] line h = absurd h
firsts_in (x ∷ xs) line (inl q) = ([], xs, ap (λ z. z ∷ xs) q, λ k d low. absurd (omega arith))
firsts_in (x ∷ xs) line (inr r) =
    let m = from_filter (differs x) line (first_lines xs) r in
    let h = firsts_in xs line m.1 in
    (x ∷ h.0, h.1, ap (λ zs. x ∷ zs) h.2, All-cons (IsDifferentFrom line) x h.0 m.0 h.3)

pub firsts : (lines : List Line) (line : Line) → Contains (first_lines lines) line → (before : List Line) × (after : List Line) × (lines ≡ before ++ line ∷ after) × All (IsDifferentFrom line) before
firsts lines line h = firsts_in lines line (to_in line (first_lines lines) h)

abbrev Kept : List Line → Line → Type 0
Kept lines line = (kept : Line) × In kept (first_lines lines) × (same_rows kept.outputs line.outputs ≡ true)

kept_after : (x line : Line) (xs : List Line) (h : Kept xs line) (b : Bool) → differs x h.0 ≡ b → Kept (x ∷ xs) line
kept_after x line xs h true e = (h.0, inr (in_filter (differs x) h.0 (first_lines xs) e h.1), h.2)
kept_after x line xs h false e = (x, inl refl, subst (λ (r : Row). same_rows r line.outputs ≡ true) (sym (rows_equal x.outputs h.0.outputs (not-false (same_rows x.outputs h.0.outputs) e))) h.2)

kept_in : (lines : List Line) (line : Line) → In line lines → Kept lines line
kept_in [] line h = absurd h
kept_in (x ∷ xs) line (inl q) = (x, inl refl, subst (λ (z : Line). same_rows x.outputs z.outputs ≡ true) q (rows_same x.outputs))
kept_in (x ∷ xs) line (inr r) = let h = kept_in xs line r in kept_after x line xs h (differs x h.0) refl

pub each : (lines : List Line) (line : Line) → Contains lines line → (kept : Line) × Contains (first_lines lines) kept × (same_rows kept.outputs line.outputs ≡ true)
each lines line h = let k = kept_in lines line (to_in line lines h) in (k.0, from_in k.0 (first_lines lines) k.1, k.2)

-- ---- no two kept lines are the same

abbrev Apart : List Line → Type 0
Apart [] = Unit {0}
Apart (x ∷ xs) = ((y : Line) → In y xs → IsDifferent x y) × Apart xs

apart_cond : (p : Line → Bool) (x : Line) (xs : List Line) (b : Bool) → ((y : Line) → In y xs → IsDifferent x y) → Apart (filter p xs) → Apart (cond b (x ∷ filter p xs) (filter p xs))
apart_cond p x xs true h a = (λ y r. h y (from_filter p y xs r).1, a)
apart_cond p x xs false h a = a

apart_filter : (p : Line → Bool) (xs : List Line) → Apart xs → Apart (filter p xs)
apart_filter p [] a = tt
apart_filter p (x ∷ xs) a = apart_cond p x xs (p x) a.0 (apart_filter p xs a.1)

apart_firsts : (lines : List Line) → Apart (first_lines lines)
apart_firsts [] = tt
apart_firsts (x ∷ xs) = (λ y r. (from_filter (differs x) y (first_lines xs) r).0, apart_filter (differs x) (first_lines xs) (apart_firsts xs))

in_get : (d : Line) (xs : List Line) (k : ℕ) → k < length xs → In (get_or xs k d) xs
in_get d [] k low = absurd (omega arith)
in_get d (x ∷ xs) zero low = inl refl
in_get d (x ∷ xs) (suc k) low = inr (in_get d xs k (omega arith))

apart_pairs : (xs : List Line) → Apart xs → (i j : ℕ) (d : Line) → i < j → j < length xs → IsDifferent (get_or xs i d) (get_or xs j d)
apart_pairs [] a i j d low high = absurd (omega arith)
apart_pairs (x ∷ xs) a i zero d low high = absurd (omega arith)
apart_pairs (x ∷ xs) a zero (suc j) d low high = a.0 (get_or xs j d) (in_get d xs j (omega arith))
apart_pairs (x ∷ xs) a (suc i) (suc j) d low high = apart_pairs xs a.1 i j d (omega arith) (omega arith)

pub distinct : (lines : List Line) → AllPairs IsDifferent (first_lines lines)
distinct lines = apart_pairs (first_lines lines) (apart_firsts lines)

-- Every legal tree lists the row set of its set, each member once.
use Rattle.std.proofs.Common.{◌≡◌, ap, sym, subst, refl, ℕ, suc, zero, ◌<◌, inl, inr, List, [], ◌∷◌, ◌++◌, length, get_or, arith}
use Rattle.std.specs.List.Sorted.{IsPermutation}
use Rattle.std.proofs.lemmas.List.Sorted.{IsPermutation-refl, IsPermutation-sym, IsPermutation-cons, IsPermutation-trans, IsPermutation-middle}
use Rattle.jp_frame.specs.Maps.{Map}
use Rattle.jp_frame.specs.Frames.{Frame, IsFrame}
use Rattle.jp_frame.specs.Rows.{row_set}
use Rattle.jp_frame.specs.Methods.{IsOther, ListsOnce}
use Rattle.jp_frame.specs.Trees.{Tree, Scan, Join, set_of, IsLegalTree, rows_of}
use Rattle.jp_facts.proofs.Members.{In, Distinct, to_in, from_in, in_append_left, in_append_right, from_append}
use Rattle.jp_frame.proofs.BagLaws.{Lists, row_set_lists, scan_lists, method_lists}

-- ---- two lists without repeats and with the same members are permutations

module _ {X : Type 0} where
  pub record Cut (x : X) (xs : List X) : Type 0 where
    pub before : List X
    pub after : List X
    pub whole : xs ≡ before ++ x ∷ after

  cut : (x : X) (xs : List X) → In x xs → Cut x xs
  cut x [] h = absurd h
  cut x (y ∷ ys) (inl e) = record { before = []; after = ys; whole = ap (λ z. z ∷ ys) e }
  cut x (y ∷ ys) (inr p) = let c = cut x ys p in record { before = y ∷ c.before; after = c.after; whole = ap (λ zs. y ∷ zs) c.whole }

  distinct_rest : (before : List X) (x : X) (after : List X) → Distinct (before ++ x ∷ after) → (In x (before ++ after) → ⊥) × Distinct (before ++ after)
  distinct_rest [] x after d = d
  distinct_rest (y ∷ before) x after d =
      let rest = distinct_rest before x after d.1 in (
        (λ h. elim h [ inl e ↦ d.0 (in_append_right y before (x ∷ after) (inl (sym e))) | inr p ↦ rest.0 p ]),
        ((λ p. elim (from_append y before after p) [ inl q ↦ d.0 (in_append_left y before (x ∷ after) q) | inr q ↦ d.0 (in_append_right y before (x ∷ after) (inr q)) ]), rest.1),
      )

  in_rest : (before : List X) (x : X) (after : List X) (y : X) → In y (before ++ x ∷ after) → (x ≡ y → ⊥) → In y (before ++ after)
  in_rest before x after y p other = elim (from_append y before (x ∷ after) p) [
    | inl q ↦ in_append_left y before after q
    | inr q ↦ elim q [ inl e ↦ absurd (other e) | inr r ↦ in_append_right y before after r ]
  ]

  in_more : (before : List X) (x : X) (after : List X) (y : X) → In y (before ++ after) → In y (before ++ x ∷ after)
  in_more before x after y p = elim (from_append y before after p) [ inl q ↦ in_append_left y before (x ∷ after) q | inr q ↦ in_append_right y before (x ∷ after) (inr q) ]

  pub same_members : (xs ys : List X) → Distinct xs → Distinct ys → ((x : X) → In x xs → In x ys) → ((x : X) → In x ys → In x xs) → IsPermutation xs ys
  same_members [] [] d e to from = IsPermutation-refl []
  same_members [] (y ∷ ys) d e to from = absurd (from y (inl refl))
  same_members (x ∷ xs) ys d e to from =
      let c = cut x ys (to x (inl refl)) in
      let rest = distinct_rest c.before x c.after (subst Distinct c.whole e) in
      let tail = same_members xs (c.before ++ c.after) d.1 rest.1
      (λ y p. in_rest c.before x c.after y (subst (In y) c.whole (to y (inr p))) (λ same. d.0 (subst (λ z. In z xs) (sym same) p)))
      (λ y p. elim (from y (subst (In y) (sym c.whole) (in_more c.before x c.after y p))) [ inl same ↦ absurd (rest.0 (subst (λ z. In z (c.before ++ c.after)) (sym same) p)) | inr q ↦ q ]) in
      subst (IsPermutation (x ∷ xs)) (sym c.whole)
      (IsPermutation-trans (x ∷ xs) (x ∷ (c.before ++ c.after)) (c.before ++ x ∷ c.after) (IsPermutation-cons x xs (c.before ++ c.after) tail) (IsPermutation-sym (c.before ++ x ∷ c.after) (x ∷ (c.before ++ c.after)) (IsPermutation-middle c.before x c.after)))

-- ---- in std's words

in_get : (d : Map) (xs : List Map) (k : ℕ) → k < length xs → In (get_or xs k d) xs
in_get d [] k low = absurd (omega arith)
in_get d (x ∷ xs) zero low = inl refl
in_get d (x ∷ xs) (suc k) low = inr (in_get d xs k (omega arith))

pairs_from : (xs : List Map) → Distinct xs → (i j : ℕ) (d : Map) → i < j → j < length xs → IsOther (get_or xs i d) (get_or xs j d)
pairs_from [] a i j d low high = absurd (omega arith)
pairs_from (x ∷ xs) a i zero d low high = absurd (omega arith)
pairs_from (x ∷ xs) a zero (suc j) d low high = λ e. a.0 (subst (λ y. In y xs) (sym e) (in_get d xs j (omega arith)))
pairs_from (x ∷ xs) a (suc i) (suc j) d low high = pairs_from xs a.1 i j d (omega arith) (omega arith)

from_pairs : (xs : List Map) → ((i j : ℕ) (d : Map) → i < j → j < length xs → IsOther (get_or xs i d) (get_or xs j d)) → Distinct xs
from_pairs [] h = tt
from_pairs (x ∷ xs) h = (λ p. let k = from_in x xs p in h 0 (suc k.0) x (omega arith) (let low = k.1 in omega (arith, low)) (sym k.2), from_pairs xs (λ i j d low high. h (suc i) (suc j) d (omega (arith, low)) (omega (arith, high))))

module _ (f : Frame) (set : ℕ) (rows : List Map) where
  pub once_from : Lists f set rows → ListsOnce f set rows
  once_from l = record { members = λ m. (λ p. l.to m (to_in m rows p), λ h. from_in m rows (l.from m h)); once = pairs_from rows l.distinct }

  pub from_once : ListsOnce f set rows → Lists f set rows
  from_once l = record { to = λ m p. (l.members m).0 (from_in m rows p); from = λ m h. to_in m rows ((l.members m).1 h); distinct = from_pairs rows l.once }

  -- two lists of one row set are permutations
  pub one_bag : (others : List Map) → Lists f set rows → Lists f set others → IsPermutation rows others
  one_bag others l k = same_members rows others l.distinct k.distinct (λ m p. k.from m (l.to m p)) (λ m p. l.from m (k.to m p))

-- ---- trees

module _ (f : Frame) (ok : IsFrame f) where
  pub tree_lists : (tree : Tree) → IsLegalTree f tree → Lists f (set_of tree) (rows_of f tree)
  tree_lists (Scan i test) legal = scan_lists f ok i legal.0 test legal.1
  tree_lists (Join method step test left right) legal =
      method_lists f ok (set_of left) (set_of right) method step test (rows_of f left) (rows_of f right) legal.0 legal.1 legal.2 (tree_lists left legal.3) (tree_lists right legal.4)

  pub tree_bag : (tree : Tree) → IsLegalTree f tree → IsPermutation (rows_of f tree) (row_set f (set_of tree))
  tree_bag tree legal = one_bag f (set_of tree) (rows_of f tree) (row_set f (set_of tree)) (tree_lists tree legal) (row_set_lists f (set_of tree))

-- The sort is a permutation, in order, and stable.
use Rattle.std.proofs.Common.{◌≡◌, ◌∙◌, ap, sym, subst, refl, ℕ, suc, zero, ◌+◌, ◌<◌, Bool, true, false, cond, not, List, [], ◌∷◌, filter, length, get_or, arith}
use Rattle.std.specs.Prelude.{if◌then◌else◌}
use Rattle.std.specs.Cmp.{IsStrictWeakOrder}
use Rattle.std.specs.List.Sorted.{IsPermutation, IsSortedBy, IsStableBy, ties}
use Rattle.std.proofs.lemmas.List.Sorted.{IsPermutation-refl, IsPermutation-cons, IsPermutation-sym, IsPermutation-trans, IsPermutation-middle, sorted_far}
use Rattle.jp_query.specs.Ordering.{Line, Direction, AreInOrder, is_before, inserted, sorted}
use Rattle.jp_laws.proofs.ValueLaws.{lines_weak, and_left, and_right}

module _ (keys : List Direction) where
  weak : IsStrictWeakOrder (is_before keys)
  weak = lines_weak keys

  moved : (line next : Line) (lines : List Line) (b : Bool) → IsPermutation (line ∷ lines) (inserted keys line lines) → IsPermutation (line ∷ next ∷ lines) (if b then next ∷ inserted keys line lines else line ∷ next ∷ lines)
  moved line next lines true ih = IsPermutation-trans (line ∷ next ∷ lines) (next ∷ line ∷ lines) (next ∷ inserted keys line lines) (IsPermutation-sym (next ∷ line ∷ lines) (line ∷ next ∷ lines) (IsPermutation-middle (next ∷ []) line lines)) (IsPermutation-cons next (line ∷ lines) (inserted keys line lines) ih)
  moved line next lines false ih = IsPermutation-refl (line ∷ next ∷ lines)

  inserts : (line : Line) (lines : List Line) → IsPermutation (line ∷ lines) (inserted keys line lines)
  inserts line [] = IsPermutation-refl (line ∷ [])
  inserts line (next ∷ lines) = moved line next lines (is_before keys next line) (inserts line lines)

  pub permutes : (lines : List Line) → IsPermutation lines (sorted keys lines)
  permutes [] = IsPermutation-refl []
  permutes (line ∷ lines) = IsPermutation-trans (line ∷ lines) (line ∷ sorted keys lines) (inserted keys line (sorted keys lines)) (IsPermutation-cons line lines (sorted keys lines) (permutes lines)) (inserts line (sorted keys lines))

  -- ---- in order

  abbrev Ahead : Line → List Line → Type 0
  Ahead line [] = Unit {0}
  Ahead line (next ∷ lines) = is_before keys next line ≡ false

  abbrev Up : List Line → Type 0
  Up [] = Unit {0}
  Up (line ∷ lines) = Ahead line lines × Up lines

  ahead_at : (first line next : Line) (lines : List Line) (b : Bool) → is_before keys line first ≡ false → is_before keys next first ≡ false → Ahead first (if b then next ∷ inserted keys line lines else line ∷ next ∷ lines)
  ahead_at first line next lines true p q = q
  ahead_at first line next lines false p q = p

  ahead : (first line : Line) (lines : List Line) → is_before keys line first ≡ false → Ahead first lines → Ahead first (inserted keys line lines)
  ahead first line [] p a = p
  ahead first line (next ∷ lines) p a = ahead_at first line next lines (is_before keys next line) p a

  up_at : (line next : Line) (lines : List Line) (b : Bool) → is_before keys next line ≡ b → Ahead next lines → Up lines → Up (inserted keys line lines) → Up (if b then next ∷ inserted keys line lines else line ∷ next ∷ lines)
  up_at line next lines true e a u ih = (ahead next line lines (weak.one_way next line e) a, ih)
  up_at line next lines false e a u ih = (e, (a, u))

  up_inserted : (line : Line) (lines : List Line) → Up lines → Up (inserted keys line lines)
  up_inserted line [] u = (tt, tt)
  up_inserted line (next ∷ lines) u = up_at line next lines (is_before keys next line) refl u.0 u.1 (up_inserted line lines u.1)

  up_sorted : (lines : List Line) → Up (sorted keys lines)
  up_sorted [] = tt
  up_sorted (line ∷ lines) = up_inserted line (sorted keys lines) (up_sorted lines)

  up_pairs : (lines : List Line) → Up lines → (k : ℕ) (d : Line) → suc k < length lines → is_before keys (get_or lines (suc k) d) (get_or lines k d) ≡ false
  up_pairs [] u k d low = absurd (omega arith)
  up_pairs (x ∷ []) u k d low = absurd (omega arith)
  up_pairs (x ∷ y ∷ lines) u zero d low = u.0
  up_pairs (x ∷ y ∷ lines) u (suc k) d low = up_pairs (y ∷ lines) u.1 k d (omega arith)

  pub neighbours : (lines : List Line) → IsSortedBy (is_before keys) (sorted keys lines)
  neighbours lines k d low high = let e : suc k ≡ k + 1 = omega arith in subst (λ m. is_before keys (get_or (sorted keys lines) m d) (get_or (sorted keys lines) k d) ≡ false) e (up_pairs (sorted keys lines) (up_sorted lines) k d (omega arith))

  pub in_order : (lines : List Line) → AreInOrder keys (sorted keys lines)
  in_order lines i j d low high = sorted_far (is_before keys) weak (sorted keys lines) (neighbours lines) i j d (omega (arith, low)) high

  -- ---- lines that a test passes keep their order, where none of them is before another

  module _ (p : Line → Bool) (level : (a b : Line) → p a ≡ true → p b ≡ true → is_before keys a b ≡ false) where
    swaps : (line next : Line) (rest : List Line) (b c : Bool) → p line ≡ b → p next ≡ c → is_before keys next line ≡ true → cond c (next ∷ cond b (line ∷ rest) rest) (cond b (line ∷ rest) rest) ≡ cond b (line ∷ cond c (next ∷ rest) rest) (cond c (next ∷ rest) rest)
    swaps line next rest true true e f h = let contrary : true ≡ false = sym h ∙ level next line f e in cc
    swaps line next rest true false e f h = refl
    swaps line next rest false true e f h = refl
    swaps line next rest false false e f h = refl

    kept_at : (line next : Line) (lines : List Line) (b : Bool) → is_before keys next line ≡ b → filter p (inserted keys line lines) ≡ filter p (line ∷ lines) → filter p (if b then next ∷ inserted keys line lines else line ∷ next ∷ lines) ≡ filter p (line ∷ next ∷ lines)
    kept_at line next lines true e ih = ap (λ zs. cond (p next) (next ∷ zs) zs) ih ∙ swaps line next (filter p lines) (p line) (p next) refl refl e
    kept_at line next lines false e ih = refl

    kept : (line : Line) (lines : List Line) → filter p (inserted keys line lines) ≡ filter p (line ∷ lines)
    kept line [] = refl
    kept line (next ∷ lines) = kept_at line next lines (is_before keys next line) refl (kept line lines)

    keeps : (lines : List Line) → filter p (sorted keys lines) ≡ filter p lines
    keeps [] = refl
    keeps (line ∷ lines) = kept line (sorted keys lines) ∙ ap (λ zs. cond (p line) (line ∷ zs) zs) (keeps lines)

  not_true : (b : Bool) → not b ≡ true → b ≡ false
  not_true true h = cc
  not_true false h = refl

  pub stable : (lines : List Line) → IsStableBy (is_before keys) lines (sorted keys lines)
  stable lines x = keeps (ties (is_before keys) x) (λ a b p q. weak.chain a x b (tied_one a p) (tied_two b q)) lines
    where
      tied_one : (a : Line) → ties (is_before keys) x a ≡ true → is_before keys a x ≡ false
      tied_one a h = not_true (is_before keys a x) (and_right (not (is_before keys x a)) (not (is_before keys a x)) h)

      tied_two : (b : Line) → ties (is_before keys) x b ≡ true → is_before keys x b ≡ false
      tied_two b h = not_true (is_before keys x b) (and_left (not (is_before keys x b)) (not (is_before keys b x)) h)

-- The pieces of a flat list.
use Rattle.std.proofs.Common.{◌≡◌, ◌∙◌, ap, ap₂, sym, subst, refl, ℕ, zero, suc, ◌+◌, ◌*◌, ◌<◌, ◌≤◌, List, [], ◌∷◌, ◌++◌, length, get_or, take, drop, arith}
use Rattle.std.proofs.lemmas.List.{take_all, take-append-le, drop-append-le, drop-drop, length-drop, length-take-le}
use Rattle.std.proofs.lemmas.Nat.{row_fits}
use Rattle.std.specs.Prelude.{All, Option}
use Rattle.jp_items.specs.Numbers.{Numbered, added, split}

pub times : (n w : ℕ) → suc n * w ≡ w + n * w
times n w = omega arith

pub split_count : {X : Type 0} (w n : ℕ) (xs : List X) → length (split w n xs) ≡ n
split_count w zero xs = refl
split_count w (suc n) xs = ap suc (split_count w n (drop w xs))

pub split_more : {X : Type 0} (w n : ℕ) (xs ys : List X) → length xs ≡ n * w → length ys ≡ w → split w (suc n) (xs ++ ys) ≡ split w n xs ++ ys ∷ []
split_more w zero [] ys e l = ap (λ p. p ∷ []) (take_all w ys (omega (arith, l)))
split_more w zero (x ∷ xs) ys e l = absurd (omega (arith, e))
split_more w (suc n) xs ys e l =
    let fits : w ≤ length xs = omega (arith, e, times n w) in
    let rest : length (drop w xs) ≡ n * w = omega (arith, e, times n w, length-drop w xs) in
    ap₂ (λ p ps. p ∷ ps) (take-append-le w xs ys fits) (ap (split w (suc n)) (drop-append-le w xs ys fits) ∙ split_more w n (drop w xs) ys rest l)

pub split_at : {X : Type 0} (w n k : ℕ) (xs d : List X) → k < n → get_or (split w n xs) k d ≡ take w (drop (k * w) xs)
split_at w zero k xs d h = absurd (omega arith)
split_at w (suc n) zero xs d h = ap (λ i. take w (drop i xs)) (none w)
  where
    none : (w : ℕ) → 0 ≡ 0 * w
    none w = omega arith
split_at w (suc n) (suc k) xs d h =
    split_at w n k (drop w xs) d (omega arith) ∙ ap (take w) (drop-drop (k * w) w xs) ∙ ap (λ i. take w (drop i xs)) (sym (times k w))

-- a piece lies within the list
pub piece_fits : (w n k size : ℕ) → k < n → size ≡ n * w → k * w + w ≤ size
piece_fits w n k size h e = let fits : k * w + w ≤ n * w = row_fits k w n w h (omega arith) in omega (arith, e, fits)

module _ {X : Type 0} (w v n k : ℕ) (flat part : List X) (list : List (List X)) (same : v ≡ w) (whole : part ≡ flat) (is : split w n flat ≡ list) (size : length flat ≡ n * w) (there : k < length list) where
  counted : length list ≡ n
  counted = ap length (sym is) ∙ split_count w n flat

  pub piece_there : k * v + v ≤ length part
  piece_there = subst (λ u. k * u + u ≤ length part) (sym same) (piece_fits w n k (length part) (omega (arith, counted, there)) (ap length whole ∙ size))

  pub piece_is : (d : List X) → take v (drop (k * v) part) ≡ get_or list k d
  piece_is d = ap₂ (λ u p. take u (drop (k * u) p)) same whole ∙ sym (split_at w n k flat d (omega (arith, counted, there))) ∙ ap (λ l. get_or l k d) is

  pub piece_size : length (take v (drop (k * v) part)) ≡ w
  piece_size = length-take-le v (drop (k * v) part) (omega (arith, piece_there, length-drop (k * v) part)) ∙ same

split_same : {X : Type 0} (w m n : ℕ) (xs ys : List X) → m ≡ n → xs ≡ ys → split w m xs ≡ split w n ys
split_same w m n xs ys e f = ap₂ (split w) e f

pub pushed : (width n m : ℕ) (flat more tuple : List (Option ℕ)) (numbers : Numbered) → record { width = width; list = split width n flat } ≡ numbers → length flat ≡ n * width
    → m ≡ n + 1 → more ≡ flat ++ tuple → length tuple ≡ numbers.width → record { width = width; list = split width m more } ≡ added numbers tuple
pushed width n m flat more tuple numbers is size next and_more fits =
    let fits_here : length tuple ≡ width = fits ∙ ap (λ (k : Numbered). k.width) (sym is) in
    let list_is : split width m more ≡ split width n flat ++ tuple ∷ [] = split_same width m (suc n) more (flat ++ tuple) (omega (arith, next)) and_more ∙ split_more width n flat tuple size fits_here in
    ap (λ l. record { width = width; list = l }) list_is ∙ ap (λ k. added k tuple) is

-- each piece has the width
pub pieces_whole : {X : Type 0} (w n : ℕ) (xs : List X) → length xs ≡ n * w → All (λ p. length p ≡ w) (split w n xs)
pieces_whole w zero xs e k d h = absurd (omega arith)
pieces_whole w (suc n) xs e zero d h = length-take-le w xs (omega (arith, e, times n w))
pieces_whole w (suc n) xs e (suc k) d h = pieces_whole w n (drop w xs) (omega (arith, e, times n w, length-drop w xs)) k d (omega arith)

-- one piece more
pub pushed_size : (width n m size more : ℕ) → size ≡ n * width → m ≡ n + 1 → more ≡ size + width → more ≡ m * width
pushed_size width n m size more e f g = rw f (omega (arith, times n width, e, g))

-- One step more of a loop over lists.
use Rattle.std.proofs.Common.{◌≡◌, ◌∙◌, ap, ap₂, sym, refl, ℕ, zero, suc, ◌+◌, ◌<◌, ◌≤◌, Bool, true, false, not, ◌&&◌, cond, List, [], ◌∷◌, ◌++◌, length, get_or, drop, map, append_assoc, append-nil, add-one, inl, inr, arith}
use Rattle.std.specs.Prelude.{replicate, min}
use Rattle.std.specs.List.{flat_map, range_with_len}
use Rattle.std.proofs.lemmas.Bool.{cases_lt}
use Rattle.std.proofs.lemmas.List.{at_drop_more, at_drop_all}
use Rattle.jp_naive.specs.Joining.{Numbers, pair_of, pairs_of, struck}

-- A loop that adds to a list what each element of another list gives.
module _ {X Y : Type 0} (all : List X → List Y) (one : X → List Y) where
  pub gathers_more : ((x : X) (xs : List X) → all (x ∷ xs) ≡ one x ++ all xs) → (xs : List X) (i : ℕ) (d : X) → i < length xs
      → (so_far more whole : List Y) → so_far ++ all (drop i xs) ≡ whole → more ≡ so_far ++ one (get_or xs i d) → more ++ all (drop (i + 1) xs) ≡ whole
  gathers_more step xs i d there so_far more whole e m =
      ap (λ ys. ys ++ all (drop (i + 1) xs)) m
      ∙ append_assoc so_far (one (get_or xs i d)) (all (drop (i + 1) xs))
      ∙ ap (λ ys. so_far ++ ys) (sym (at_drop_more all xs i d there ∙ step (get_or xs i d) (drop (i + 1) xs)))
      ∙ e

pub replicate_more : {X : Type 0} (n : ℕ) (x : X) → replicate (n + 1) x ≡ replicate n x ++ x ∷ []
replicate_more n x = ap (λ k. replicate k x) (add-one n) ∙ at n
  where
    at : (n : ℕ) → replicate (suc n) x ≡ replicate n x ++ x ∷ []
    at zero = refl
    at (suc n) = ap (λ xs. x ∷ xs) (at n)

pub range_more : (a n : ℕ) → range_with_len a (n + 1) ≡ range_with_len a n ++ (a + n) ∷ []
range_more a n = ap (range_with_len a) (add-one n) ∙ at a n
  where
    at : (a n : ℕ) → range_with_len a (suc n) ≡ range_with_len a n ++ (a + n) ∷ []
    at a zero = ap (λ k. k ∷ []) (omega arith)
    at a (suc n) = ap (λ xs. a ∷ xs) (at (a + 1) n ∙ ap (λ k. range_with_len (a + 1) n ++ k ∷ []) (omega arith))

pub struck_more : (us ms : List Bool) (at : ℕ) (d e : Bool) → at < length us → at < length ms
    → struck (drop at us) (drop at ms) ≡ (get_or us at d && not (get_or ms at e)) ∷ struck (drop (at + 1) us) (drop (at + 1) ms)
struck_more us ms at d e h k =
    at_drop_more (λ vs. struck vs (drop at ms)) us at d h
    ∙ at_drop_more (λ ns. struck (get_or us at d ∷ drop (at + 1) us) ns) ms at e k

module _ (left : Numbers) where
  pairs_at : (mark : Bool) (right : Numbers) (marks : List Bool) (rights : List Numbers) → pairs_of left (right ∷ rights) (mark ∷ marks) ≡ cond mark (pair_of left right ∷ []) [] ++ pairs_of left rights marks
  pairs_at true right marks rights = refl
  pairs_at false right marks rights = refl

  pub pairs_more : (rights : List Numbers) (marks : List Bool) (at : ℕ) (r : Numbers) (m : Bool) → at < length rights → at < length marks
      → pairs_of left (drop at rights) (drop at marks) ≡ cond (get_or marks at m) (pair_of left (get_or rights at r) ∷ []) [] ++ pairs_of left (drop (at + 1) rights) (drop (at + 1) marks)
  pairs_more rights marks at r m h k =
      at_drop_more (λ rs. pairs_of left rs (drop at marks)) rights at r h
      ∙ at_drop_more (λ ms. pairs_of left (get_or rights at r ∷ drop (at + 1) rights) ms) marks at m k
      ∙ pairs_at (get_or marks at m) (get_or rights at r) (drop (at + 1) marks) (drop (at + 1) rights)

  no_rights : (marks : List Bool) → pairs_of left [] marks ≡ []
  no_rights [] = refl
  no_rights (m ∷ ms) = refl

  pub pairs_end : (rights : List Numbers) (marks : List Bool) (at : ℕ) → min (length rights) (length marks) ≤ at → pairs_of left (drop at rights) (drop at marks) ≡ []
  pairs_end rights marks at h = elim (cases_lt (length marks) (length rights)) [
    | inl p ↦ at_drop_all (λ ms. pairs_of left (drop at rights) ms) marks at (omega (arith, h, p))
    | inr q ↦ at_drop_all (λ rs. pairs_of left rs (drop at marks)) rights at (omega (arith, h, q)) ∙ no_rights (drop at marks)
  ]

  pub more_there : (rights : List Numbers) (marks : List Bool) (at : ℕ) → at < length rights → at < length marks → get_or marks at false ≡ true
      → pairs_of left (drop at rights) (drop at marks) ≡ pair_of left (get_or rights at []) ∷ pairs_of left (drop (at + 1) rights) (drop (at + 1) marks)
  more_there rights marks at h k e = pairs_more rights marks at [] false h k ∙ ap (λ b. cond b (pair_of left (get_or rights at []) ∷ []) [] ++ pairs_of left (drop (at + 1) rights) (drop (at + 1) marks)) e

  pub more_elsewhere : (rights : List Numbers) (marks : List Bool) (at : ℕ) → at < length rights → at < length marks → get_or marks at false ≡ false
      → pairs_of left (drop at rights) (drop at marks) ≡ pairs_of left (drop (at + 1) rights) (drop (at + 1) marks)
  more_elsewhere rights marks at h k e = pairs_more rights marks at [] false h k ∙ ap (λ b. cond b (pair_of left (get_or rights at []) ∷ []) [] ++ pairs_of left (drop (at + 1) rights) (drop (at + 1) marks)) e

module _ (rights : List Numbers) where
  same_list : (rs : List Numbers) → rs ≡ map (pair_of []) rs
  same_list [] = refl
  same_list (r ∷ rs) = ap₂ (λ (x : Numbers) (xs : List Numbers). x ∷ xs) (sym (append-nil r)) (same_list rs)

  pub alone_pairs : rights ≡ flat_map (λ l. map (pair_of l) rights) ([] ∷ [])
  alone_pairs = same_list rights ∙ sym (append-nil (map (pair_of []) rights))

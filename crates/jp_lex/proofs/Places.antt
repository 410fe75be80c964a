-- Tokens are slices of the source, and their places ascend.
use Rattle.std.proofs.Common.{◌≡◌, ℕ, zero, suc, ◌+◌, ◌-◌, ◌<◌, ◌≤◌, List, ◌∷◌, ◌++◌, length, take, drop, get_or, refl, sym, ap, ◌∙◌, arith}
use Rattle.std.proofs.lemmas.List.{take_at, drop_at, drop-drop}
use Rattle.std.proofs.lemmas.List.Elements.{All-cons}
use Rattle.std.specs.List.{All, AllPairs}
use Rattle.jp_lex.specs.Cutting.{Bytes, Lexeme, Cut, IsSliceOf, StandsBefore, AreSlices, Ascend}

pairs_more : (R : Lexeme → Lexeme → Type 0) (t : Lexeme) (ts : List Lexeme) → All (R t) ts → AllPairs R ts → AllPairs R (t ∷ ts)
pairs_more R t ts first more = λ i j d lt within. go i j d lt within
  where
    go : (i j : ℕ) (d : Lexeme) → i < j → j < length (t ∷ ts) → R (get_or (t ∷ ts) i d) (get_or (t ∷ ts) j d)
    go i zero d lt within = absurd (omega arith)
    go zero (suc j) d lt within = first j d (omega arith)
    go (suc i) (suc j) d lt within = more i j d (omega arith) (omega arith)

-- the bytes behind a gap and a token
behind : (whole : Bytes) (p : ℕ) (g u rest src : Bytes) → src ≡ drop p whole → src ≡ g ++ (u ++ rest) → (drop (p + length g) whole ≡ u ++ rest) × (rest ≡ drop (p + length g + length u) whole)
behind whole p g u rest src from is =
    let first = sym (drop-drop (length g) p whole) ∙ ap (drop (length g)) (sym from ∙ is) ∙ drop_at g (u ++ rest) (length g) refl in
    (first, sym (sym (drop-drop (length u) (p + length g) whole) ∙ ap (drop (length u)) first ∙ drop_at u rest (length u) refl))

pub cut_slices : {p : ℕ} {src : Bytes} {ts : List Lexeme} → Cut p src ts → (whole : Bytes) → src ≡ drop p whole → AreSlices whole ts
cut_slices (Cut.done long) whole from = λ k d lt. absurd (omega arith)
cut_slices {p} {src} (Cut.token {ts = ts} g kind u content rest is long tok ok more) whole from =
    let at = behind whole p g u rest src from is in
    let n : p + length g + length u - (p + length g) ≡ length u = omega arith in
    All-cons (IsSliceOf whole) (record { kind = kind; text = u; at = p + length g }) ts (ap (λ m. take m (drop (p + length g) whole)) n ∙ ap (take (length u)) at.0 ∙ take_at u rest (length u) refl) (cut_slices more whole at.1)

-- each token stands at the place p or behind it
cut_behind : {p : ℕ} {src : Bytes} {ts : List Lexeme} → Cut p src ts → (q : ℕ) → q ≤ p → All (λ t. q ≤ t.at) ts
cut_behind (Cut.done long) q le = λ k d lt. absurd (omega arith)
cut_behind {p} (Cut.token {ts = ts} g kind u content rest is long tok ok more) q le =
    All-cons (λ t. q ≤ t.at) (record { kind = kind; text = u; at = p + length g }) ts (omega arith) (cut_behind more q (omega arith))

pub cut_ascends : {p : ℕ} {src : Bytes} {ts : List Lexeme} → Cut p src ts → Ascend ts
cut_ascends (Cut.done long) = λ i j d lt within. absurd (omega arith)
cut_ascends {p} (Cut.token {ts = ts} g kind u content rest is long tok ok more) =
    pairs_more StandsBefore (record { kind = kind; text = u; at = p + length g }) ts (cut_behind more (p + length g + length u) (omega arith)) (cut_ascends more)

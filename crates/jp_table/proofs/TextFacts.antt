-- A text more at the end of a buffer.
use Rattle.std.proofs.Common.{◌≡◌, ◌≤◌, ◌<◌, ◌-◌, ℕ, zero, suc, List, [], ◌∷◌, ◌++◌, length, get_or, take, drop, map, Option, Some, None, refl, ap, ap₂, ◌∙◌, arith}
use Rattle.std.proofs.Math.Seq.{drop-append_seam}
use Rattle.std.proofs.lemmas.List.{drop-append-le, length-append, length-drop, map-append, take-append-le, take_all}
use Rattle.std.proofs.lemmas.List.Elements.{All-append}
use Rattle.std.proofs.lemmas.Str.{IsCharBoundary-end, IsCharBoundary-from_drop, IsUtf8-append, IsUtf8-drop}
use Rattle.std.specs.Prelude.{All, IsUtf8}
use Rattle.std.specs.Str.{IsCharBoundary}
use Rattle.jp_base.specs.declared.values.Value.{Value}
use Rattle.jp_base.specs.declared.values.Value.TheVariants as value
use Rattle.jp_table.specs.Texts.{IsPlace, text_at}

abbrev Place : Type 0
Place = Option (ℕ × ℕ)

kept_boundary : (bs t : List ℕ) (i : ℕ) → IsUtf8 bs → IsUtf8 t → IsCharBoundary bs i → IsCharBoundary (bs ++ t) i
kept_boundary bs t i u v b =
    IsCharBoundary-from_drop (bs ++ t) i (omega (arith, b.0, length-append bs t))
    (rw (drop-append-le i bs t b.0) (IsUtf8-append (drop i bs) t (IsUtf8-drop bs i u b) v))

kept_place : (bs t : List ℕ) (place : Place) → IsUtf8 bs → IsUtf8 t → IsPlace bs place → IsPlace (bs ++ t) place
kept_place bs t None u v h = tt
kept_place bs t (Some p) u v h = (h.0, kept_boundary bs t p.0 u v h.1, kept_boundary bs t p.1 u v h.2)

kept_text : (bs t : List ℕ) (place : Place) → IsPlace bs place → text_at (bs ++ t) place ≡ text_at bs place
kept_text bs t None h = refl
kept_text bs t (Some p) h =
    let start : p.0 ≤ length bs = h.1.0 in
    let end : p.1 ≤ length bs = h.2.0 in
    ap value.Text (ap (take (p.1 - p.0)) (drop-append-le p.0 bs t start) ∙ take-append-le (p.1 - p.0) (drop p.0 bs) t (omega (arith, length-drop p.0 bs)))

-- the places of the earlier texts stay
pub kept_places : (bs t : List ℕ) (places : List Place) → IsUtf8 bs → IsUtf8 t → All (IsPlace bs) places → All (IsPlace (bs ++ t)) places
kept_places bs t places u v h = λ (k : ℕ) (d : Place) l. kept_place bs t (get_or places k d) u v (h k d l)

-- and so do the texts
pub kept_texts : (bs t : List ℕ) (places : List Place) → All (IsPlace bs) places → map (text_at (bs ++ t)) places ≡ map (text_at bs) places
kept_texts bs t [] h = refl
kept_texts bs t (p ∷ ps) h =
    ap₂ (λ (x : Value) (xs : List Value). x ∷ xs) (kept_text bs t p (h 0 p (omega arith))) (kept_texts bs t ps (λ (k : ℕ) (d : Place) l. h (suc k) d (omega arith)))

new_place : (bs t : List ℕ) → IsUtf8 bs → IsUtf8 t → IsPlace (bs ++ t) (Some (length bs, length (bs ++ t)))
new_place bs t u v = (omega (arith, length-append bs t), kept_boundary bs t (length bs) u v (IsCharBoundary-end bs), IsCharBoundary-end (bs ++ t))

new_text : (bs t : List ℕ) → text_at (bs ++ t) (Some (length bs, length (bs ++ t))) ≡ value.Text t
new_text bs t =
    ap value.Text (ap (take (length (bs ++ t) - length bs)) (drop-append_seam bs t) ∙ take_all (length (bs ++ t) - length bs) t (omega (arith, length-append bs t)))

one_place : (bs : List ℕ) (place : Place) → IsPlace bs place → All (IsPlace bs) (place ∷ [])
one_place bs place h = λ (k : ℕ) (d : Place) l. at k d l
  where
    at : (k : ℕ) (d : Place) → k < 1 → IsPlace bs (get_or (place ∷ []) k d)
    at zero d l = h
    at (suc k) d l = absurd (omega arith)

-- a text more, from its two ends
pub places_more : (bs t after_it : List ℕ) (start end : ℕ) (places : List Place) → IsUtf8 bs → IsUtf8 t → All (IsPlace bs) places → after_it ≡ bs ++ t → start ≡ length bs → end ≡ length after_it
    → All (IsPlace after_it) (places ++ Some (start, end) ∷ [])
places_more bs t after_it start end places u v h is s e =
    rw (s, e, is) (All-append (IsPlace (bs ++ t)) places (Some (length bs, length (bs ++ t)) ∷ []) (kept_places bs t places u v h) (one_place (bs ++ t) (Some (length bs, length (bs ++ t))) (new_place bs t u v)))

pub texts_more : (bs t after_it : List ℕ) (start end : ℕ) (places : List Place) → All (IsPlace bs) places → after_it ≡ bs ++ t → start ≡ length bs → end ≡ length after_it
    → map (text_at after_it) (places ++ Some (start, end) ∷ []) ≡ map (text_at bs) places ++ value.Text t ∷ []
texts_more bs t after_it start end places h is s e =
    rw (s, e, is) (map-append (text_at (bs ++ t)) places (Some (length bs, length (bs ++ t)) ∷ [])
    ∙ ap₂ (λ (xs : List Value) (x : Value). xs ++ x ∷ []) (kept_texts bs t places h) (new_text bs t))

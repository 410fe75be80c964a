-- Facts on lists of bytes, quotes and comments: what the scans find.
use Rattle.std.proofs.Common.{◌≡◌, ℕ, zero, suc, ◌+◌, ◌-◌, ◌<◌, ◌≤◌, Bool, true, false, ◌&&◌, cond, eqb, [], ◌∷◌, ◌++◌, length, take, drop, get_or, Some, refl, sym, ap, ◌∙◌, subst, arith, add-one}
use Rattle.std.proofs.lemmas.Bool.{and_parts, eq-eqb, eqb-true, ne_eqb, false≢true}
use Rattle.std.proofs.lemmas.List.{take_at, drop_at}
use Rattle.std.specs.List.{prefix_len, list_all}
use Rattle.jp_lex.specs.Cutting.{Bytes, Inside, Body, begins, is_opening, is_closing}
use Rattle.jp_lex.specs.Scan.{comment_from, quote_from}

-- bytes that all pass are counted
pub prefix_all : (p : ℕ → Bool) (v rest : Bytes) → list_all p v ≡ true → length v ≤ prefix_len p (v ++ rest)
prefix_all p [] rest h = omega arith
prefix_all p (b ∷ v) rest h =
    let both = and_parts (p b) (list_all p v) h in
    let more = prefix_all p v rest both.1 in
    rw both.0 (omega (arith, more))

pub prefix_whole : (p : ℕ → Bool) (v : Bytes) → list_all p v ≡ true → prefix_len p v ≡ length v
prefix_whole p [] h = refl
prefix_whole p (b ∷ v) h =
    let both = and_parts (p b) (list_all p v) h in
    let more = prefix_whole p v both.1 in
    rw both.0 (omega (arith, more))

-- bytes that all pass are counted, up to one that doesn't
pub prefix_stops : (p : ℕ → Bool) (v : Bytes) (b : ℕ) (rest : Bytes) → list_all p v ≡ true → p b ≡ false → prefix_len p (v ++ b ∷ rest) ≡ length v
prefix_stops p [] b rest h stops = rw stops refl
prefix_stops p (c ∷ v) b rest h stops =
    let both = and_parts (p c) (list_all p v) h in
    let more = prefix_stops p v b rest both.1 stops in
    rw both.0 (omega (arith, more))

-- the byte that follows, if any, doesn't pass
abbrev pub Stops : (ℕ → Bool) → Bytes → Type 0
Stops p [] = Unit {0}
Stops p (b ∷ rest) = p b ≡ false

abbrev pub Span : (ℕ → Bool) → Bytes → Type 0
Span p src = (u : Bytes) × (rest : Bytes) × (src ≡ u ++ rest) × (length u ≡ prefix_len p src) × (list_all p u ≡ true) × Stops p rest

-- the longest front that passes, and what follows it
pub span : (p : ℕ → Bool) (src : Bytes) → Span p src
span p [] = ([], [], refl, refl, refl, tt)
span p (b ∷ v) = go (span p v) (p b) refl
  where
    go : Span p v → (t : Bool) → p b ≡ t → Span p (b ∷ v)
    go s true e = (b ∷ s.0, s.1, ap (λ w. b ∷ w) s.2, rw e (omega (arith, s.3)), rw e s.4, s.5)
    go s false e = ([], b ∷ v, refl, rw e refl, refl, e)

-- two fronts of one length are one front
pub same_front : (g x h y : Bytes) → length g ≡ length h → g ++ x ≡ h ++ y → (g ≡ h) × (x ≡ y)
same_front g x h y l e = (
  sym (take_at g x (length g) refl) ∙ ap (take (length g)) e ∙ take_at h y (length g) (sym l),
  sym (drop_at g x (length g) refl) ∙ ap (drop (length g)) e ∙ drop_at h y (length g) (sym l),
)

-- ---- quotes

pub quote_grows : (q : ℕ) (second : Bool) (at size : ℕ) (src : Bytes) (end : ℕ × ℕ) → quote_from q second at size src ≡ Some end → at ≤ end.0
quote_grows q second at size [] end e = absurd (cc)
quote_grows q true at size (b ∷ v) end e = quote_grows q false at size v end e
quote_grows q false at size (b ∷ v) end e =
    go (eqb b q) (begins q v) (quote_grows q true (at + 2) (size + 1) v end) (quote_grows q false (at + 1) (size + 1) v end) e
  where
    go : (t s : Bool) → (quote_from q true (at + 2) (size + 1) v ≡ Some end → at + 2 ≤ end.0) → (quote_from q false (at + 1) (size + 1) v ≡ Some end → at + 1 ≤ end.0)
        → cond t (cond s (quote_from q true (at + 2) (size + 1) v) (Some (at, size))) (quote_from q false (at + 1) (size + 1) v) ≡ Some end → at ≤ end.0
    go true true two one h = omega (arith, two h)
    go true false two one h = let same : ◌≡◌ {A = ℕ × ℕ} (at, size) end = cc in omega (arith, ap (λ (p : ℕ × ℕ). p.0) same)
    go false s two one h = omega (arith, one h)

quote_self : (q : ℕ) → eqb q q ≡ true
quote_self q = eq-eqb q q refl

pub quote_exact : {q : ℕ} {v content : Bytes} → Body q v content → (rest : Bytes) → begins q rest ≡ false → (at size : ℕ) → quote_from q false at size (v ++ q ∷ rest) ≡ Some (at + length v, size + length content)
quote_exact {q} Body.empty rest ends at size = rw (quote_self q, ends) (let a : at ≡ at + 0 = omega arith in let s : size ≡ size + 0 = omega arith in cc)
quote_exact {q} (Body.other {v = v} {content = c} b differs inner) rest ends at size =
    let more = quote_exact inner rest ends (at + 1) (size + 1) in
    let a : at + 1 + length v ≡ at + suc (length v) = omega arith in
    let s : size + 1 + length c ≡ size + suc (length c) = omega arith in
    rw differs (cc)
quote_exact {q} (Body.doubled {v = v} {content = c} inner) rest ends at size =
    let more = quote_exact inner rest ends (at + 2) (size + 1) in
    let a : at + 2 + length v ≡ at + suc (suc (length v)) = omega arith in
    let s : size + 1 + length c ≡ size + suc (length c) = omega arith in
    rw (quote_self q) (cc)

-- each body that a quote follows lies within what is found
pub quote_reaches : {q : ℕ} {v content : Bytes} → Body q v content → (rest : Bytes) (at size : ℕ) (end : ℕ × ℕ) → quote_from q false at size (v ++ q ∷ rest) ≡ Some end → at + length v ≤ end.0
quote_reaches {q} Body.empty rest at size end e = let more = quote_grows q false at size (q ∷ rest) end e in omega (arith, more)
quote_reaches {q} (Body.other {v = v} b differs inner) rest at size end e =
    let more = quote_reaches inner rest (at + 1) (size + 1) end (rw differs at e) in
    omega (arith, more)
quote_reaches {q} (Body.doubled {v = v} inner) rest at size end e =
    let more = quote_reaches inner rest (at + 2) (size + 1) end (rw (quote_self q) at e) in
    omega (arith, more)

-- what is found is a body and its closing quote
abbrev pub Enclosed : ℕ → Bytes → ℕ → ℕ → ℕ × ℕ → Type 0
Enclosed q src at size end = (v : Bytes) × (content : Bytes) × (rest : Bytes) × (src ≡ v ++ q ∷ rest) × Body q v content × (begins q rest ≡ false) × (at + length v ≡ end.0) × (size + length content ≡ end.1)

begins_is : (q : ℕ) (v : Bytes) → begins q v ≡ true → v ≡ q ∷ drop 1 v
begins_is q [] h = absurd (false≢true h)
begins_is q (b ∷ v) h = ap (λ x. x ∷ v) (eqb-true b q h)

pub quote_finds : (q : ℕ) (second : Bool) (at size : ℕ) (src : Bytes) (end : ℕ × ℕ) → quote_from q second at size src ≡ Some end → Enclosed q (drop (cond second 1 0) src) at size end
quote_finds q second at size [] end e = absurd (cc)
quote_finds q true at size (b ∷ v) end e = quote_finds q false at size v end e
quote_finds q false at size (b ∷ v) end e =
    go (eqb b q) (begins q v) refl refl (quote_finds q true (at + 2) (size + 1) v end) (quote_finds q false (at + 1) (size + 1) v end) e
  where
    go : (t s : Bool) → eqb b q ≡ t → begins q v ≡ s → (quote_from q true (at + 2) (size + 1) v ≡ Some end → Enclosed q (drop 1 v) (at + 2) (size + 1) end) → (quote_from q false (at + 1) (size + 1) v ≡ Some end → Enclosed q v (at + 1) (size + 1) end)
        → cond t (cond s (quote_from q true (at + 2) (size + 1) v) (Some (at, size))) (quote_from q false (at + 1) (size + 1) v) ≡ Some end → Enclosed q (b ∷ v) at size end
    go true true first next two one h =
        let found = two h in
        let is = eqb-true b q first in
        (q ∷ q ∷ found.0, q ∷ found.1, found.2, (let whole = begins_is q v next in cc), Body.doubled found.4, found.5, omega (arith, found.6), omega (arith, found.7))
    go true false first next two one h =
        let same : ◌≡◌ {A = ℕ × ℕ} (at, size) end = cc in
        ([], [], v, ap (λ x. x ∷ v) (eqb-true b q first), Body.empty, next, omega (arith, ap (λ (p : ℕ × ℕ). p.0) same), omega (arith, ap (λ (p : ℕ × ℕ). p.1) same))
    go false s first next two one h =
        let found = one h in
        (b ∷ found.0, b ∷ found.1, found.2, ap (λ w. b ∷ w) found.3, Body.other b first found.4, found.5, omega (arith, found.6), omega (arith, found.7))

-- ---- comments

abbrev pub Reaches : ℕ → Bytes → Type 0
Reaches zero v = v ≡ []
Reaches (suc d) v = (rest : Bytes) (at : ℕ) → comment_from false d at (v ++ rest) ≡ Some (at + length v)

close_step : (d : ℕ) (v : Bytes) → Reaches d v → Reaches (suc d) (42 ∷ 47 ∷ v)
close_step zero v h rest at = rw h refl
close_step (suc d) v h rest at =
    let more = h rest (at + 2) in
    let a : at + 2 + length v ≡ at + suc (suc (length v)) = omega arith in
    let less : suc d - 1 ≡ d = omega arith in
    let some : eqb (suc d) 0 ≡ false = ne_eqb (suc d) 0 (λ e. omega arith) in
    rw (some, less) (cc)

pub comment_exact : {n : ℕ} {v : Bytes} → Inside n v → Reaches n v
comment_exact Inside.closed = refl
comment_exact (Inside.opens {d = d} {v = v} inner) = λ rest at.
    let more = comment_exact inner rest (at + 2) in
    let a : at + 2 + length v ≡ at + suc (suc (length v)) = omega arith in
    rw (add-one) (cc)
comment_exact (Inside.closes {d = d} {v = v} inner) = close_step d v (comment_exact inner)
comment_exact (Inside.other {d = d} {v = v} b next opens closes inner) = λ rest at.
    let more = comment_exact inner rest (at + 1) in
    let a : at + 1 + suc (length v) ≡ at + suc (suc (length v)) = omega arith in
    rw (opens, closes) (cc)

abbrev pub Commented : ℕ → Bytes → ℕ → ℕ → Type 0
Commented d src at end = (v : Bytes) × (rest : Bytes) × (src ≡ v ++ rest) × Inside (suc d) v × (at + length v ≡ end)

pub pair_is : (x y b : ℕ) (v : Bytes) → 0 < y → (eqb b x && eqb (get_or v 0 0) y) ≡ true → (b ≡ x) × (v ≡ y ∷ drop 1 v)
pair_is x y b [] some h = absurd (omega (arith, eqb-true 0 y (and_parts (eqb b x) (eqb 0 y) h).1))
pair_is x y b (n ∷ v) some h =
    let both = and_parts (eqb b x) (eqb n y) h in
    (eqb-true b x both.0, ap (λ z. z ∷ v) (eqb-true n y both.1))

Inside-first : {d : ℕ} {v : Bytes} → Inside (suc d) v → (b : ℕ) × (w : Bytes) × (v ≡ b ∷ w)
Inside-first (Inside.opens {v = v} inner) = (47, 42 ∷ v, refl)
Inside-first (Inside.closes {v = v} inner) = (42, 47 ∷ v, refl)
Inside-first (Inside.other {v = v} b next opens closes inner) = (b, next ∷ v, refl)

other_found : (b d at end : ℕ) (v : Bytes) → is_opening b (get_or v 0 0) ≡ false → is_closing b (get_or v 0 0) ≡ false → Commented d v (at + 1) end → Commented d (b ∷ v) at end
other_found b d at end v opens closes found =
    let first = Inside-first found.3 in
    let whole : v ≡ (first.0 ∷ first.1) ++ found.1 = found.2 ∙ ap (λ w. w ++ found.1) first.2 in
    let next : get_or v 0 0 ≡ first.0 = ap (λ w. get_or w 0 0) whole in
    let len : length found.0 ≡ suc (length first.1) = ap length first.2 in (
      b ∷ first.0 ∷ first.1,
      found.1,
      ap (λ w. b ∷ w) whole,
      Inside.other b first.0 (rw next at opens) (rw next at closes) (subst (λ w. Inside (suc d) w) first.2 found.3),
      omega (arith, found.4, len),
    )

closed_found : (d b at end : ℕ) (v : Bytes) → is_closing b (get_or v 0 0) ≡ true → (comment_from true (d - 1) (at + 2) v ≡ Some end → Commented (d - 1) (drop 1 v) (at + 2) end)
    → cond (eqb d 0) (Some (at + 2)) (comment_from true (d - 1) (at + 2) v) ≡ Some end → Commented d (b ∷ v) at end
closed_found zero b at end v closes two h =
    let is = pair_is 42 47 b v (omega arith) closes in
    let same : at + 2 ≡ end = cc in
    (42 ∷ 47 ∷ [], drop 1 v, (let a = is.0 in let t = is.1 in cc), Inside.closes Inside.closed, omega (arith, same))
closed_found (suc d) b at end v closes two h =
    let is = pair_is 42 47 b v (omega arith) closes in
    let less : suc d - 1 ≡ d = omega arith in
    let some : eqb (suc d) 0 ≡ false = ne_eqb (suc d) 0 (λ e. omega arith) in
    let found : Commented d (drop 1 v) (at + 2) end = rw less at (two (rw some at h)) in
    (42 ∷ 47 ∷ found.0, found.1, (let a = is.0 in let t = is.1 in let w = found.2 in cc), Inside.closes found.3, omega (arith, found.4))

pub comment_finds : (second : Bool) (d at : ℕ) (src : Bytes) (end : ℕ) → comment_from second d at src ≡ Some end → Commented d (drop (cond second 1 0) src) at end
comment_finds second d at [] end e = absurd (cc)
comment_finds true d at (b ∷ v) end e = comment_finds false d at v end e
comment_finds false d at (b ∷ v) end e =
    go (is_opening b (get_or v 0 0)) (is_closing b (get_or v 0 0)) refl refl (comment_finds true (d + 1) (at + 2) v end) (comment_finds true (d - 1) (at + 2) v end) (comment_finds false d (at + 1) v end) e
  where
    go : (o c : Bool) → is_opening b (get_or v 0 0) ≡ o → is_closing b (get_or v 0 0) ≡ c → (comment_from true (d + 1) (at + 2) v ≡ Some end → Commented (d + 1) (drop 1 v) (at + 2) end)
        → (comment_from true (d - 1) (at + 2) v ≡ Some end → Commented (d - 1) (drop 1 v) (at + 2) end) → (comment_from false d (at + 1) v ≡ Some end → Commented d v (at + 1) end)
        → cond o (comment_from true (d + 1) (at + 2) v) (cond c (cond (eqb d 0) (Some (at + 2)) (comment_from true (d - 1) (at + 2) v)) (comment_from false d (at + 1) v)) ≡ Some end → Commented d (b ∷ v) at end
    go true c opens closes up down one h =
        let is = pair_is 47 42 b v (omega arith) opens in
        let found : Commented (suc d) (drop 1 v) (at + 2) end = rw add-one at (up h) in
        (47 ∷ 42 ∷ found.0, found.1, (let a = is.0 in let t = is.1 in let w = found.2 in cc), Inside.opens found.3, omega (arith, found.4))
    go false true opens closes up down one h = closed_found d b at end v closes down h
    go false false opens closes up down one h = other_found b d at end v opens closes (one h)

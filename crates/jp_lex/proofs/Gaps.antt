-- The longest gap at the front of a source is made of the pieces that are found, one after another.
use Rattle.std.proofs.Common.{◌≡◌, ℕ, ◌+◌, ◌-◌, ◌<◌, ◌≤◌, Bool, true, false, ◌&&◌, cond, eqb, [], ◌∷◌, ◌++◌, length, take, drop, get_or, Option, Some, None, refl, sym, ap, ◌∙◌, subst, arith, append_assoc, length-append}
use Rattle.std.proofs.lemmas.Bool.{eqb-true, not-false}
use Rattle.std.proofs.lemmas.List.{drop_at, drop-drop, take_rest, append-nil}
use Rattle.std.specs.List.{prefix_len, list_all}
use Rattle.jp_lex.specs.Chars.{is_white}
use Rattle.jp_lex.specs.Cutting.{Bytes, is_in_line, is_opening, Piece, Gap, IsLongestGap}
use Rattle.jp_lex.specs.Scan.{comment_from, line_len, block_len, piece_len, LongestAt}
use Rattle.jp_lex.proofs.Bytes.{prefix_stops, prefix_whole, span, Stops, same_front, comment_exact, comment_finds, pair_is}

line_at : (v rest : Bytes) → list_all is_in_line v ≡ true → line_len ((45 ∷ 45 ∷ v ++ (10 ∷ [])) ++ rest) ≡ length (45 ∷ 45 ∷ v ++ (10 ∷ []))
line_at v rest h =
    let counted = prefix_stops is_in_line v 10 rest h refl in
    let same = append_assoc v (10 ∷ []) rest in
    let len = length-append v (10 ∷ []) in
    let all = length-append v (10 ∷ rest) in
    rw same (omega (arith, counted, len, all))

last_at : (v : Bytes) → list_all is_in_line v ≡ true → line_len ((45 ∷ 45 ∷ v) ++ []) ≡ length (45 ∷ 45 ∷ v)
last_at v h = rw (append-nil v) (omega (arith, prefix_whole is_in_line v h))

-- the piece at the front is found whole
pub piece_exact : {u rest : Bytes} → Piece u rest → piece_len (u ++ rest) ≡ length u
unfolding piece_len
piece_exact (Piece.white b h) = rw h refl
piece_exact (Piece.line {rest = rest} v h) = line_at v rest h
piece_exact (Piece.last_line v h) = last_at v h
piece_exact (Piece.block {v = v} {rest = rest} inner) = let found = comment_exact inner rest 2 in rw found (omega arith)

pub Piece-some : {u rest : Bytes} → Piece u rest → 0 < length u
Piece-some (Piece.white b h) = omega arith
Piece-some (Piece.line v h) = omega arith
Piece-some (Piece.last_line v h) = omega arith
Piece-some (Piece.block inner) = omega arith

abbrev pub Found : Bytes → ℕ → Type 0
Found src n = (u : Bytes) × (rest : Bytes) × (src ≡ u ++ rest) × (length u ≡ n) × Piece u rest

line_found : (v : Bytes) → Found (45 ∷ 45 ∷ v) (line_len (45 ∷ 45 ∷ v))
line_found v = let s = span is_in_line v in go s.0 s.1 s.2 s.3 s.4 s.5
  where
    go : (u rest : Bytes) → v ≡ u ++ rest → length u ≡ prefix_len is_in_line v → list_all is_in_line u ≡ true → Stops is_in_line rest → Found (45 ∷ 45 ∷ v) (line_len (45 ∷ 45 ∷ v))
    go u [] is len all stops =
        let whole : v ≡ u = is ∙ append-nil u in
        let long = ap length whole in
        (45 ∷ 45 ∷ u, [], ap (λ w. 45 ∷ 45 ∷ w) is, omega (arith, len, long), Piece.last_line u all)
    go u (b ∷ rest) is len all stops =
        let feed = eqb-true b 10 (not-false (eqb b 10) stops) in
        let whole : v ≡ (u ++ (10 ∷ [])) ++ rest = is ∙ ap (λ x. u ++ x ∷ rest) feed ∙ sym (append_assoc u (10 ∷ []) rest) in
        let long = ap length whole ∙ length-append (u ++ (10 ∷ [])) rest in
        let short = length-append u (10 ∷ []) in
        (45 ∷ 45 ∷ u ++ (10 ∷ []), rest, ap (λ w. 45 ∷ 45 ∷ w) whole, omega (arith, len, long, short), Piece.line u all)

block_found : (v : Bytes) (end : Option ℕ) → comment_from false 0 2 v ≡ end → 0 < block_len end → Found (47 ∷ 42 ∷ v) (block_len end)
block_found v None e h = absurd (omega arith)
block_found v (Some end) e h =
    let found = comment_finds false 0 2 v end e in
    (47 ∷ 42 ∷ found.0, found.1, ap (λ w. 47 ∷ 42 ∷ w) found.2, omega (arith, found.4), Piece.block found.3)

-- what is found is a piece
pub piece_finds : (src : Bytes) → 0 < piece_len src → Found src (piece_len src)
unfolding piece_len
piece_finds [] h = absurd (omega arith)
piece_finds (b ∷ v) h = go (is_white b) (eqb b 45 && eqb (get_or v 0 0) 45) (is_opening b (get_or v 0 0)) refl refl refl h
  where
    go : (w l o : Bool) → is_white b ≡ w → (eqb b 45 && eqb (get_or v 0 0) 45) ≡ l → is_opening b (get_or v 0 0) ≡ o
        → 0 < cond w 1 (cond l (line_len (b ∷ v)) (cond o (block_len (comment_from false 0 2 (drop 1 v))) 0))
        → Found (b ∷ v) (cond w 1 (cond l (line_len (b ∷ v)) (cond o (block_len (comment_from false 0 2 (drop 1 v))) 0)))
    go true l o white line opens h = (b ∷ [], v, refl, refl, Piece.white b white)
    go false true o white line opens h =
        let is = pair_is 45 45 b v (omega arith) line in
        let whole : b ∷ v ≡ 45 ∷ 45 ∷ drop 1 v = let a = is.0 in let t = is.1 in cc in
        subst (λ w. Found w (line_len w)) (sym whole) (line_found (drop 1 v))
    go false false true white line opens h =
        let is = pair_is 47 42 b v (omega arith) opens in
        let whole : b ∷ v ≡ 47 ∷ 42 ∷ drop 1 v = let a = is.0 in let t = is.1 in cc in
        subst (λ w. Found w (block_len (comment_from false 0 2 (drop 1 v)))) (sym whole) (block_found (drop 1 v) (comment_from false 0 2 (drop 1 v)) refl h)
    go false false false white line opens h = absurd (omega arith)

-- where no piece stands at the front, the longest gap is empty
pub no_piece : (src : Bytes) → piece_len src ≡ 0 → IsLongestGap [] src
no_piece src h = record { gap = Gap.none; longest = λ g after e k. go g after e k }
  where
    go : (g after : Bytes) → src ≡ g ++ after → Gap g after → length g ≤ 0
    go g after e Gap.none = omega arith
    go g after e (Gap.more {u = u} {g = more} piece gap) =
        let whole : src ≡ u ++ (more ++ after) = e ∙ append_assoc u more after in
        let len = ap piece_len whole ∙ piece_exact piece in
        absurd (omega (arith, len, Piece-some piece))

-- a piece goes before the longest gap of what follows it
pub one_piece : (u g rest : Bytes) → Piece u (g ++ rest) → IsLongestGap g rest → IsLongestGap (u ++ g) rest
one_piece u g rest piece long = record { gap = Gap.more piece long.gap; longest = λ h after e k. go h after e k }
  where
    go : (h after : Bytes) → (u ++ g) ++ rest ≡ h ++ after → Gap h after → length h ≤ length (u ++ g)
    go h after e Gap.none = omega arith
    go h after e (Gap.more {u = v} {g = more} other gap) =
        let whole : u ++ (g ++ rest) ≡ v ++ (more ++ after) = sym (append_assoc u g rest) ∙ e ∙ append_assoc v more after in
        let len = sym (piece_exact piece) ∙ ap piece_len whole ∙ piece_exact other in
        let same = same_front u (g ++ rest) v (more ++ after) len whole in
        omega (arith, len, long.longest more after same.1 gap, length-append u g, length-append v more)

pub longest_none : (src : Bytes) → piece_len src ≡ 0 → LongestAt src 0
longest_none src h = ([], src, refl, refl, no_piece src h)

pub longest_more : (src : Bytes) (n : ℕ) → 0 < piece_len src → LongestAt (drop (piece_len src) src) n → LongestAt src (piece_len src + n)
longest_more src n h more =
    let found = piece_finds src h in
    let left : drop (piece_len src) src ≡ found.1 = ap (drop (piece_len src)) found.2 ∙ drop_at found.0 found.1 (piece_len src) found.3 in
    let rest : found.1 ≡ more.0 ++ more.1 = sym left ∙ more.2 in (
      found.0 ++ more.0,
      more.1,
      found.2 ∙ ap (λ w. found.0 ++ w) rest ∙ sym (append_assoc found.0 more.0 more.1),
      omega (arith, length-append found.0 more.0, found.3, more.3),
      one_piece found.0 more.0 more.1 (subst (λ w. Piece found.0 w) rest found.4) more.4,
    )

-- ---- the steps of a loop over the pieces, from the place `len` on

abbrev Goes : Bytes → ℕ → Type 0
Goes src len = (n : ℕ) → LongestAt (drop len src) n → LongestAt src (len + n)

pub gap_ends : (src : Bytes) (len n : ℕ) → Goes src len → n ≡ piece_len (take (length src - len) (drop len src)) → n ≡ 0 → LongestAt src len
gap_ends src len n goes is none =
    let at : piece_len (drop len src) ≡ 0 = ap piece_len (sym (take_rest src len)) ∙ sym is ∙ none in
    let whole : len + 0 ≡ len = omega arith in
    subst (LongestAt src) whole (goes 0 (longest_none (drop len src) at))

pub gap_goes : (src : Bytes) (len n : ℕ) → Goes src len → n ≡ piece_len (take (length src - len) (drop len src)) → 0 < n → Goes src (len + n)
gap_goes src len n goes is some m more =
    let at : piece_len (drop len src) ≡ n = ap piece_len (sym (take_rest src len)) ∙ sym is in
    let left : drop (len + n) src ≡ drop (piece_len (drop len src)) (drop len src) = sym (drop-drop n len src) ∙ ap (λ k. drop k (drop len src)) (sym at) in
    let step = longest_more (drop len src) m (omega (arith, at)) (subst (λ w. LongestAt w m) left more) in
    let place : len + (piece_len (drop len src) + m) ≡ len + n + m = omega (arith, at) in
    subst (LongestAt src) place (goes (piece_len (drop len src) + m) step)

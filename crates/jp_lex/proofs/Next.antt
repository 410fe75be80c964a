-- The next token of a source from a place on, by the longest gap there and what the scan finds behind it.
use Rattle.std.proofs.Common.{◌≡◌, ℕ, ◌+◌, ◌-◌, ◌≤◌, [], ◌∷◌, ◌++◌, length, take, drop, Option, Some, None, sym, ap, ◌∙◌, subst, arith, append_assoc, length-append, length-drop}
use Rattle.std.proofs.lemmas.List.{take_at, drop_at, drop-drop, take_rest, append-nil}
use Rattle.jp_lex.specs.declared.scan.Scanned.{Scanned}
use Rattle.jp_lex.specs.declared.token.TokenKind.{TokenKind}
use Rattle.jp_lex.specs.declared.token.LexError.{LexError}
use Rattle.jp_lex.specs.Cutting.{Bytes, IsLongestGap, IsToken, fault, unmatched, Cut, Refusal}
use Rattle.jp_lex.specs.Scan.{scan, LongestAt, TokenAt, GoesBefore, IsEndOr}
use Rattle.jp_lex.proofs.Found.{no_token}
use Rattle.jp_lex.proofs.Once.{Form-some}

goes_before : (src : Bytes) (at : ℕ) (g : Bytes) (kind : TokenKind) (u content rest : Bytes) → at ≤ length src → drop at src ≡ g ++ (u ++ rest) → IsLongestGap g (u ++ rest) → IsToken kind u content rest
    → fault (at + length g) kind u (length content) rest ≡ None → GoesBefore src at (record { kind = kind; text = u; at = at + length g })
goes_before src at g kind u content rest fits is gap tok ok =
    let all = ap length is in
    let some = Form-some tok.form in
    let len = length-append g (u ++ rest) in
    let tail = length-append u rest in
    let both = length-append g u in
    let left : drop (at + length g + length u) src ≡ rest =
    ap (λ n. drop n src) (let e : at + length g + length u ≡ at + (length g + length u) = omega arith in e) ∙ sym (drop-drop (length g + length u) at src) ∙ ap (drop (length g + length u)) (is ∙ sym (append_assoc g u rest)) ∙ drop_at (g ++ u) rest (length g + length u) both in
    record {
      moves = omega arith;
      within = omega (arith, all, len, tail, length-drop at src);
      tokens = λ ts cut. Cut.token g kind u content rest is gap tok ok (subst (λ w. Cut (at + length g + length u) w ts) left cut);
      refusal = λ e refused. Refusal.later g kind u content rest is gap tok ok (subst (λ w. Refusal (at + length g + length u) w e) left refused);
    }

-- the gap and the token, as lists
abbrev Behind : Bytes → ℕ → ℕ → Scanned → Type 0
Behind src at gap s = (g : Bytes) × (u : Bytes) × (content : Bytes) × (rest : Bytes) × (drop at src ≡ g ++ (u ++ rest)) × (length g ≡ gap) × (length content ≡ s.size) × IsLongestGap g (u ++ rest) × IsToken s.kind u content rest
    × (take s.len (drop (at + gap) src) ≡ u) × (drop (at + gap + s.len) src ≡ rest)

behind_gap : (src : Bytes) (at gap : ℕ) (found : LongestAt (drop at src) gap) → drop (at + gap) src ≡ found.1
behind_gap src at gap found = sym (drop-drop gap at src) ∙ ap (drop gap) found.2 ∙ drop_at found.0 found.1 gap found.3

behind : (src : Bytes) (at gap : ℕ) (s : Scanned) → LongestAt (drop at src) gap → TokenAt (drop (at + gap) src) s → Behind src at gap s
behind src at gap s found token =
    let same = sym (behind_gap src at gap found) ∙ token.3 in (
      found.0,
      token.0,
      token.1,
      token.2,
      found.2 ∙ ap (λ w. found.0 ++ w) same,
      found.3,
      token.5,
      subst (IsLongestGap found.0) same found.4,
      token.6,
      ap (take s.len) token.3 ∙ take_at token.0 token.2 s.len token.4,
      sym (drop-drop s.len (at + gap) src) ∙ ap (drop s.len) token.3 ∙ drop_at token.0 token.2 s.len token.4,
    )

pub next_good : (src : Bytes) (at gap : ℕ) (s : Scanned) → at ≤ length src → LongestAt (drop at src) gap → TokenAt (drop (at + gap) src) s
    → fault (at + gap) s.kind (take s.len (drop (at + gap) src)) s.size (drop (at + gap + s.len) src) ≡ None
    → GoesBefore src at (record { kind = s.kind; text = take s.len (drop (at + gap) src); at = at + gap })
next_good src at gap s fits found token ok = go (behind src at gap s found token)
  where
    go : Behind src at gap s → GoesBefore src at (record { kind = s.kind; text = take s.len (drop (at + gap) src); at = at + gap })
    go (g, u, content, rest, is, len, size, long, tok, text, tail) =
        let good : fault (at + length g) s.kind u (length content) rest ≡ None = let a = len in let b = size in let d = text in let e = tail in let f = ok in cc in
        let here = goes_before src at g s.kind u content rest fits is long tok good in
        let moved : GoesBefore src at (record { kind = s.kind; text = u; at = at + gap }) = subst (λ n. GoesBefore src at (record { kind = s.kind; text = u; at = at + n })) len here in
        subst (λ w. GoesBefore src at (record { kind = s.kind; text = w; at = at + gap })) (sym text) moved

pub next_bad : (src : Bytes) (at gap : ℕ) (s : Scanned) (e : LexError) → LongestAt (drop at src) gap → TokenAt (drop (at + gap) src) s
    → fault (at + gap) s.kind (take s.len (drop (at + gap) src)) s.size (drop (at + gap + s.len) src) ≡ Some e → Refusal at (drop at src) e
next_bad src at gap s e found token bad = go (behind src at gap s found token)
  where
    go : Behind src at gap s → Refusal at (drop at src) e
    go (g, u, content, rest, is, len, size, long, tok, text, tail) =
        let wrong : fault (at + length g) s.kind u (length content) rest ≡ Some e = let a = len in let b = size in let d = text in let t = tail in let f = bad in cc in
        Refusal.bad_token g s.kind u content rest is long tok wrong

pub next_none : (src : Bytes) (at gap b : ℕ) (rest : Bytes) → LongestAt (drop at src) gap → drop (at + gap) src ≡ b ∷ rest → scan (drop (at + gap) src) ≡ None → Refusal at (drop at src) (unmatched (at + gap) b rest)
next_none src at gap b rest found is none =
    let same = sym (behind_gap src at gap found) ∙ is in
    Refusal.no_token found.0 b rest (found.2 ∙ ap (λ w. found.0 ++ w) same) (subst (IsLongestGap found.0) same found.4) (no_token (b ∷ rest) (ap scan (sym is) ∙ none)) (ap (λ n. unmatched (at + n) b rest) (sym found.3))

pub next_end : (src : Bytes) (at gap : ℕ) → LongestAt (drop at src) gap → drop (at + gap) src ≡ [] → Cut at (drop at src) []
next_end src at gap found is =
    let same = sym (behind_gap src at gap found) ∙ is in
    let whole : drop at src ≡ found.0 = found.2 ∙ ap (λ w. found.0 ++ w) same ∙ append-nil found.0 in
    subst (λ w. Cut at w []) (sym whole) (Cut.done (subst (IsLongestGap found.0) same found.4))

-- ---- what the code's slices are

pub gap_of : (text bytes : Bytes) (at gap : ℕ) → bytes ≡ text → LongestAt (take (length bytes - at) (drop at bytes)) gap → LongestAt (drop at text) gap
gap_of text bytes at gap same found = subst (λ w. LongestAt (drop at w) gap) same (subst (λ w. LongestAt w gap) (take_rest bytes at) found)

pub scan_of : (text bytes : Bytes) (start : ℕ) (found : Option Scanned) → bytes ≡ text → found ≡ scan (take (length bytes - start) (drop start bytes)) → scan (drop start text) ≡ found
scan_of text bytes start found same is = ap (λ w. scan (drop start w)) (sym same) ∙ ap scan (sym (take_rest bytes start)) ∙ sym is

pub rest_of : (text bytes : Bytes) (start : ℕ) → bytes ≡ text → take (length bytes - start) (drop start bytes) ≡ drop start text
rest_of text bytes start same = take_rest bytes start ∙ ap (drop start) same

pub start_fits : (text bytes : Bytes) (at gap : ℕ) → bytes ≡ text → at ≤ length text → gap ≤ length (take (length bytes - at) (drop at bytes)) → at + gap ≤ length text
start_fits text bytes at gap same fits within = omega (arith, ap length (rest_of text bytes at same), length-drop at text)

-- the refusal where nothing is found, or the end
pub next_refusal : (src rest : Bytes) (at gap : ℕ) (e : LexError) → LongestAt (drop at src) gap → scan (drop (at + gap) src) ≡ None → rest ≡ drop (at + gap) src → IsEndOr (at + gap) rest (Some e) → Refusal at (drop at src) e
next_refusal src [] at gap e found none is h = absurd h
next_refusal src (b ∷ rest) at gap e found none is h = subst (Refusal at (drop at src)) (sym h) (next_none src at gap b rest found (sym is) none)

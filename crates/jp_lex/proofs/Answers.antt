-- The function's answer is the cutting or the refusal of the relation.
use Rattle.std.proofs.Common.{◌≡◌, ℕ, zero, suc, ◌+◌, ◌<◌, ◌≤◌, Bool, true, false, if◌then◌else◌, [], ◌∷◌, ◌++◌, length, take, drop, Option, Some, None, Ok, Err, MatchResult, ◌⊎◌, inl, inr, refl, sym, ap, ◌∙◌, subst, arith, length-append, length-drop}
use Rattle.std.proofs.lemmas.List.{take_all, take_at, drop_at, append-nil}
use Rattle.std.proofs.lemmas.Str.{IsUtf8-nil, IsUtf8-from_is_utf8, is_utf8-from_IsUtf8}
use Rattle.std.proofs.Math.Nat.{eq-or-lt_of_le}
use Rattle.std.specs.Str.{IsUtf8, is_utf8, IsValidUpTo}
use Rattle.std.specs.Str.Lossy.{utf8_valid_len, valid_len_up_to}
use Rattle.jp_lex.specs.declared.scan.Scanned.{Scanned}
use Rattle.jp_lex.specs.declared.token.LexError.{LexError}
use Rattle.jp_lex.specs.declared.token.LexError.TheVariants as error
use Rattle.jp_lex.specs.Answer.{Answer, piece_and, gap_len, before, judged, found_at, cut_from, answer}
use Rattle.jp_lex.specs.Cutting.{Bytes, IsLongestGap, fault, Cut, Refusal, Tokens, Refused}
use Rattle.jp_lex.specs.Scan.{piece_len, scan, LongestAt, TokenAt}
use Rattle.jp_lex.proofs.Gaps.{longest_none, longest_more}
use Rattle.jp_lex.proofs.Found.{token_finds, no_token}
use Rattle.jp_lex.proofs.Once.{Form-some}

-- ---- gaps

gap_found : (n : ℕ) (src : Bytes) → length src ≤ n → LongestAt src (gap_len n src)
unfolding piece_len gap_len
gap_found zero src short = longest_none src (go src short)
  where
    go : (src : Bytes) → length src ≤ 0 → piece_len src ≡ 0
    go [] short = refl
    go (b ∷ src) short = absurd (omega arith)
gap_found (suc n) src short = go (piece_len src) refl (gap_found n (drop (piece_len src) src))
  where
    go : (k : ℕ) → piece_len src ≡ k → (length (drop (piece_len src) src) ≤ n → LongestAt (drop (piece_len src) src) (gap_len n (drop (piece_len src) src)))
        → LongestAt src (piece_and k (gap_len n (drop (piece_len src) src)))
    go zero is more = longest_none src is
    go (suc k) is more =
        let rest = more (omega (arith, length-drop (piece_len src) src, is, short)) in
        subst (λ w. LongestAt src (w + gap_len n (drop (piece_len src) src))) is (longest_more src (gap_len n (drop (piece_len src) src)) (omega (arith, is)) rest)

-- ---- tokens

-- what the answer says of the source that stands at a place
abbrev pub Means : ℕ → Bytes → Answer → Type 0
Means p src r = MatchResult r (Cut p src) (Refusal p src)

-- the answer behind a gap, if that for each shorter source is right
behind : (n p : ℕ) (src g rest : Bytes) → src ≡ g ++ rest → IsLongestGap g rest → ((q : ℕ) (less : Bytes) → length less < length rest → Means q less (cut_from n q less))
    → Means p src (found_at (cut_from n) (p + length g) rest (scan rest))
behind n p src g [] is long more =
    let whole : src ≡ g = is ∙ append-nil g in
    subst (λ w. Cut p w []) (sym whole) (Cut.done long)
behind n p src g (b ∷ rest) is long more = go (scan (b ∷ rest)) refl
  where
    judges : (s : Scanned) (found : TokenAt (b ∷ rest) s) (bad : Option LexError) → fault (p + length g) s.kind found.0 (length found.1) found.2 ≡ bad
        → Means p src (judged (cut_from n) (p + length g) s found.0 found.2 bad)
    judges s (u, content, tail, split, len, size, tok) (Some e) bad = Refusal.bad_token g s.kind u content tail (is ∙ ap (λ w. g ++ w) split) (subst (IsLongestGap g) split long) tok bad
    judges s (u, content, tail, split, len, size, tok) None ok =
        let shorter : length tail < length (b ∷ rest) = omega (arith, ap length split, length-append u tail, Form-some tok.form) in
        joined (cut_from n (p + length g + s.len) tail)
        (subst (λ k. Means (p + length g + length u) tail (cut_from n (p + length g + k) tail)) len (more (p + length g + length u) tail shorter))
      where
        joined : (r : Answer) → Means (p + length g + length u) tail r → Means p src (before (record { kind = s.kind; text = u; at = p + length g }) r)
        joined (Ok ts) cut = Cut.token g s.kind u content tail (is ∙ ap (λ w. g ++ w) split) (subst (IsLongestGap g) split long) tok ok cut
        joined (Err e) refusal = Refusal.later g s.kind u content tail (is ∙ ap (λ w. g ++ w) split) (subst (IsLongestGap g) split long) tok ok refusal

    -- the token and what follows it are the slices that the function takes
    sliced : (s : Scanned) (found : TokenAt (b ∷ rest) s) → Means p src (found_at (cut_from n) (p + length g) (b ∷ rest) (Some s))
    sliced s found =
        let text : found.0 ≡ take s.len (b ∷ rest) = sym (ap (take s.len) found.3 ∙ take_at found.0 found.2 s.len found.4) in
        let tail : found.2 ≡ drop s.len (b ∷ rest) = sym (ap (drop s.len) found.3 ∙ drop_at found.0 found.2 s.len found.4) in
        subst (λ after. Means p src (judged (cut_from n) (p + length g) s (take s.len (b ∷ rest)) after (fault (p + length g) s.kind (take s.len (b ∷ rest)) s.size after))) tail
        (subst (λ u. Means p src (judged (cut_from n) (p + length g) s u found.2 (fault (p + length g) s.kind u s.size found.2))) text
        (subst (λ size. Means p src (judged (cut_from n) (p + length g) s found.0 found.2 (fault (p + length g) s.kind found.0 size found.2))) found.5
        (judges s found (fault (p + length g) s.kind found.0 (length found.1) found.2) refl)))

    go : (found : Option Scanned) → scan (b ∷ rest) ≡ found → Means p src (found_at (cut_from n) (p + length g) (b ∷ rest) found)
    go None none = Refusal.no_token g b rest is long (no_token (b ∷ rest) none) refl
    go (Some s) some = sliced s (token_finds (b ∷ rest) s some)

pub cut_means : (n p : ℕ) (src : Bytes) → length src < n → Means p src (cut_from n p src)
unfolding cut_from
cut_means zero p src short = absurd (omega arith)
cut_means (suc n) p src short =
    let gap = gap_found (length src) src (omega arith) in
    let rest : gap.1 ≡ drop (gap_len (length src) src) src = sym (ap (drop (gap_len (length src) src)) gap.2 ∙ drop_at gap.0 gap.1 (gap_len (length src) src) gap.3) in
    let found = behind n p src gap.0 gap.1 gap.2 gap.4 (λ q less shorter. cut_means n q less (omega (arith, ap length gap.2, length-append gap.0 gap.1, shorter, short))) in
    subst (λ w. Means p src (found_at (cut_from n) (p + gap_len (length src) src) w (scan w))) rest
    (subst (λ k. Means p src (found_at (cut_from n) (p + k) gap.1 (scan gap.1))) gap.3 found)

-- ---- bytes that aren't UTF-8

module _ (src : Bytes) (bad : IsUtf8 src → ⊥) where
  -- so many bytes at the front that are UTF-8 aren't all
  short_of : (n : ℕ) → n ≤ length src → IsUtf8 (take n src) → n < length src
  short_of n fits utf8 = go (eq-or-lt_of_le fits)
    where
      go : (n ≡ length src) ⊎ (n < length src) → n < length src
      go (inl all) = absurd (bad (subst IsUtf8 (take_all n src (omega (arith, all))) utf8))
      go (inr less) = less

  -- no more bytes at the front are UTF-8
  abbrev Longest : ℕ → Type 0
  Longest n = (m : ℕ) → n < m → IsUtf8 (take m src) → ⊥

  one_less : (n : ℕ) → is_utf8 (take (suc n) src) ≡ false → Longest (suc n) → Longest n
  one_less n isnt longest m less utf8 = go (eq-or-lt_of_le less)
    where
      go : (suc n ≡ m) ⊎ (suc n < m) → ⊥
      go (inl same) = absurd (let is_one = is_utf8-from_IsUtf8 (take m src) utf8 in cc)
      go (inr more) = longest m more utf8

  valid_to : (n : ℕ) → n ≤ length src → Longest n → IsValidUpTo src (valid_len_up_to src n)
  valid_to zero fits longest = record { short = short_of 0 fits IsUtf8-nil; front = IsUtf8-nil; longest = longest }
  valid_to (suc n) fits longest = go (is_utf8 (take (suc n) src)) refl (λ isnt. valid_to n (omega arith) (one_less n isnt longest))
    where
      go : (b : Bool) → is_utf8 (take (suc n) src) ≡ b → (is_utf8 (take (suc n) src) ≡ false → IsValidUpTo src (valid_len_up_to src n)) → IsValidUpTo src (if b then suc n else valid_len_up_to src n)
      go true is less =
          let front = IsUtf8-from_is_utf8 (take (suc n) src) is in
          record { short = short_of (suc n) fits front; front = front; longest = longest }
      go false is less = less is

  valid_found : IsValidUpTo src (utf8_valid_len src)
  unfolding utf8_valid_len
  valid_found = valid_to (length src) (omega arith) (λ m less utf8. bad (subst IsUtf8 (take_all m src (omega (arith, less))) utf8))

-- ---- a whole source

pub answer_means : (src : Bytes) → MatchResult (answer src) (Tokens src) (Refused src)
unfolding answer
answer_means src = go (is_utf8 src) refl
  where
    cut : (r : Answer) → IsUtf8 src → Means 0 src r → MatchResult r (Tokens src) (Refused src)
    cut (Ok ts) utf8 found = (utf8, found)
    cut (Err e) utf8 found = inl (utf8, found)

    go : (b : Bool) → is_utf8 src ≡ b → MatchResult (if b then cut_from (suc (length src)) 0 src else Err (error.BadByte (utf8_valid_len src))) (Tokens src) (Refused src)
    go true is = cut (cut_from (suc (length src)) 0 src) (IsUtf8-from_is_utf8 src is) (cut_means (suc (length src)) 0 src (omega arith))
    go false is = inr (utf8_valid_len src, valid_found src (λ utf8. let is_one = is_utf8-from_IsUtf8 src utf8 in let isnt = is in absurd (cc)), refl)

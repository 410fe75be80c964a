-- The scans that the code makes, as functions on the rest of the source. They are a step of the proof, and no public clause cites them.
use Rattle.std.specs.Prelude.{◌≡◌, ℕ, ◌+◌, ◌-◌, ◌<◌, ◌≤◌, min, Bool, true, false, ◌&&◌, ◌==◌, if◌then◌else◌, List, [], ◌∷◌, ◌++◌, length, take, drop, slice_index, Option, Some, None, unwrap_or, Result, Ok, Err}
use Rattle.std.specs.List.{prefix_len}
use Rattle.jp_lex.specs.declared.scan.Scanned.{Scanned}
use Rattle.jp_lex.specs.declared.token.TokenKind.{TokenKind}
use Rattle.jp_lex.specs.declared.token.TokenKind.TheVariants.{Word, Quoted, Number, Text, Symbol}
use Rattle.jp_lex.specs.Chars.{is_white, is_letter, is_digit, is_word_byte}
use Rattle.jp_lex.specs.declared.token.LexError.{LexError}
use Rattle.jp_lex.specs.declared.token.Token.{Token}
use Rattle.jp_lex.specs.Cutting.{Bytes, is_in_line, is_opening, is_closing, is_symbol, is_long_symbol, begins, IsLongestGap, IsToken, fault, unmatched, Lexeme, lexeme, Cut, Refusal}

-- The place after the `*/` of the outermost of d + 1 open comments, for bytes that begin at a place; `is_second` says
-- that the first byte is the second of a pair.
abbrev pub comment_from : Bool → ℕ → ℕ → Bytes → Option ℕ
comment_from is_second d at [] = None
comment_from true d at (b ∷ v) = comment_from false d at v
comment_from false d at (b ∷ v) =
    if is_opening b (slice_index v 0) then comment_from true (d + 1) (at + 2) v
    else (if is_closing b (slice_index v 0) then (if d == 0 then Some (at + 2) else comment_from true (d - 1) (at + 2) v)
    else comment_from false d (at + 1) v)

-- the length with the line feed, if there is one
abbrev pub line_len : Bytes → ℕ
line_len src = min (prefix_len is_in_line src + 1) (length src)

-- the length of a comment with its `/*`, or 0 where it isn't closed
abbrev pub block_len : Option ℕ → ℕ
block_len end = unwrap_or end 0

-- the length of the piece of a gap at the front, or 0
unfoldable pub piece_len : Bytes → ℕ
piece_len src =
    let b = slice_index src 0 in
    let next = slice_index src 1 in
    if is_white b then 1
    else (if b == 45 && next == 45 then line_len src
    else (if is_opening b next then block_len (comment_from false 0 2 (drop 2 src)) else 0))

-- The place of the closing quote, for bytes that begin at a place, and the bytes of the content up to there, with
-- `size` before; `is_second` says that the first byte is the second of two quotes.
abbrev pub quote_from : ℕ → Bool → ℕ → ℕ → Bytes → Option (ℕ × ℕ)
quote_from q is_second at size [] = None
quote_from q true at size (b ∷ v) = quote_from q false at size v
quote_from q false at size (b ∷ v) =
    if b == q then (if begins q v then quote_from q true (at + 2) (size + 1) v else Some (at, size))
    else quote_from q false (at + 1) (size + 1) v

-- as long as it is, with all of its bytes as content
abbrev pub plain : TokenKind → ℕ → Scanned
plain kind len = record { kind = kind; len = len; size = len }

-- with the closing quote
abbrev pub closed : TokenKind → Option (ℕ × ℕ) → Option Scanned
closed kind None = None
closed kind (Some end) = Some (record { kind = kind; len = end.0 + 1; size = end.1 })

abbrev pub symbol : ℕ → ℕ → Option Scanned
symbol b next = if is_long_symbol b next then Some (plain Symbol 2) else (if is_symbol b then Some (plain Symbol 1) else None)

-- what begins the source
unfoldable pub scan : Bytes → Option Scanned
scan src =
    let b = slice_index src 0 in
    if is_letter b then Some (plain Word (prefix_len is_word_byte src))
    else (if is_digit b then Some (plain Number (prefix_len is_digit src))
    else (if b == 34 then closed Quoted (quote_from 34 false 1 0 (drop 1 src))
    else (if b == 39 then closed Text (quote_from 39 false 1 0 (drop 1 src))
    else symbol b (slice_index src 1))))

-- ---- what the scans mean

-- the first n bytes are the longest gap
abbrev pub LongestAt : Bytes → ℕ → Type 0
LongestAt src n = (g : Bytes) × (rest : Bytes) × (src ≡ g ++ rest) × (length g ≡ n) × IsLongestGap g rest

-- the first `len` bytes are a token, with `size` bytes of content
abbrev pub TokenAt : Bytes → Scanned → Type 0
TokenAt src s = (u : Bytes) × (content : Bytes) × (rest : Bytes) × (src ≡ u ++ rest) × (length u ≡ s.len) × (length content ≡ s.size) × IsToken s.kind u content rest

-- the token stands before whatever follows it, from the place `at` on
pub record GoesBefore (src : Bytes) (at : ℕ) (t : Lexeme) : Type 0 where
  pub moves : at < t.at + length t.text
  pub within : t.at + length t.text ≤ length src
  pub tokens : (ts : List Lexeme) → Cut (t.at + length t.text) (drop (t.at + length t.text) src) ts → Cut at (drop at src) (t ∷ ts)
  pub refusal : (e : LexError) → Refusal (t.at + length t.text) (drop (t.at + length t.text) src) e → Refusal at (drop at src) e

-- the next token, none at the end, or why there is none
abbrev pub IsNext : Bytes → ℕ → Result (Option Token) LexError → Type 0
IsNext src at (Ok None) = Cut at (drop at src) []
IsNext src at (Ok (Some t)) = GoesBefore src at (lexeme t)
IsNext src at (Err e) = Refusal at (drop at src) e

-- the token that was found at a place, or what is wrong with it
abbrev pub IsTokenOr : Bytes → ℕ → Scanned → Result Token LexError → Type 0
IsTokenOr src start s (Ok t) = (lexeme t ≡ record { kind = s.kind; text = take s.len (drop start src); at = start }) × (fault start s.kind (take s.len (drop start src)) s.size (drop (start + s.len) src) ≡ None)
IsTokenOr src start s (Err e) = fault start s.kind (take s.len (drop start src)) s.size (drop (start + s.len) src) ≡ Some e

-- the end, or the refusal where no token begins
abbrev pub IsEndOr : ℕ → Bytes → Option LexError → Type 0
IsEndOr at [] (Some e) = ⊥
IsEndOr at (b ∷ rest) (Some e) = e ≡ unmatched at b rest
IsEndOr at rest None = rest ≡ []

-- What a source is cut into, or its refusal, as a function. It goes by the code's scans, and stands apart from the cutting
-- itself (`Cutting`), which it gives exactly: that is the law `each_source_is_cut_as_answered`.
use Rattle.std.specs.Prelude.{ℕ, zero, suc, ◌+◌, if◌then◌else◌, List, [], ◌∷◌, length, take, drop, Option, Some, None, Result, Ok, Err}
use Rattle.std.specs.Str.{is_utf8}
use Rattle.std.specs.Str.Lossy.{utf8_valid_len}
use Rattle.jp_lex.specs.declared.scan.Scanned.{Scanned}
use Rattle.jp_lex.specs.declared.token.LexError.{LexError}
use Rattle.jp_lex.specs.declared.token.LexError.TheVariants as error
use Rattle.jp_lex.specs.Cutting.{Bytes, Lexeme, fault, unmatched}
use Rattle.jp_lex.specs.Scan.{piece_len, scan}

abbrev pub Answer : Type 0
Answer = Result (List Lexeme) LexError

-- the length of a piece and of what follows it, if there is a piece
abbrev pub piece_and : ℕ → ℕ → ℕ
piece_and zero more = 0
piece_and (suc k) more = suc k + more

-- the length of the gap at the front, of at most n pieces
unfoldable pub gap_len : ℕ → Bytes → ℕ
gap_len zero src = 0
gap_len (suc n) src = piece_and (piece_len src) (gap_len n (drop (piece_len src) src))

-- the lexeme in front of the others
abbrev pub before : Lexeme → Answer → Answer
before t (Ok ts) = Ok (t ∷ ts)
before t (Err e) = Err e

-- The token u at a place, where rest follows it; `more` answers for what stands at a place.
abbrev pub judged : (ℕ → Bytes → Answer) → ℕ → Scanned → Bytes → Bytes → Option LexError → Answer
judged more at s u rest (Some e) = Err e
judged more at s u rest None = before (record { kind = s.kind; text = u; at = at }) (more (at + s.len) rest)

-- what stands at a place behind its gap, by what is found there
abbrev pub found_at : (ℕ → Bytes → Answer) → ℕ → Bytes → Option Scanned → Answer
found_at more at [] found = Ok []
found_at more at (b ∷ rest) None = Err (unmatched at b rest)
found_at more at (b ∷ rest) (Some s) =
    let u = take s.len (b ∷ rest) in
    let after = drop s.len (b ∷ rest) in
    judged more at s u after (fault at s.kind u s.size after)

-- what stands at a place, of at most n tokens
unfoldable pub cut_from : ℕ → ℕ → Bytes → Answer
cut_from zero at src = Ok []
cut_from (suc n) at src =
    let gap = gap_len (length src) src in
    let rest = drop gap src in
    found_at (cut_from n) (at + gap) rest (scan rest)

-- the tokens of a source, or why it has none
unfoldable pub answer : Bytes → Answer
answer src = if is_utf8 src then cut_from (suc (length src)) 0 src else Err (error.BadByte (utf8_valid_len src))

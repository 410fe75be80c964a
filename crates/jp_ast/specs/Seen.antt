-- Tokens as the grammar sees them: without quotes, words in lower case, with the places where they begin and end.
use Rattle.std.specs.Prelude.{ℕ, ◌+◌, ◌-◌, Bool, true, false, ◌==◌, ℤ, pos, List, [], ◌∷◌, length, map, take, drop}
use Rattle.jp_lex.specs.declared.token.TokenKind.{TokenKind}
use Rattle.jp_lex.specs.declared.token.TokenKind.TheVariants.{Word, Quoted, Number, Text, Symbol}
use Rattle.jp_lex.specs.Chars.{lower}
use Rattle.jp_lex.specs.Cutting.{Lexeme, value}

pub record Seen : Type 0 where
  pub kind : TokenKind
  -- a word in lower case, a name or a text without its quotes, or the token's bytes
  pub content : List ℕ
  -- the place of the first byte
  pub at : ℕ
  -- the place behind the last byte
  pub end : ℕ

-- the bytes without the second quote of each two; `is_second` says that the first byte is one
abbrev pub undoubled : ℕ → Bool → List ℕ → List ℕ
undoubled q is_second [] = []
undoubled q true (b ∷ v) = undoubled q false v
undoubled q false (b ∷ v) = b ∷ undoubled q (b == q) v

-- without the first byte and the last
abbrev pub inside : List ℕ → List ℕ
inside text = take (length text - 2) (drop 1 text)

abbrev pub content_of : TokenKind → List ℕ → List ℕ
content_of Word text = map lower text
content_of Quoted text = undoubled 34 false (inside text)
content_of Number text = text
content_of Text text = undoubled 39 false (inside text)
content_of Symbol text = text

-- what stands between the quotes, a word in lower case
abbrev pub folded : TokenKind → List ℕ → List ℕ
folded Word content = map lower content
folded _ content = content

abbrev pub seen : Lexeme → Seen
seen t = record { kind = t.kind; content = content_of t.kind t.text; at = t.at; end = t.at + length t.text }

-- what the digits of a number write
abbrev pub number_in : Seen → ℤ
number_in t = pos (value t.content)

-- the place where a list of tokens begins
abbrev pub place : List Seen → ℕ
place [] = 0
place (t ∷ ts) = t.at

-- How the source of a statement is cut into gaps and tokens: by the shape of its bytes, and without a scan.
-- In bytes `"` is 34, `'` is 39, `*` is 42, `-` is 45, `/` is 47 and a line feed is 10.
use Rattle.std.specs.Prelude.{◌≡◌, ◌⊎◌, ℕ, suc, ◌+◌, ◌-◌, ◌*◌, ◌^◌, ◌≤◌, Bool, true, false, not, ◌&&◌, ◌||◌, ◌==◌, nat_le, nat_lt, if◌then◌else◌, List, [], ◌∷◌, ◌++◌, length, map, fold, slice_index, Option, Some, None}
use Rattle.std.specs.List.{list_all, slice_range, All, AllPairs}
use Rattle.std.specs.Str.{IsUtf8, IsValidUpTo}
use Rattle.jp_lex.specs.declared.token.TokenKind.{TokenKind}
use Rattle.jp_lex.specs.declared.token.TokenKind.TheVariants.{Word, Quoted, Number, Text, Symbol}
use Rattle.jp_lex.specs.declared.token.LexError.{LexError}
use Rattle.jp_lex.specs.declared.token.LexError.TheVariants as error
use Rattle.jp_lex.specs.declared.token.Token.{Token}
use Rattle.jp_lex.specs.Chars.{is_white, is_letter, is_digit, is_word_byte}

abbrev pub Bytes : Type 0
Bytes = List ℕ

-- ---- gaps

-- the byte is no line feed
abbrev pub is_in_line : ℕ → Bool
is_in_line b = not (b == 10)

-- `/*`
abbrev pub is_opening : ℕ → ℕ → Bool
is_opening b next = b == 47 && next == 42

-- `*/`
abbrev pub is_closing : ℕ → ℕ → Bool
is_closing b next = b == 42 && next == 47

-- `Inside d v`: v stands in d open comments, and ends with the `*/` of the outermost
pub data Inside : ℕ → Bytes → Type 0 where
  closed : Inside 0 []
  opens : {d : ℕ} {v : Bytes} → Inside (suc (suc d)) v → Inside (suc d) (47 ∷ 42 ∷ v)
  closes : {d : ℕ} {v : Bytes} → Inside d v → Inside (suc d) (42 ∷ 47 ∷ v)
  other : {d : ℕ} {v : Bytes} (b next : ℕ) → is_opening b next ≡ false → is_closing b next ≡ false → Inside (suc d) (next ∷ v) → Inside (suc d) (b ∷ next ∷ v)

-- `Piece u rest`: u is a white byte or a comment, and rest is what follows it. A comment `--` ends with its
-- line feed, or with the source.
pub data Piece : Bytes → Bytes → Type 0 where
  white : {rest : Bytes} (b : ℕ) → is_white b ≡ true → Piece (b ∷ []) rest
  line : {rest : Bytes} (v : Bytes) → list_all is_in_line v ≡ true → Piece (45 ∷ 45 ∷ v ++ (10 ∷ [])) rest
  last_line : (v : Bytes) → list_all is_in_line v ≡ true → Piece (45 ∷ 45 ∷ v) []
  block : {v rest : Bytes} → Inside 1 v → Piece (47 ∷ 42 ∷ v) rest

-- white bytes and comments, as many as there are, and what follows them
pub data Gap : Bytes → Bytes → Type 0 where
  none : {rest : Bytes} → Gap [] rest
  more : {u g rest : Bytes} → Piece u (g ++ rest) → Gap g rest → Gap (u ++ g) rest

-- the gap g, and no longer one begins the source there
pub record IsLongestGap (g rest : Bytes) : Type 0 where
  pub gap : Gap g rest
  pub longest : (h after : Bytes) → g ++ rest ≡ h ++ after → Gap h after → length h ≤ length g

-- ---- tokens

-- `( ) , . ; + - * = < >`
abbrev pub is_symbol : ℕ → Bool
is_symbol b = (nat_le 40 b && nat_le b 46) || b == 59 || (nat_le 60 b && nat_le b 62)

-- `<> <= != >= ||`
abbrev pub is_long_symbol : ℕ → ℕ → Bool
is_long_symbol b next = (b == 60 && next == 62) || ((b == 60 || b == 33 || b == 62) && next == 61) || (b == 124 && next == 124)

-- `Body q v content`: v may stand between two quotes q, since each quote in it is doubled; the content has one of each two
pub data Body (q : ℕ) : Bytes → Bytes → Type 0 where
  empty : Body q [] []
  other : {v content : Bytes} (b : ℕ) → (b == q) ≡ false → Body q v content → Body q (b ∷ v) (b ∷ content)
  doubled : {v content : Bytes} → Body q v content → Body q (q ∷ q ∷ v) (q ∷ content)

-- `Form kind u content`: u is written as a token of the kind. The content is what stands between the quotes, or all of u.
pub data Form : TokenKind → Bytes → Bytes → Type 0 where
  word : {u : Bytes} (b : ℕ) (v : Bytes) → u ≡ b ∷ v → is_letter b ≡ true → list_all is_word_byte v ≡ true → Form Word u u
  quoted : {u content : Bytes} (v : Bytes) → u ≡ 34 ∷ v ++ (34 ∷ []) → Body 34 v content → Form Quoted u content
  number : {u : Bytes} (b : ℕ) (v : Bytes) → u ≡ b ∷ v → is_digit b ≡ true → list_all is_digit v ≡ true → Form Number u u
  text : {u content : Bytes} (v : Bytes) → u ≡ 39 ∷ v ++ (39 ∷ []) → Body 39 v content → Form Text u content
  symbol : {u : Bytes} (b : ℕ) → u ≡ b ∷ [] → is_symbol b ≡ true → Form Symbol u u
  long_symbol : {u : Bytes} (b next : ℕ) → u ≡ b ∷ next ∷ [] → is_long_symbol b next ≡ true → Form Symbol u u

-- the byte stands first
abbrev pub begins : ℕ → Bytes → Bool
begins b [] = false
begins b (next ∷ rest) = next == b

-- what follows a token doesn't go on with it: a doubled quote ends no token
abbrev pub Closes : TokenKind → Bytes → Type 0
Closes Quoted rest = begins 34 rest ≡ false
Closes Text rest = begins 39 rest ≡ false
Closes _ rest = Unit {0}

-- u begins the source as a token of the kind, and rest follows it: no longer slice from its start has a form
pub record IsToken (kind : TokenKind) (u content rest : Bytes) : Type 0 where
  pub form : Form kind u content
  pub longest : (other : TokenKind) (v inside after : Bytes) → u ++ rest ≡ v ++ after → Form other v inside → length v ≤ length u
  pub closes : Closes kind rest

-- no token begins the source
abbrev pub NoToken : Bytes → Type 0
NoToken src = (kind : TokenKind) (u content rest : Bytes) → src ≡ u ++ rest → IsToken kind u content rest → ⊥

-- ---- what a token is refused for

-- the value of decimal digits
abbrev pub value : Bytes → ℕ
value digits = fold (λ n b. 10 * n + (b - 48)) 0 digits

-- What is wrong with the token u at a place, if anything, where rest follows it; `size` counts the bytes of its content.
-- The byte after a number is judged before its value.
abbrev pub fault : ℕ → TokenKind → Bytes → ℕ → Bytes → Option LexError
fault at Word u size rest = if nat_le size 63 then None else Some (error.NameTooLong at)
fault at Quoted u size rest = if size == 0 then Some (error.BadByte at) else (if nat_le size 63 then None else Some (error.NameTooLong at))
fault at Number u size rest = if is_letter (slice_index rest 0) then Some (error.BadByte (at + length u)) else (if nat_lt (value u) (2 ^ 127) then None else Some (error.NumberTooWide at))
fault at Text u size rest = None
fault at Symbol u size rest = None

-- the refusal where no token begins, by the byte there and what follows it: a quote and a `/*` aren't closed
abbrev pub unmatched : ℕ → ℕ → Bytes → LexError
unmatched at b rest =
    if b == 34 then error.OpenIdent at
    else (if b == 39 then error.OpenString at
    else (if is_opening b (slice_index rest 0) then error.OpenComment at else error.BadByte at))

-- ---- the cutting

-- a token with its bytes and its place
pub record Lexeme : Type 0 where
  pub kind : TokenKind
  pub text : Bytes
  pub at : ℕ

abbrev pub lexeme : Token → Lexeme
lexeme t = record { kind = t.kind; text = t.text.now; at = t.at }

abbrev pub lexemes : List Token → List Lexeme
lexemes ts = map lexeme ts

-- `Cut p src ts`: src stands at the place p, and is cut without rest into gaps and tokens in turn; the tokens are ts
pub data Cut : ℕ → Bytes → List Lexeme → Type 0 where
  done : {p : ℕ} {src : Bytes} → IsLongestGap src [] → Cut p src []
  token : {p : ℕ} {src : Bytes} {ts : List Lexeme} (g : Bytes) (kind : TokenKind) (u content rest : Bytes) → src ≡ g ++ (u ++ rest) → IsLongestGap g (u ++ rest) → IsToken kind u content rest
      → fault (p + length g) kind u (length content) rest ≡ None → Cut (p + length g + length u) rest ts → Cut p src (record { kind = kind; text = u; at = p + length g } ∷ ts)

-- `Refusal p src e`: src stands at the place p, and e says where its cutting fails first, and why
pub data Refusal : ℕ → Bytes → LexError → Type 0 where
  no_token : {p : ℕ} {src : Bytes} {e : LexError} (g : Bytes) (b : ℕ) (rest : Bytes) → src ≡ g ++ (b ∷ rest) → IsLongestGap g (b ∷ rest) → NoToken (b ∷ rest) → e ≡ unmatched (p + length g) b rest → Refusal p src e
  bad_token : {p : ℕ} {src : Bytes} {e : LexError} (g : Bytes) (kind : TokenKind) (u content rest : Bytes) → src ≡ g ++ (u ++ rest) → IsLongestGap g (u ++ rest) → IsToken kind u content rest
      → fault (p + length g) kind u (length content) rest ≡ Some e → Refusal p src e
  later : {p : ℕ} {src : Bytes} {e : LexError} (g : Bytes) (kind : TokenKind) (u content rest : Bytes) → src ≡ g ++ (u ++ rest) → IsLongestGap g (u ++ rest) → IsToken kind u content rest
      → fault (p + length g) kind u (length content) rest ≡ None → Refusal (p + length g + length u) rest e → Refusal p src e

-- the lexeme is the slice of the source at its place
abbrev pub IsSliceOf : Bytes → Lexeme → Type 0
IsSliceOf src t = slice_range src t.at (t.at + length t.text) ≡ t.text

abbrev pub AreSlices : Bytes → List Lexeme → Type 0
AreSlices src ts = All (IsSliceOf src) ts

-- the first lexeme ends where the second begins, or before
abbrev pub StandsBefore : Lexeme → Lexeme → Type 0
StandsBefore s t = s.at + length s.text ≤ t.at

abbrev pub Ascend : List Lexeme → Type 0
Ascend ts = AllPairs StandsBefore ts

-- the tokens of a source
abbrev pub Tokens : Bytes → List Lexeme → Type 0
Tokens src ts = IsUtf8 src × Cut 0 src ts

-- why a source has no tokens: its first invalid byte, before all else
abbrev pub Refused : Bytes → LexError → Type 0
Refused src e = (IsUtf8 src × Refusal 0 src e) ⊎ ((n : ℕ) × IsValidUpTo src n × (e ≡ error.BadByte n))

-- The tokens of a source fit the code's numbers.
use Rattle.std.proofs.Common.{◌≡◌, inl, inr, ◌∙◌, ap, sym, subst, refl, ℕ, ◌+◌, ◌<◌, ◌≤◌, ◌^◌, Bool, true, false, List, [], ◌∷◌, ◌++◌, length, length-append, map, Some, None, cond, arith}
use Rattle.std.specs.Prelude.{nat_lt, slice_index}
use Rattle.std.specs.List.{list_all}
use Rattle.std.specs.Str.{IsUtf8, bytes_eq}
use Rattle.std.proofs.lemmas.Bool.{and_parts, cases_Bool, false≢true, ltb-true}
use Rattle.std.proofs.lemmas.List.Elements.{All-cons, All-nil}
use Rattle.jp_lex.specs.declared.token.Token.{Token}
use Rattle.jp_lex.specs.declared.token.TokenKind.{TokenKind}
use Rattle.jp_lex.specs.declared.token.TokenKind.TheVariants.{Word, Quoted, Number, Text, Symbol}
use Rattle.jp_lex.specs.declared.token.LexError.TheVariants as error
use Rattle.jp_lex.specs.Chars.{is_letter}
use Rattle.jp_lex.specs.Cutting.{Bytes, Lexeme, Cut, Tokens, fault, lexemes, value}
use Rattle.jp_lex.proofs.TextLaws.{token_utf8}
use Rattle.jp_ast.specs.declared.class.Class.{Class}
use Rattle.jp_ast.specs.declared.class.Class.TheVariants as k
use Rattle.jp_ast.specs.Classes.{class, class_of, found, symbols, words}
use Rattle.jp_ast.specs.Seen.{Seen, content_of, seen}
use Rattle.jp_ast.specs.SeenTokens.{AllFit, Fits, seen_token, seen_tokens}
use Rattle.jp_ast.proofs.Utf8.{seen_utf8}

-- ---- numbers

-- not the class of numbers
abbrev is_other : Class → Bool
is_other k.Number = false
is_other _ = true

found_other : (entries : List (List ℕ × Class)) (other : Class) (text : List ℕ) → list_all (λ (e : List ℕ × Class). is_other e.1) entries ≡ true → is_other other ≡ true → is_other (found entries other text) ≡ true
found_other [] other text all h = h
found_other (entry ∷ entries) other text all h =
    let both = and_parts (is_other entry.1) (list_all (λ (e : List ℕ × Class). is_other e.1) entries) all in
    elim (cases_Bool (bytes_eq entry.0 text)) [
      | inl same ↦ ap (λ b. is_other (cond b entry.1 (found entries other text))) same ∙ both.0
      | inr differ ↦ ap (λ b. is_other (cond b entry.1 (found entries other text))) differ ∙ found_other entries other text both.1 h
    ]

no_number : (kind : TokenKind) (content : List ℕ) (c : Class) → class_of kind content ≡ c → is_other (class_of kind content) ≡ true → c ≡ k.Number → ⊥
no_number kind content c e other is = false≢true (sym (ap is_other (e ∙ is)) ∙ other)

other_words : list_all (λ (e : List ℕ × Class). is_other e.1) words ≡ true
unfolding words
other_words = refl

-- only the digits of a number have its class
other_symbols : list_all (λ (e : List ℕ × Class). is_other e.1) symbols ≡ true
unfolding symbols
other_symbols = refl

small : (at : ℕ) (u : Bytes) (b : Bool) → cond b None (Some (error.NumberTooWide at)) ≡ None → b ≡ true
small at u true h = refl
small at u false h = absurd cc

judged_small : (at : ℕ) (u : Bytes) (b c : Bool) → cond b (Some (error.BadByte (at + length u))) (cond c None (Some (error.NumberTooWide at))) ≡ None → c ≡ true
judged_small at u true c h = absurd cc
judged_small at u false c h = small at u c h

number_fits : (kind : TokenKind) (at : ℕ) (u : Bytes) (size : ℕ) (rest : Bytes) → fault at kind u size rest ≡ None → class_of kind (content_of kind u) ≡ k.Number → value (content_of kind u) < 2 ^ 127
number_fits Word at u size rest h is = absurd (no_number Word (content_of Word u) k.Number is (found_other words k.Name (content_of Word u) other_words refl) refl)
number_fits Quoted at u size rest h is = absurd (let never : k.Name ≡ k.Number = is in cc)
number_fits Text at u size rest h is = absurd (let never : k.Text ≡ k.Number = is in cc)
number_fits Symbol at u size rest h is = absurd (no_number Symbol u k.Number is (found_other symbols k.Nothing u other_symbols refl) refl)
number_fits Number at u size rest h is = ltb-true (value u) (2 ^ 127) (judged_small at u (is_letter (slice_index rest 0)) (nat_lt (value u) (2 ^ 127)) h)

-- ---- the tokens of a source

class_is : (t : Seen) → class t ≡ class_of t.kind t.content
unfolding class
class_is t = refl

cut_fits : (p : ℕ) (src : Bytes) (ts : List Lexeme) → IsUtf8 src → Cut p src ts → p + length src ≤ 65536 → AllFit (map seen ts)
cut_fits p src ts utf8 (Cut.done gap) short = All-nil Fits
cut_fits p src ts utf8 (Cut.token {ts = more} g kind u content rest is gap token sound cut) short =
    let whole : length src ≡ length g + (length u + length rest) = ap length is ∙ length-append g (u ++ rest) ∙ ap (λ n. length g + n) (length-append u rest) in
    let t : Lexeme = record { kind = kind; text = u; at = p + length g } in
    let texts = token_utf8 g u rest token.form (subst IsUtf8 is utf8) in
    All-cons Fits (seen t) (map seen more)
    (record {
      number = λ e. number_fits kind (p + length g) u (length content) rest sound (sym (class_is (seen t)) ∙ e);
      place = omega (arith, whole, short);
      utf8 = seen_utf8 kind u content token.form texts.0;
    })
    (cut_fits (p + length g + length u) rest more texts.1 cut (omega (arith, whole, short)))

pub tokens_fit : (src : Bytes) (ts : List Lexeme) → length src ≤ 65536 → Tokens src ts → AllFit (map seen ts)
tokens_fit src ts short tokens = cut_fits 0 src ts tokens.0 tokens.1 (omega (arith, short))

seen_map : (ts : List Token) → map seen (lexemes ts) ≡ seen_tokens ts
seen_map [] = refl
seen_map (t ∷ ts) = ap (λ xs. seen_token t ∷ xs) (seen_map ts)

-- the tokens of a source, as the code sees them
pub all_fit : (src : Bytes) (ts : List Token) → length src ≤ 65536 → Tokens src (lexemes ts) → AllFit (seen_tokens ts)
all_fit src ts short tokens = subst AllFit (seen_map ts) (tokens_fit src (lexemes ts) short tokens)

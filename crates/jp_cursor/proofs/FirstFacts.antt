-- The first token, as the grammar sees it.
use Rattle.std.proofs.Common.{◌≡◌, ◌<◌, List, [], ◌∷◌, length, slice_index_or, Bool, true, false, ◌&&◌, if◌then◌else◌, ap, sym, subst, ◌∙◌, refl, arith}
use Rattle.std.specs.Str.{bytes_eq}
use Rattle.std.specs.Prelude.{ℕ}
use Rattle.jp_lex.specs.declared.token.Token.{Token}
use Rattle.jp_lex.specs.declared.token.TokenKind.{TokenKind}
use Rattle.jp_lex.specs.declared.token.TokenKind.TheVariants as kind
use Rattle.jp_ast.specs.declared.class.Class.{Class}
use Rattle.jp_ast.specs.declared.class.Class.TheVariants as k
use Rattle.jp_ast.specs.Seen.{content_of}
use Rattle.jp_ast.specs.Classes.{class, class_of, first, found, words, symbols, same}
use Rattle.jp_cursor.specs.Reading.{is}
use Rattle.jp_ast.specs.SeenTokens.{seen_token, seen_tokens, Fits, AllFit}

pub first_class : (ts : List Token) (t : Token) → 0 < length ts → t ≡ slice_index_or ts 0 t → class (seen_token t) ≡ first (seen_tokens ts)
first_class [] t some is = absurd (omega arith)
first_class (u ∷ ts) t some is = ap (λ t. class (seen_token t)) is

pub first_fits : (ts : List Token) (t : Token) → 0 < length ts → t ≡ slice_index_or ts 0 t → AllFit (seen_tokens ts) → Fits (seen_token t)
first_fits [] t some is all = absurd (omega arith)
first_fits (u ∷ ts) t some is all = subst (λ t. Fits (seen_token t)) (sym is) (all 0 (seen_token t) (omega arith))

-- ---- numbers

IsFalse : Bool → Type 0
IsFalse true = ⊥
IsFalse false = Unit {0}

false_true : false ≡ true → ⊥
unfolding IsFalse
false_true e = subst IsFalse e tt

abbrev is_other : Class → Bool
is_other k.Number = false
is_other _ = true

abbrev all_other : List (List ℕ × Class) → Bool
all_other [] = true
all_other (e ∷ es) = is_other e.1 && all_other es

either : (a b : Bool) (c d : Class) → is_other c ≡ true → is_other d ≡ true → is_other (if a then c else d) ≡ true
either true b c d e f = e
either false b c d e f = f

left : (a b : Bool) → (a && b) ≡ true → a ≡ true
left true b e = refl
left false b e = e

right : (a b : Bool) → (a && b) ≡ true → b ≡ true
right true b e = e
right false b e = absurd (false_true e)

found_other : (es : List (List ℕ × Class)) (other : Class) (text : List ℕ) → all_other es ≡ true → is_other other ≡ true → is_other (found es other text) ≡ true
found_other [] other text all e = e
found_other (entry ∷ es) other text all e = either (bytes_eq entry.0 text) true entry.1 (found es other text) (left (is_other entry.1) (all_other es) all) (found_other es other text (right (is_other entry.1) (all_other es) all) e)

not_number : (c : Class) → is_other c ≡ true → c ≡ k.Number → ⊥
not_number c other is = false_true (sym (ap is_other is) ∙ other)

pub kind_of : (t : TokenKind) (content : List ℕ) → class_of t content ≡ k.Number → t ≡ kind.Number
unfolding words symbols
kind_of kind.Word content e = absurd (not_number _ (found_other words k.Name content refl refl) e)
kind_of kind.Quoted content e = absurd (not_number k.Name refl e)
kind_of kind.Number content e = refl
kind_of kind.Text content e = absurd (not_number k.Text refl e)
kind_of kind.Symbol content e = absurd (not_number _ (found_other symbols k.Nothing content refl refl) e)

-- a number's content is its text
pub number_text : (t : Token) → class (seen_token t) ≡ k.Number → (seen_token t).content ≡ t.text.now
unfolding class
number_text t e = ap (λ j. content_of j t.text.now) (kind_of t.kind (content_of t.kind t.text.now) e)

pub is_number : (c : Class) → is k.Number c ≡ true → c ≡ k.Number
unfolding same
is_number k.Number e = refl
is_number _ e = absurd (false_true e)

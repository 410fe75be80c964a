-- The two sizes of the tokens of a source.
use Rattle.std.proofs.Common.{◌≡◌, ◌∙◌, ap, refl, ℕ, suc, ◌+◌, ◌<◌, ◌≤◌, ◌^◌, true, List, [], ◌∷◌, ◌++◌, length, length-append, arith}
use Rattle.std.proofs.lemmas.Bool.{lt-ltb}
use Rattle.std.proofs.lemmas.List.{length-map}
use Rattle.jp_lex.specs.declared.token.TokenKind.{TokenKind}
use Rattle.jp_lex.specs.Cutting.{Bytes, Form, Lexeme, Cut, lexeme, lexemes, value}
use Rattle.jp_ast.specs.declared.class.Class.{Class}
use Rattle.jp_ast.specs.declared.class.Class.TheVariants as k
use Rattle.jp_ast.specs.Classes.{class}
use Rattle.jp_ast.specs.Grammar.{Derives}
use Rattle.jp_ast.specs.Seen.{Seen}
use Rattle.jp_ast.specs.SeenTokens.{AllFit, seen_token, seen_tokens}
use Rattle.jp_ast.proofs.Fitting.{all_fit}
use Rattle.jp_statements.specs.Layers.{Stmt}
use Rattle.jp_statements.specs.Entries.{entries_in_statement}
use Rattle.jp_statements.specs.Sources.{IsOfSource}
use Rattle.jp_statements.specs.Whole.{is_whole}
use Rattle.jp_statements.proofs.Derived.{statement_good}
use Rattle.jp_statements.proofs.Weights.{excess, weigh, weigh-one, wide, wide_as}

-- ---- no number of tokens that fit is too wide

not_wide : (c : Class) (n : ℕ) → (c ≡ k.Number → n < 2 ^ 127) → wide_as c n ≡ 0
not_wide k.Number n fits = ap excess (lt-ltb n (2 ^ 127) (fits refl))
not_wide _ n fits = refl

none_wide : (ts : List Seen) → AllFit ts → weigh wide ts ≡ 0
none_wide [] fit = refl
none_wide (t ∷ ts) fit =
    let here = not_wide (class t) (value t.content) (fit 0 t (omega arith)).number in
    let later = none_wide ts (λ i d lt. fit (suc i) d (omega (arith, lt))) in
    omega (arith, here, later)

-- ---- each token takes a byte of the source

some_byte : (kind : TokenKind) (u content : Bytes) → Form kind u content → 1 ≤ length u
some_byte kind u content (Form.word b v is letter rest) = omega (arith, ap length is)
some_byte kind u content (Form.quoted v is body) = omega (arith, ap length is)
some_byte kind u content (Form.number b v is digit rest) = omega (arith, ap length is)
some_byte kind u content (Form.text v is body) = omega (arith, ap length is)
some_byte kind u content (Form.symbol b is sign) = omega (arith, ap length is)
some_byte kind u content (Form.long_symbol b next is sign) = omega (arith, ap length is)

few_tokens : (p : ℕ) (src : Bytes) (ts : List Lexeme) → Cut p src ts → length ts ≤ length src
few_tokens p src ts (Cut.done gap) = omega arith
few_tokens p src ts (Cut.token {ts = more} g kind u content rest is gap token sound cut) =
    let whole : length src ≡ length g + (length u + length rest) = ap length is ∙ length-append g (u ++ rest) ∙ ap (λ n. length g + n) (length-append u rest) in
    let later = few_tokens (p + length g + length u) rest more cut in
    omega (arith, whole, later, some_byte kind u content token.form)

-- ---- the laws

pub derived_whole : (ts : List Seen) (s : Stmt) → AllFit ts → Derives ts s → is_whole s ≡ true
derived_whole ts s fit derived = (statement_good ts s derived).whole (none_wide ts fit)

pub derived_few : (ts : List Seen) (s : Stmt) → Derives ts s → entries_in_statement s ≤ length ts
derived_few ts s derived = omega (arith, (statement_good ts s derived).few, weigh-one ts)

pub source_whole : (s : Stmt) → IsOfSource s → is_whole s ≡ true
source_whole s of = derived_whole (seen_tokens of.tokens) s (all_fit of.source of.tokens of.short of.cut) of.derived

pub source_few : (s : Stmt) → IsOfSource s → entries_in_statement s ≤ 65536
source_few s of =
    let seen = derived_few (seen_tokens of.tokens) s of.derived in
    let tokens = few_tokens 0 of.source (lexemes of.tokens) of.cut.1 in
    let short = of.short in
    omega (arith, seen, tokens, short, length-map of.tokens seen_token, length-map of.tokens lexeme)

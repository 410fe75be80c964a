-- A source of UTF-8 is cut or refused, each source has one answer, and what else follows for a whole source.
use Rattle.std.proofs.Common.{◌≡◌, ℕ, suc, List, length, Result, Ok, Err, MatchResult, IfOk, ◌⊎◌, inl, inr, refl, sym, ap, ◌∙◌, subst, arith}
use Rattle.std.proofs.lemmas.List.{take_all}
use Rattle.std.proofs.lemmas.Str.{utf8_valid_len-IsValidUpTo}
use Rattle.std.specs.Str.{IsUtf8, IsValidUpTo}
use Rattle.jp_lex.specs.declared.token.LexError.{LexError}
use Rattle.jp_lex.specs.declared.token.LexError.TheVariants as error
use Rattle.jp_lex.specs.Cutting.{Bytes, Lexeme, Cut, Refusal, Tokens, Refused, AreSlices, Ascend}
use Rattle.jp_lex.proofs.Once.{cut_once, cut_or_refusal, refusal_once}
use Rattle.jp_lex.specs.Answer.{Answer, cut_from, answer}
use Rattle.jp_lex.proofs.Answers.{Means, cut_means, answer_means}
use Rattle.jp_lex.proofs.Places.{cut_slices, cut_ascends}

-- ---- one answer

valid_not_utf8 : (src : Bytes) (n : ℕ) → IsUtf8 src → IsValidUpTo src n → ⊥
valid_not_utf8 src n utf8 valid = valid.longest (length src) valid.short (subst IsUtf8 (sym (take_all (length src) src (omega arith))) utf8)

pub tokens_once : (src : Bytes) (ts us : List Lexeme) → Tokens src ts → Tokens src us → ts ≡ us
tokens_once src ts us (utf8, cut) (too, other) = cut_once cut other

pub refused_once : (src : Bytes) (e f : LexError) → Refused src e → Refused src f → e ≡ f
refused_once src e f (inl (utf8, refusal)) (inl (too, other)) = refusal_once refusal other
refused_once src e f (inl (utf8, refusal)) (inr (n, valid, is)) = absurd (valid_not_utf8 src n utf8 valid)
refused_once src e f (inr (n, valid, is)) (inl (utf8, other)) = absurd (valid_not_utf8 src n utf8 valid)
refused_once src e f (inr (n, valid, is)) (inr (m, other, too)) = is ∙ ap error.BadByte (sym (utf8_valid_len-IsValidUpTo src n valid) ∙ utf8_valid_len-IsValidUpTo src m other) ∙ sym too

pub tokens_or_refused : (src : Bytes) (ts : List Lexeme) (e : LexError) → Tokens src ts → Refused src e → ⊥
tokens_or_refused src ts e (utf8, cut) (inl (too, refusal)) = cut_or_refusal cut refusal
tokens_or_refused src ts e (utf8, cut) (inr (n, valid, is)) = valid_not_utf8 src n utf8 valid

-- ---- some answer

pub some_answer : (src : Bytes) → ((ts : List Lexeme) × Cut 0 src ts) ⊎ ((e : LexError) × Refusal 0 src e)
some_answer src = go (cut_from (suc (length src)) 0 src) (cut_means (suc (length src)) 0 src (omega arith))
  where
    go : (r : Answer) → Means 0 src r → ((ts : List Lexeme) × Cut 0 src ts) ⊎ ((e : LexError) × Refusal 0 src e)
    go (Ok ts) cut = inl (ts, cut)
    go (Err e) refusal = inr (e, refusal)

-- ---- the function's answer

pub answer_of_tokens : (src : Bytes) (ts : List Lexeme) → Tokens src ts → answer src ≡ Ok ts
answer_of_tokens src ts tokens = go (answer src) (answer_means src)
  where
    go : (r : Answer) → MatchResult r (Tokens src) (Refused src) → r ≡ Ok ts
    go (Ok us) others = ap Ok (tokens_once src us ts others tokens)
    go (Err e) refused = absurd (tokens_or_refused src ts e tokens refused)

pub answer_of_refusal : (src : Bytes) (e : LexError) → Refused src e → answer src ≡ Err e
answer_of_refusal src e refused = go (answer src) (answer_means src)
  where
    go : (r : Answer) → MatchResult r (Tokens src) (Refused src) → r ≡ Err e
    go (Ok ts) tokens = absurd (tokens_or_refused src ts e tokens refused)
    go (Err f) other = ap Err (refused_once src f e other refused)

-- ---- slices

pub tokens_slices : (src : Bytes) (ts : List Lexeme) → Tokens src ts → AreSlices src ts
tokens_slices src ts (utf8, cut) = cut_slices cut src refl

pub tokens_ascend : (src : Bytes) (ts : List Lexeme) → Tokens src ts → Ascend ts
tokens_ascend src ts (utf8, cut) = cut_ascends cut

-- ---- what a result of this kind says of the source

module _ {V : Type 0} (shown : V → List Lexeme) where
  abbrev pub Answers : Bytes → Result V LexError → Type 0
  Answers src r = MatchResult r (λ v. Tokens src (shown v)) (λ e. (e ≡ error.Memory) ⊎ Refused src e)

  pub answers_from_cut : (text src : Bytes) (r : Result V LexError) → text ≡ src → IsUtf8 src → MatchResult r (λ v. Cut 0 text (shown v)) (λ e. (e ≡ error.Memory) ⊎ Refusal 0 text e) → Answers src r
  answers_from_cut text src (Ok v) same utf8 cut = (utf8, subst (λ w. Cut 0 w (shown v)) same cut)
  answers_from_cut text src (Err e) same utf8 (inl memory) = inl memory
  answers_from_cut text src (Err e) same utf8 (inr refusal) = inr (inl (utf8, subst (λ w. Refusal 0 w e) same refusal))

  pub only_tokens : (src : Bytes) (r : Result V LexError) → Answers src r → (ts : List Lexeme) → Tokens src ts → MatchResult r (λ v. shown v ≡ ts) (λ e. e ≡ error.Memory)
  only_tokens src (Ok v) found ts tokens = tokens_once src (shown v) ts found tokens
  only_tokens src (Err e) (inl memory) ts tokens = memory
  only_tokens src (Err e) (inr refused) ts tokens = absurd (tokens_or_refused src ts e tokens refused)

  pub only_refusal : (src : Bytes) (r : Result V LexError) → Answers src r → (e : LexError) → Refused src e → MatchResult r (λ v. ⊥) (λ f. (f ≡ error.Memory) ⊎ (f ≡ e))
  only_refusal src (Ok v) found e refused = tokens_or_refused src (shown v) e found refused
  only_refusal src (Err f) (inl memory) e refused = inl memory
  only_refusal src (Err f) (inr other) e refused = inr (refused_once src f e other refused)

  pub are_slices : (src : Bytes) (r : Result V LexError) → Answers src r → IfOk r (λ v. AreSlices src (shown v))
  are_slices src (Ok v) found = tokens_slices src (shown v) found
  are_slices src (Err e) found = tt

  pub ascends : (src : Bytes) (r : Result V LexError) → Answers src r → IfOk r (λ v. Ascend (shown v))
  ascends src (Ok v) found = tokens_ascend src (shown v) found
  ascends src (Err e) found = tt

-- no other refusal where the source isn't UTF-8
pub only_invalid : (src : Bytes) (n : ℕ) (e : LexError) → IsValidUpTo src n → Refused src e → error.BadByte n ≡ e
only_invalid src n e valid refused = refused_once src (error.BadByte n) e (inr (n, valid, refl)) refused

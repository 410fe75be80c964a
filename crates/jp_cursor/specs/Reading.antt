-- The steps that every rule's reader is made of. They follow the code, and no public clause cites them.
use Rattle.std.specs.Prelude.{ℕ, zero, suc, Bool, true, false, ◌&&◌, if◌then◌else◌, ℤ, List, [], ◌∷◌, ◌++◌, length, drop, Result, Ok, Err}
use Rattle.jp_ast.specs.declared.tree.CmpWord.{CmpWord}
use Rattle.jp_ast.specs.declared.tree.IsWord.{IsWord}
use Rattle.jp_ast.specs.declared.class.Class.{Class}
use Rattle.jp_ast.specs.declared.class.Class.TheVariants as k
use Rattle.jp_ast.specs.Seen.{Seen, number_in, place}
use Rattle.jp_ast.specs.Classes.{class, first, same, is_name}
use Rattle.jp_ast.specs.Nodes.{is_sign, is_minus, is_comparison, comparison, is_test, test_word}

-- what was read and the tokens behind it, or the tokens from the one on that no rule takes
abbrev pub Outcome : Type 0 → Type 0
Outcome A = Result (A × List Seen) (List Seen)

abbrev pub Reader : Type 0 → Type 0
Reader A = List Seen → Outcome A

abbrev pub and_then : {A B : Type 0} → Outcome A → (A → Reader B) → Outcome B
and_then (Ok p) f = f p.0 p.1
and_then (Err rest) f = Err rest

infixl 10 ◌>>=◌
abbrev pub ◌>>=◌ : {A B : Type 0} → Reader A → (A → Reader B) → Reader B
p >>= f = λ ts. and_then (p ts) f

infixl 10 ◌>>◌
abbrev pub ◌>>◌ : {A B : Type 0} → Reader A → Reader B → Reader B
p >> q = p >>= (λ _. q)

abbrev pub pure : {A : Type 0} → A → Reader A
pure a = λ ts. Ok (a, ts)

abbrev pub refuse : {A : Type 0} → Reader A
refuse = λ ts. Err ts

-- the class of the next token
abbrev pub peek : Reader Class
peek = λ ts. Ok (first ts, ts)

-- the place of the next token
abbrev pub here : Reader ℕ
here = λ ts. Ok (place ts, ts)

-- ---- one token

abbrev pub is : Class → Class → Bool
is c found = same found c

-- a token whose class passes, with what it stands for
abbrev pub token_if : {A : Type 0} → (Class → Bool) → (Seen → A) → Reader A
token_if passes meaning [] = Err []
token_if passes meaning (t ∷ ts) = if passes (class t) then Ok (meaning t, ts) else Err (t ∷ ts)

abbrev pub no_meaning : Seen → Unit {0}
no_meaning t = tt

unfoldable pub expect : Class → Reader (Unit {0})
expect c = token_if (is c) no_meaning

abbrev pub content_in : Seen → List ℕ
content_in t = t.content

unfoldable pub name : Reader (List ℕ)
name = token_if is_name content_in

unfoldable pub text : Reader (List ℕ)
text = token_if (is k.Text) content_in

unfoldable pub number : Reader ℤ
number = token_if (is k.Number) number_in

abbrev pub minus_in : Seen → Bool
minus_in t = is_minus (class t)

-- a sign, and whether it is `-`
unfoldable pub sign_token : Reader Bool
sign_token = token_if is_sign minus_in

abbrev pub comparison_in : Seen → CmpWord
comparison_in t = comparison (class t)

unfoldable pub comparison_token : Reader CmpWord
comparison_token = token_if is_comparison comparison_in

abbrev pub test_in : Seen → IsWord
test_in t = test_word (class t)

unfoldable pub test_token : Reader IsWord
test_token = token_if is_test test_in

-- takes a token of this class, if it comes next
unfoldable pub eat : Class → Reader Bool
eat c = λ ts. if is c (first ts) then Ok (true, drop 1 ts) else Ok (false, ts)

-- `name . *`
abbrev pub begins_all_of : List Seen → Bool
begins_all_of (q ∷ dot ∷ t ∷ ts) = is_name (class q) && is k.Dot (class dot) && is k.Star (class t)
begins_all_of _ = false

abbrev pub peek_all_of : Reader Bool
peek_all_of = λ ts. Ok (begins_all_of ts, ts)

-- what a join begins with
abbrev pub begins_join : Class → Bool
begins_join k.Cross = true
begins_join k.Inner = true
begins_join k.Left = true
begins_join k.Right = true
begins_join k.Full = true
begins_join k.Join = true
begins_join _ = false

abbrev pub is_empty : List Seen → Bool
is_empty [] = true
is_empty (t ∷ ts) = false

-- ---- lists. The number bounds the turns, and each turn takes a token, so one more than the tokens is enough.

unfoldable pub many_from : {A : Type 0} → (Class → Bool) → Reader A → ℕ → List A → Reader (List A)
many_from begins member zero found = refuse
many_from begins member (suc n) found = do
  c ← peek
  if begins c then (do a ← member; many_from begins member n (found ++ a ∷ [])) else pure found

-- as many as there are, each begun by a token of such a class
abbrev pub many : {A : Type 0} → (Class → Bool) → Reader A → Reader (List A)
many begins member = λ ts. many_from begins member (suc (length ts)) [] ts

-- one or more, with commas between
abbrev pub listed : {A : Type 0} → Reader A → Reader (List A)
listed member = do
  a ← member
  more ← many (is k.Comma) (expect k.Comma >> member)
  pure (a ∷ more)

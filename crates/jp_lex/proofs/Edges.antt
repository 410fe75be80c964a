-- A token begins and ends with an ASCII byte, so a text may be cut there.
use Rattle.std.proofs.Common.{◌≡◌, ℕ, suc, ◌+◌, ◌-◌, ◌<◌, ◌≤◌, Bool, true, [], ◌∷◌, ◌++◌, length, drop, get_or, refl, sym, ap, ◌∙◌, subst, arith, length-append, length-drop}
use Rattle.std.proofs.lemmas.Bool.{and_parts}
use Rattle.std.proofs.lemmas.Bool.Decides.{nat_tests}
use Rattle.std.proofs.lemmas.List.{get_or_at, get_or_append_left, get_or-drop}
use Rattle.std.proofs.lemmas.Str.{IsCharBoundary-before_ascii, IsCharBoundary-after_ascii}
use Rattle.std.specs.List.{list_all}
use Rattle.std.specs.Str.{IsUtf8, IsCharBoundary}
use Rattle.jp_lex.specs.declared.scan.Scanned.{Scanned}
use Rattle.jp_lex.specs.declared.token.TokenKind.{TokenKind}
use Rattle.jp_lex.specs.Chars.{is_letter, is_digit, is_word_byte}
use Rattle.jp_lex.specs.Cutting.{Bytes, is_symbol, is_long_symbol, Form}
use Rattle.jp_lex.specs.Scan.{TokenAt}
use Rattle.jp_lex.proofs.Once.{Form-some}

letter_ascii : (b : ℕ) → is_letter b ≡ true → b < 128
letter_ascii b h = grind (arith, nat_tests)

word_ascii : (b : ℕ) → is_word_byte b ≡ true → b < 128
word_ascii b h = grind (arith, nat_tests)

digit_ascii : (b : ℕ) → is_digit b ≡ true → b < 128
digit_ascii b h = grind (arith, nat_tests)

symbol_ascii : (b : ℕ) → is_symbol b ≡ true → b < 128
symbol_ascii b h = grind (arith, nat_tests)

long_ascii : (b next : ℕ) → is_long_symbol b next ≡ true → b < 128
long_ascii b next h = grind (arith, nat_tests)

next_ascii : (b next : ℕ) → is_long_symbol b next ≡ true → next < 128
next_ascii b next h = grind (arith, nat_tests)

-- the first and the last byte
abbrev Ends : Bytes → Type 0
Ends u = (get_or u 0 0 < 128) × ((n : ℕ) → suc n ≡ length u → get_or u n 0 < 128)

last_ascii : (p : ℕ → Bool) → ((b : ℕ) → p b ≡ true → b < 128) → (b : ℕ) (v : Bytes) → b < 128 → list_all p v ≡ true → (n : ℕ) → n ≡ length v → get_or (b ∷ v) n 0 < 128
last_ascii p low b [] first all n e = rw e first
last_ascii p low b (c ∷ v) first all n e =
    let both = and_parts (p c) (list_all p v) all in
    rw e (last_ascii p low c v (low c both.0) both.1 (length v) refl)

quotes_end : (q : ℕ) (v : Bytes) → q < 128 → Ends (q ∷ v ++ (q ∷ []))
quotes_end q v low = (
  low,
  λ n e.
      let len = length-append v (q ∷ []) in
      let at : length (q ∷ v) ≡ n = omega (arith, len, e) in
      rw (get_or_at (q ∷ v) q [] 0 n at) low,
)

pub form_ends : {kind : TokenKind} {u content : Bytes} → Form kind u content → Ends u
form_ends (Form.word b v is letter all) = subst Ends (sym is) (letter_ascii b letter, λ n e. last_ascii is_word_byte word_ascii b v (letter_ascii b letter) all n (omega (arith, e)))
form_ends (Form.quoted v is inner) = subst Ends (sym is) (quotes_end 34 v (omega arith))
form_ends (Form.number b v is digit all) = subst Ends (sym is) (digit_ascii b digit, λ n e. last_ascii is_digit digit_ascii b v (digit_ascii b digit) all n (omega (arith, e)))
form_ends (Form.text v is inner) = subst Ends (sym is) (quotes_end 39 v (omega arith))
form_ends (Form.symbol b is sign) = subst Ends (sym is) (symbol_ascii b sign, λ n e. let at : n ≡ 0 = omega (arith, e) in rw at (symbol_ascii b sign))
form_ends (Form.long_symbol b next is sign) = subst Ends (sym is) (long_ascii b next sign, λ n e. let at : n ≡ 1 = omega (arith, e) in rw at (next_ascii b next sign))

-- the places of a token in a text
pub edges : (text : Bytes) (start : ℕ) (s : Scanned) → IsUtf8 text → start ≤ length text → TokenAt (drop start text) s → (0 < s.len) × (start + s.len ≤ length text) × IsCharBoundary text start × IsCharBoundary text (start + s.len)
edges text start s utf8 fits (u, content, rest, is, len, size, tok) =
    let some = Form-some tok.form in
    let ends = form_ends tok.form in
    let all = ap length is in
    let both = length-append u rest in
    let short = length-drop start text in
    let room : start + s.len ≤ length text = omega (arith, all, both, short, len) in
    let inside : (n : ℕ) → n < length u → get_or text (start + n) 0 ≡ get_or u n 0 = λ n lt. sym (get_or-drop start text n 0) ∙ ap (λ w. get_or w n 0) is ∙ get_or_append_left u rest 0 n lt in
    let first : get_or text start 0 < 128 = let e : start + 0 ≡ start = omega arith in rw (← ap (λ n. get_or text n 0) e, inside 0 some) ends.0 in
    let last : get_or text (start + (s.len - 1)) 0 < 128 = rw (inside (s.len - 1) (omega (arith, len, some))) (ends.1 (s.len - 1) (omega (arith, len, some))) in
    let stop : start + (s.len - 1) + 1 ≡ start + s.len = omega (arith, len, some) in (
      omega (arith, len, some),
      room,
      IsCharBoundary-before_ascii text start (omega (arith, room, len, some)) first,
      subst (IsCharBoundary text) stop (IsCharBoundary-after_ascii text (start + (s.len - 1)) utf8 (omega (arith, room, len, some)) last),
    )

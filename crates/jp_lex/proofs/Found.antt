-- What the scan finds is the token at the front, and where it finds none there is none.
use Rattle.std.proofs.Common.{◌≡◌, ℕ, ◌+◌, ◌≤◌, Bool, true, false, cond, eqb, [], ◌∷◌, ◌++◌, length, get_or, Option, Some, None, refl, sym, ap, ap₂, ◌∙◌, subst, arith, append_assoc, length-append}
use Rattle.std.proofs.lemmas.Bool.{and_from, eqb-true}
use Rattle.std.proofs.lemmas.Bool.Decides.{nat_tests}
use Rattle.std.specs.List.{prefix_len, list_all}
use Rattle.jp_lex.specs.declared.scan.Scanned.{Scanned}
use Rattle.jp_lex.specs.declared.token.TokenKind.{TokenKind}
use Rattle.jp_lex.specs.declared.token.TokenKind.TheVariants.{Word, Quoted, Number, Text, Symbol}
use Rattle.jp_lex.specs.Chars.{is_letter, is_digit, is_word_byte}
use Rattle.jp_lex.specs.Cutting.{Bytes, is_symbol, is_long_symbol, begins, Body, Form, Closes, NoToken}
use Rattle.jp_lex.specs.Scan.{quote_from, plain, closed, symbol, scan, TokenAt}
use Rattle.jp_lex.proofs.Bytes.{prefix_all, prefix_whole, span, quote_exact, quote_reaches, quote_finds}

-- ---- classes that share no byte

digit_no_letter : (b : ℕ) → is_digit b ≡ true → is_letter b ≡ false
digit_no_letter b h = grind (arith, nat_tests)

letter_in_word : (b : ℕ) → is_letter b ≡ true → is_word_byte b ≡ true
letter_in_word b h = grind (arith, nat_tests)

symbol_no_letter : (b : ℕ) → is_symbol b ≡ true → is_letter b ≡ false
symbol_no_letter b h = grind (arith, nat_tests)

symbol_no_digit : (b : ℕ) → is_symbol b ≡ true → is_digit b ≡ false
symbol_no_digit b h = grind (arith, nat_tests)

symbol_no_quote : (b : ℕ) → is_symbol b ≡ true → eqb b 34 ≡ false
symbol_no_quote b h = grind (arith, nat_tests)

symbol_no_text : (b : ℕ) → is_symbol b ≡ true → eqb b 39 ≡ false
symbol_no_text b h = grind (arith, nat_tests)

long_no_letter : (b next : ℕ) → is_long_symbol b next ≡ true → is_letter b ≡ false
long_no_letter b next h = grind (arith, nat_tests)

long_no_digit : (b next : ℕ) → is_long_symbol b next ≡ true → is_digit b ≡ false
long_no_digit b next h = grind (arith, nat_tests)

long_no_quote : (b next : ℕ) → is_long_symbol b next ≡ true → eqb b 34 ≡ false
long_no_quote b next h = grind (arith, nat_tests)

long_no_text : (b next : ℕ) → is_long_symbol b next ≡ true → eqb b 39 ≡ false
long_no_text b next h = grind (arith, nat_tests)

alone_not_long : (b : ℕ) → is_long_symbol b 0 ≡ false
alone_not_long b = grind (arith, nat_tests)

-- ---- the scan, by the first byte

scan_word : (b : ℕ) (v : Bytes) → is_letter b ≡ true → scan (b ∷ v) ≡ Some (plain Word (prefix_len is_word_byte (b ∷ v)))
unfolding scan
scan_word b v h = rw h refl

scan_number : (b : ℕ) (v : Bytes) → is_digit b ≡ true → scan (b ∷ v) ≡ Some (plain Number (prefix_len is_digit (b ∷ v)))
unfolding scan
scan_number b v h = rw (digit_no_letter b h, h) refl

scan_quoted : (v : Bytes) → scan (34 ∷ v) ≡ closed Quoted (quote_from 34 false 1 0 v)
unfolding scan
scan_quoted v = refl

scan_text : (v : Bytes) → scan (39 ∷ v) ≡ closed Text (quote_from 39 false 1 0 v)
unfolding scan
scan_text v = refl

scan_symbol : (b : ℕ) (v : Bytes) → is_symbol b ≡ true → scan (b ∷ v) ≡ symbol b (get_or v 0 0)
unfolding scan
scan_symbol b v h = rw (symbol_no_letter b h, symbol_no_digit b h, symbol_no_quote b h, symbol_no_text b h) refl

scan_long : (b next : ℕ) (v : Bytes) → is_long_symbol b next ≡ true → scan (b ∷ next ∷ v) ≡ Some (plain Symbol 2)
unfolding scan
scan_long b next v h = rw (long_no_letter b next h, long_no_digit b next h, long_no_quote b next h, long_no_text b next h, h) refl

pub some_same : {A : Type 0} {x y : A} → Some x ≡ Some y → x ≡ y
some_same h = cc

symbol_some : (b next : ℕ) (s : Scanned) → symbol b next ≡ Some s → 1 ≤ s.len
symbol_some b next s h = go (is_long_symbol b next) (is_symbol b) h
  where
    go : (l t : Bool) → cond l (Some (plain Symbol 2)) (cond t (Some (plain Symbol 1)) None) ≡ Some s → 1 ≤ s.len
    go true t e = omega (arith, ap (λ (x : Scanned). x.len) (some_same e))
    go false true e = omega (arith, ap (λ (x : Scanned). x.len) (some_same e))
    go false false e = absurd (cc)

abbrev ClosedAt : TokenKind → Option (ℕ × ℕ) → Scanned → Type 0
ClosedAt kind found s = (end : ℕ × ℕ) × (found ≡ Some end) × (s ≡ record { kind = kind; len = end.0 + 1; size = end.1 })

closed_some : (kind : TokenKind) (found : Option (ℕ × ℕ)) (s : Scanned) → closed kind found ≡ Some s → ClosedAt kind found s
closed_some kind None s h = absurd (cc)
closed_some kind (Some end) s h = (end, refl, sym (some_same h))

-- ---- each form lies within what the scan finds

-- a form between quotes, with what follows it
enclosed : (q : ℕ) (v rest : Bytes) → (q ∷ v ++ (q ∷ [])) ++ rest ≡ q ∷ (v ++ q ∷ rest)
enclosed q v rest = ap (λ w. q ∷ w) (append_assoc v (q ∷ []) rest)

within_quotes : (kind : TokenKind) {q : ℕ} {v content : Bytes} → Body q v content → (rest : Bytes) (s : Scanned) → closed kind (quote_from q false 1 0 (v ++ q ∷ rest)) ≡ Some s → length (q ∷ v ++ (q ∷ [])) ≤ s.len
within_quotes kind {q} {v} inner rest s h =
    let found = closed_some kind (quote_from q false 1 0 (v ++ q ∷ rest)) s h in
    let reach = quote_reaches inner rest 1 0 found.0 found.1 in
    omega (arith, reach, ap (λ (x : Scanned). x.len) found.2, length-append v (q ∷ []))

pub reaches : {kind : TokenKind} {u content : Bytes} → Form kind u content → (rest : Bytes) (s : Scanned) → scan (u ++ rest) ≡ Some s → length u ≤ s.len
reaches (Form.word {u = u} b v is letter all) rest s h =
    let found = sym (scan_word b (v ++ rest) letter) ∙ (rw is at h) in
    let counted = prefix_all is_word_byte (b ∷ v) rest (and_from (is_word_byte b) (list_all is_word_byte v) (letter_in_word b letter) all) in
    omega (arith, counted, ap (λ (x : Scanned). x.len) (some_same found), ap length is)
reaches (Form.quoted {u = u} v is inner) rest s h =
    let found = sym (scan_quoted (v ++ 34 ∷ rest)) ∙ ap scan (sym (enclosed 34 v rest)) ∙ (rw is at h) in
    omega (arith, within_quotes Quoted inner rest s found, ap length is)
reaches (Form.number {u = u} b v is digit all) rest s h =
    let found = sym (scan_number b (v ++ rest) digit) ∙ (rw is at h) in
    let counted = prefix_all is_digit (b ∷ v) rest (and_from (is_digit b) (list_all is_digit v) digit all) in
    omega (arith, counted, ap (λ (x : Scanned). x.len) (some_same found), ap length is)
reaches (Form.text {u = u} v is inner) rest s h =
    let found = sym (scan_text (v ++ 39 ∷ rest)) ∙ ap scan (sym (enclosed 39 v rest)) ∙ (rw is at h) in
    omega (arith, within_quotes Text inner rest s found, ap length is)
reaches (Form.symbol {u = u} b is sign) rest s h =
    let found = sym (scan_symbol b rest sign) ∙ (rw is at h) in
    omega (arith, symbol_some b (get_or rest 0 0) s found, ap length is)
reaches (Form.long_symbol {u = u} b next is sign) rest s h =
    let found = sym (scan_long b next rest sign) ∙ (rw is at h) in
    omega (arith, ap (λ (x : Scanned). x.len) (some_same found), ap length is)

-- ---- a form that what follows doesn't go on with is found

quotes_found : (kind : TokenKind) {q : ℕ} {v content : Bytes} → Body q v content → (rest : Bytes) → begins q rest ≡ false → closed kind (quote_from q false 1 0 (v ++ q ∷ rest)) ≡ None → ⊥
quotes_found kind inner rest ends h = let found = quote_exact inner rest ends 1 0 in absurd (let e = rw found at h in cc)

symbol_found : (b next : ℕ) → is_symbol b ≡ true → symbol b next ≡ None → ⊥
symbol_found b next sign h = go (is_long_symbol b next) (rw sign at h)
  where
    go : (l : Bool) → ◌≡◌ {A = Option Scanned} (cond l (Some (plain Symbol 2)) (Some (plain Symbol 1))) None → ⊥
    go true e = cc
    go false e = cc

pub form_found : {kind : TokenKind} {u content : Bytes} → Form kind u content → (rest : Bytes) → Closes kind rest → scan (u ++ rest) ≡ None → ⊥
form_found (Form.word {u = u} b v is letter all) rest ends h = let found = sym (scan_word b (v ++ rest) letter) ∙ (rw is at h) in cc
form_found (Form.quoted {u = u} v is inner) rest ends h =
    quotes_found Quoted inner rest ends (sym (scan_quoted (v ++ 34 ∷ rest)) ∙ ap scan (sym (enclosed 34 v rest)) ∙ (rw is at h))
form_found (Form.number {u = u} b v is digit all) rest ends h = let found = sym (scan_number b (v ++ rest) digit) ∙ (rw is at h) in cc
form_found (Form.text {u = u} v is inner) rest ends h =
    quotes_found Text inner rest ends (sym (scan_text (v ++ 39 ∷ rest)) ∙ ap scan (sym (enclosed 39 v rest)) ∙ (rw is at h))
form_found (Form.symbol {u = u} b is sign) rest ends h = symbol_found b (get_or rest 0 0) sign (sym (scan_symbol b rest sign) ∙ (rw is at h))
form_found (Form.long_symbol {u = u} b next is sign) rest ends h = let found = sym (scan_long b next rest sign) ∙ (rw is at h) in cc

-- ---- the bytes of a form say its kind and the length of its content

abbrev pub scanned : TokenKind → ℕ → ℕ → Option Scanned
scanned kind len size = Some (record { kind = kind; len = len; size = size })

scanned_same : (kind : TokenKind) (a b c d : ℕ) → a ≡ b → c ≡ d → scanned kind a c ≡ scanned kind b d
scanned_same kind a b c d e f = ap₂ (scanned kind) e f

abbrev Whole : TokenKind → Bytes → Bytes → Type 0
Whole kind u content = scan u ≡ scanned kind (length u) (length content)

quotes_whole : (kind : TokenKind) (q : ℕ) {v content : Bytes} → Body q v content → closed kind (quote_from q false 1 0 (v ++ q ∷ [])) ≡ scanned kind (length (q ∷ v ++ (q ∷ []))) (length content)
quotes_whole kind q {v} {content} inner =
    let found = quote_exact inner [] refl 1 0 in
    rw found (scanned_same kind (1 + length v + 1) (length (q ∷ v ++ (q ∷ []))) (0 + length content) (length content) (omega (arith, length-append v (q ∷ []))) (omega arith))

pub form_whole : {kind : TokenKind} {u content : Bytes} → Form kind u content → Whole kind u content
form_whole (Form.word b v is letter all) =
    let counted = prefix_whole is_word_byte (b ∷ v) (and_from (is_word_byte b) (list_all is_word_byte v) (letter_in_word b letter) all) in
    subst (λ w. Whole Word w w) (sym is) (scan_word b v letter ∙ scanned_same Word (prefix_len is_word_byte (b ∷ v)) (length (b ∷ v)) (prefix_len is_word_byte (b ∷ v)) (length (b ∷ v)) counted counted)
form_whole (Form.quoted {content = content} v is inner) = subst (λ w. Whole Quoted w content) (sym is) (scan_quoted (v ++ (34 ∷ [])) ∙ quotes_whole Quoted 34 inner)
form_whole (Form.number b v is digit all) =
    let counted = prefix_whole is_digit (b ∷ v) (and_from (is_digit b) (list_all is_digit v) digit all) in
    subst (λ w. Whole Number w w) (sym is) (scan_number b v digit ∙ scanned_same Number (prefix_len is_digit (b ∷ v)) (length (b ∷ v)) (prefix_len is_digit (b ∷ v)) (length (b ∷ v)) counted counted)
form_whole (Form.text {content = content} v is inner) = subst (λ w. Whole Text w content) (sym is) (scan_text (v ++ (39 ∷ [])) ∙ quotes_whole Text 39 inner)
form_whole (Form.symbol b is sign) = subst (λ w. Whole Symbol w w) (sym is) (scan_symbol b [] sign ∙ rw (alone_not_long b, sign) refl)
form_whole (Form.long_symbol b next is sign) = subst (λ w. Whole Symbol w w) (sym is) (scan_long b next [] sign)

-- ---- what is found is a token

abbrev Finds : Bytes → Scanned → Type 0
Finds src s = (u : Bytes) × (content : Bytes) × (rest : Bytes) × (src ≡ u ++ rest) × (length u ≡ s.len) × (length content ≡ s.size) × Form s.kind u content × Closes s.kind rest

len_is : {x s : Scanned} → Some x ≡ Some s → x.len ≡ s.len
len_is h = ap (λ (y : Scanned). y.len) (some_same h)

word_finds : (b : ℕ) (v : Bytes) (s : Scanned) → is_letter b ≡ true → Some (plain Word (prefix_len is_word_byte (b ∷ v))) ≡ Some s → Finds (b ∷ v) s
word_finds b v s letter h =
    let found = span is_word_byte v in
    let counted : prefix_len is_word_byte (b ∷ v) ≡ length (b ∷ found.0) = rw (letter_in_word b letter) (omega (arith, found.3)) in
    subst (Finds (b ∷ v)) (some_same h)
    (b ∷ found.0, b ∷ found.0, found.1, ap (λ w. b ∷ w) found.2, sym counted, sym counted, Form.word b found.0 refl letter found.4, tt)

number_finds : (b : ℕ) (v : Bytes) (s : Scanned) → is_digit b ≡ true → Some (plain Number (prefix_len is_digit (b ∷ v))) ≡ Some s → Finds (b ∷ v) s
number_finds b v s digit h =
    let found = span is_digit v in
    let counted : prefix_len is_digit (b ∷ v) ≡ length (b ∷ found.0) = rw digit (omega (arith, found.3)) in
    subst (Finds (b ∷ v)) (some_same h)
    (b ∷ found.0, b ∷ found.0, found.1, ap (λ w. b ∷ w) found.2, sym counted, sym counted, Form.number b found.0 refl digit found.4, tt)

quoted_finds : (v : Bytes) (s : Scanned) → closed Quoted (quote_from 34 false 1 0 v) ≡ Some s → Finds (34 ∷ v) s
quoted_finds v s h =
    let at = closed_some Quoted (quote_from 34 false 1 0 v) s h in
    let found = quote_finds 34 false 1 0 v at.0 at.1 in
    let u : Bytes = 34 ∷ found.0 ++ (34 ∷ []) in
    subst (Finds (34 ∷ v)) (sym at.2)
    (u, found.1, found.2, ap (λ w. 34 ∷ w) found.3 ∙ sym (enclosed 34 found.0 found.2), omega (arith, length-append found.0 (34 ∷ []), found.6), omega (arith, found.7), Form.quoted found.0 refl found.4, found.5)

text_finds : (v : Bytes) (s : Scanned) → closed Text (quote_from 39 false 1 0 v) ≡ Some s → Finds (39 ∷ v) s
text_finds v s h =
    let at = closed_some Text (quote_from 39 false 1 0 v) s h in
    let found = quote_finds 39 false 1 0 v at.0 at.1 in
    let u : Bytes = 39 ∷ found.0 ++ (39 ∷ []) in
    subst (Finds (39 ∷ v)) (sym at.2)
    (u, found.1, found.2, ap (λ w. 39 ∷ w) found.3 ∙ sym (enclosed 39 found.0 found.2), omega (arith, length-append found.0 (39 ∷ []), found.6), omega (arith, found.7), Form.text found.0 refl found.4, found.5)

symbol_finds : (b : ℕ) (v : Bytes) (s : Scanned) → symbol b (get_or v 0 0) ≡ Some s → Finds (b ∷ v) s
symbol_finds b v s h = go v (is_long_symbol b (get_or v 0 0)) (is_symbol b) refl refl h
  where
    go : (v : Bytes) (l t : Bool) → is_long_symbol b (get_or v 0 0) ≡ l → is_symbol b ≡ t → cond l (Some (plain Symbol 2)) (cond t (Some (plain Symbol 1)) None) ≡ Some s → Finds (b ∷ v) s
    go [] true t long sign e = absurd (let alone = alone_not_long b in cc)
    go (next ∷ v) true t long sign e = subst (Finds (b ∷ next ∷ v)) (some_same e) (b ∷ next ∷ [], b ∷ next ∷ [], v, refl, refl, refl, Form.long_symbol b next refl long, tt)
    go v false true long sign e = subst (Finds (b ∷ v)) (some_same e) (b ∷ [], b ∷ [], v, refl, refl, refl, Form.symbol b refl sign, tt)
    go v false false long sign e = absurd (cc)

form_finds : (src : Bytes) (s : Scanned) → scan src ≡ Some s → Finds src s
unfolding scan
form_finds [] s h = absurd (cc)
form_finds (b ∷ v) s h = go (is_letter b) (is_digit b) (eqb b 34) (eqb b 39) refl refl refl refl h
  where
    go : (l d q t : Bool) → is_letter b ≡ l → is_digit b ≡ d → eqb b 34 ≡ q → eqb b 39 ≡ t
        → cond l (Some (plain Word (prefix_len is_word_byte (b ∷ v)))) (cond d (Some (plain Number (prefix_len is_digit (b ∷ v)))) (cond q (closed Quoted (quote_from 34 false 1 0 v)) (cond t (closed Text (quote_from 39 false 1 0 v)) (symbol b (get_or v 0 0))))) ≡ Some s
        → Finds (b ∷ v) s
    go true d q t letter digit quote text e = word_finds b v s letter e
    go false true q t letter digit quote text e = number_finds b v s digit e
    go false false true t letter digit quote text e = subst (λ x. Finds (x ∷ v) s) (sym (eqb-true b 34 quote)) (quoted_finds v s e)
    go false false false true letter digit quote text e = subst (λ x. Finds (x ∷ v) s) (sym (eqb-true b 39 text)) (text_finds v s e)
    go false false false false letter digit quote text e = symbol_finds b v s e

pub token_finds : (src : Bytes) (s : Scanned) → scan src ≡ Some s → TokenAt src s
token_finds src s h =
    let found = form_finds src s h in (
      found.0,
      found.1,
      found.2,
      found.3,
      found.4,
      found.5,
      record { form = found.6; longest = λ kind v inside after e form. omega (arith, found.4, reaches form after s (ap scan (sym e) ∙ ap scan (sym found.3) ∙ h)); closes = found.7 },
    )

pub no_token : (src : Bytes) → scan src ≡ None → NoToken src
no_token src h = λ kind u content rest e t. form_found t.form rest t.closes (ap scan (sym e) ∙ h)

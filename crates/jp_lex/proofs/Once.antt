-- A source has one cutting or one refusal, and not both.
use Rattle.std.proofs.Common.{◌≡◌, ℕ, ◌+◌, ◌<◌, List, [], ◌∷◌, ◌++◌, length, refl, sym, ap, ◌∙◌, subst, arith, length-append}
use Rattle.std.proofs.lemmas.List.{append-nil}
use Rattle.jp_lex.specs.declared.scan.Scanned.{Scanned}
use Rattle.jp_lex.specs.declared.token.TokenKind.{TokenKind}
use Rattle.jp_lex.specs.declared.token.LexError.{LexError}
use Rattle.jp_lex.specs.Cutting.{Bytes, IsLongestGap, Form, IsToken, NoToken, fault, Lexeme, Cut, Refusal}
use Rattle.jp_lex.specs.Scan.{scan}
use Rattle.jp_lex.proofs.Bytes.{same_front}
use Rattle.jp_lex.proofs.Found.{form_whole, some_same, scanned}

pub Form-some : {kind : TokenKind} {u content : Bytes} → Form kind u content → 0 < length u
Form-some (Form.word b v is letter all) = omega (arith, ap length is)
Form-some (Form.quoted v is inner) = omega (arith, ap length is)
Form-some (Form.number b v is digit all) = omega (arith, ap length is)
Form-some (Form.text v is inner) = omega (arith, ap length is)
Form-some (Form.symbol b is sign) = omega (arith, ap length is)
Form-some (Form.long_symbol b next is sign) = omega (arith, ap length is)

-- one longest gap begins a source
gap_once : (g x h y : Bytes) → IsLongestGap g x → IsLongestGap h y → g ++ x ≡ h ++ y → (g ≡ h) × (x ≡ y)
gap_once g x h y first second e =
    let longer = first.longest h y e second.gap in
    let shorter = second.longest g x (sym e) first.gap in
    same_front g x h y (omega (arith, longer, shorter)) e

abbrev SameToken : TokenKind → Bytes → Bytes → Bytes → TokenKind → Bytes → Bytes → Bytes → Type 0
SameToken k u c r kind v content rest = (k ≡ kind) × (u ≡ v) × (length c ≡ length content) × (r ≡ rest)

-- one token begins a source
token_once : (k kind : TokenKind) (u c r v content rest : Bytes) → IsToken k u c r → IsToken kind v content rest → u ++ r ≡ v ++ rest → SameToken k u c r kind v content rest
token_once k kind u c r v content rest first second e =
    let longer = first.longest kind v content rest e second.form in
    let shorter = second.longest k u c r (sym e) first.form in
    let same = same_front u r v rest (omega (arith, longer, shorter)) e in
    let one : scanned k (length u) (length c) ≡ scanned kind (length v) (length content) = sym (form_whole first.form) ∙ ap scan same.0 ∙ form_whole second.form in
    let found = some_same one in
    (ap (λ (x : Scanned). x.kind) found, same.0, ap (λ (x : Scanned). x.size) found, same.1)

-- a longest gap with a token behind it
abbrev Front : Bytes → Bytes → TokenKind → Bytes → Bytes → Bytes → Type 0
Front src g kind u content rest = (src ≡ g ++ (u ++ rest)) × IsLongestGap g (u ++ rest) × IsToken kind u content rest

front_once : (src g h : Bytes) (k kind : TokenKind) (u c r v content rest : Bytes) → Front src g k u c r → Front src h kind v content rest → (g ≡ h) × SameToken k u c r kind v content rest
front_once src g h k kind u c r v content rest first second =
    let gaps = gap_once g (u ++ r) h (v ++ rest) first.1 second.1 (sym first.0 ∙ second.0) in
    (gaps.0, token_once k kind u c r v content rest first.2 second.2 gaps.1)

-- no gap that takes the whole source has a token behind it
front_not_gap : (src g : Bytes) (k : TokenKind) (u c r : Bytes) → IsLongestGap src [] → Front src g k u c r → ⊥
front_not_gap src g k u c r whole front =
    let gaps = gap_once src [] g (u ++ r) whole front.1 (append-nil src ∙ front.0) in
    omega (arith, ap length gaps.1, length-append u r, Form-some front.2.form)

front_has_token : (src g h : Bytes) (k : TokenKind) (u c r : Bytes) (b : ℕ) (rest : Bytes) → Front src g k u c r → src ≡ h ++ (b ∷ rest) → IsLongestGap h (b ∷ rest) → NoToken (b ∷ rest) → ⊥
front_has_token src g h k u c r b rest front is gap none =
    let gaps = gap_once g (u ++ r) h (b ∷ rest) front.1 gap (sym front.0 ∙ is) in
    none k u c r (sym gaps.1) front.2

-- the places behind equal tokens
place_same : (p : ℕ) (g h u v : Bytes) → g ≡ h → u ≡ v → p + length g + length u ≡ p + length h + length v
place_same p g h u v e f = omega (arith, ap length e, ap length f)

fault_same : (p : ℕ) (g h : Bytes) (k kind : TokenKind) (u c r v content rest : Bytes) → g ≡ h → SameToken k u c r kind v content rest → fault (p + length g) k u (length c) r ≡ fault (p + length h) kind v (length content) rest
fault_same p g h k kind u c r v content rest e same = let a = same.0 in let b = same.1 in let d = same.2 in let f = same.3 in cc

pub cut_once : {p : ℕ} {src : Bytes} {ts us : List Lexeme} → Cut p src ts → Cut p src us → ts ≡ us
cut_once (Cut.done whole) (Cut.done other) = refl
cut_once {src = src} (Cut.done whole) (Cut.token g k u c r is gap tok ok more) = absurd (front_not_gap src g k u c r whole (is, gap, tok))
cut_once {src = src} (Cut.token g k u c r is gap tok ok more) (Cut.done whole) = absurd (front_not_gap src g k u c r whole (is, gap, tok))
cut_once {p} {src} (Cut.token g k u c r is gap tok ok more) (Cut.token {ts = us} h kind v content rest js other second fine next) =
    let same = front_once src g h k kind u c r v content rest (is, gap, tok) (js, other, second) in
    let place = place_same p g h u v same.0 same.1.1 in
    let tail = cut_once more (subst (λ x. Cut (p + length g + length u) x us) (sym same.1.3) (subst (λ x. Cut x rest us) (sym place) next)) in
    let a = same.0 in
    let b = same.1.0 in
    let d = same.1.1 in
    cc

pub cut_or_refusal : {p : ℕ} {src : Bytes} {ts : List Lexeme} {e : LexError} → Cut p src ts → Refusal p src e → ⊥
cut_or_refusal {src = src} (Cut.done whole) (Refusal.no_token h b rest js other none is) =
    let gaps = gap_once src [] h (b ∷ rest) whole other (append-nil src ∙ js) in
    absurd (omega (arith, ap length gaps.1))
cut_or_refusal {src = src} (Cut.done whole) (Refusal.bad_token g k u c r is gap tok bad) = front_not_gap src g k u c r whole (is, gap, tok)
cut_or_refusal {src = src} (Cut.done whole) (Refusal.later g k u c r is gap tok ok more) = front_not_gap src g k u c r whole (is, gap, tok)
cut_or_refusal {src = src} (Cut.token g k u c r is gap tok ok more) (Refusal.no_token h b rest js other none _) = front_has_token src g h k u c r b rest (is, gap, tok) js other none
cut_or_refusal {p} {src} (Cut.token g k u c r is gap tok ok more) (Refusal.bad_token h kind v content rest js other second bad) =
    let same = front_once src g h k kind u c r v content rest (is, gap, tok) (js, other, second) in
    let faults = fault_same p g h k kind u c r v content rest same.0 same.1 in
    absurd (let e = sym ok ∙ faults ∙ bad in cc)
cut_or_refusal {p} {src} {ts} {e} (Cut.token g k u c r is gap tok ok more) (Refusal.later h kind v content rest js other second fine next) =
    let same = front_once src g h k kind u c r v content rest (is, gap, tok) (js, other, second) in
    let place = place_same p g h u v same.0 same.1.1 in
    cut_or_refusal more (subst (λ x. Refusal (p + length g + length u) x e) (sym same.1.3) (subst (λ x. Refusal x rest e) (sym place) next))

pub refusal_once : {p : ℕ} {src : Bytes} {e f : LexError} → Refusal p src e → Refusal p src f → e ≡ f
refusal_once {p} (Refusal.no_token g b rest is gap none why) (Refusal.no_token h c after js other nothing reason) =
    let gaps = gap_once g (b ∷ rest) h (c ∷ after) gap other (sym is ∙ js) in
    let a = gaps.0 in
    let d = gaps.1 in
    cc
refusal_once {src = src} (Refusal.no_token h b rest js other none why) (Refusal.bad_token g k u c r is gap tok bad) = absurd (front_has_token src g h k u c r b rest (is, gap, tok) js other none)
refusal_once {src = src} (Refusal.no_token h b rest js other none why) (Refusal.later g k u c r is gap tok ok more) = absurd (front_has_token src g h k u c r b rest (is, gap, tok) js other none)
refusal_once {src = src} (Refusal.bad_token g k u c r is gap tok bad) (Refusal.no_token h b rest js other none why) = absurd (front_has_token src g h k u c r b rest (is, gap, tok) js other none)
refusal_once {p} {src} (Refusal.bad_token g k u c r is gap tok bad) (Refusal.bad_token h kind v content rest js other second wrong) =
    let same = front_once src g h k kind u c r v content rest (is, gap, tok) (js, other, second) in
    let faults = fault_same p g h k kind u c r v content rest same.0 same.1 in
    let both = sym bad ∙ faults ∙ wrong in
    cc
refusal_once {p} {src} (Refusal.bad_token g k u c r is gap tok bad) (Refusal.later h kind v content rest js other second fine next) =
    let same = front_once src g h k kind u c r v content rest (is, gap, tok) (js, other, second) in
    let faults = fault_same p g h k kind u c r v content rest same.0 same.1 in
    absurd (let both = sym bad ∙ faults ∙ fine in cc)
refusal_once {src = src} (Refusal.later g k u c r is gap tok ok more) (Refusal.no_token h b rest js other none why) = absurd (front_has_token src g h k u c r b rest (is, gap, tok) js other none)
refusal_once {p} {src} (Refusal.later g k u c r is gap tok ok more) (Refusal.bad_token h kind v content rest js other second bad) =
    let same = front_once src g h k kind u c r v content rest (is, gap, tok) (js, other, second) in
    let faults = fault_same p g h k kind u c r v content rest same.0 same.1 in
    absurd (let both = sym ok ∙ faults ∙ bad in cc)
refusal_once {p} {src} {e} {f} (Refusal.later g k u c r is gap tok ok more) (Refusal.later h kind v content rest js other second fine next) =
    let same = front_once src g h k kind u c r v content rest (is, gap, tok) (js, other, second) in
    let place = place_same p g h u v same.0 same.1.1 in
    refusal_once more (subst (λ x. Refusal (p + length g + length u) x f) (sym same.1.3) (subst (λ x. Refusal x rest f) (sym place) next))

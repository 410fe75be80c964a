-- A token of a text in UTF-8, what follows it and what stands between its quotes are in UTF-8.
use Rattle.std.proofs.Common.{◌≡◌, ℕ, ◌+◌, ◌<◌, [], ◌∷◌, ◌++◌, length, get_or, refl, sym, subst, arith, length-append, append_assoc}
use Rattle.std.proofs.lemmas.List.{drop_at, get_or_append_left, get_or_at, take_at}
use Rattle.std.proofs.lemmas.Str.{IsCharBoundary-after_ascii, IsCharBoundary-before_ascii, IsUtf8-append, IsUtf8-drop, IsUtf8-take}
use Rattle.std.specs.Str.{IsUtf8}
use Rattle.jp_lex.specs.declared.token.TokenKind.{TokenKind}
use Rattle.jp_lex.specs.Cutting.{Body, Bytes, Form}
use Rattle.jp_lex.proofs.Edges.{form_ends}
use Rattle.jp_lex.proofs.Once.{Form-some}

-- ---- where a text may be cut

before_ascii : (w : Bytes) (b : ℕ) (x : Bytes) → b < 128 → IsUtf8 (w ++ b ∷ x) → IsUtf8 w × IsUtf8 (b ∷ x)
before_ascii w b x low whole =
    let len = length-append w (b ∷ x) in
    let cut = IsCharBoundary-before_ascii (w ++ b ∷ x) (length w) (omega (arith, len)) (rw (get_or_at w b x 0 (length w) refl) low) in (
      subst IsUtf8 (take_at w (b ∷ x) (length w) refl) (IsUtf8-take (w ++ b ∷ x) (length w) whole cut),
      subst IsUtf8 (drop_at w (b ∷ x) (length w) refl) (IsUtf8-drop (w ++ b ∷ x) (length w) whole cut),
    )

behind_ascii : (u rest : Bytes) (n : ℕ) → n + 1 ≡ length u → get_or u n 0 < 128 → IsUtf8 (u ++ rest) → IsUtf8 u × IsUtf8 rest
behind_ascii u rest n last low whole =
    let len = length-append u rest in
    let byte : get_or (u ++ rest) n 0 < 128 = rw (get_or_append_left u rest 0 n (omega (arith, last))) low in
    let cut = IsCharBoundary-after_ascii (u ++ rest) n whole (omega (arith, last, len)) byte in (
      subst IsUtf8 (take_at u rest (n + 1) (sym last)) (IsUtf8-take (u ++ rest) (n + 1) whole cut),
      subst IsUtf8 (drop_at u rest (n + 1) (sym last)) (IsUtf8-drop (u ++ rest) (n + 1) whole cut),
    )

-- a token and what follows it
pub token_utf8 : {kind : TokenKind} {content : Bytes} (g u rest : Bytes) → Form kind u content → IsUtf8 (g ++ (u ++ rest)) → IsUtf8 u × IsUtf8 rest
token_utf8 g [] rest form whole = absurd (let some = Form-some form in omega (arith, some))
token_utf8 g (b ∷ v) rest form whole =
    let ends = form_ends form in
    behind_ascii (b ∷ v) rest (length v) (omega arith) (ends.1 (length v) (omega arith)) (before_ascii g b (v ++ rest) ends.0 whole).1

-- ---- what stands between quotes

body_utf8 : (q : ℕ) → q < 128 → (w : Bytes) {v content : Bytes} → Body q v content → IsUtf8 (w ++ v) → IsUtf8 (w ++ content)
body_utf8 q low w Body.empty whole = whole
body_utf8 q low w (Body.other {v} {content} b out inner) whole =
    subst IsUtf8 (append_assoc w (b ∷ []) content) (body_utf8 q low (w ++ b ∷ []) inner (subst IsUtf8 (sym (append_assoc w (b ∷ []) v)) whole))
body_utf8 q low w (Body.doubled {v} {content} inner) whole =
    let parts = before_ascii w q (q ∷ v) low whole in
    let single = IsUtf8-append w (q ∷ v) parts.0 (behind_ascii (q ∷ []) (q ∷ v) 0 refl low parts.1).1 in
    subst IsUtf8 (append_assoc w (q ∷ []) content) (body_utf8 q low (w ++ q ∷ []) inner (subst IsUtf8 (sym (append_assoc w (q ∷ []) v)) single))

quoted_utf8 : (q : ℕ) → q < 128 → (v : Bytes) {content : Bytes} → Body q v content → IsUtf8 (q ∷ v ++ (q ∷ [])) → IsUtf8 content
quoted_utf8 q low v body whole = body_utf8 q low [] body (before_ascii v q [] low (behind_ascii (q ∷ []) (v ++ (q ∷ [])) 0 refl low whole).1).0

-- what a form says to be the content
pub content_utf8 : (kind : TokenKind) (u content : Bytes) → Form kind u content → IsUtf8 u → IsUtf8 content
content_utf8 k u content (Form.word b v is letter rest) utf8 = utf8
content_utf8 k u content (Form.quoted v is body) utf8 = quoted_utf8 34 (omega arith) v body (subst IsUtf8 is utf8)
content_utf8 k u content (Form.number b v is digit rest) utf8 = utf8
content_utf8 k u content (Form.text v is body) utf8 = quoted_utf8 39 (omega arith) v body (subst IsUtf8 is utf8)
content_utf8 k u content (Form.symbol b is sign) utf8 = utf8
content_utf8 k u content (Form.long_symbol b next is sign) utf8 = utf8

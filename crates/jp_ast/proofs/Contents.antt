-- The content of a token is that of its form.
use Rattle.std.proofs.Common.{◌≡◌, ℕ, ◌-◌, Bool, true, false, T, List, [], ◌∷◌, ◌++◌, length, refl, ap, ◌∙◌, arith, length-append}
use Rattle.std.specs.Prelude.{◌==◌}
use Rattle.std.proofs.Math.Dec.{eqb_refl}
use Rattle.std.proofs.lemmas.List.{take_at}
use Rattle.jp_lex.specs.declared.token.TokenKind.{TokenKind}
use Rattle.jp_lex.specs.Cutting.{Body, Form}
use Rattle.jp_ast.specs.Seen.{undoubled, inside, content_of, folded}

same_self : (q : ℕ) → (q == q) ≡ true
same_self q = go (q == q) (eqb_refl q)
  where
    go : (b : Bool) → T b → b ≡ true
    go true p = refl
    go false p = absurd p

body_content : (q : ℕ) {v content : List ℕ} → Body q v content → undoubled q false v ≡ content
body_content q Body.empty = refl
body_content q (Body.other {v} {content} b out inner) = ap (λ s. b ∷ undoubled q s v) out ∙ ap (λ w. b ∷ w) (body_content q inner)
body_content q (Body.doubled {v} {content} inner) = ap (λ s. q ∷ undoubled q s (q ∷ v)) (same_self q) ∙ ap (λ w. q ∷ w) (body_content q inner)

inside_quotes : (q : ℕ) (v : List ℕ) → inside (q ∷ v ++ (q ∷ [])) ≡ v
inside_quotes q v = take_at v (q ∷ []) (length (q ∷ v ++ (q ∷ [])) - 2) (omega (arith, length-append v (q ∷ [])))

pub content_is : (kind : TokenKind) (text content : List ℕ) → Form kind text content → content_of kind text ≡ folded kind content
content_is k text content (Form.word b v cut letter rest) = refl
content_is k text content (Form.quoted v cut inner) = ap (λ u. undoubled 34 false (inside u)) cut ∙ ap (undoubled 34 false) (inside_quotes 34 v) ∙ body_content 34 inner
content_is k text content (Form.number b v cut digit rest) = refl
content_is k text content (Form.text v cut inner) = ap (λ u. undoubled 39 false (inside u)) cut ∙ ap (undoubled 39 false) (inside_quotes 39 v) ∙ body_content 39 inner
content_is k text content (Form.symbol b cut good) = refl
content_is k text content (Form.long_symbol b next cut good) = refl

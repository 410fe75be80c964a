-- The last token, as the grammar sees it.
use Rattle.std.proofs.Common.{◌≡◌, ◌∙◌, ℕ, zero, suc, ◌-◌, ◌<◌, ◌^◌, List, [], ◌∷◌, length, slice_index_or, ap, sym, subst, refl, arith}
use Rattle.jp_lex.specs.declared.token.Token.{Token}
use Rattle.jp_ast.specs.Place.{end_of}
use Rattle.jp_ast.specs.SeenTokens.{seen_token, seen_tokens, Fits, AllFit}

end_at : (n : ℕ) (ts : List Token) (d : Token) → length ts ≡ suc n → end_of (seen_tokens ts) ≡ (seen_token (slice_index_or ts n d)).end
end_at n [] d e = absurd (omega arith)
end_at zero (t ∷ []) d e = refl
end_at zero (t ∷ u ∷ ts) d e = absurd (omega arith)
end_at (suc n) (t ∷ []) d e = absurd (omega arith)
end_at (suc n) (t ∷ u ∷ ts) d e = end_at n (u ∷ ts) d (omega arith)

fit_at : (n : ℕ) (ts : List Token) (d : Token) → length ts ≡ suc n → AllFit (seen_tokens ts) → Fits (seen_token (slice_index_or ts n d))
fit_at n [] d e all = absurd (omega arith)
fit_at zero (t ∷ ts) d e all = all 0 (seen_token t) (omega arith)
fit_at (suc n) (t ∷ ts) d e all = fit_at n ts d (omega arith) (λ k s lt. all (suc k) s (omega arith))

pub last_end : (ts : List Token) (t : Token) → 0 < length ts → t ≡ slice_index_or ts (length ts - 1) t → (seen_token t).end ≡ end_of (seen_tokens ts)
last_end ts t some is =
    let e : length ts ≡ suc (length ts - 1) = omega arith in
    ap (λ t. (seen_token t).end) is ∙ sym (end_at (length ts - 1) ts t e)

pub last_fits : (ts : List Token) (t : Token) → 0 < length ts → t ≡ slice_index_or ts (length ts - 1) t → AllFit (seen_tokens ts) → (seen_token t).end < 2 ^ 32
last_fits ts t some is all =
    let e : length ts ≡ suc (length ts - 1) = omega arith in
    (subst (λ t. Fits (seen_token t)) (sym is) (fit_at (length ts - 1) ts t e all)).place

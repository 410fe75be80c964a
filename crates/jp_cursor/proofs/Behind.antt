-- The tokens behind the first, as the grammar sees them.
use Rattle.std.proofs.Common.{◌≡◌, List, drop, ap, sym, subst, ◌∙◌}
use Rattle.std.proofs.lemmas.List.{drop-map}
use Rattle.std.proofs.lemmas.List.Elements.{All-drop}
use Rattle.jp_lex.specs.declared.token.Token.{Token}
use Rattle.jp_ast.specs.SeenTokens.{seen_token, seen_tokens, Fits, AllFit}

pub seen_behind : (ts us : List Token) → us ≡ drop 1 ts → seen_tokens us ≡ drop 1 (seen_tokens ts)
seen_behind ts us e = ap seen_tokens e ∙ sym (drop-map seen_token 1 ts)

pub fit_behind : (ts us : List Token) → us ≡ drop 1 ts → AllFit (seen_tokens ts) → AllFit (seen_tokens us)
fit_behind ts us e h = subst AllFit (sym (seen_behind ts us e)) (All-drop Fits 1 (seen_tokens ts) h)

-- The code of a token as the grammar sees it.
use Rattle.std.specs.Prelude.{ℕ, List, refl}
use Rattle.std.specs.Coded.{Coded, code_by, coded×, coded_ℕ, coded_list}
use Rattle.jp_lex.specs.declared.token.TokenKind.{TokenKind}
use Rattle.jp_lex.specs.contracts.token.TokenKind.{the_row}
use Rattle.jp_ast.specs.Seen.{Seen}

abbrev pub seen_code : Coded Seen
seen_code = code_by (TokenKind × (List ℕ × (ℕ × ℕ))) (coded× the_row.coded (coded× (coded_list coded_ℕ) (coded× coded_ℕ coded_ℕ)))
    (λ t. (t.kind, (t.content, (t.at, t.end)))) (λ p. record { kind = p.0; content = p.1.0; at = p.1.1.0; end = p.1.1.1 }) (λ _. refl)

-- Which statements a source may stand for.
use Rattle.std.specs.Prelude.{◌≤◌, List, length}
use Rattle.jp_lex.specs.declared.token.Token.{Token}
use Rattle.jp_lex.specs.Cutting.{Bytes, Tokens, lexemes}
use Rattle.jp_ast.specs.Grammar.{Derives}
use Rattle.jp_ast.specs.SeenTokens.{seen_tokens}
use Rattle.jp_statements.specs.Layers.{Stmt}

-- the tokens of some source of at most 65,536 bytes derive the statement
pub record IsOfSource (s : Stmt) : Type 0 where
  pub source : Bytes
  pub tokens : List Token
  pub short : length source ≤ 65536
  pub cut : Tokens source (lexemes tokens)
  pub derived : Derives (seen_tokens tokens) s

-- The tokens of a source as the grammar sees them.
use Rattle.std.specs.Prelude.{◌≡◌, ◌^◌, ◌<◌, List, map}
use Rattle.std.specs.List.{All}
use Rattle.std.specs.Str.{IsUtf8}
use Rattle.jp_lex.specs.declared.token.Token.{Token}
use Rattle.jp_ast.specs.declared.class.Class.TheVariants as k
use Rattle.jp_ast.specs.Classes.{class}
use Rattle.jp_lex.specs.Cutting.{lexeme, value}
use Rattle.jp_ast.specs.Seen.{Seen, seen}

abbrev pub seen_token : Token → Seen
seen_token t = seen (lexeme t)

abbrev pub seen_tokens : List Token → List Seen
seen_tokens ts = map seen_token ts

-- what the code needs of a token: a number has at most 127 bits, a place fits into 32, and the content is text
pub record Fits (t : Seen) : Type 0 where
  pub number : class t ≡ k.Number → value t.content < 2 ^ 127
  pub place : t.end < 2 ^ 32
  pub utf8 : IsUtf8 t.content

abbrev pub AllFit : List Seen → Type 0
AllFit ts = All Fits ts

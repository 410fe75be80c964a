-- What the grammar takes a token for.
use Rattle.std.specs.Prelude.{ℕ, Bool, true, false, List, [], ◌∷◌, codes, if◌then◌else◌}
use Rattle.std.specs.Str.{bytes_eq}
use denote.Enum.Bare.{sameb}
use Rattle.jp_lex.specs.declared.token.TokenKind.{TokenKind}
use Rattle.jp_lex.specs.declared.token.TokenKind.TheVariants.{Word, Quoted, Number, Text, Symbol}
use Rattle.jp_ast.specs.contracts.class.Class.{the_type}
use Rattle.jp_ast.specs.declared.class.Class.{Class}
use Rattle.jp_ast.specs.declared.class.Class.TheVariants as k
use Rattle.jp_ast.specs.Seen.{Seen}

-- the reserved words in lower case, and the names that are words by their place
unfoldable pub words : List (List ℕ × Class)
words =
    (codes "all", k.All) ∷ (codes "and", k.And) ∷ (codes "as", k.As) ∷ (codes "asc", k.Asc) ∷ (codes "between", k.Between) ∷ (codes "case", k.Case)
    ∷ (codes "coalesce", k.Coalesce) ∷ (codes "cross", k.Cross) ∷ (codes "desc", k.Desc) ∷ (codes "distinct", k.Distinct) ∷ (codes "else", k.Else)
    ∷ (codes "end", k.End) ∷ (codes "exists", k.Exists) ∷ (codes "false", k.False) ∷ (codes "from", k.From) ∷ (codes "full", k.Full)
    ∷ (codes "group", k.Group) ∷ (codes "having", k.Having) ∷ (codes "in", k.In) ∷ (codes "inner", k.Inner) ∷ (codes "is", k.Is)
    ∷ (codes "join", k.Join) ∷ (codes "lateral", k.Lateral) ∷ (codes "left", k.Left) ∷ (codes "limit", k.Limit) ∷ (codes "natural", k.Natural)
    ∷ (codes "not", k.Not) ∷ (codes "null", k.Null) ∷ (codes "offset", k.Offset) ∷ (codes "on", k.On) ∷ (codes "or", k.Or) ∷ (codes "order", k.Order)
    ∷ (codes "outer", k.Outer) ∷ (codes "right", k.Right) ∷ (codes "select", k.Select) ∷ (codes "then", k.Then) ∷ (codes "true", k.True)
    ∷ (codes "union", k.Union) ∷ (codes "using", k.Using) ∷ (codes "when", k.When) ∷ (codes "where", k.Where) ∷ (codes "with", k.With)
    ∷ (codes "by", k.By) ∷ (codes "nulls", k.Nulls) ∷ (codes "first", k.First) ∷ (codes "last", k.Last) ∷ (codes "unknown", k.Unknown) ∷ []

unfoldable pub symbols : List (List ℕ × Class)
symbols =
    (codes "<>", k.Ne) ∷ (codes "!=", k.Ne) ∷ (codes "<=", k.Le) ∷ (codes ">=", k.Ge) ∷ (codes "||", k.Bars) ∷ (codes "(", k.Open)
    ∷ (codes ")", k.Close) ∷ (codes ",", k.Comma) ∷ (codes ".", k.Dot) ∷ (codes ";", k.Semicolon) ∷ (codes "+", k.Plus) ∷ (codes "-", k.Minus)
    ∷ (codes "*", k.Star) ∷ (codes "=", k.Eq) ∷ (codes "<", k.Lt) ∷ (codes ">", k.Gt) ∷ []

-- what stands beside the text in a table
abbrev pub found : List (List ℕ × Class) → Class → List ℕ → Class
found [] other text = other
found (entry ∷ entries) other text = if bytes_eq entry.0 text then entry.1 else found entries other text

-- by the kind and the content of a token. A quoted identifier is a name, whatever its content.
abbrev pub class_of : TokenKind → List ℕ → Class
class_of Word content = found words k.Name content
class_of Quoted content = k.Name
class_of Number content = k.Number
class_of Text content = k.Text
class_of Symbol content = found symbols k.Nothing content

unfoldable pub class : Seen → Class
class t = class_of t.kind t.content

-- the class of the token that stands first
abbrev pub first : List Seen → Class
first [] = k.Nothing
first (t ∷ ts) = class t

unfoldable pub same : Class → Class → Bool
same = sameb the_type

-- names, and what is one but for its place
abbrev pub is_name : Class → Bool
is_name k.Name = true
is_name k.By = true
is_name k.Nulls = true
is_name k.First = true
is_name k.Last = true
is_name k.Unknown = true
is_name _ = false

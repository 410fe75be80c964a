-- A token of each class, and the steps of the readers that take one.
use Rattle.std.proofs.Common.{◌≡◌, true, rules, refl, []}
use Rattle.std.specs.Prelude.{codes}
use denote.Enum.Bare.{same_true, true_same}
use Rattle.jp_lex.specs.declared.token.TokenKind.TheVariants.{Word, Number, Text, Symbol}
use Rattle.jp_ast.specs.contracts.class.Class.{the_type}
use Rattle.jp_ast.specs.declared.class.Class.{Class}
use Rattle.jp_ast.specs.declared.class.Class.TheVariants as k
use Rattle.jp_ast.specs.Seen.{Seen}
use Rattle.jp_ast.specs.Classes.{class, same, words, symbols}
use Rattle.jp_cursor.specs.Reading.{is}

-- ---- a token of each class

unfoldable pub sample : Class → Seen
sample k.All = record { kind = Word; content = codes "all"; at = 0; end = 0 }
sample k.And = record { kind = Word; content = codes "and"; at = 0; end = 0 }
sample k.As = record { kind = Word; content = codes "as"; at = 0; end = 0 }
sample k.Asc = record { kind = Word; content = codes "asc"; at = 0; end = 0 }
sample k.Between = record { kind = Word; content = codes "between"; at = 0; end = 0 }
sample k.Case = record { kind = Word; content = codes "case"; at = 0; end = 0 }
sample k.Coalesce = record { kind = Word; content = codes "coalesce"; at = 0; end = 0 }
sample k.Cross = record { kind = Word; content = codes "cross"; at = 0; end = 0 }
sample k.Desc = record { kind = Word; content = codes "desc"; at = 0; end = 0 }
sample k.Distinct = record { kind = Word; content = codes "distinct"; at = 0; end = 0 }
sample k.Else = record { kind = Word; content = codes "else"; at = 0; end = 0 }
sample k.End = record { kind = Word; content = codes "end"; at = 0; end = 0 }
sample k.Exists = record { kind = Word; content = codes "exists"; at = 0; end = 0 }
sample k.False = record { kind = Word; content = codes "false"; at = 0; end = 0 }
sample k.From = record { kind = Word; content = codes "from"; at = 0; end = 0 }
sample k.Full = record { kind = Word; content = codes "full"; at = 0; end = 0 }
sample k.Group = record { kind = Word; content = codes "group"; at = 0; end = 0 }
sample k.Having = record { kind = Word; content = codes "having"; at = 0; end = 0 }
sample k.In = record { kind = Word; content = codes "in"; at = 0; end = 0 }
sample k.Inner = record { kind = Word; content = codes "inner"; at = 0; end = 0 }
sample k.Is = record { kind = Word; content = codes "is"; at = 0; end = 0 }
sample k.Join = record { kind = Word; content = codes "join"; at = 0; end = 0 }
sample k.Lateral = record { kind = Word; content = codes "lateral"; at = 0; end = 0 }
sample k.Left = record { kind = Word; content = codes "left"; at = 0; end = 0 }
sample k.Limit = record { kind = Word; content = codes "limit"; at = 0; end = 0 }
sample k.Natural = record { kind = Word; content = codes "natural"; at = 0; end = 0 }
sample k.Not = record { kind = Word; content = codes "not"; at = 0; end = 0 }
sample k.Null = record { kind = Word; content = codes "null"; at = 0; end = 0 }
sample k.Offset = record { kind = Word; content = codes "offset"; at = 0; end = 0 }
sample k.On = record { kind = Word; content = codes "on"; at = 0; end = 0 }
sample k.Or = record { kind = Word; content = codes "or"; at = 0; end = 0 }
sample k.Order = record { kind = Word; content = codes "order"; at = 0; end = 0 }
sample k.Outer = record { kind = Word; content = codes "outer"; at = 0; end = 0 }
sample k.Right = record { kind = Word; content = codes "right"; at = 0; end = 0 }
sample k.Select = record { kind = Word; content = codes "select"; at = 0; end = 0 }
sample k.Then = record { kind = Word; content = codes "then"; at = 0; end = 0 }
sample k.True = record { kind = Word; content = codes "true"; at = 0; end = 0 }
sample k.Union = record { kind = Word; content = codes "union"; at = 0; end = 0 }
sample k.Using = record { kind = Word; content = codes "using"; at = 0; end = 0 }
sample k.When = record { kind = Word; content = codes "when"; at = 0; end = 0 }
sample k.Where = record { kind = Word; content = codes "where"; at = 0; end = 0 }
sample k.With = record { kind = Word; content = codes "with"; at = 0; end = 0 }
sample k.By = record { kind = Word; content = codes "by"; at = 0; end = 0 }
sample k.Nulls = record { kind = Word; content = codes "nulls"; at = 0; end = 0 }
sample k.First = record { kind = Word; content = codes "first"; at = 0; end = 0 }
sample k.Last = record { kind = Word; content = codes "last"; at = 0; end = 0 }
sample k.Unknown = record { kind = Word; content = codes "unknown"; at = 0; end = 0 }
sample k.Name = record { kind = Word; content = codes "a"; at = 0; end = 0 }
sample k.Number = record { kind = Number; content = codes "0"; at = 0; end = 0 }
sample k.Text = record { kind = Text; content = []; at = 0; end = 0 }
sample k.Ne = record { kind = Symbol; content = codes "<>"; at = 0; end = 0 }
sample k.Le = record { kind = Symbol; content = codes "<="; at = 0; end = 0 }
sample k.Ge = record { kind = Symbol; content = codes ">="; at = 0; end = 0 }
sample k.Bars = record { kind = Symbol; content = codes "||"; at = 0; end = 0 }
sample k.Open = record { kind = Symbol; content = codes "("; at = 0; end = 0 }
sample k.Close = record { kind = Symbol; content = codes ")"; at = 0; end = 0 }
sample k.Comma = record { kind = Symbol; content = codes ","; at = 0; end = 0 }
sample k.Dot = record { kind = Symbol; content = codes "."; at = 0; end = 0 }
sample k.Semicolon = record { kind = Symbol; content = codes ";"; at = 0; end = 0 }
sample k.Plus = record { kind = Symbol; content = codes "+"; at = 0; end = 0 }
sample k.Minus = record { kind = Symbol; content = codes "-"; at = 0; end = 0 }
sample k.Star = record { kind = Symbol; content = codes "*"; at = 0; end = 0 }
sample k.Eq = record { kind = Symbol; content = codes "="; at = 0; end = 0 }
sample k.Lt = record { kind = Symbol; content = codes "<"; at = 0; end = 0 }
sample k.Gt = record { kind = Symbol; content = codes ">"; at = 0; end = 0 }
sample k.Nothing = record { kind = Symbol; content = []; at = 0; end = 0 }

pub sampled : (c : Class) → class (sample c) ≡ c
unfolding class words symbols sample
sampled k.All = refl
sampled k.And = refl
sampled k.As = refl
sampled k.Asc = refl
sampled k.Between = refl
sampled k.Case = refl
sampled k.Coalesce = refl
sampled k.Cross = refl
sampled k.Desc = refl
sampled k.Distinct = refl
sampled k.Else = refl
sampled k.End = refl
sampled k.Exists = refl
sampled k.False = refl
sampled k.From = refl
sampled k.Full = refl
sampled k.Group = refl
sampled k.Having = refl
sampled k.In = refl
sampled k.Inner = refl
sampled k.Is = refl
sampled k.Join = refl
sampled k.Lateral = refl
sampled k.Left = refl
sampled k.Limit = refl
sampled k.Natural = refl
sampled k.Not = refl
sampled k.Null = refl
sampled k.Offset = refl
sampled k.On = refl
sampled k.Or = refl
sampled k.Order = refl
sampled k.Outer = refl
sampled k.Right = refl
sampled k.Select = refl
sampled k.Then = refl
sampled k.True = refl
sampled k.Union = refl
sampled k.Using = refl
sampled k.When = refl
sampled k.Where = refl
sampled k.With = refl
sampled k.By = refl
sampled k.Nulls = refl
sampled k.First = refl
sampled k.Last = refl
sampled k.Unknown = refl
sampled k.Name = refl
sampled k.Number = refl
sampled k.Text = refl
sampled k.Ne = refl
sampled k.Le = refl
sampled k.Ge = refl
sampled k.Bars = refl
sampled k.Open = refl
sampled k.Close = refl
sampled k.Comma = refl
sampled k.Dot = refl
sampled k.Semicolon = refl
sampled k.Plus = refl
sampled k.Minus = refl
sampled k.Star = refl
sampled k.Eq = refl
sampled k.Lt = refl
sampled k.Gt = refl
sampled k.Nothing = refl

pub is_same : (c d : Class) → is c d ≡ true → d ≡ c
unfolding same
is_same c d e = same_true the_type (search rules) d c e

pub same_is : (c d : Class) → d ≡ c → is c d ≡ true
unfolding same
same_is c d e = true_same the_type d c e

pub is_sample : (c : Class) → is c (class (sample c)) ≡ true
is_sample c = same_is c (class (sample c)) (sampled c)

-- What the answer to a list of tokens is.
use Rattle.std.specs.Prelude.{ℕ, List, Result, Ok, Err}
use Rattle.jp_ast.specs.declared.tree.Stmt.{Stmt}
use Rattle.jp_ast.specs.declared.errors.ParseError.{ParseError}
use Rattle.jp_ast.specs.declared.errors.ParseError.TheVariants.{Syntax, TooDeep, Memory}
use Rattle.jp_ast.specs.Seen.{Seen}
use Rattle.jp_ast.specs.Grammar.{Derives}
use Rattle.jp_ast.specs.Nesting.{NestsWithin, PassesAt}
use Rattle.jp_ast.specs.Place.{Stuck}

abbrev pub DerivesNone : List Seen → Type 0
DerivesNone ts = (s : Stmt) → Derives ts s → ⊥

-- the statement, or the place where the tokens stop being the beginning of one
abbrev pub ReadAs : List Seen → Result Stmt ℕ → Type 0
ReadAs ts (Ok s) = Derives ts s
ReadAs ts (Err n) = DerivesNone ts × Stuck ts n

-- The nesting is judged before the grammar. Want of memory may come at any time.
abbrev pub ParsedAs : List Seen → Result Stmt ParseError → Type 0
ParsedAs ts (Ok s) = NestsWithin ts × Derives ts s
ParsedAs ts (Err (Syntax n)) = NestsWithin ts × DerivesNone ts × Stuck ts n
ParsedAs ts (Err (TooDeep n)) = PassesAt ts n
ParsedAs ts (Err Memory) = Unit {0}

-- an answer that says something of the tokens
abbrev pub Says : Result Stmt ParseError → Type 0
Says (Err Memory) = ⊥
Says _ = Unit {0}

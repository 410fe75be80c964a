-- The answer to a list of tokens, by the readers.
use Rattle.std.specs.Prelude.{◌≡◌, ◌⊎◌, ℕ, nat_lt, if◌then◌else◌, List, [], ◌∷◌, Option, Some, None, Result, Ok, Err}
use Rattle.jp_base.specs.Answers.{OrMemory}
use Rattle.jp_ast.specs.declared.tree.Stmt.{Stmt}
use Rattle.jp_ast.specs.declared.errors.ParseError.{ParseError}
use Rattle.jp_ast.specs.declared.errors.ParseError.TheVariants.{Syntax, TooDeep, Memory}
use Rattle.jp_ast.specs.Seen.{Seen}
use Rattle.jp_ast.specs.Nesting.{nested, max_nesting}
use Rattle.jp_cursor.specs.Reading.{Outcome}
use Rattle.jp_parse.specs.Readers.{verdict, parsed}

-- the place of the first token behind which more places are open than may be, where `open'` are before the tokens
abbrev pub passing_from : ℕ → List Seen → Option ℕ
passing_from open' [] = None
passing_from open' (t ∷ ts) = if nat_lt max_nesting (nested open' t) then Some t.at else passing_from (nested open' t) ts

abbrev pub as_error : Result Stmt ℕ → Result Stmt ParseError
as_error (Ok s) = Ok s
as_error (Err n) = Err (Syntax n)

-- what a reading of all the tokens is worth
abbrev pub ending : List Seen → Outcome Stmt → Result Stmt ParseError
ending ts outcome = as_error (verdict ts outcome)

abbrev pub judged : List Seen → Option ℕ → Result Stmt ParseError
judged ts (Some n) = Err (TooDeep n)
judged ts None = as_error (parsed ts)

-- the nesting is judged before the grammar
abbrev pub answer : List Seen → Result Stmt ParseError
answer ts = judged ts (passing_from 0 ts)

-- The answer is the defined one. Want of memory may come at any time.
abbrev pub Agrees : Result Stmt ParseError → Result Stmt ParseError → Type 0
Agrees result defined = OrMemory Memory defined result

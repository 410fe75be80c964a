-- What the code of a rule does, against the reader of the rule.
use Rattle.std.specs.Prelude.{◌≡◌, Bool, true, if◌then◌else◌, List, [], ◌∷◌, Option, Some, None, Result, Ok, Err}
use Rattle.std.specs.Borrow.{Bor}
use denote.Ref.{MutBor}
use Rattle.jp_lex.specs.declared.token.Token.{Token}
use Rattle.jp_cursor.specs.declared.stop.Stop.{Stop}
use Rattle.jp_cursor.specs.declared.stop.Stop.TheVariants.{Stuck, Memory}
use Rattle.jp_ast.specs.Seen.{Seen}
use Rattle.jp_cursor.specs.Reading.{Outcome, Reader}
use Rattle.jp_ast.specs.SeenTokens.{seen_token, Fits}
use Rattle.jp_ast.specs.Classes.{class as class_in, first}

-- The result is the reader's, and the cursor stands at what it leaves. Want of memory may come at any time.
abbrev pub Reads : {A : Type 0} → Outcome A → Result A Stop → List Seen → Type 0
Reads outcome (Ok value) left = outcome ≡ Ok (value, left)
Reads outcome (Err Stuck) left = outcome ≡ Err left
Reads outcome (Err Memory) left = Unit {0}

-- a closure reads what the reader reads
abbrev pub ReadsBy : {A : Type 0} → Reader A → (MutBor (List Seen) → Result A Stop → MutBor (List Seen) → Type 0) → Type 0
ReadsBy {A} reader post = (old new : MutBor (List Seen)) (r : Result A Stop) → post old r new → Reads (reader old.now) r new.now

-- the next token, if there is one and it passes
abbrev pub take_if : Bool → Reader Seen
take_if passes [] = Err []
take_if passes (t ∷ ts) = if passes then Ok (t, ts) else Err (t ∷ ts)

abbrev pub Takes : Bool → List Seen → Option (Bor Token) → List Seen → Type 0
Takes passes old None new = take_if passes old ≡ Err new
Takes passes old (Some t) new = take_if passes old ≡ Ok (seen_token t.now, new)

-- what is known of the token that was taken
pub record Taken (passes : Bool) (old : List Seen) (t : Seen) : Type 0 where
  pub passed : passes ≡ true
  pub class : class_in t ≡ first old
  pub fits : Fits t

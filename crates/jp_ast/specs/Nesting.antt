-- How many places are open: each `(` and CASE opens one, and each `)` and END closes one, where one is open.
use Rattle.std.specs.Prelude.{◌≡◌, ℕ, ◌+◌, ◌-◌, ◌<◌, ◌≤◌, List, [], ◌∷◌, ◌++◌, fold}
use Rattle.jp_ast.specs.declared.class.Class.{Class}
use Rattle.jp_ast.specs.declared.class.Class.TheVariants as k
use Rattle.jp_ast.specs.Seen.{Seen}
use Rattle.jp_ast.specs.Classes.{class}

abbrev pub nested_by : Class → ℕ → ℕ
nested_by k.Open places = places + 1
nested_by k.Case places = places + 1
nested_by k.Close places = places - 1
nested_by k.End places = places - 1
nested_by _ places = places

abbrev pub nested : ℕ → Seen → ℕ
nested places t = nested_by (class t) places

-- the places that are open behind the tokens
abbrev pub nesting : List Seen → ℕ
nesting ts = fold nested 0 ts

abbrev pub max_nesting : ℕ
max_nesting = 64

-- at no place more are open
abbrev pub NestsWithin : List Seen → Type 0
NestsWithin ts = (before after : List Seen) → ts ≡ before ++ after → nesting before ≤ max_nesting

-- the first token that opens more stands at the place
pub record PassesAt (ts : List Seen) (at : ℕ) : Type 0 where
  pub before : List Seen
  pub token : Seen
  pub after : List Seen
  pub cut : ts ≡ before ++ (token ∷ after)
  pub within : NestsWithin before
  pub passes : max_nesting < nesting (before ++ (token ∷ []))
  pub place : at ≡ token.at

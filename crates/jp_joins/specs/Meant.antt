-- What an environment of tuples means, and which maps a step gives.
use Rattle.std.specs.Prelude.{ℕ, Bool, List, [], map, filter, Option, Result, Vec}
use Rattle.std.specs.declared.alloc.Global.{Global}
use Rattle.std.specs.List.{flat_map}
use Rattle.jp_base.specs.declared.memory.Memory.{Memory}
use Rattle.jp_base.specs.declared.values.Value.{Value}
use Rattle.jp_query.specs.declared.Expr.{Expr}
use Rattle.jp_query.specs.declared.JoinKind.{JoinKind}
use Rattle.jp_query.specs.declared.JoinKind.TheVariants as join
use Rattle.jp_query.specs.Meaning.{Row, Env, holds, value_given}
use Rattle.jp_frame.specs.Maps.{Map}
use Rattle.jp_frame.specs.Frames.{Left, Semi, Anti}
use Rattle.jp_frame.specs.Methods.{joined_rows, matches, right_first}
use Rattle.jp_joins.specs.Lending.{GivesAt}
use Rattle.jp_joins.specs.declared.tuples.Tuple.{Tuple}
use Rattle.jp_joins.specs.Tuples.{map_of}

pub record Meant : Type 0 where
  pub kind : JoinKind
  -- the rows of the relations where a tuple stands
  pub environment : Map → Env
  -- the rows that each kept sublink has there, by its number
  pub sublink_rows : Map → ℕ → List Row
  -- the sides of the equality by which tuples are looked up, the left side first
  pub key : Option (Expr × Expr)
  -- what a match makes true
  pub on : List Expr
  -- what the tuples of a step by a join have to make true afterwards
  pub filters : List Expr

abbrev pub value_at : Meant → Map → Expr → Value
value_at meant m e = value_given (meant.sublink_rows m) e (meant.environment m)

-- whether a list of conditions holds at a map
unfoldable pub list_holds : Meant → List Expr → Map → Bool
list_holds meant conds m = holds (map (value_given (meant.sublink_rows m)) conds) (meant.environment m)

abbrev pub is_match : Meant → Map → Bool
is_match meant = list_holds meant meant.on

-- a step by a join keeps the tuples that make its filters true, an inner step every match
abbrev pub kept : JoinKind → (Map → Bool) → List Map → List Map
kept join.Inner test rows = rows
kept _ test rows = filter test rows

-- what a left map gives to a step, before its filters
abbrev pub left_gives : JoinKind → (Map → Bool) → List Map → Map → List Map
left_gives join.Inner test right a = matches test right a
left_gives join.Left test right a = joined_rows Left test right a
left_gives join.Semi test right a = joined_rows Semi test right a
left_gives join.Anti test right a = joined_rows Anti test right a
left_gives _ test right a = []

-- the plain list of a step
abbrev pub plain_list : Meant → List Map → List Map → List Map
plain_list meant left right = kept meant.kind (list_holds meant meant.filters) (flat_map (left_gives meant.kind (is_match meant) right) left)

-- the list of a left join from its right side
abbrev pub right_list : Meant → List Map → List Map → List Map
right_list meant left right = filter (list_holds meant meant.filters) (right_first (is_match meant) left right)

-- what is handed in gives the rows of each sublink at each tuple
abbrev pub GivesRows : Meant → (Tuple → ℕ → Result (Vec Row Global) Memory → Type 0) → Type 0
GivesRows meant gives = (t : Tuple) → GivesAt (meant.sublink_rows (map_of t)) (gives t)

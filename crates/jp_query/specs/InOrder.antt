-- When rows stand in the order of a query's ORDER BY.
use Rattle.std.specs.Prelude.{◌≡◌, ℕ, Bool, true, false, List, map, filter, All, Contains}
use Rattle.std.specs.List.Sorted.{IsPermutation}
use Rattle.jp_query.specs.declared.Order.{out-Order}
use Rattle.jp_query.specs.declared.Output.{out-Output}
use Rattle.jp_query.specs.declared.Query.{out-Query}
use Rattle.jp_query.specs.Layers.{Order, Output, Query}
use Rattle.jp_query.specs.Meaning.{Env, ValueIn, SortKey, holds, line_at, value_of, tuples_of}
use Rattle.jp_query.specs.Ordering.{Row, Line, Direction, AreInOrder, outputs_of}

abbrev pub output_of : (ℕ → List Row) → Output → ValueIn
output_of tables output = value_of tables (out-Output output).expr

abbrev pub key_of : (ℕ → List Row) → Order → SortKey
key_of tables order = record { key = value_of tables (out-Order order).expr; desc = (out-Order order).desc; nulls_first = (out-Order order).nulls_first }

-- the tuples of a query's tree that make its conditions hold
abbrev pub passing_tuples : (ℕ → List Row) → Query → Env → List Env
passing_tuples tables query env = filter (holds (map (value_of tables) (out-Query query).conds)) ((tuples_of tables (out-Query query).tree).tuples env)

-- their lines, in the order of the tuples
abbrev pub lines_of : (ℕ → List Row) → Query → Env → List Line
lines_of tables query env = map (line_at (map (output_of tables) (out-Query query).columns) (map (key_of tables) (out-Query query).order)) (passing_tuples tables query env)

abbrev pub direction_of : Order → Direction
direction_of order = record { desc = (out-Order order).desc; nulls_first = (out-Order order).nulls_first }

abbrev pub directions_of : Query → List Direction
directions_of query = map direction_of (out-Query query).order

-- Which lines stand for a query's rows: without DISTINCT each line once, in any order; under DISTINCT each row is that of
-- some line.
abbrev pub StandFor : Bool → List Line → List Line → Type 0
StandFor false all lines = IsPermutation all lines
StandFor true all lines = All (Contains all) lines

-- There are lines with these outputs, each that of a tuple that passes, of which no later one is before an earlier one.
pub record IsInOrder (tables : ℕ → List Row) (query : Query) (env : Env) (rows : List Row) : Type 0 where
  pub lines : List Line
  pub outputs : map outputs_of lines ≡ rows
  pub passing : StandFor (out-Query query).distinct (lines_of tables query env) lines
  pub in_order : AreInOrder (directions_of query) lines

-- The tables that a query names, in the order in which the text first names them, each once.
use Rattle.std.specs.Prelude.{ℕ, ◌==◌, Bool, not, List, [], ◌∷◌, filter}
use Rattle.jp_query.specs.Layers.{Query}
use Rattle.jp_query.specs.Parts.{tables_in}

-- not this number
abbrev pub is_other : ℕ → ℕ → Bool
is_other n m = not (n == m)

-- each number once, where it first stands
abbrev pub first_of_each : List ℕ → List ℕ
first_of_each [] = []
first_of_each (n ∷ numbers) = n ∷ filter (is_other n) (first_of_each numbers)

-- Each table once, in order of first mention. A query is written as its outputs, its FROM items, its WHERE, its ORDER BY
-- items; a join as its left side, its right side, its ON; IN as its operand and its select; and a sub-select or a sublink
-- where it stands. That is the order in which `tables_in` lists the tables.
abbrev pub tables_mentioned : Query → List ℕ
tables_mentioned query = first_of_each (tables_in query)

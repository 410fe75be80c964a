-- Rows with their sort keys, and which of them are the first of the same rows.
use Rattle.std.specs.Prelude.{Bool, not, List, [], ◌∷◌, ◌++◌, map, filter}
use Rattle.std.specs.List.{list_any, zip}
use Rattle.jp_query.specs.Ordering.{Row, Line, outputs_of, same_rows, first_lines}

abbrev pub line_of : Row × Row → Line
line_of pair = record { outputs = pair.0; keys = pair.1 }

-- the rows as lines, each with its keys
abbrev pub lines_with : List Row → List Row → List Line
lines_with rows keys = map line_of (zip rows keys)

abbrev pub without_keys : Row → Line
without_keys row = record { outputs = row; keys = [] }

-- the first of each same row, as DISTINCT keeps it
abbrev pub first_rows : List Row → List Row
first_rows rows = map outputs_of (first_lines (map without_keys rows))

-- ---- which rows are first

-- no earlier row is the same
abbrev pub is_new : List Row → Row → Bool
is_new earlier row = not (list_any (same_rows row) earlier)

-- for each row whether it is new after the earlier ones
abbrev pub news_after : List Row → List Row → List Bool
news_after earlier [] = []
news_after earlier (row ∷ rows) = is_new earlier row ∷ news_after (earlier ++ row ∷ []) rows

abbrev pub chosen_row : {X : Type 0} → X × Bool → X
chosen_row pair = pair.0

abbrev pub is_chosen : {X : Type 0} → X × Bool → Bool
is_chosen pair = pair.1

-- the rows whose mark is true
abbrev pub chosen : {X : Type 0} → List Bool → List X → List X
chosen marks rows = map chosen_row (filter is_chosen (zip rows marks))

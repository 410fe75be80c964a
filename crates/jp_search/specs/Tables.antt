-- The table by sets.
use Rattle.std.specs.Prelude.{ℕ, List, Option, None, get_or}
use Rattle.jp_search.specs.declared.table.Found.{Found}

-- the entry of a set, which is its place as a number
abbrev pub entry_at : List (Option Found) → ℕ → Option Found
entry_at entries set = get_or entries set None

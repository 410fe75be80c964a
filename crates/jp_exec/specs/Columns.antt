-- For each block the columns that it and the blocks behind it name.
use Rattle.std.specs.Prelude.{ℕ, List, map, Vec}
use Rattle.std.specs.declared.alloc.Global.{Global}
use Rattle.std.specs.List.{range_with_len}
use Rattle.jp_tree.specs.declared.prepared.Prepared.{Prepared}
use Rattle.jp_outputs.specs.Columns.{places_from}

-- those of so many blocks
abbrev pub named_by : Prepared → ℕ → List (List (ℕ × ℕ))
named_by prepared count = map (places_from prepared) (range_with_len 0 count)

abbrev pub listed_columns : Vec (ℕ × ℕ) Global → List (ℕ × ℕ)
listed_columns columns = columns.items

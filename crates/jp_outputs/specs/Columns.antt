-- The columns that blocks name, by their relations and their places there.
use Rattle.std.specs.Prelude.{ℕ, List, map, drop}
use Rattle.std.specs.List.{flat_map}
use Rattle.jp_query.specs.declared.Expr.{Expr}
use Rattle.jp_query.specs.Parts.{ColumnRef}
use Rattle.jp_tree.specs.BlockParts.{columns_named, own_columns}
use Rattle.jp_tree.specs.declared.prepared.Block.{Block}
use Rattle.jp_tree.specs.declared.prepared.Prepared.{Prepared}

abbrev pub column_place : ColumnRef → ℕ × ℕ
column_place c = (c.relation, c.column)

-- those of an expression outside the queries of its sublinks
unfoldable pub places_in : Expr → List (ℕ × ℕ)
places_in e = map column_place (own_columns e)

abbrev pub places_of_block : Block → List (ℕ × ℕ)
places_of_block block = map column_place (columns_named block)

-- those of the blocks from a number on
abbrev pub places_from : Prepared → ℕ → List (ℕ × ℕ)
places_from prepared first = flat_map places_of_block (drop first prepared.blocks)

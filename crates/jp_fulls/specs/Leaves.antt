-- The parts of items that are shown, with their places, and the numbers of their rows at a map.
use Rattle.std.specs.Prelude.{ℕ, suc, ◌==◌, ◌&&◌, Bool, true, false, List, [], ◌∷◌, ◌++◌, map, Option, Some, None, slice_index_or, if◌then◌else◌}
use Rattle.jp_query.specs.Meaning.{has}
use Rattle.jp_frame.specs.Maps.{Map, at}
use Rattle.jp_items.specs.Numbers.{Numbered}
use Rattle.jp_items.specs.Seeing.{place_of}
use Rattle.jp_items.specs.declared.rows.RelRows.{RelRows}
use Rattle.jp_items.specs.declared.rows.ItemRows.{ItemRows}
use Rattle.jp_items.specs.declared.rows.ItemRows.TheVariants as item
use Rattle.jp_fulls.specs.declared.apart.Leaf.{Leaf}

abbrev pub rels_of : ItemRows → ℕ
rels_of (item.Single rels part) = rels
rels_of (item.Joined rels parts numbers) = rels

abbrev pub parts_of : ItemRows → List RelRows
parts_of (item.Single rels part) = part ∷ []
parts_of (item.Joined rels parts numbers) = parts.items

-- the row numbers of an item, none where it has one part
abbrev pub numbers_of : ItemRows → Option Numbered
numbers_of (item.Single rels part) = None
numbers_of (item.Joined rels parts numbers) = Some numbers

-- ---- which parts are shown

abbrev pub is_at : Option ℕ → ℕ → Bool
is_at (Some place) item = place == item
is_at None item = false

-- an item with these relations has the relation, and is the first to have it
abbrev pub is_shown : List ℕ → ℕ → ℕ → ℕ → Bool
is_shown layout item rels rel = has rels rel && is_at (place_of layout rel) item

abbrev pub leaf_if : Bool → Leaf → List Leaf
leaf_if true leaf = leaf ∷ []
leaf_if false leaf = []

-- those of an item, of its parts from a place on
abbrev pub leaves_of_parts : List ℕ → ℕ → ℕ → ℕ → List RelRows → List Leaf
leaves_of_parts layout item rels place [] = []
leaves_of_parts layout item rels place (part ∷ parts) =
    leaf_if (is_shown layout item rels part.rel) (record { part = part; item = item; place = place }) ++ leaves_of_parts layout item rels (suc place) parts

abbrev pub leaves_of : List ℕ → ℕ → ItemRows → List Leaf
leaves_of layout item rows = leaves_of_parts layout item (rels_of rows) 0 (parts_of rows)

-- those of items from a number on
abbrev pub leaves_from : List ℕ → ℕ → List ItemRows → List Leaf
leaves_from layout item [] = []
leaves_from layout item (rows ∷ more) = leaves_of layout item rows ++ leaves_from layout (suc item) more

abbrev pub part_of_leaf : Leaf → RelRows
part_of_leaf leaf = leaf.part

-- ---- the numbers of their rows

-- the number of a part's row in a row of the item
abbrev pub number_in : Option Numbered → ℕ → ℕ → Option ℕ
number_in (Some numbers) place row = slice_index_or (slice_index_or numbers.list row []) place None
number_in None place row = Some row

abbrev pub number_of_row : Option Numbered → ℕ → Option ℕ → Option ℕ
number_of_row numbers place (Some row) = number_in numbers place row
number_of_row numbers place None = None

-- The number of a part's row at a map. The relations that are hidden have none.
abbrev pub number_at : List (Option Numbered) → ℕ → Map → Leaf → Option ℕ
number_at numbers hidden m leaf = if has hidden leaf.part.rel then None else number_of_row (slice_index_or numbers leaf.item None) leaf.place (at m leaf.item)

abbrev pub numbers_at : List (Option Numbered) → List Leaf → ℕ → Map → List (Option ℕ)
numbers_at numbers leaves hidden m = map (number_at numbers hidden m) leaves

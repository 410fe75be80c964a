-- The items of a block, from the places and the prices of the blocks that it uses.
use Rattle.std.specs.Prelude.{◌≡◌, ℕ, suc, ◌+◌, ◌*◌, ◌-◌, ◌<◌, ◌≤◌, ◌^◌, Bool, true, false, length, map, List, [], ◌∷◌, ◌++◌, Some, slice_get}
use Rattle.std.specs.Borrow.{Bor}
use Rattle.jp_catalog.specs.declared.types.Catalog.{Catalog}
use Rattle.jp_catalog.specs.declared.types.TableDef.{TableDef}
use Rattle.jp_query.specs.declared.Expr.{Expr}
use Rattle.jp_query.specs.declared.JoinKind.{JoinKind}
use Rattle.jp_query.specs.declared.JoinTree.{JoinTree, out-JoinTree}
use Rattle.jp_query.specs.declared.Query.{Query}
use Rattle.jp_query.specs.declared.Expr.TheOpen.{JoinTree-F}
use Rattle.jp_query.specs.Layers.{JoinTreeLayer}
use Rattle.jp_cost.specs.Estimates.{at_most}
use Rattle.jp_problem.specs.declared.types.Item.{Item}
use Rattle.jp_problem.specs.declared.types.ItemKind.TheVariants as kind
use Rattle.jp_problem.specs.Blocks.{known_rels}
use Rattle.jp_prepared.specs.Items.{distinct_of}
use Rattle.jp_session.specs.declared.prices.Price.{Price}

-- what a plan may give and cost, so that no sum is too large
pub record IsBounded (price : Price) : Type 0 where
  pub rows : price.rows ≤ 2 ^ 60
  pub cost : price.cost ≤ 2 ^ 126

-- a FROM list is no item
abbrev pub is_item_at : JoinTreeLayer → Bool
is_item_at (JoinTree-F.From members conds) = false
is_item_at _ = true

abbrev pub is_item : JoinTree → Bool
is_item tree = is_item_at (out-JoinTree tree)

-- a base table is one of the catalogue
abbrev pub HasTableAt : Catalog → JoinTreeLayer → Type 0
HasTableAt catalog (JoinTree-F.Base rel name table) = table < length catalog.tables
HasTableAt catalog _ = Unit {0}

abbrev pub HasTable : Catalog → JoinTree → Type 0
HasTable catalog tree = HasTableAt catalog (out-JoinTree tree)

-- the number of a block by its place among so many: the last one is block 0
abbrev pub number_of : ℕ → ℕ → ℕ
number_of count place = count - suc place

abbrev pub table_of : ℕ → ℕ → ℕ → TableDef → Item
table_of rels rel table def = record { kind = kind.Base rel table; rels = rels; rows = def.rows; cost = def.rows; distinct = distinct_of def }

abbrev pub select_of : ℕ → ℕ → ℕ → Price → Item
select_of rels rel number price = record { kind = kind.Sub rel number; rels = rels; rows = price.rows; cost = price.rows + price.cost; distinct = [] }

abbrev pub full_of : ℕ → List Expr → ℕ → ℕ → Price → Price → Item
full_of rels on l r left right = record {
  kind = kind.Full l r on;
  rels = rels;
  rows = at_most (left.rows + right.rows);
  cost = at_most (left.rows + right.rows) + (left.cost + (right.cost + left.rows * right.rows));
  distinct = [];
}

module _ (catalog : Catalog) (prices : List Price) (count : ℕ) where
  -- the item of a leaf, of which the blocks have these places
  pub data IsItemOf (rels : ℕ) (leaf : JoinTree) : List ℕ → Item → Type 0 where
    table : {places : List ℕ} {item : Item} (rel table : ℕ) (name text : List ℕ) (def : TableDef) → out-JoinTree leaf ≡ JoinTree-F.Base rel name table → places ≡ [] → slice_get catalog.tables table ≡ Some (text, def) → def.rows ≤ 2 ^ 60
        → item ≡ table_of rels rel table def → IsItemOf rels leaf places item
    select : {places : List ℕ} {item : Item} (rel : ℕ) (name : List ℕ) (query : Query) (place : ℕ) (price : Price) → out-JoinTree leaf ≡ JoinTree-F.Sub rel name query → places ≡ place ∷ [] → slice_get prices place ≡ Some price
        → item ≡ select_of rels rel (number_of count place) price → IsItemOf rels leaf places item
    full : {places : List ℕ} {item : Item} (kind : JoinKind) (left right : JoinTree) (on : List Expr) (l r : ℕ) (lp rp : Price) → out-JoinTree leaf ≡ JoinTree-F.Join kind left right on → places ≡ l ∷ r ∷ [] → slice_get prices l ≡ Some lp → slice_get prices r ≡ Some rp
        → item ≡ full_of rels on (number_of count l) (number_of count r) lp rp → IsItemOf rels leaf places item

  -- the items of leaves one after another, with the places of their blocks one after another
  pub data AreItems : List JoinTree → List ℕ → List Item → Type 0 where
    none : AreItems [] [] []
    more : {leaf : JoinTree} {leaves : List JoinTree} {mine places : List ℕ} {item : Item} {items : List Item} → IsItemOf (known_rels leaf) leaf mine item → AreItems leaves places items → AreItems (leaf ∷ leaves) (mine ++ places) (item ∷ items)

-- what is lent
abbrev pub lent : List (Bor JoinTree) → List JoinTree
lent trees = map (λ (t : Bor JoinTree). t.now) trees

-- What the items of a block are.
use Rattle.std.proofs.Common.{◌≡◌, ap, ap₂, refl, ℕ, List, [], ◌∷◌, map, Option}
use Rattle.std.specs.List.{AllZip}
use Rattle.jp_catalog.specs.declared.types.Catalog.{Catalog}
use Rattle.jp_query.specs.declared.JoinTree.{JoinTree}
use Rattle.jp_problem.specs.declared.types.Item.{Item}
use Rattle.jp_problem.specs.Blocks.{known_rels}
use Rattle.jp_problem.specs.Problems.{rels_of_item}
use Rattle.jp_tree.specs.declared.pool.PlanNode.{PlanNode}
use Rattle.jp_tree.specs.declared.prepared.Block.{Block}
use Rattle.jp_prepared.specs.Planned.{IsItem}
use Rattle.jp_prepared.specs.Sources.{Source}

module _ (catalog : Catalog) (sources : List Source) (block_at : ℕ → Option Block) (nodes : List PlanNode) (number : ℕ) where
  pub has_rels : (leaf : JoinTree) (item : Item) → IsItem catalog sources block_at nodes number leaf item → item.rels ≡ known_rels leaf
  has_rels leaf item (IsItem.table rel table name text def e there few is) = ap rels_of_item is
  has_rels leaf item (IsItem.select rel inner name query block tree e is_inner is) = ap rels_of_item is
  has_rels leaf item (IsItem.full kind left right on l r lb rb lt rt e is_left is_right is) = ap rels_of_item is

  pub have_rels : (leaves : List JoinTree) (items : List Item) → AllZip (IsItem catalog sources block_at nodes number) leaves items → map rels_of_item items ≡ map known_rels leaves
  have_rels [] [] h = refl
  have_rels [] (item ∷ items) h = absurd h
  have_rels (leaf ∷ leaves) [] h = absurd h
  have_rels (leaf ∷ leaves) (item ∷ items) h = ap₂ ◌∷◌ (has_rels leaf item h.0) (have_rels leaves items h.1)

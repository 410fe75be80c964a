-- Each block of a prepared statement can be planned and has its plan, and the blocks of items stand behind.
use Rattle.std.proofs.Common.{◌≡◌, sym, subst, ℕ, ◌<◌, inl, inr, [], ◌∷◌, Some}
use Rattle.std.specs.Prelude.{All, slice_get, length}
use Rattle.std.proofs.lemmas.Option.{slice_get_within}
use Rattle.jp_facts.proofs.Members.{In, to_in, from_flat_map}
use Rattle.jp_catalog.specs.Sound.{IsSound}
use Rattle.jp_catalog.specs.declared.types.Catalog.{Catalog}
use Rattle.jp_query.specs.declared.JoinTree.{JoinTree}
use Rattle.jp_query.specs.declared.Query.{Query}
use Rattle.jp_query.specs.Conditions.{IsTyped, IsBounded}
use Rattle.jp_query.specs.NoRight.{HasNoRight}
use Rattle.jp_resolution.specs.Schemas.{schema_of}
use Rattle.jp_folding.specs.Folding.{folded}
use Rattle.jp_problem.specs.declared.types.Item.{Item}
use Rattle.jp_problem.specs.InnerBlocks.{side_block}
use Rattle.jp_problem.specs.Trees.{Tree}
use Rattle.jp_problem.specs.Made.{IsMade, IsSearchable}
use Rattle.jp_tree.specs.declared.prepared.Block.{Block}
use Rattle.jp_tree.specs.declared.prepared.Prepared.{Prepared}
use Rattle.jp_tree.specs.BlockParts.{blocks_of_item, item_blocks}
use Rattle.jp_tree.specs.Prepared.{IsPlannable, HasPlan, ItemsAreBehind}
use Rattle.jp_prepared.specs.Planned.{IsItem, IsInner, IsPrepared}
use Rattle.jp_prepared.specs.Sources.{items_of_block}
use Rattle.jp_prepared.proofs.PreparedBlocks as blocks
use Rattle.jp_prepared.proofs.SearchLaws.{source_searched}
use Rattle.jp_prepared.proofs.Zips.{of_second}

module _ (catalog : Catalog) (sound : IsSound catalog) (query : Query) (prepared : Prepared) (is : IsPrepared catalog query prepared) where
  module _ (typed : IsTyped (schema_of catalog) [] (folded query)) (bounded : IsBounded (schema_of catalog) [] (folded query)) (no_right : HasNoRight (folded query)) where
    pub plannable : All IsPlannable prepared.blocks
    plannable = blocks.all_blocks catalog sound query prepared is IsPlannable at
      where
        at : (number : ℕ) (block : Block) → slice_get prepared.blocks number ≡ Some block → IsPlannable block
        at number block there =
            let s = blocks.source_of catalog sound query prepared is number block there in
            let can = source_searched catalog sound is.sources (slice_get prepared.blocks) prepared.pool.nodes number (folded query) typed bounded no_right is.are (blocks.ready catalog sound query prepared is number) s.0 block.problem.items s.1 s.2.items in
            record { made = subst IsMade (sym s.2.problem) can.made; searchable = subst IsSearchable (sym s.2.problem) can.searchable }

  pub planned : All (HasPlan prepared) prepared.blocks
  planned = blocks.all_blocks catalog sound query prepared is (HasPlan prepared) (λ number block there. let plan = (blocks.source_of catalog sound query prepared is number block there).2.plan in (plan.tree, plan.is, plan.plan))

  -- ---- blocks of items

  abbrev Behind : ℕ → ℕ → Type 0
  Behind number inner = (number < inner) × (inner < length prepared.blocks)

  inner_behind : (number : ℕ) (q : Query) (inner : ℕ) (block : Block) (t : Tree) → IsInner catalog is.sources (slice_get prepared.blocks) prepared.pool.nodes number q inner block t → Behind number inner
  inner_behind number q inner block t h = (h.behind, slice_get_within prepared.blocks inner block h.there)

  item_behind : (number : ℕ) (leaf : JoinTree) (item : Item) → blocks.IsItemOf catalog sound query prepared is number leaf item → (inner : ℕ) → In inner (blocks_of_item item) → Behind number inner
  item_behind number leaf item (IsItem.table rel table name text def e at few made) inner m = empty (subst (λ (i : Item). In inner (blocks_of_item i)) made m)
    where
      empty : ⊥ → Behind number inner
      empty gone = absurd gone
  item_behind number leaf item (IsItem.select rel place name q block t e below made) inner m = at (subst (λ (i : Item). In inner (blocks_of_item i)) made m)
    where
      at : In inner (place ∷ []) → Behind number inner
      at (inl same) = subst (Behind number) same (inner_behind number q place block t below)
      at (inr gone) = absurd gone
  item_behind number leaf item (IsItem.full kind left right on l r lb rb lt rt e a b made) inner m = at (subst (λ (i : Item). In inner (blocks_of_item i)) made m)
    where
      at : In inner (l ∷ r ∷ []) → Behind number inner
      at (inl same) = subst (Behind number) same (inner_behind number (side_block left) l lb lt a)
      at (inr (inl same)) = subst (Behind number) same (inner_behind number (side_block right) r rb rt b)
      at (inr (inr gone)) = absurd gone

  pub behind : ItemsAreBehind prepared
  behind number inner block there m =
      let s = blocks.source_of catalog sound query prepared is number block there in
      let item = from_flat_map blocks_of_item inner block.problem.items (to_in inner (item_blocks block) m) in
      let leaf = of_second (blocks.IsItemOf catalog sound query prepared is number) (items_of_block s.0.query) block.problem.items s.2.items item.0 item.1 in
      item_behind number leaf.0 item.0 leaf.2 inner item.2

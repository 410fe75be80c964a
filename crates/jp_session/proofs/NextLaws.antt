-- The next part of a list can be planned, and the list isn't long.
use Rattle.std.proofs.Common.{◌≡◌, ◌∙◌, sym, refl, subst, ℕ, zero, suc, ◌+◌, ◌<◌, ◌≤◌, ◌^◌, inl, inr, List, [], ◌∷◌, ◌++◌, length, slice_get, Some, arith}
use Rattle.std.specs.List.{flat_map}
use Rattle.jp_facts.proofs.Members.{In, from_in, in_append_left, in_append_right, in_flat_map, from_flat_map, in_map}
use Rattle.jp_catalog.specs.declared.types.Catalog.{Catalog}
use Rattle.jp_query.specs.declared.Expr.TheOpen.{JoinTree-F}
use Rattle.jp_query.specs.declared.JoinTree.{JoinTree, out-JoinTree}
use Rattle.jp_query.specs.declared.Query.{Query}
use Rattle.jp_query.specs.Layers.{JoinTreeLayer}
use Rattle.jp_query.specs.Outermost.{outermost}
use Rattle.jp_induction.proofs.EachPart.{Each, all_of_each}
use Rattle.jp_problem.specs.Blocks.{block_exprs}
use Rattle.jp_problem.specs.InnerBlocks.{IsBlockOf, inner_blocks, query_of, sublink_queries, exprs_of_item}
use Rattle.jp_problem.specs.Made.{IsBlock}
use Rattle.jp_resolution.specs.Schemas.{schema_of}
use Rattle.jp_tree.specs.declared.pool.PlanNode.{PlanNode}
use Rattle.jp_tree.specs.declared.prepared.Block.{Block}
use Rattle.jp_tree.specs.Pools.{GrowsTo}
use Rattle.jp_prepared.specs.Sources.{AreSources, IsSourceAt, Source, items_of_block, queries_of_items}
use Rattle.jp_prepared.proofs.BlockLaws.{blocks_are_blocks, table_there}
use Rattle.jp_prepared.proofs.SearchLaws.{source_searched}
use Rattle.jp_session.specs.declared.gathering.Entry.{Entry}
use Rattle.jp_session.specs.declared.prices.Price.{Price}
use Rattle.jp_session.specs.declared.sources.Part.{Part}
use Rattle.jp_session.specs.Blocks.{AreMade, CanBePlanned, IsListOf, IsPlanned, block_from_end}
use Rattle.jp_session.specs.Found.{source_of, sources_of}
use Rattle.jp_session.specs.Items.{HasTable, HasTableAt, IsBounded, number_of}
use Rattle.jp_session.specs.Parts.{item_part}
use Rattle.jp_session.specs.Visits.{IsPut}
use Rattle.jp_session.proofs.BlockLaws.{AtPlaces, block_places, items_are, made_behind, one_more, places_count}
use Rattle.jp_session.proofs.Places.{there, turned_at, within}
use Rattle.jp_session.proofs.SourceLaws.{IsSettledAt, Uses, are_settled, are_sources, behind, count_is, last_is, settled_at, uses, gap}

each_place : {X : Type 0} (P : X → Type 0) (xs : List X) → ((i : ℕ) (x : X) → slice_get xs i ≡ Some x → P x) → Each P xs
each_place P [] h = tt
each_place P (x ∷ xs) h = (h 0 x refl, each_place P xs (λ i y e. h (suc i) y e))

each_member : {X : Type 0} (P : X → Type 0) (xs : List X) → ((x : X) → In x xs → P x) → Each P xs
each_member P [] h = tt
each_member P (x ∷ xs) h = (h x (inl refl), each_member P xs (λ y k. h y (inr k)))

low_places : {entries : List Entry} {qs : List Query} {ps : List ℕ} → AtPlaces entries qs ps → Each (λ p. p < length entries) ps
low_places AtPlaces.none = tt
low_places {entries} (AtPlaces.more {p} at h) = (within entries p at.entry at.there, low_places h)

-- ---- each part is a block

pub as_inner : (b : Query) (part : Part) → Uses b part → In part.query (inner_blocks b)
as_inner b part (Uses.item q h e) =
    subst (λ (p : Part). In p.query (inner_blocks b)) e
    (in_append_left q (queries_of_items b) (flat_map sublink_queries (block_exprs b ++ flat_map exprs_of_item (items_of_block b))) h)
as_inner b part (Uses.sublink o h e) =
    let exprs = block_exprs b ++ flat_map exprs_of_item (items_of_block b) in
    let k = from_flat_map outermost o exprs h in
    subst (λ (p : Part). In p.query (inner_blocks b)) e
    (in_append_right o.query (queries_of_items b) (flat_map sublink_queries exprs) (in_flat_map sublink_queries k.0 o.query exprs k.1 (in_map query_of o (outermost k.0) k.2)))

module _ (q : Query) (entries : List Entry) (put : IsPut [] (item_part q) entries) where
  block_from : (n i k : ℕ) (e : Entry) → k < n → i + k + 1 ≡ length entries → slice_get entries i ≡ Some e → IsBlockOf q e.part.query
  block_from zero i k e low c h = absurd (omega (arith, low))
  block_from (suc n) i zero e low c h = subst (λ (x : Entry). IsBlockOf q x.part.query) (last_is q entries put i e c h) IsBlockOf.itself
  block_from (suc n) i (suc k) e low c h =
      let b = behind q entries put i e (omega (arith, count_is q entries put, c)) h in
      let m = gap b.at (length entries) (within entries b.at b.entry b.there) in
      let outer = block_from n b.at m.0 b.entry (omega (arith, m.1, b.behind, c, low)) m.1 b.there in
      IsBlockOf.inside outer (from_in e.part.query (inner_blocks b.entry.part.query) (as_inner b.entry.part.query e.part (uses b.entry.part.query e.part b.uses)))

  pub is_block_of : (i : ℕ) (e : Entry) → slice_get entries i ≡ Some e → IsBlockOf q e.part.query
  is_block_of i e h = let k = gap i (length entries) (within entries i e h) in block_from (suc k.0) i k.0 e (omega arith) k.1 h

has_table : (catalog : Catalog) (leaf : JoinTree) (x : JoinTreeLayer) → out-JoinTree leaf ≡ x → ((rel : ℕ) (name : List ℕ) (table : ℕ) → out-JoinTree leaf ≡ JoinTree-F.Base rel name table → table < length catalog.tables) → HasTable catalog leaf
has_table catalog leaf (JoinTree-F.Base rel name table) e h = subst (HasTableAt catalog) (sym e) (h rel name table e)
has_table catalog leaf (JoinTree-F.Sub rel name query) e h = subst (HasTableAt catalog) (sym e) tt
has_table catalog leaf (JoinTree-F.Join kind left right on) e h = subst (HasTableAt catalog) (sym e) tt
has_table catalog leaf (JoinTree-F.From members conds) e h = subst (HasTableAt catalog) (sym e) tt

module _ (catalog : Catalog) (q : Query) (entries : List Entry) (list : IsListOf catalog q entries) (blocks : List Block) (prices : List Price) (nodes : List PlanNode) (made : AreMade catalog entries blocks prices nodes)
    (entry : Entry) (at : slice_get entries (length blocks) ≡ Some entry) where
  abbrev sources : List Source
  sources = sources_of entries

  settled_here : IsSettledAt entries (length blocks) entry
  settled_here = settled_at (are_settled q entries list.put) (length blocks) entry at

  places_here : AtPlaces settled_here.before (queries_of_items entry.part.query) entry.inner
  places_here = block_places settled_here.before entry.part.query entry.inner settled_here.found

  are : AreSources q sources
  are = are_sources q entries list.put list.fresh

  number_here : ℕ
  number_here = number_of (length entries) (length blocks)

  source_here : IsSourceAt sources (number_of (length entries) (length blocks)) (source_of entry)
  source_here = let low = within entries (length blocks) entry at in turned_at source_of entries (length blocks) (number_of (length entries) (length blocks)) entry (omega (arith, low)) at

  block_is : IsBlock q
  block_is = record { schema = schema_of catalog; outer = []; typed = list.typed; bounded = list.bounded; no_right = list.no_right }

  pub can_plan : length entries ≤ 2 ^ 32 → CanBePlanned catalog prices (length entries) entry
  can_plan few = record {
    block = blocks_are_blocks q entry.part.query block_is (is_block_of q entries list.put (length blocks) entry at);
    tables = all_of_each (HasTable catalog) (items_of_block entry.part.query) (each_member (HasTable catalog) (items_of_block entry.part.query) (λ leaf h. has_table catalog leaf (out-JoinTree leaf) refl (λ rel name table out.
        (let t = table_there catalog q sources list.typed list.bounded list.no_right are (number_of (length entries) (length blocks)) (source_of entry) leaf rel name table source_here (from_in leaf (items_of_block entry.part.query) h) out in
        within catalog.tables table t.0 t.1))));
    places = places_count places_here;
    there = all_of_each (λ place. place < length prices) entry.inner (subst (λ n. Each (λ place. place < n) entry.inner) (settled_here.at ∙ sym made.same) (low_places places_here));
    more = (let low = within entries (length blocks) entry at in omega (arith, low, made.same));
    few = few;
    bounded = all_of_each IsBounded prices (each_place IsBounded prices (λ i p h. (let low = within prices i p h in let b = there blocks i (omega (arith, low, made.same)) in (made.priced i b.0 p b.1 h).bounded)));
    can = λ items them.
        (let s = settled_here in
        source_searched catalog list.sound sources (block_from_end (length entries) blocks) nodes (number_of (length entries) (length blocks)) q list.typed list.bounded list.no_right are
        (made_behind catalog entries blocks prices nodes made s.before s.behind entry s.is s.at) (source_of entry) items source_here
        (items_are catalog entries blocks prices nodes made s.before s.behind entry s.is s.at them places_here));
  }

  pub next_made : (block : Block) (price : Price) (new : List PlanNode) → IsPlanned catalog prices (length entries) entry new block price → GrowsTo nodes new → AreMade catalog entries (blocks ++ block ∷ []) (prices ++ price ∷ []) new
  next_made block price new planned grows =
      subst (AreMade catalog entries (blocks ++ block ∷ []) (prices ++ price ∷ [])) (sym grows.1)
      (one_more catalog entries blocks prices nodes made settled_here.before settled_here.behind entry settled_here.is settled_here.at grows.0 block price
      (subst (λ ns. IsPlanned catalog prices (length entries) entry ns block price) grows.1 planned) places_here)

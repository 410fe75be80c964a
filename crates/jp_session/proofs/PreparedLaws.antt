-- The blocks of a list, read from its end, are those of the prepared statement.
use Rattle.std.proofs.Common.{◌≡◌, ◌∙◌, ap, sym, refl, subst, ℕ, List, [], ◌∷◌, ◌++◌, length, slice_get, Some, append-nil, append_assoc, arith}
use Rattle.jp_catalog.specs.Sound.{IsSound}
use Rattle.jp_catalog.specs.declared.types.Catalog.{Catalog}
use Rattle.jp_query.specs.Conditions.{IsBounded, IsTyped}
use Rattle.jp_query.specs.Freshness.{IsFresh}
use Rattle.jp_query.specs.NoRight.{HasNoRight}
use Rattle.jp_query.specs.declared.Query.{Query}
use Rattle.jp_resolution.specs.Schemas.{schema_of}
use Rattle.jp_problem.specs.Made.{IsBlock}
use Rattle.jp_tree.specs.declared.pool.PlanNode.{PlanNode}
use Rattle.jp_tree.specs.declared.prepared.Block.{Block}
use Rattle.jp_tree.specs.declared.prepared.Prepared.{Prepared}
use Rattle.jp_folding.specs.Folding.{folded}
use Rattle.jp_prepared.specs.Names.{names_of}
use Rattle.jp_prepared.specs.Planned.{IsBlockFrom, IsPrepared}
use Rattle.jp_prepared.specs.Sources.{Source}
use Rattle.jp_session.specs.declared.gathering.Entry.{Entry}
use Rattle.jp_session.specs.declared.prices.Price.{Price}
use Rattle.jp_session.specs.Blocks.{AreMade, IsBlockList, IsListOf, block_from_end}
use Rattle.jp_session.specs.Found.{source_of, sources_of}
use Rattle.jp_session.specs.Items.{number_of}
use Rattle.jp_session.specs.Parts.{item_part}
use Rattle.jp_session.specs.Turned.{turned}
use Rattle.jp_session.specs.Visits.{IsPut}
use Rattle.jp_session.proofs.BlockLaws.{block_grows, place_of_block}
use Rattle.jp_session.proofs.Places.{turned_at, turned_length, from_turned}
use Rattle.jp_session.proofs.SourceLaws.{are_sources}

turned_last : (bs : List Block) (b : Block) → turned (λ (x : Block). x) (bs ++ b ∷ []) ≡ b ∷ turned (λ (x : Block). x) bs
unfolding turned
turned_last [] b = refl
turned_last (x ∷ bs) b = ap (λ ys. ys ++ x ∷ []) (turned_last bs b)

-- what is left to be put is put behind what was put
pub put_behind : (list left rest all : List Block) (block : Block) → left ≡ rest ++ block ∷ [] → list ++ turned (λ (b : Block). b) left ≡ all → (list ++ block ∷ []) ++ turned (λ (b : Block). b) rest ≡ all
put_behind list left rest all block e h = append_assoc list (block ∷ []) (turned (λ (b : Block). b) rest) ∙ ap (λ bs. list ++ bs) (sym (turned_last rest block) ∙ ap (turned (λ (b : Block). b)) (sym e)) ∙ h

pub nothing_left : (left all list : List Block) → length left ≡ 0 → list ++ turned (λ (b : Block). b) left ≡ all → list ≡ all
unfolding turned
nothing_left [] all list e h = sym (append-nil list) ∙ h
nothing_left (b ∷ left) all list e h = absurd (omega (arith, e))

pub listed : (catalog : Catalog) (q : Query) (entries : List Entry) (blocks list : List Block) (prices : List Price) (nodes : List PlanNode) → IsListOf catalog q entries → AreMade catalog entries blocks prices nodes → length blocks ≡ length entries
    → list ≡ turned (λ (b : Block). b) blocks → IsBlockList catalog q list nodes
listed catalog q entries blocks list prices nodes is made all e = record {
  sources = sources_of entries;
  are = are_sources q entries is.put is.fresh;
  count = omega (arith, ap length e, turned_length (λ (b : Block). b) blocks, turned_length source_of entries, all);
  each = λ number source block hs hb. (
      let f = from_turned source_of entries number source hs in
      let g = from_turned (λ (b : Block). b) blocks number block (ap (λ bs. slice_get bs number) (sym e) ∙ hb) in
      let same : g.place ≡ f.place = omega (arith, f.counted, g.counted, all) in
      let at : slice_get blocks f.place ≡ Some block = ap (slice_get blocks) (sym same) ∙ g.there ∙ ap Some g.is in
      let number_is : number_of (length entries) f.place ≡ number = omega (arith, f.counted) in
      let from = made.are f.place f.member block f.there at in
      let numbered = subst (λ n. IsBlockFrom catalog (sources_of entries) (block_from_end (length entries) blocks) nodes n (source_of f.member) block) number_is from in
      let sourced = subst (λ (s : Source). IsBlockFrom catalog (sources_of entries) (block_from_end (length entries) blocks) nodes number s block) f.is numbered in
      subst (λ ns. IsBlockFrom catalog (sources_of entries) (slice_get list) ns number source block) (append-nil nodes)
      (block_grows catalog (sources_of entries) (block_from_end (length entries) blocks) (slice_get list) nodes [] stays number source block sourced)
      );
}
  where
    stays : (n : ℕ) (b : Block) → block_from_end (length entries) blocks n ≡ Some b → slice_get list n ≡ Some b
    stays n b h =
        let p = place_of_block (length entries) n blocks b h in
        ap (λ bs. slice_get bs n) e ∙ turned_at (λ (x : Block). x) blocks (number_of (length entries) n) n b (omega (arith, p.0, all)) p.1

pub is_list : (catalog : Catalog) (q : Query) (entries : List Entry) → IsSound catalog → IsTyped (schema_of catalog) [] q → IsBounded (schema_of catalog) [] q → HasNoRight q → IsFresh q → IsPut [] (item_part q) entries → IsListOf catalog q entries
is_list catalog q entries sound typed bounded no_right fresh put = record { put = put; sound = sound; typed = typed; bounded = bounded; no_right = no_right; fresh = fresh }

pub is_block : (catalog : Catalog) (q : Query) → IsTyped (schema_of catalog) [] q → IsBounded (schema_of catalog) [] q → HasNoRight q → IsBlock q
is_block catalog q typed bounded no_right = record { schema = schema_of catalog; outer = []; typed = typed; bounded = bounded; no_right = no_right }

pub is_prepared : (catalog : Catalog) (q : Query) (prepared : Prepared) → IsBlockList catalog (folded q) prepared.blocks prepared.pool.nodes → prepared.names ≡ names_of catalog q → IsPrepared catalog q prepared
is_prepared catalog q prepared h names = record { sources = h.sources; are = h.are; count = h.count; blocks = h.each; names = names }

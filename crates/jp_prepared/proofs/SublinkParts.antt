-- Each sublink of a prepared statement has one block, behind the block in which it stands.
use Rattle.std.proofs.Common.{◌≡◌, ◌∙◌, ap, ap₂, sym, refl, ℕ, Bool, List, [], ◌∷◌, ◌++◌, map, Some}
use Rattle.std.specs.Prelude.{slice_get}
use Rattle.std.specs.List.{flat_map}
use Rattle.std.proofs.lemmas.List.Elements.{All-contains}
use Rattle.jp_facts.proofs.Members.{In, to_in, from_in, from_flat_map, in_flat_map}
use Rattle.jp_catalog.specs.Sound.{IsSound}
use Rattle.jp_catalog.specs.declared.types.Catalog.{Catalog}
use Rattle.jp_query.specs.declared.Expr.{Expr}
use Rattle.jp_query.specs.declared.Output.{Output}
use Rattle.jp_query.specs.declared.Query.{Query, out-Query}
use Rattle.jp_query.specs.Conditions.{IsTyped, IsBounded}
use Rattle.jp_query.specs.NoRight.{HasNoRight}
use Rattle.jp_query.specs.Outermost.{Outer, outermost}
use Rattle.jp_query.specs.Parts.{base_leaves_in}
use Rattle.jp_query.specs.Refs.{only, union}
use Rattle.jp_query.specs.Typing.{Typed, TypedOutput, TypedQuery, output_type, expr_type, tree_typed, order_typed, output_typed, query_typed, typed_query}
use Rattle.jp_query.proofs.FoldLaws as laws
use Rattle.jp_resolution.specs.Schemas.{schema_of}
use Rattle.jp_laws.proofs.GatheredLaws.{typed_output as typed_of_output}
use Rattle.jp_folding.specs.Folding.{folded}
use Rattle.jp_problem.specs.Blocks.{block_exprs}
use Rattle.jp_problem.specs.InnerBlocks.{exprs_of_item}
use Rattle.jp_conditions.proofs.Judging.{each_in}
use Rattle.jp_tree.specs.declared.prepared.Block.{Block}
use Rattle.jp_tree.specs.declared.prepared.Prepared.{Prepared}
use Rattle.jp_tree.specs.BlockParts.{exprs_in, sublinks_of, in_sublinks_of, outermost_ins, output_ty}
use Rattle.jp_tree.specs.Prepared.{HasOneBlock, SublinksHaveBlocks, InsGiveOne}
use Rattle.jp_prepared.specs.Planned.{IsPrepared}
use Rattle.jp_prepared.specs.Sources.{Source, IsSourceAt, HasBehind, items_of_block, sublinks_of_block, of_sublink}
use Rattle.jp_prepared.proofs.InsLaws.{HasOneOutput, ins_fine}
use Rattle.jp_prepared.proofs.Places.{placed_there}
use Rattle.jp_prepared.proofs.PreparedBlocks as blocks
use Rattle.jp_prepared.proofs.SourcePlaces as there

-- the stated types of a query's outputs
stated_types : (q : Query) → map output_ty (out-Query q).columns ≡ (typed_query q).outputs
stated_types q = each (out-Query q).columns ∙ sym (ap (λ (t : TypedQuery). t.outputs) (laws.at-Query Typed Bool Typed TypedOutput TypedQuery expr_type tree_typed order_typed output_typed query_typed q))
  where
    each : (us : List Output) → map output_ty us ≡ map output_type (map typed_of_output us)
    each [] = refl
    each (u ∷ us) = ap₂ ◌∷◌ (sym (ap (λ (t : TypedOutput). t.type) (laws.at-Output Typed Bool Typed TypedOutput TypedQuery expr_type tree_typed order_typed output_typed query_typed u))) (each us)

module _ (catalog : Catalog) (sound : IsSound catalog) (query : Query) (prepared : Prepared) (is : IsPrepared catalog query prepared) where
  -- the sublinks of a block are those of its source
  pub of_source : (number : ℕ) (source : Source) (block : Block) → blocks.IsFrom catalog sound query prepared is number source block → (e : Expr) (o : Outer) → In e (exprs_in block) → In o (outermost e) → In o (sublinks_of_block source.query)
  of_source number source block from e o m h =
      in_flat_map outermost e o (block_exprs source.query ++ flat_map exprs_of_item (items_of_block source.query)) (blocks.block_expr catalog sound query prepared is number source block from e m) h

  one_block : (number : ℕ) (source : Source) (block : Block) → IsSourceAt is.sources number source → blocks.IsFrom catalog sound query prepared is number source block → (o : Outer) → In o (sublinks_of_block source.query) → HasOneBlock prepared number o.number
  one_block number source block at from o m =
      let behind = All-contains (λ s. HasBehind is.sources number (of_sublink s)) (sublinks_of_block source.query) o (is.are.sublinks number source at) (from_in o (sublinks_of_block source.query) m) in
      let inner = blocks.block_of catalog sound query prepared is behind.0 (of_sublink o) behind.2 in
      let made = is.blocks behind.0 (of_sublink o) inner.0 behind.2 inner.1 in
      record {
        place = behind.0;
        is = record { block = inner.0; there = inner.1; named = made.sub };
        behind = behind.1;
        only = λ other h. let s = blocks.source_of catalog sound query prepared is other h.block h.there in is.are.one other behind.0 o.number s.0 (of_sublink o) s.1 behind.2 (sym s.2.sub ∙ h.named) refl;
      }

  pub have_blocks : SublinksHaveBlocks prepared
  have_blocks number block o there m =
      let s = blocks.source_of catalog sound query prepared is number block there in
      let f = from_flat_map outermost o (exprs_in block) (to_in o (sublinks_of block) m) in
      one_block number s.0 block s.1 s.2 o (of_source number s.0 block s.2 f.0 o f.1 f.2)

  module _ (typed : IsTyped (schema_of catalog) [] (folded query)) (bounded : IsBounded (schema_of catalog) [] (folded query)) (no_right : HasNoRight (folded query)) where
    pub give_one : InsGiveOne prepared
    give_one number place block inner o at_block m at_inner named =
        let s = blocks.source_of catalog sound query prepared is number block at_block in
        let f = from_flat_map outermost_ins o (exprs_in block) (to_in o (in_sublinks_of block) m) in
        let bases = union (map only (base_leaves_in (folded query))) in
        let placed = there.source_placed (schema_of catalog) bases (folded query) is.sources is.are (placed_there (schema_of catalog) [] (folded query) typed bounded no_right) number s.0 s.1 in
        let exprs = block_exprs s.0.query ++ flat_map exprs_of_item (items_of_block s.0.query) in
        let e = each_in (there.ExprSomewhere (schema_of catalog) bases there.Any) exprs f.0 (there.exprs_there (schema_of catalog) bases there.Any placed.0 s.0.query placed.1) (blocks.block_expr catalog sound query prepared is number s.0 block s.2 f.0 f.1) in
        let fine = each_in (λ x. In x (outermost f.0) × HasOneOutput x) (outermost_ins f.0) o (ins_fine f.0 e.1.0.1.0.0.0) f.2 in
        let behind = All-contains (λ x. HasBehind is.sources number (of_sublink x)) (sublinks_of_block s.0.query) o (is.are.sublinks number s.0 s.1) (from_in o (sublinks_of_block s.0.query) (of_source number s.0 block s.2 f.0 o f.1 fine.0)) in
        let t = blocks.source_of catalog sound query prepared is place inner at_inner in
        let same : place ≡ behind.0 = is.are.one place behind.0 o.number t.0 (of_sublink o) t.1 behind.2 (sym t.2.sub ∙ named) refl in
        let source : t.0 ≡ of_sublink o = unsome t.0 (of_sublink o) (sym t.1 ∙ ap (slice_get is.sources) same ∙ behind.2) in
        (fine.1.0, ap (map output_ty) (t.2.columns ∙ ap (λ (x : Source). (out-Query x.query).columns) source) ∙ stated_types o.query ∙ fine.1.1, fine.1.1)
      where
        unsome : (a b : Source) → Some a ≡ Some b → a ≡ b
        unsome a b e = cc

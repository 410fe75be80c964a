-- The expressions of each block are typed, its outputs have their types, and its conditions are booleans.
use Rattle.std.proofs.Common.{◌≡◌, ◌∙◌, ap, sym, subst, ℕ, inl, inr, Bool, true, ◌&&◌, [], ◌++◌, map}
use Rattle.std.specs.Prelude.{All, slice_get}
use Rattle.std.specs.List.{flat_map}
use Rattle.std.proofs.lemmas.Bool.{and_parts}
use Rattle.jp_base.specs.declared.values.Ty.TheVariants as ty
use Rattle.jp_facts.proofs.Members.{In, from_append, from_map, from_flat_map}
use Rattle.jp_catalog.specs.Sound.{IsSound}
use Rattle.jp_catalog.specs.declared.types.Catalog.{Catalog}
use Rattle.jp_query.specs.declared.Expr.{Expr}
use Rattle.jp_query.specs.declared.JoinTree.{JoinTree, out-JoinTree, roll-out-JoinTree}
use Rattle.jp_query.specs.declared.Order.{Order}
use Rattle.jp_query.specs.declared.Output.{Output}
use Rattle.jp_query.specs.declared.Query.{Query, out-Query, roll-out-Query}
use Rattle.jp_query.specs.declared.Expr.TheOpen.{JoinTree-F}
use Rattle.jp_query.specs.declared.Expr.TheFolds.{map-JoinTree, fold-roll-JoinTree}
use Rattle.jp_query.specs.Conditions.{IsTyped, IsBounded}
use Rattle.jp_query.specs.NoRight.{HasNoRight}
use Rattle.jp_query.specs.Layers.{JoinTreeLayer}
use Rattle.jp_query.specs.Parts.{base_leaves_in}
use Rattle.jp_query.specs.Refs.{only, union}
use Rattle.jp_query.specs.Scopes.{Scope}
use Rattle.jp_query.specs.Typing.{Typed, TypedOutput, TypedQuery, is_of, are_conditions, expr_type, tree_typed, order_typed, output_typed, query_typed, type_of, tree_is_typed, typed_query, IsTypedExpr, IsBoolean}
use Rattle.jp_query.proofs.FoldLaws as laws
use Rattle.jp_resolution.specs.Schemas.{schema_of}
use Rattle.jp_laws.proofs.EachPart.{all_of_each, each_weaker}
use Rattle.jp_laws.proofs.GatheredLaws.{typed_order, typed_output as typed_of_output}
use Rattle.jp_laws.proofs.ValuesFit.{is_of_some}
use Rattle.jp_folding.proofs.FineDown.{above}
use Rattle.jp_folding.specs.Folding.{folded}
use Rattle.jp_problem.specs.declared.types.Problem.{Problem}
use Rattle.jp_problem.specs.Blocks.{block_exprs, output_expr, outline_of}
use Rattle.jp_problem.specs.InnerBlocks.{exprs_at, exprs_of_item}
use Rattle.jp_problem.specs.Made.{IsBlock, item_exprs, join_exprs}
use Rattle.jp_problem.specs.MinimumSets.{specials_in}
use Rattle.jp_problem.specs.Problems.{clause_of, clauses_in}
use Rattle.jp_problem.specs.StepClauses.{expr_of}
use Rattle.jp_conditions.proofs.Covering.{typed_on}
use Rattle.jp_conditions.proofs.Judging.{each_in}
use Rattle.jp_conditions.proofs.LaidBlocks.{laid}
use Rattle.jp_conditions.proofs.Laying.{condition_at}
use Rattle.jp_tree.specs.declared.prepared.Block.{Block}
use Rattle.jp_tree.specs.declared.prepared.Prepared.{Prepared}
use Rattle.jp_tree.specs.BlockParts.{exprs_in, conditions_in, output_ty}
use Rattle.jp_tree.specs.Prepared.{HasItsType}
use Rattle.jp_prepared.specs.Planned.{IsPrepared}
use Rattle.jp_prepared.specs.Sources.{Source, IsSourceAt, items_of_block}
use Rattle.jp_prepared.proofs.Counted.{each_by}
use Rattle.jp_prepared.proofs.Places.{QueryPlaced, OutputPlaced, placed_down, placed_there}
use Rattle.jp_prepared.proofs.PreparedBlocks as blocks
use Rattle.jp_prepared.proofs.SearchLaws.{all_on, source_searched}
use Rattle.jp_prepared.proofs.SourcePlaces as there

-- the ON list of a typed join
on_boolean : (t : JoinTree) → tree_is_typed t ≡ true → (e : Expr) → In e (exprs_of_item t) → is_of ty.Boolean (type_of e) ≡ true
on_boolean t typed e m = at (out-JoinTree t) (sym (fold-roll-JoinTree Typed Bool Typed TypedOutput TypedQuery expr_type tree_typed order_typed output_typed query_typed (out-JoinTree t)) ∙ ap tree_is_typed (roll-out-JoinTree t) ∙ typed) m
  where
    at : (x : JoinTreeLayer) → tree_typed (map-JoinTree Expr JoinTree Order Output Query Typed Bool Typed TypedOutput TypedQuery type_of tree_is_typed typed_order typed_of_output typed_query x) ≡ true → In e (exprs_at x) → is_of ty.Boolean (type_of e) ≡ true
    at (JoinTree-F.Join kind left right on) h k =
        let p = and_parts (tree_is_typed left) (tree_is_typed right && are_conditions (map type_of on)) h in
        condition_at on e (and_parts (tree_is_typed right) (are_conditions (map type_of on)) p.1).1 k
    at (JoinTree-F.Base rel name table) h gone = absurd gone
    at (JoinTree-F.Sub rel name query) h gone = absurd gone
    at (JoinTree-F.From members conds) h gone = absurd gone

module _ (catalog : Catalog) (sound : IsSound catalog) (query : Query) (prepared : Prepared) (is : IsPrepared catalog query prepared)
    (typed : IsTyped (schema_of catalog) [] (folded query)) (bounded : IsBounded (schema_of catalog) [] (folded query)) (no_right : HasNoRight (folded query)) where
  abbrev bases : ℕ
  bases = union (map only (base_leaves_in (folded query)))

  placed : (number : ℕ) (source : Source) → IsSourceAt is.sources number source → (s : Scope) × there.BlockThere (schema_of catalog) bases there.Any s source.query
  placed number source at = there.source_placed (schema_of catalog) bases (folded query) is.sources is.are (placed_there (schema_of catalog) [] (folded query) typed bounded no_right) number source at

  pub typed_exprs : All (λ (b : Block). All IsTypedExpr (exprs_in b)) prepared.blocks
  typed_exprs = blocks.all_blocks catalog sound query prepared is (λ (b : Block). All IsTypedExpr (exprs_in b)) (λ number block at.
      let s = blocks.source_of catalog sound query prepared is number block at in
      let p = placed number s.0 s.1 in
      let exprs = block_exprs s.0.query ++ flat_map exprs_of_item (items_of_block s.0.query) in
      all_of_each IsTypedExpr (exprs_in block) (each_by IsTypedExpr (exprs_in block) (λ e m.
      (each_in (there.ExprSomewhere (schema_of catalog) bases there.Any) exprs e (there.exprs_there (schema_of catalog) bases there.Any p.0 s.0.query p.1) (blocks.block_expr catalog sound query prepared is number s.0 block s.2 e m)).1.0.1.0.0.0)))

  output_typed_there : (u : Output) → (typed_of_output u).is_typed ≡ true → HasItsType u
  output_typed_there u h = is_of_some (output_ty u) (type_of (output_expr u)) (sym (ap (λ (t : TypedOutput). t.is_typed) (laws.at-Output Typed Bool Typed TypedOutput TypedQuery expr_type tree_typed order_typed output_typed query_typed u)) ∙ h)

  pub typed_outputs : All (λ (b : Block). All HasItsType b.columns) prepared.blocks
  typed_outputs = blocks.all_blocks catalog sound query prepared is (λ (b : Block). All HasItsType b.columns) (λ number block at.
      let s = blocks.source_of catalog sound query prepared is number block at in
      let p = placed number s.0 s.1 in
      let q = s.0.query in
      let d = (placed_down (schema_of catalog) bases).query p.0 (out-Query q) (subst (QueryPlaced (schema_of catalog) bases p.0) (sym (roll-out-Query q)) p.1.0) in
      subst (All HasItsType) (sym s.2.columns) (all_of_each HasItsType (out-Query q).columns (each_weaker (OutputPlaced (schema_of catalog) bases (above (schema_of catalog) p.0 (out-Query q))) HasItsType (λ u h. output_typed_there u h.1.0.0.0) (out-Query q).columns d.0)))

  -- ---- conditions

  boolean : (e : Expr) → is_of ty.Boolean (type_of e) ≡ true → IsBoolean e
  boolean e h = is_of_some ty.Boolean (type_of e) h

  module _ (number : ℕ) (source : Source) (block : Block) (at : IsSourceAt is.sources number source) (from : blocks.IsFrom catalog sound query prepared is number source block) where
    is_block : IsBlock source.query
    is_block = (source_searched catalog sound is.sources (slice_get prepared.blocks) prepared.pool.nodes number (folded query) typed bounded no_right is.are (blocks.ready catalog sound query prepared is number) source block.problem.items at from.items).block

    of_clauses : (e : Expr) → In e (map expr_of (clauses_in (outline_of source.query))) → IsBoolean e
    of_clauses e h =
        let f = from_map expr_of e (clauses_in (outline_of source.query)) h in
        let c = from_map (clause_of (outline_of source.query).rels (specials_in (outline_of source.query))) f.0 (outline_of source.query).clauses f.1 in
        subst IsBoolean (ap expr_of c.2 ∙ f.2) (boolean c.0.expr ((laid source.query is_block).typed_clauses c.0 c.1))

    of_joins : (e : Expr) → In e (flat_map join_exprs (specials_in (outline_of source.query))) → IsBoolean e
    of_joins e h =
        let f = from_flat_map join_exprs e (specials_in (outline_of source.query)) h in
        boolean e (condition_at f.0.on e (typed_on (outline_of source.query) _ (laid source.query is_block) f.0 f.1) f.2)

    of_items : (e : Expr) → In e (flat_map item_exprs block.problem.items) → IsBoolean e
    of_items e h =
        let p = placed number source at in
        let on = subst (In e) (all_on catalog sound is.sources (slice_get prepared.blocks) prepared.pool.nodes number (items_of_block source.query) block.problem.items from.items) h in
        let f = from_flat_map exprs_of_item e (items_of_block source.query) on in
        let item = each_in (there.TreeThere (schema_of catalog) bases there.Any p.0) (items_of_block source.query) f.0 (there.items_there (schema_of catalog) bases there.Any p.0 source.query p.1) f.1 in
        boolean e (on_boolean f.0 item.0.1.0.0.0 e f.2)

    conditions_of : All IsBoolean (conditions_in block)
    conditions_of = all_of_each IsBoolean (conditions_in block) (each_by IsBoolean (conditions_in block) (λ e m. elim (from_append e (map expr_of block.problem.clauses) (flat_map join_exprs block.problem.joins ++ flat_map item_exprs block.problem.items) m) [
      | inl k ↦ of_clauses e (subst (λ (p : Problem). In e (map expr_of p.clauses)) from.problem k)
      | inr k ↦ elim (from_append e (flat_map join_exprs block.problem.joins) (flat_map item_exprs block.problem.items) k) [
        | inl j ↦ of_joins e (subst (λ (p : Problem). In e (flat_map join_exprs p.joins)) from.problem j)
        | inr i ↦ of_items e i
      ]
    ]))

  pub boolean_conditions : All (λ (b : Block). All IsBoolean (conditions_in b)) prepared.blocks
  boolean_conditions = blocks.all_blocks catalog sound query prepared is (λ (b : Block). All IsBoolean (conditions_in b)) (λ number block at. let s = blocks.source_of catalog sound query prepared is number block at in conditions_of number s.0 block s.1 s.2)

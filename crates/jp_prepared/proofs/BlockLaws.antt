-- The tables of base leaves are there, and the blocks of a block are blocks.
use Rattle.std.proofs.Common.{◌≡◌, subst, ℕ, ◌<◌, ◌≤◌, inl, inr, List, [], ◌++◌, map, length, Some, arith}
use Rattle.std.specs.Prelude.{Contains, slice_get}
use Rattle.std.specs.List.{flat_map}
use Rattle.std.proofs.lemmas.List.{length-map}
use Rattle.std.proofs.lemmas.Option.{slice_get_cases}
use Rattle.jp_facts.proofs.Members.{In, to_in, from_append, from_map, from_flat_map, in_flat_map}
use Rattle.jp_catalog.specs.declared.types.Catalog.{Catalog}
use Rattle.jp_catalog.specs.declared.types.TableDef.{TableDef}
use Rattle.jp_query.specs.declared.Expr.{Expr}
use Rattle.jp_query.specs.declared.JoinTree.{JoinTree, out-JoinTree}
use Rattle.jp_query.specs.declared.JoinTree.TheVariants as tree
use Rattle.jp_query.specs.declared.Query.{Query}
use Rattle.jp_query.specs.declared.Expr.TheOpen.{JoinTree-F}
use Rattle.jp_query.specs.Conditions.{IsTyped, IsBounded}
use Rattle.jp_query.specs.NoRight.{HasNoRight}
use Rattle.jp_query.specs.Outermost.{Outer, outermost}
use Rattle.jp_query.specs.Parts.{base_leaves_in, base_table, nothing_of_node, expr_gives, tree_gives, order_gives, output_gives, query_gives}
use Rattle.jp_query.specs.Refs.{only, union}
use Rattle.jp_query.specs.Scopes.{Schema, Scope, entries_of}
use Rattle.jp_query.proofs.FoldLaws as laws
use Rattle.jp_resolution.specs.Schemas.{schema_of, table_columns}
use Rattle.jp_laws.proofs.EachPart.{Each}
use Rattle.jp_problem.specs.Blocks.{block_exprs}
use Rattle.jp_problem.specs.InnerBlocks.{IsBlockOf, inner_blocks, sublink_queries, query_of, exprs_of_item}
use Rattle.jp_problem.specs.Made.{IsBlock}
use Rattle.jp_conditions.proofs.Judging.{each_in}
use Rattle.jp_prepared.specs.Nests.{nest}
use Rattle.jp_prepared.specs.Sources.{Source, IsSourceAt, AreSources, items_of_block, queries_of_items, sublinks_of_block}
use Rattle.jp_prepared.proofs.CostBound.{as_written}
use Rattle.jp_prepared.proofs.NestLaws.{few_nested}
use Rattle.jp_prepared.proofs.Places.{TreePlaced, QueryPlaced, typed_there, placed_there}
use Rattle.jp_prepared.proofs.SourcePlaces as there

-- a place in the list has a member
pub member_there : {X : Type 0} (xs : List X) (k : ℕ) → k < length xs → (x : X) × (slice_get xs k ≡ Some x)
member_there xs k low = elim ((slice_get_cases xs k).1) [ inl h ↦ (h.0, h.2) | inr h ↦ (let past = h.0 in absurd (omega (arith, low, past))) ]

base_placed : (schema : Schema) (bases : ℕ) (s : Scope) (rel : ℕ) (name : List ℕ) (table : ℕ) → TreePlaced schema bases s (tree.Base rel name table) → table < length schema
base_placed schema bases s rel name table h =
    (subst (Each (λ n. n < length schema)) (laws.at-Base (List ℕ) (List ℕ) (List ℕ) (List ℕ) (List ℕ) (expr_gives ℕ nothing_of_node base_table) (tree_gives ℕ nothing_of_node base_table) (order_gives ℕ nothing_of_node base_table) (output_gives ℕ nothing_of_node base_table) (query_gives ℕ nothing_of_node base_table) rel name table) h.1.1.0).0

pub table_there : (catalog : Catalog) (query : Query) (sources : List Source) → IsTyped (schema_of catalog) [] query → IsBounded (schema_of catalog) [] query → HasNoRight query → AreSources query sources
    → (number : ℕ) (source : Source) (leaf : JoinTree) (rel : ℕ) (name : List ℕ) (table : ℕ) → IsSourceAt sources number source → Contains (items_of_block source.query) leaf → out-JoinTree leaf ≡ JoinTree-F.Base rel name table
    → (entry : List ℕ × TableDef) × (slice_get catalog.tables table ≡ Some entry)
table_there catalog query sources typed bounded no_right are number source leaf rel name table at m is =
    let bases = union (map only (base_leaves_in query)) in
    let placed = there.source_placed (schema_of catalog) bases query sources are (placed_there (schema_of catalog) [] query typed bounded no_right) number source at in
    let items = there.items_there (schema_of catalog) bases there.Any placed.0 source.query placed.1 in
    let here = each_in (there.TreeThere (schema_of catalog) bases there.Any placed.0) (items_of_block source.query) leaf items (to_in leaf (items_of_block source.query) m) in
    let written = as_written leaf (JoinTree-F.Base rel name table) (tree.Base rel name table) is (tree.rolls-Base rel name table) in
    let low = base_placed (schema_of catalog) bases placed.0 rel name table (subst (TreePlaced (schema_of catalog) bases placed.0) written here.0) in
    let long = length-map catalog.tables table_columns in
    member_there catalog.tables table (omega (arith, low, long))

-- ---- blocks of a block

module _ (schema : Schema) (bases : ℕ) where
  abbrev Stands : Query → Type 0
  Stands q = (s : Scope) × QueryPlaced schema bases s q

  anyway : (s : Scope) (q : Query) → QueryPlaced schema bases s q → there.BlockThere schema bases there.Any s q
  anyway s q h = (h, there.any_all s, λ u own. there.any_all (entries_of schema u s))

  of_sublinks : (es : List Expr) (inner : Query) → In inner (flat_map sublink_queries es) → (o : Outer) × In o (flat_map outermost es) × (o.query ≡ inner)
  of_sublinks es inner m = let e = from_flat_map sublink_queries inner es m in let o = from_map query_of inner (outermost e.0) e.2 in (o.0, in_flat_map outermost e.0 o.0 es e.1 o.1, o.2)

  inner_stands : (q inner : Query) → Stands q → In inner (inner_blocks q) → Stands inner
  inner_stands q inner h m = elim (from_append inner (queries_of_items q) (flat_map sublink_queries (block_exprs q ++ flat_map exprs_of_item (items_of_block q))) m) [
    | inl a ↦ (h.0, (there.item_queries_there schema bases there.Any h.0 q (anyway h.0 q h.1) inner a).0)
    | inr b ↦ (
        let o = of_sublinks (block_exprs q ++ flat_map exprs_of_item (items_of_block q)) inner b in
        let somewhere = each_in (λ (x : Outer). there.QuerySomewhere schema bases there.Any x.query) (sublinks_of_block q) o.0 (there.sublinks_there schema bases there.Any h.0 q (anyway h.0 q h.1)) o.1 in
        (somewhere.0, subst (QueryPlaced schema bases somewhere.0) o.2 somewhere.1.0)
        )
  ]

  all_stand : (q b : Query) → Stands q → IsBlockOf q b → Stands b
  all_stand q b h IsBlockOf.itself = h
  all_stand q b h (IsBlockOf.inside {block} {inner} of among) = inner_stands block inner (all_stand q block h of) (to_in inner (inner_blocks block) among)

pub blocks_are_blocks : (query block : Query) → IsBlock query → IsBlockOf query block → IsBlock block
blocks_are_blocks query block is of =
    let bases = union (map only (base_leaves_in query)) in
    let at = all_stand is.schema bases query block (is.outer, placed_there is.schema is.outer query is.typed is.bounded is.no_right) of in
    record { schema = is.schema; outer = at.0; typed = typed_there is.schema bases is.typed.few at.0 block at.1; bounded = at.1.0.1.1; no_right = at.1.1.0.1.0 }

pub few_blocks : (query : Query) → IsBlock query → nest query ≤ 192
few_blocks query is = few_nested is.schema (union (map only (base_leaves_in query))) is.outer query (placed_there is.schema is.outer query is.typed is.bounded is.no_right)

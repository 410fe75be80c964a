-- The blocks of a prepared statement beside their sources.
use Rattle.std.proofs.Common.{◌≡◌, subst, ℕ, ◌⊎◌, inl, inr, List, ◌++◌, map, get_or, Some, arith}
use Rattle.std.specs.Prelude.{All, slice_get}
use Rattle.std.specs.List.{flat_map}
use Rattle.std.proofs.lemmas.Option.{slice_get_within, slice_get-get_or}
use Rattle.jp_facts.proofs.Members.{In, from_append, in_append_left, in_append_right}
use Rattle.jp_catalog.specs.Sound.{IsSound}
use Rattle.jp_catalog.specs.declared.types.Catalog.{Catalog}
use Rattle.jp_query.specs.declared.Expr.{Expr}
use Rattle.jp_query.specs.declared.JoinTree.{JoinTree}
use Rattle.jp_query.specs.declared.Order.{Order}
use Rattle.jp_query.specs.declared.Output.{Output}
use Rattle.jp_query.specs.declared.Query.{Query, out-Query}
use Rattle.jp_problem.specs.declared.types.Item.{Item}
use Rattle.jp_problem.specs.declared.types.Problem.{Problem}
use Rattle.jp_problem.specs.Blocks.{block_exprs, listed_exprs, output_expr, order_expr}
use Rattle.jp_problem.specs.InnerBlocks.{exprs_of_item}
use Rattle.jp_problem.specs.Made.{exprs_of}
use Rattle.jp_problem.specs.Shapes.{block_shape, exprs_in}
use Rattle.jp_tree.specs.declared.prepared.Block.{Block}
use Rattle.jp_tree.specs.declared.prepared.Prepared.{Prepared}
use Rattle.jp_tree.specs.BlockParts as parts
use Rattle.jp_prepared.specs.Planned.{IsItem, IsBlockFrom, IsPrepared}
use Rattle.jp_prepared.specs.Searched.{AreMadeBehind}
use Rattle.jp_prepared.specs.Sources.{Source, IsSourceAt, items_of_block}
use Rattle.jp_prepared.proofs.BlockLaws.{member_there}
use Rattle.jp_prepared.proofs.ProblemExprs.{problem_exprs}
use Rattle.jp_prepared.proofs.SearchLaws.{all_on}

module _ (catalog : Catalog) (sound : IsSound catalog) (query : Query) (prepared : Prepared) (is : IsPrepared catalog query prepared) where
  abbrev pub IsFrom : ℕ → Source → Block → Type 0
  IsFrom number source block = IsBlockFrom catalog is.sources (slice_get prepared.blocks) prepared.pool.nodes number source block

  abbrev pub IsItemOf : ℕ → JoinTree → Item → Type 0
  IsItemOf number leaf item = IsItem catalog is.sources (slice_get prepared.blocks) prepared.pool.nodes number leaf item

  pub ready : (number : ℕ) → AreMadeBehind catalog is.sources (slice_get prepared.blocks) prepared.pool.nodes number
  ready number place source block low at there = is.blocks place source block at there

  pub source_of : (number : ℕ) (block : Block) → slice_get prepared.blocks number ≡ Some block → (source : Source) × IsSourceAt is.sources number source × IsFrom number source block
  source_of number block there =
      let low = slice_get_within prepared.blocks number block there in
      let count = is.count in
      let found = member_there is.sources number (omega (arith, low, count)) in
      (found.0, found.1, is.blocks number found.0 block found.1 there)

  pub block_of : (number : ℕ) (source : Source) → IsSourceAt is.sources number source → (block : Block) × (slice_get prepared.blocks number ≡ Some block)
  block_of number source at = let low = slice_get_within is.sources number source at in let count = is.count in member_there prepared.blocks number (omega (arith, low, count))

  pub all_blocks : (P : Block → Type 0) → ((number : ℕ) (block : Block) → slice_get prepared.blocks number ≡ Some block → P block) → All P prepared.blocks
  all_blocks P f number d low = f number (get_or prepared.blocks number d) (slice_get-get_or prepared.blocks number d low)

  -- ---- the expressions of a block

  module _ (number : ℕ) (source : Source) (block : Block) (from : IsFrom number source block) where
    pub problem_expr : (e : Expr) → In e (exprs_of block.problem) → In e (flat_map exprs_of_item (items_of_block source.query)) ⊎ In e (exprs_in (block_shape source.query))
    problem_expr e h = elim (problem_exprs source.query block.problem.items e (subst (λ (p : Problem). In e (exprs_of p)) from.problem h)) [
      | inl a ↦ inl (subst (In e) (all_on catalog sound is.sources (slice_get prepared.blocks) prepared.pool.nodes number (items_of_block source.query) block.problem.items from.items) a)
      | inr b ↦ inr b
    ]

    listed_expr : (e : Expr) → In e (map output_expr block.columns ++ map order_expr block.order) → In e (listed_exprs source.query)
    listed_expr e h = subst (λ (us : List Output). In e (map output_expr us ++ map order_expr (out-Query source.query).order)) from.columns (subst (λ (os : List Order). In e (map output_expr block.columns ++ map order_expr os)) from.order h)

    -- each is one of its query
    pub block_expr : (e : Expr) → In e (parts.exprs_in block) → In e (block_exprs source.query ++ flat_map exprs_of_item (items_of_block source.query))
    block_expr e h =
        let shape = exprs_in (block_shape source.query) in
        let listed = listed_exprs source.query in
        let on = flat_map exprs_of_item (items_of_block source.query) in
        elim (from_append e (exprs_of block.problem) (map output_expr block.columns ++ map order_expr block.order) h) [
          | inr k ↦ in_append_left e (shape ++ listed) on (in_append_right e shape listed (listed_expr e k))
          | inl k ↦ elim (problem_expr e k) [ inl a ↦ in_append_right e (shape ++ listed) on a | inr b ↦ in_append_left e (shape ++ listed) on (in_append_left e shape listed b) ]
        ]

-- What block 0 of a prepared statement lists.
use Rattle.std.proofs.Common.{◌≡◌, subst, refl, ℕ, List, []}
use Rattle.std.specs.Prelude.{slice_get, Some}
use Rattle.std.specs.List.Sorted.{IsPermutation}
use Rattle.jp_catalog.specs.Sound.{IsSound}
use Rattle.jp_catalog.specs.declared.types.Catalog.{Catalog}
use Rattle.jp_query.specs.declared.Query.{Query}
use Rattle.jp_query.specs.Conditions.{IsTyped, IsBounded}
use Rattle.jp_query.specs.InOrder.{IsInOrder}
use Rattle.jp_query.specs.Meaning.{Row, Env, meaning, no_outer_rows}
use Rattle.jp_query.specs.Tables.{TableRows, Belong, rows_of_tables}
use Rattle.jp_resolution.specs.Schemas.{schema_of}
use Rattle.jp_folding.specs.Folding.{folded}
use Rattle.jp_folding.proofs.FoldingLaws.{statement_same}
use Rattle.jp_folding.proofs.NoRightLaws.{query_has_none}
use Rattle.jp_lists.specs.Lists.{list_of, listing, listed_block}
use Rattle.jp_tree.specs.declared.prepared.Block.{Block}
use Rattle.jp_tree.specs.declared.prepared.Prepared.{Prepared}
use Rattle.jp_tree.specs.Pools.{IsPool}
use Rattle.jp_prepared.specs.Planned.{IsPrepared}
use Rattle.jp_prepared.specs.Sources.{of_item}
use Rattle.jp_listed.proofs.BlockGives.{every_block_gives}
use Rattle.jp_listed.proofs.FoldedLines.{statement_order}
use Rattle.jp_listed.proofs.Sublinks.{Gives}

module _ (catalog : Catalog) (query : Query) (prepared : Prepared) (data_tables : TableRows) (sound : IsSound catalog) (typed : IsTyped (schema_of catalog) [] query)
    (folded_typed : IsTyped (schema_of catalog) [] (folded query)) (folded_bounded : IsBounded (schema_of catalog) [] (folded query)) (pool : IsPool prepared.pool.nodes) (is : IsPrepared catalog query prepared)
    (unfolds : (tables : ℕ → List Row) (number : ℕ) (block : Block) (env : Env) → slice_get prepared.blocks number ≡ Some block → listing prepared tables number env ≡ listed_block prepared.blocks prepared.pool.nodes tables (listing prepared tables) block env)
    (belong : Belong (schema_of catalog) data_tables) where
  statement : Gives catalog sound query prepared is (rows_of_tables data_tables) (listing prepared (rows_of_tables data_tables)) 0 (folded query) no_outer_rows
  statement =
      every_block_gives catalog sound query prepared is folded_typed folded_bounded (query_has_none query) pool (rows_of_tables data_tables) (listing prepared (rows_of_tables data_tables)) (unfolds (rows_of_tables data_tables))
      0 (of_item (folded query)) no_outer_rows is.are.statement (λ rel h. refl)

  pub statement_rows : IsPermutation (meaning (rows_of_tables data_tables) query no_outer_rows) (list_of prepared (rows_of_tables data_tables) 0 no_outer_rows)
  statement_rows = subst (λ rows. IsPermutation rows (list_of prepared (rows_of_tables data_tables) 0 no_outer_rows)) (statement_same (schema_of catalog) data_tables query no_outer_rows typed belong) statement.rows

  pub statement_in_order : IsInOrder (rows_of_tables data_tables) query no_outer_rows (list_of prepared (rows_of_tables data_tables) 0 no_outer_rows)
  statement_in_order = statement_order (schema_of catalog) data_tables query no_outer_rows typed belong (list_of prepared (rows_of_tables data_tables) 0 no_outer_rows) statement.in_order

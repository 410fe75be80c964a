-- A planned statement is whole whatever room its pool has.
use Rattle.std.proofs.Common.{sym, subst, ℕ, List}
use Rattle.std.specs.Prelude.{All}
use Rattle.std.proofs.lemmas.List.Elements.{All-weaker}
use Rattle.jp_query.specs.Parts.{ColumnRef}
use Rattle.jp_query.specs.Scopes.{Schema}
use Rattle.jp_tree.specs.declared.pool.PlanNode.{PlanNode}
use Rattle.jp_tree.specs.declared.prepared.Block.{Block}
use Rattle.jp_tree.specs.declared.prepared.Prepared.{Prepared}
use Rattle.jp_tree.specs.declared.prepared.RelName.{RelName}
use Rattle.jp_tree.specs.BlockParts.{columns_named, IsOfSublink, Uses, by_item, by_sublink, IsOuterReference, named, passed_on}
use Rattle.jp_tree.specs.Examples.{a_scan}
use Rattle.jp_tree.specs.Prepared.{HasOneBlock, IsColumn, of_table, of_block, IsNamed, IsWhole}
use Rattle.jp_tree.proofs.ExampleLaws.{a_scan_is_whole}
use Rattle.jp_explain_tests.specs.Scans.{IsScan}

module _ (blocks : List Block) (nodes : List PlanNode) (names : List RelName) where
  abbrev with_room : ℕ → Prepared
  with_room spare = record { blocks = blocks; pool = record { nodes = nodes; spare = spare }; names = names }

  of_sublink : (j k sub n : ℕ) → IsOfSublink (with_room j) sub n → IsOfSublink (with_room k) sub n
  of_sublink j k sub n h = record { block = h.block; there = h.there; named = h.named }

  used : (j k : ℕ) (block : Block) (n : ℕ) → Uses (with_room j) block n → Uses (with_room k) block n
  used j k block n (by_item h) = by_item h
  used j k block n (by_sublink sublink h is) = by_sublink sublink h (of_sublink j k sublink.number n is)

  referred : (j k n : ℕ) (c : ColumnRef) → IsOuterReference (with_room j) n c → IsOuterReference (with_room k) n c
  referred j k n c (named block is has none) = named block is has none
  referred j k n c (passed_on block inner is uses reference none) = passed_on block inner is (used j k block inner uses) (referred j k inner c reference) none

  column_is : (j k : ℕ) (schema : Schema) (c : ColumnRef) → IsColumn schema (with_room j) c → IsColumn schema (with_room k) c
  column_is j k schema c (of_table block item table column is has kind there type) = of_table block item table column is has kind there type
  column_is j k schema c (of_block block item number inner output is has kind there at type) = of_block block item number inner output is has kind there at type

  one_block : (j k n sub : ℕ) → HasOneBlock (with_room j) n sub → HasOneBlock (with_room k) n sub
  one_block j k n sub h = record { place = h.place; is = of_sublink j k sub h.place h.is; behind = h.behind; only = λ other is. h.only other (of_sublink k j sub other is) }

  pub whole_with : (j k : ℕ) → IsWhole (with_room j) → IsWhole (with_room k)
  whole_with j k h = record {
    schema = h.schema;
    scope = h.scope;
    shows = record { tables = h.shows.tables; selects = h.shows.selects };
    statement = record { there = h.statement.there; alone = λ c reference. h.statement.alone c (referred k j 0 c reference) };
    alone = λ number inner block c is has reference. h.alone number inner block c is has (referred k j inner c reference);
    columns = All-weaker (λ block. All (IsColumn h.schema (with_room j)) (columns_named block)) (λ block. All (IsColumn h.schema (with_room k)) (columns_named block))
        (λ block all. All-weaker (IsColumn h.schema (with_room j)) (IsColumn h.schema (with_room k)) (column_is j k h.schema) (columns_named block) all) blocks h.columns;
    plannable = h.plannable;
    plans = h.plans;
    behind = h.behind;
    sublinks = λ number block sublink is has. one_block j k number sublink.number (h.sublinks number block sublink is has);
    ins = h.ins;
    named = All-weaker (IsNamed (with_room j)) (IsNamed (with_room k)) (λ block n. record { items = n.items; placeholders = n.placeholders; columns = n.columns }) blocks h.named;
    typed = h.typed;
  }

pub scan_is_whole : (p : Prepared) → IsScan p → IsWhole p
scan_is_whole p h =
    let here = whole_with a_scan.blocks a_scan.pool.nodes a_scan.names 0 p.pool.spare a_scan_is_whole in
    let of_blocks = subst (λ bs. IsWhole (record { blocks = bs; pool = record { nodes = a_scan.pool.nodes; spare = p.pool.spare }; names = a_scan.names })) (sym h.blocks) here in
    let of_nodes = subst (λ ns. IsWhole (record { blocks = p.blocks; pool = record { nodes = ns; spare = p.pool.spare }; names = a_scan.names })) (sym h.nodes) of_blocks in
    subst (λ nm. IsWhole (record { blocks = p.blocks; pool = record { nodes = p.pool.nodes; spare = p.pool.spare }; names = nm })) (sym h.names) of_nodes

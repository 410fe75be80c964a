-- The planned statement SELECT a.0 FROM a, of a table of 10 rows.
use Rattle.std.specs.Prelude.{false, [], ◌∷◌, None}
use Rattle.jp_base.specs.declared.values.Ty.TheVariants as ty
use Rattle.jp_query.specs.declared.Expr.TheViews.{roll-Output}
use Rattle.jp_query.specs.declared.Output.{Output}
use Rattle.jp_query.specs.declared.Query.{Query}
use Rattle.jp_query.specs.TreeExamples.{a, col, select}
use Rattle.jp_problem.specs.declared.types.Item.{Item}
use Rattle.jp_problem.specs.declared.types.ItemKind.TheVariants.{Base}
use Rattle.jp_tree.specs.declared.pool.PlanNode.TheVariants.{Scan}
use Rattle.jp_tree.specs.declared.prepared.Block.{Block}
use Rattle.jp_tree.specs.declared.prepared.Prepared.{Prepared}
use Rattle.jp_tree.specs.declared.prepared.RelName.{RelName}

abbrev pub a_query : Query
a_query = select (col 0 0) a []

abbrev pub a_item : Item
a_item = record { kind = Base 0 0; rels = 1; rows = 10; cost = 10; distinct = 10 ∷ 10 ∷ [] }

abbrev pub a_column : Output
a_column = roll-Output (record { name = []; ty = ty.Number; expr = col 0 0 })

abbrev pub a_block : Block
a_block = record {
  problem = record { items = a_item ∷ []; joins = []; clauses = []; classes = [] };
  plan = 0;
  columns = a_column ∷ [];
  distinct = false;
  order = [];
  sub = None;
}

abbrev pub a_name : RelName
a_name = record { rel = 0; name = []; columns = [] ∷ [] ∷ [] }

abbrev pub a_scan : Prepared
a_scan = record { blocks = a_block ∷ []; pool = record { nodes = Scan 0 ∷ []; spare = 0 }; names = a_name ∷ [] }

-- Planned statements on which the layout of the text is run. One without conditions: a step of a sub-select and a table, a
-- sublink that is a Full join, and one that is a scan.
use Rattle.std.specs.Prelude.{ℕ, true, false, List, [], ◌∷◌, Option, Some, None, codes}
use Rattle.jp_query.specs.declared.Expr.TheViews.{roll-Expr, roll-Order}
use Rattle.jp_query.specs.declared.Order.{Order}
use Rattle.jp_query.specs.declared.Expr.{Expr}
use Rattle.jp_query.specs.declared.Expr.TheOpen.{Expr-F}
use Rattle.jp_query.specs.declared.IsTest.TheVariants as is
use Rattle.jp_query.specs.declared.JoinKind.TheVariants as join
use Rattle.jp_query.specs.Refs.{only}
use Rattle.jp_query.specs.TreeExamples.{a, col, equals, select, test}
use Rattle.jp_problem.specs.declared.types.Clause.{Clause}
use Rattle.jp_problem.specs.declared.types.Item.{Item}
use Rattle.jp_problem.specs.declared.types.ItemKind.{ItemKind}
use Rattle.jp_problem.specs.declared.types.ItemKind.TheVariants as kind
use Rattle.jp_problem.specs.declared.types.Method.TheVariants as method
use Rattle.jp_problem.specs.declared.types.Step.TheVariants as step
use Rattle.jp_problem.specs.declared.types.Problem.{Problem}
use Rattle.jp_problem.specs.declared.types.Special.{Special}
use Rattle.jp_tree.specs.declared.pool.PlanNode.TheVariants as node
use Rattle.jp_tree.specs.declared.prepared.Block.{Block}
use Rattle.jp_tree.specs.declared.prepared.Prepared.{Prepared}
use Rattle.jp_tree.specs.declared.prepared.RelName.{RelName}

abbrev pub item : ItemKind → ℕ → ℕ → ℕ → Item
item kind rels rows cost = record { kind = kind; rels = rels; rows = rows; cost = cost; distinct = [] }

abbrev pub block : List Item → ℕ → List Order → Option ℕ → Block
block items plan order sub = record {
  problem = record { items = items; joins = []; clauses = []; classes = [] };
  plan = plan;
  columns = [];
  distinct = true;
  order = order;
  sub = sub;
}

abbrev pub descending : Order
descending = roll-Order (record { expr = col 1 0; desc = true; nulls_first = false })

abbrev pub name : ℕ → List ℕ → RelName
name rel text = record { rel = rel; name = text; columns = codes "id" ∷ [] }

abbrev pub layout : Prepared
layout = record {
  blocks = block (item (kind.Sub 0 1) 1 1 2 ∷ item (kind.Base 1 0) 2 3 3 ∷ []) 2 (descending ∷ []) None
      ∷ block (item (kind.Base 2 0) 4 4 4 ∷ []) 0 [] None
      ∷ block (item (kind.Full 3 4 []) 24 5 9 ∷ []) 0 [] (Some 2)
      ∷ block (item (kind.Base 3 0) 8 2 2 ∷ []) 0 (descending ∷ []) None
      ∷ block (item (kind.Base 4 0) 16 3 3 ∷ []) 0 [] None
      ∷ block (item (kind.Base 5 0) 32 6 6 ∷ []) 0 [] (Some 1) ∷ [];
  pool = record { nodes = node.Scan 0 ∷ node.Scan 1 ∷ node.Join method.Nest step.Inner 0 1 ∷ []; spare = 0 };
  names = name 0 (codes "s") ∷ name 1 (codes "b") ∷ name 2 (codes "a") ∷ name 3 (codes "l") ∷ name 4 (codes "r") ∷ name 5 (codes "d") ∷ [];
}

-- ---- a left join of two tables, with a condition of the join, one behind it and one of a scan

-- a.id = b.id
abbrev pub joined_by : Expr
joined_by = equals (col 0 0) (col 1 0)

abbrev pub tested_behind : Expr
tested_behind = roll-Expr (Expr-F.Exists 1 (select (col 2 0) a []))

-- a.id IS NOT NULL
abbrev pub tested_before : Expr
tested_before = test is.NotNull (col 0 0)

abbrev pub left_join : Special
left_join = record { no = 1; kind = join.Left; min_left = 1; min_right = 2; syn_left = 1; syn_right = 2; lhs_strict = true; region = 0; on = joined_by ∷ [] }

abbrev pub clause : Expr → ℕ → Clause
clause e needs = record { expr = e; region = 0; req = needs; class = None }

abbrev pub table : ℕ → ℕ → ℕ → Item
table rel rows values = record { kind = kind.Base rel 0; rels = only rel; rows = rows; cost = 1; distinct = values ∷ [] }

abbrev pub joined : Problem
joined = record { items = table 0 6 3 ∷ table 1 2 2 ∷ []; joins = left_join ∷ []; clauses = clause tested_behind 3 ∷ clause tested_before 1 ∷ []; classes = [] }

abbrev pub conditioned : Prepared
conditioned = record {
  blocks = record {
    problem = joined;
    plan = 2;
    columns = [];
    distinct = false;
    order = [];
    sub = None;
  }
      ∷ block (table 2 5 5 ∷ []) 0 [] (Some 1) ∷ [];
  pool = record { nodes = node.Scan 0 ∷ node.Scan 1 ∷ node.Join method.Nest (step.By 1) 0 1 ∷ []; spare = 0 };
  names = name 0 (codes "a") ∷ name 1 (codes "b") ∷ name 2 (codes "c") ∷ [];
}

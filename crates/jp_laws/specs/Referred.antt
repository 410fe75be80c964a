-- Columns and placeholders whose relations are in a set.
use Rattle.std.specs.Prelude.{ℕ, ◌^◌, ◌<◌, List}
use Rattle.jp_base.specs.Sets.{Has, Within}
use Rattle.jp_query.specs.declared.Expr.{Expr}
use Rattle.jp_query.specs.declared.JoinTree.{JoinTree}
use Rattle.jp_query.specs.Parts.{ColumnRef, node_placeholder, nothing_of_leaf, gathered, gathered_in_tree}

-- the relations of each placeholder, sublinks included
abbrev pub placeholders_in : Expr → List ℕ
placeholders_in = gathered ℕ node_placeholder nothing_of_leaf

abbrev pub placeholders_in_tree : JoinTree → List ℕ
placeholders_in_tree = gathered_in_tree ℕ node_placeholder nothing_of_leaf

-- the column's relation lies below 64 and is in the set
abbrev pub IsReferred : ℕ → ColumnRef → Type 0
IsReferred set c = (c.relation < 64) × Has set c.relation

-- the placeholder's relations lie below 64 and are in the set
abbrev pub AreReferred : ℕ → ℕ → Type 0
AreReferred set rels = (rels < 2 ^ 64) × Within rels set

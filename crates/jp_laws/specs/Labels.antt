-- A tree with other labels of its columns.
use Rattle.std.specs.Prelude.{ℕ}
use Rattle.jp_query.specs.declared.Expr.{Expr}
use Rattle.jp_query.specs.declared.JoinTree.{JoinTree}
use Rattle.jp_query.specs.declared.Order.{Order}
use Rattle.jp_query.specs.declared.Output.{Output}
use Rattle.jp_query.specs.declared.Query.{Query}
use Rattle.jp_query.specs.declared.Expr.TheOpen.{Expr-F}
use Rattle.jp_query.specs.declared.Expr.TheViews.{roll-Expr, roll-JoinTree, roll-Order, roll-Output, roll-Query}
use Rattle.jp_query.specs.declared.Expr.TheFolds.{fold-Expr, fold-JoinTree, fold-Query}

-- the label that a column of a relation has instead of the one that it has
abbrev pub Relabelling : Type 0
Relabelling = (relation column label : ℕ) → ℕ

abbrev pub relabel : Relabelling → Expr-F Expr JoinTree Order Output Query → Expr
relabel label (Expr-F.Col rel col ty nulled) = roll-Expr (Expr-F.Col rel col ty (label rel col nulled))
relabel label x = roll-Expr x

-- each column has its new label, sublinks and sub-selects included
abbrev pub relabelled : Relabelling → Expr → Expr
relabelled label = fold-Expr Expr JoinTree Order Output Query (relabel label) roll-JoinTree roll-Order roll-Output roll-Query

abbrev pub relabelled_tree : Relabelling → JoinTree → JoinTree
relabelled_tree label = fold-JoinTree Expr JoinTree Order Output Query (relabel label) roll-JoinTree roll-Order roll-Output roll-Query

abbrev pub relabelled_query : Relabelling → Query → Query
relabelled_query label = fold-Query Expr JoinTree Order Output Query (relabel label) roll-JoinTree roll-Order roll-Output roll-Query

-- no label
abbrev pub unlabelled : Relabelling
unlabelled rel col label = 0

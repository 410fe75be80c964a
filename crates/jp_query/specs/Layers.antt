-- The tree types, one level of each, and their folds: a fold gives a whole tree's value from a step on one level, in
-- which each child is replaced by its own value.
pub use Rattle.jp_query.specs.declared.Expr.{Expr}
pub use Rattle.jp_query.specs.declared.JoinTree.{JoinTree}
pub use Rattle.jp_query.specs.declared.Order.{Order}
pub use Rattle.jp_query.specs.declared.Output.{Output}
pub use Rattle.jp_query.specs.declared.Query.{Query}
pub use Rattle.jp_query.specs.declared.Expr.TheOpen.{Expr-F, JoinTree-F, Order-F, Output-F, Query-F}
pub use Rattle.jp_query.specs.declared.Expr.TheFolds.{fold-Expr, fold-JoinTree, fold-Order, fold-Output, fold-Query}

abbrev pub ExprLayer : Type 0
ExprLayer = Expr-F Expr JoinTree Order Output Query

abbrev pub JoinTreeLayer : Type 0
JoinTreeLayer = JoinTree-F Expr JoinTree Order Output Query

abbrev pub OrderLayer : Type 0
OrderLayer = Order-F Expr JoinTree Order Output Query

abbrev pub OutputLayer : Type 0
OutputLayer = Output-F Expr JoinTree Order Output Query

abbrev pub QueryLayer : Type 0
QueryLayer = Query-F Expr JoinTree Order Output Query

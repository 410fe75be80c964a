-- The equations by which a fold is run on a tree that is written out.
use Rattle.jp_query.specs.declared.Expr.TheFolds.{fold-roll-Expr, fold-roll-JoinTree, fold-roll-Order, fold-roll-Output, fold-roll-Query, para-roll-Expr, para-roll-JoinTree, para-roll-Order, para-roll-Output, para-roll-Query}

pub ruleset folds = (fold-roll-Expr, fold-roll-JoinTree, fold-roll-Order, fold-roll-Output, fold-roll-Query)

pub ruleset paras = (para-roll-Expr, para-roll-JoinTree, para-roll-Order, para-roll-Output, para-roll-Query)

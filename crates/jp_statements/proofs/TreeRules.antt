-- The equations by which a fold is run on a tree that is written out.
use Rattle.jp_ast.specs.declared.tree.Ast.TheFolds.{fold-roll-Ast, fold-roll-FromItem, fold-roll-Target, fold-roll-Select}

pub ruleset folds = (fold-roll-Ast, fold-roll-FromItem, fold-roll-Target, fold-roll-Select)

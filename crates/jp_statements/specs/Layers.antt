-- The syntax trees, one level of each, and their folds: a fold gives a whole tree's value from a step on one level, in
-- which each child is replaced by its own value.
use Rattle.std.specs.Prelude.{Bool}
pub use Rattle.jp_ast.specs.declared.tree.Ast.{Ast}
pub use Rattle.jp_ast.specs.declared.tree.FromItem.{FromItem}
pub use Rattle.jp_ast.specs.declared.tree.Target.{Target}
pub use Rattle.jp_ast.specs.declared.tree.Select.{Select}
pub use Rattle.jp_ast.specs.declared.tree.Ast.TheOpen.{Ast-F, FromItem-F, Target-F, Select-F}
pub use Rattle.jp_ast.specs.declared.tree.Ast.TheFolds.{fold-Ast, fold-FromItem, fold-Target, fold-Select}
pub use Rattle.jp_ast.specs.declared.tree.OrderAst.{OrderAst}
pub use Rattle.jp_ast.specs.declared.tree.Stmt.{Stmt}
pub use Rattle.jp_ast.specs.declared.tree.JoinWord.{JoinWord}

-- a child of a level, whose value stands in its place
abbrev pub itself : {A : Type 0} → A → A
itself x = x

-- what f gives of a term of a sum, whether it is subtracted or not
abbrev pub in_term : {A B : Type 0} → (A → B) → Bool × A → B
in_term f term = f term.1

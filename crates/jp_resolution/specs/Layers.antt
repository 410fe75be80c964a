-- The words that the definitions speak of: the syntax trees, one level of each and their folds, and what code shares.
pub use Rattle.jp_ast.specs.declared.tree.Ast.{Ast}
pub use Rattle.jp_ast.specs.declared.tree.FromItem.{FromItem}
pub use Rattle.jp_ast.specs.declared.tree.Target.{Target}
pub use Rattle.jp_ast.specs.declared.tree.Select.{Select}
pub use Rattle.jp_ast.specs.declared.tree.Ast.TheOpen.{Ast-F, FromItem-F, Target-F, Select-F}
pub use Rattle.jp_ast.specs.declared.tree.Ast.TheFolds.{fold-Ast, fold-FromItem, fold-Target, fold-Select}
pub use Rattle.jp_ast.specs.declared.tree.OrderAst.{OrderAst}
pub use Rattle.jp_ast.specs.declared.tree.Stmt.{Stmt}
pub use Rattle.jp_ast.specs.declared.tree.CmpWord.{CmpWord}
pub use Rattle.jp_ast.specs.declared.tree.IsWord.{IsWord}
pub use Rattle.jp_ast.specs.declared.tree.JoinWord.{JoinWord}
pub use Rattle.jp_catalog.specs.declared.types.Catalog.{Catalog}
pub use Rattle.jp_catalog.specs.declared.types.TableDef.{TableDef}
pub use Rattle.jp_resolution.specs.declared.words.Counts.{Counts}
pub use Rattle.jp_resolution.specs.declared.words.Column.{Column}
pub use Rattle.jp_resolution.specs.declared.words.Entry.{Entry}
pub use Rattle.jp_resolution.specs.declared.words.Selection.{Selection}
pub use Rattle.jp_resolution.specs.declared.words.TypedExpr.{TypedExpr}
pub use Rattle.jp_resolution.specs.declared.error.ResolveError.{ResolveError}

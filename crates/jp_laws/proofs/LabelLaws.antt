-- What a fold gives is the same under other labels, if its step on a column is.
use Rattle.std.proofs.Common.{◌≡◌, ◌∙◌, ℕ}
use Rattle.jp_base.specs.declared.values.Ty.{Ty}
use Rattle.jp_query.specs.declared.Expr.{Expr}
use Rattle.jp_query.specs.declared.JoinTree.{JoinTree}
use Rattle.jp_query.specs.declared.Order.{Order}
use Rattle.jp_query.specs.declared.Output.{Output}
use Rattle.jp_query.specs.declared.Query.{Query}
use Rattle.jp_query.specs.declared.Expr.TheOpen.{Expr-F, JoinTree-F, Order-F, Output-F, Query-F}
use Rattle.jp_query.specs.declared.Expr.TheViews.{roll-JoinTree, roll-Order, roll-Output, roll-Query}
use Rattle.jp_query.specs.declared.Expr.TheFolds.{fold-Expr, fold-JoinTree, fold-Order, fold-Output, fold-Query, map-Expr, fold-roll-Expr, fold-roll-JoinTree, fold-roll-Order, fold-roll-Output, fold-roll-Query}
use Rattle.jp_laws.specs.Labels.{Relabelling, relabel, relabelled, relabelled_tree, relabelled_query}
use Rattle.jp_induction.proofs.Rewriting as rewriting

module _ (label : Relabelling) (A B C D F : Type 0) (e : Expr-F A B C D F → A) (t : JoinTree-F A B C D F → B) (o : Order-F A B C D F → C) (u : Output-F A B C D F → D) (q : Query-F A B C D F → F) (blind : (rel col : ℕ) (ty : Ty) (a b : ℕ) → e (Expr-F.Col rel col ty a) ≡ e (Expr-F.Col rel col ty b)) where
  abbrev of_expr : Expr → A
  of_expr = fold-Expr A B C D F e t o u q

  abbrev of_tree : JoinTree → B
  of_tree = fold-JoinTree A B C D F e t o u q

  abbrev of_order : Order → C
  of_order = fold-Order A B C D F e t o u q

  abbrev of_output : Output → D
  of_output = fold-Output A B C D F e t o u q

  abbrev of_query : Query → F
  of_query = fold-Query A B C D F e t o u q

  -- a relabelled level
  rolls : (x : Expr-F Expr JoinTree Order Output Query) → of_expr (relabel label x) ≡ e (map-Expr Expr JoinTree Order Output Query A B C D F of_expr of_tree of_order of_output of_query x)
  rolls (Expr-F.Col rel col ty nulled) = fold-roll-Expr A B C D F e t o u q (Expr-F.Col rel col ty (label rel col nulled)) ∙ blind rel col ty (label rel col nulled) nulled
  rolls x = fold-roll-Expr A B C D F e t o u q x

  pub same_expr : (x : Expr) → of_expr (relabelled label x) ≡ of_expr x
  same_expr = rewriting.fused_expr Expr JoinTree Order Output Query A B C D F (relabel label) roll-JoinTree roll-Order roll-Output roll-Query e t o u q of_expr of_tree of_order of_output of_query rolls
      (fold-roll-JoinTree A B C D F e t o u q) (fold-roll-Order A B C D F e t o u q) (fold-roll-Output A B C D F e t o u q) (fold-roll-Query A B C D F e t o u q)

  pub same_tree : (x : JoinTree) → of_tree (relabelled_tree label x) ≡ of_tree x
  same_tree = rewriting.fused_tree Expr JoinTree Order Output Query A B C D F (relabel label) roll-JoinTree roll-Order roll-Output roll-Query e t o u q of_expr of_tree of_order of_output of_query rolls
      (fold-roll-JoinTree A B C D F e t o u q) (fold-roll-Order A B C D F e t o u q) (fold-roll-Output A B C D F e t o u q) (fold-roll-Query A B C D F e t o u q)

  pub same_query : (x : Query) → of_query (relabelled_query label x) ≡ of_query x
  same_query = rewriting.fused_query Expr JoinTree Order Output Query A B C D F (relabel label) roll-JoinTree roll-Order roll-Output roll-Query e t o u q of_expr of_tree of_order of_output of_query rolls
      (fold-roll-JoinTree A B C D F e t o u q) (fold-roll-Order A B C D F e t o u q) (fold-roll-Output A B C D F e t o u q) (fold-roll-Query A B C D F e t o u q)

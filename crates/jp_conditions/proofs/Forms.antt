-- Induction on join trees by the form of each: what is shown of leaves, joins and FROM lists holds of every tree.
use Rattle.std.proofs.Common.{sym, subst, ℕ, List}
use Rattle.jp_induction.proofs.EachPart.{Each}
use Rattle.jp_induction.proofs.Induction.{tree_alone}
use Rattle.jp_query.specs.declared.Expr.{Expr}
use Rattle.jp_query.specs.declared.JoinKind.{JoinKind}
use Rattle.jp_query.specs.declared.JoinTree.{JoinTree}
use Rattle.jp_query.specs.declared.JoinTree.TheVariants as tree
use Rattle.jp_query.specs.declared.Query.{Query}
use Rattle.jp_query.specs.declared.Expr.TheOpen.{JoinTree-F}
use Rattle.jp_query.specs.declared.Expr.TheViews.{roll-JoinTree}
use Rattle.jp_query.specs.Layers.{JoinTreeLayer}
use Rattle.jp_query.specs.Parts.{trees}

pub record Forms (P : JoinTree → Type 0) : Type 0 where
  pub base : (rel : ℕ) (name : List ℕ) (table : ℕ) → P (tree.Base rel name table)
  pub sub : (rel : ℕ) (name : List ℕ) (query : Query) → P (tree.Sub rel name query)
  pub join : (kind : JoinKind) (left right : JoinTree) (on : List Expr) → P left → P right → P (tree.Join kind left right on)
  pub from : (members : List JoinTree) (conds : List Expr) → Each P members → P (tree.From members conds)

module _ (P : JoinTree → Type 0) (forms : Forms P) where
  step : (t : JoinTreeLayer) → Each P (trees t) → P (roll-JoinTree t)
  step (JoinTree-F.Base rel name table) each = subst P (sym (tree.rolls-Base rel name table)) (forms.base rel name table)
  step (JoinTree-F.Sub rel name query) each = subst P (sym (tree.rolls-Sub rel name query)) (forms.sub rel name query)
  step (JoinTree-F.Join kind left right on) each = subst P (sym (tree.rolls-Join kind left right on)) (forms.join kind left right on each.0 each.1.0)
  step (JoinTree-F.From members conds) each = subst P (sym (tree.rolls-From members conds)) (forms.from members conds each)

  pub by_form : (t : JoinTree) → P t
  by_form = tree_alone P step

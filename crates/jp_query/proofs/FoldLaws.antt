-- What a fold over the tree types gives at each constructor: its step on that level, with each child replaced by the
-- fold's value of it. One line for each constructor, for any fold.
use Rattle.std.proofs.Common.{◌≡◌, ◌∙◌, ap, sym, refl, ℕ, Bool, List, map, Option, Some, None}
use Rattle.std.specs.Option.{option_map}
use Rattle.jp_base.specs.declared.values.Ty.{Ty}
use Rattle.jp_base.specs.declared.values.Value.{Value}
use Rattle.jp_query.specs.declared.CmpOp.{CmpOp}
use Rattle.jp_query.specs.declared.IsTest.{IsTest}
use Rattle.jp_query.specs.declared.JoinKind.{JoinKind}
use Rattle.jp_query.specs.declared.Expr.TheVariants as expr
use Rattle.jp_query.specs.declared.JoinTree.TheVariants as tree
use Rattle.jp_query.specs.declared.Expr.TheShapes.{former-Expr-Case-0}
use Rattle.jp_query.specs.declared.Expr.TheFolds.{fold-roll-Expr, fold-roll-JoinTree, fold_out-Order, fold_out-Output, fold_out-Query}
use Rattle.jp_query.specs.declared.Order.{out-Order}
use Rattle.jp_query.specs.declared.Output.{out-Output}
use Rattle.jp_query.specs.declared.Query.{out-Query}
use Rattle.jp_query.specs.Layers.{Expr, JoinTree, Order, Output, Query, Expr-F, JoinTree-F, Order-F, Output-F, Query-F, fold-Expr, fold-JoinTree, fold-Order, fold-Output, fold-Query}

-- the map over a part of CASE that may be missing
maybe_maps : {A B : Type 0} (f : A → B) (o : Option A) → (former-Expr-Case-0).map A B f o ≡ option_map f o
maybe_maps f None = refl
maybe_maps f (Some x) = refl

module _ (A B C D F : Type 0) (e : Expr-F A B C D F → A) (t : JoinTree-F A B C D F → B) (o : Order-F A B C D F → C) (u : Output-F A B C D F → D) (q : Query-F A B C D F → F) where
  abbrev pub of_expr : Expr → A
  of_expr = fold-Expr A B C D F e t o u q

  abbrev pub of_tree : JoinTree → B
  of_tree = fold-JoinTree A B C D F e t o u q

  abbrev pub of_order : Order → C
  of_order = fold-Order A B C D F e t o u q

  abbrev pub of_output : Output → D
  of_output = fold-Output A B C D F e t o u q

  abbrev pub of_query : Query → F
  of_query = fold-Query A B C D F e t o u q

  abbrev pub of_term : Bool × Expr → Bool × A
  of_term term = (term.0, of_expr term.1)

  abbrev pub of_arm : Expr × Expr → A × A
  of_arm arm = (of_expr arm.0, of_expr arm.1)

  pub at-Col : (rel col : ℕ) (ty : Ty) (nulled : ℕ) → of_expr (expr.Col rel col ty nulled) ≡ e (Expr-F.Col rel col ty nulled)
  at-Col rel col ty nulled = ap of_expr (sym (expr.rolls-Col rel col ty nulled)) ∙ fold-roll-Expr A B C D F e t o u q (Expr-F.Col rel col ty nulled)

  pub at-Lit : (value : Value) (ty : Ty) → of_expr (expr.Lit value ty) ≡ e (Expr-F.Lit value ty)
  at-Lit value ty = ap of_expr (sym (expr.rolls-Lit value ty)) ∙ fold-roll-Expr A B C D F e t o u q (Expr-F.Lit value ty)

  pub at-Place : (inner : Expr) (rels : ℕ) → of_expr (expr.Place inner rels) ≡ e (Expr-F.Place (of_expr inner) rels)
  at-Place inner rels = ap of_expr (sym (expr.rolls-Place inner rels)) ∙ fold-roll-Expr A B C D F e t o u q (Expr-F.Place inner rels)

  pub at-Neg : (operand : Expr) → of_expr (expr.Neg operand) ≡ e (Expr-F.Neg (of_expr operand))
  at-Neg operand = ap of_expr (sym (expr.rolls-Neg operand)) ∙ fold-roll-Expr A B C D F e t o u q (Expr-F.Neg operand)

  pub at-Sum : (terms : List (Bool × Expr)) → of_expr (expr.Sum terms) ≡ e (Expr-F.Sum (map of_term terms))
  at-Sum terms = ap of_expr (sym (expr.rolls-Sum terms)) ∙ fold-roll-Expr A B C D F e t o u q (Expr-F.Sum terms)

  pub at-Product : (factors : List Expr) → of_expr (expr.Product factors) ≡ e (Expr-F.Product (map of_expr factors))
  at-Product factors = ap of_expr (sym (expr.rolls-Product factors)) ∙ fold-roll-Expr A B C D F e t o u q (Expr-F.Product factors)

  pub at-Concat : (parts : List Expr) → of_expr (expr.Concat parts) ≡ e (Expr-F.Concat (map of_expr parts))
  at-Concat parts = ap of_expr (sym (expr.rolls-Concat parts)) ∙ fold-roll-Expr A B C D F e t o u q (Expr-F.Concat parts)

  pub at-Compare : (op : CmpOp) (left right : Expr) → of_expr (expr.Compare op left right) ≡ e (Expr-F.Compare op (of_expr left) (of_expr right))
  at-Compare op left right = ap of_expr (sym (expr.rolls-Compare op left right)) ∙ fold-roll-Expr A B C D F e t o u q (Expr-F.Compare op left right)

  pub at-Between : (operand low high : Expr) → of_expr (expr.Between operand low high) ≡ e (Expr-F.Between (of_expr operand) (of_expr low) (of_expr high))
  at-Between operand low high = ap of_expr (sym (expr.rolls-Between operand low high)) ∙ fold-roll-Expr A B C D F e t o u q (Expr-F.Between operand low high)

  pub at-InList : (operand : Expr) (list : List Expr) → of_expr (expr.InList operand list) ≡ e (Expr-F.InList (of_expr operand) (map of_expr list))
  at-InList operand list = ap of_expr (sym (expr.rolls-InList operand list)) ∙ fold-roll-Expr A B C D F e t o u q (Expr-F.InList operand list)

  pub at-And : (members : List Expr) → of_expr (expr.And members) ≡ e (Expr-F.And (map of_expr members))
  at-And members = ap of_expr (sym (expr.rolls-And members)) ∙ fold-roll-Expr A B C D F e t o u q (Expr-F.And members)

  pub at-Or : (members : List Expr) → of_expr (expr.Or members) ≡ e (Expr-F.Or (map of_expr members))
  at-Or members = ap of_expr (sym (expr.rolls-Or members)) ∙ fold-roll-Expr A B C D F e t o u q (Expr-F.Or members)

  pub at-Not : (operand : Expr) → of_expr (expr.Not operand) ≡ e (Expr-F.Not (of_expr operand))
  at-Not operand = ap of_expr (sym (expr.rolls-Not operand)) ∙ fold-roll-Expr A B C D F e t o u q (Expr-F.Not operand)

  pub at-Test : (test : IsTest) (operand : Expr) → of_expr (expr.Test test operand) ≡ e (Expr-F.Test test (of_expr operand))
  at-Test test operand = ap of_expr (sym (expr.rolls-Test test operand)) ∙ fold-roll-Expr A B C D F e t o u q (Expr-F.Test test operand)

  pub at-Coalesce : (members : List Expr) → of_expr (expr.Coalesce members) ≡ e (Expr-F.Coalesce (map of_expr members))
  at-Coalesce members = ap of_expr (sym (expr.rolls-Coalesce members)) ∙ fold-roll-Expr A B C D F e t o u q (Expr-F.Coalesce members)

  pub at-Case : (operand : Option Expr) (arms : List (Expr × Expr)) (otherwise : Option Expr) → of_expr (expr.Case operand arms otherwise) ≡ e (Expr-F.Case (option_map of_expr operand) (map of_arm arms) (option_map of_expr otherwise))
  at-Case operand arms otherwise =
      ap of_expr (sym (expr.rolls-Case operand arms otherwise)) ∙ fold-roll-Expr A B C D F e t o u q (Expr-F.Case operand arms otherwise)
      ∙ ap (λ k. e (Expr-F.Case k (map of_arm arms) ((former-Expr-Case-0).map Expr A of_expr otherwise))) (maybe_maps of_expr operand)
      ∙ ap (λ k. e (Expr-F.Case (option_map of_expr operand) (map of_arm arms) k)) (maybe_maps of_expr otherwise)

  pub at-Exists : (sub : ℕ) (query : Query) → of_expr (expr.Exists sub query) ≡ e (Expr-F.Exists sub (of_query query))
  at-Exists sub query = ap of_expr (sym (expr.rolls-Exists sub query)) ∙ fold-roll-Expr A B C D F e t o u q (Expr-F.Exists sub query)

  pub at-InSub : (sub : ℕ) (operand : Expr) (query : Query) → of_expr (expr.InSub sub operand query) ≡ e (Expr-F.InSub sub (of_expr operand) (of_query query))
  at-InSub sub operand query = ap of_expr (sym (expr.rolls-InSub sub operand query)) ∙ fold-roll-Expr A B C D F e t o u q (Expr-F.InSub sub operand query)

  pub at-Base : (rel : ℕ) (name : List ℕ) (table : ℕ) → of_tree (tree.Base rel name table) ≡ t (JoinTree-F.Base rel name table)
  at-Base rel name table = ap of_tree (sym (tree.rolls-Base rel name table)) ∙ fold-roll-JoinTree A B C D F e t o u q (JoinTree-F.Base rel name table)

  pub at-Sub : (rel : ℕ) (name : List ℕ) (query : Query) → of_tree (tree.Sub rel name query) ≡ t (JoinTree-F.Sub rel name (of_query query))
  at-Sub rel name query = ap of_tree (sym (tree.rolls-Sub rel name query)) ∙ fold-roll-JoinTree A B C D F e t o u q (JoinTree-F.Sub rel name query)

  pub at-Join : (kind : JoinKind) (left right : JoinTree) (on : List Expr) → of_tree (tree.Join kind left right on) ≡ t (JoinTree-F.Join kind (of_tree left) (of_tree right) (map of_expr on))
  at-Join kind left right on = ap of_tree (sym (tree.rolls-Join kind left right on)) ∙ fold-roll-JoinTree A B C D F e t o u q (JoinTree-F.Join kind left right on)

  pub at-From : (members : List JoinTree) (conds : List Expr) → of_tree (tree.From members conds) ≡ t (JoinTree-F.From (map of_tree members) (map of_expr conds))
  at-From members conds = ap of_tree (sym (tree.rolls-From members conds)) ∙ fold-roll-JoinTree A B C D F e t o u q (JoinTree-F.From members conds)

  pub at-Order : (x : Order) → of_order x ≡ o (record { expr = of_expr (out-Order x).expr; desc = (out-Order x).desc; nulls_first = (out-Order x).nulls_first })
  at-Order = fold_out-Order A B C D F e t o u q

  pub at-Output : (x : Output) → of_output x ≡ u (record { name = (out-Output x).name; ty = (out-Output x).ty; expr = of_expr (out-Output x).expr })
  at-Output = fold_out-Output A B C D F e t o u q

  pub at-Query : (x : Query) → of_query x ≡ q (record { columns = map of_output (out-Query x).columns; distinct = (out-Query x).distinct; tree = of_tree (out-Query x).tree; conds = map of_expr (out-Query x).conds; order = map of_order (out-Query x).order })
  at-Query = fold_out-Query A B C D F e t o u q

-- What a fold over the syntax trees gives at each constructor: its step on that level, with each child replaced by the
-- fold's value of it. One line for each constructor, for any fold.
use Rattle.std.proofs.Common.{◌≡◌, ◌∙◌, ap, sym, refl, ℕ, Bool, List, map, Option, Some, None}
use Rattle.std.specs.Prelude.{ℤ}
use Rattle.std.specs.Option.{option_map}
use Rattle.jp_ast.specs.declared.tree.CmpWord.{CmpWord}
use Rattle.jp_ast.specs.declared.tree.IsWord.{IsWord}
use Rattle.jp_ast.specs.declared.tree.Ast.TheVariants as ast
use Rattle.jp_ast.specs.declared.tree.FromItem.TheVariants as item
use Rattle.jp_ast.specs.declared.tree.Target.TheVariants as target
use Rattle.jp_ast.specs.declared.tree.Ast.TheShapes.{former-Ast-Case-0, former-FromItem-Join-3}
use Rattle.jp_ast.specs.declared.tree.Ast.TheFolds.{fold-roll-Ast, fold-roll-FromItem, fold-roll-Target, fold-roll-Select}
use Rattle.jp_ast.specs.declared.tree.Select.{roll-Select}
use Rattle.jp_statements.specs.Layers.{Ast, FromItem, Target, Select, Ast-F, FromItem-F, Target-F, Select-F, fold-Ast, fold-FromItem, fold-Target, fold-Select, JoinWord}

-- the maps over a part of CASE, and over a condition, that may be missing
box_maps : {A B : Type 0} (f : A → B) (o : Option A) → (former-Ast-Case-0).map A B f o ≡ option_map f o
box_maps f None = refl
box_maps f (Some x) = refl

maybe_maps : {A B : Type 0} (f : A → B) (o : Option A) → (former-FromItem-Join-3).map A B f o ≡ option_map f o
maybe_maps f None = refl
maybe_maps f (Some x) = refl

module _ {A B C D : Type 0} (e : Ast-F A B C D → A) (i : FromItem-F A B C D → B) (t : Target-F A B C D → C) (s : Select-F A B C D → D) where
  abbrev pub of_ast : Ast → A
  of_ast = fold-Ast A B C D e i t s

  abbrev pub of_item : FromItem → B
  of_item = fold-FromItem A B C D e i t s

  abbrev pub of_target : Target → C
  of_target = fold-Target A B C D e i t s

  abbrev pub of_select : Select → D
  of_select = fold-Select A B C D e i t s

  abbrev pub of_term : Bool × Ast → Bool × A
  of_term term = (term.0, of_ast term.1)

  abbrev pub of_arm : Ast × Ast → A × A
  of_arm arm = (of_ast arm.0, of_ast arm.1)

  pub at-Number : (value : ℤ) (at : ℕ) → of_ast (ast.Number value at) ≡ e (Ast-F.Number value at)
  at-Number value at = ap of_ast (sym (ast.rolls-Number value at)) ∙ fold-roll-Ast A B C D e i t s (Ast-F.Number value at)

  pub at-Text : (value : List ℕ) (at : ℕ) → of_ast (ast.Text value at) ≡ e (Ast-F.Text value at)
  at-Text value at = ap of_ast (sym (ast.rolls-Text value at)) ∙ fold-roll-Ast A B C D e i t s (Ast-F.Text value at)

  pub at-Bool : (value : Bool) (at : ℕ) → of_ast (ast.Bool value at) ≡ e (Ast-F.Bool value at)
  at-Bool value at = ap of_ast (sym (ast.rolls-Bool value at)) ∙ fold-roll-Ast A B C D e i t s (Ast-F.Bool value at)

  pub at-Null : (at : ℕ) → of_ast (ast.Null at) ≡ e (Ast-F.Null at)
  at-Null at = ap of_ast (sym (ast.rolls-Null at)) ∙ fold-roll-Ast A B C D e i t s (Ast-F.Null at)

  pub at-Name : (name : List ℕ) (at : ℕ) → of_ast (ast.Name name at) ≡ e (Ast-F.Name name at)
  at-Name name at = ap of_ast (sym (ast.rolls-Name name at)) ∙ fold-roll-Ast A B C D e i t s (Ast-F.Name name at)

  pub at-Qualified : (qualifier name : List ℕ) (at : ℕ) → of_ast (ast.Qualified qualifier name at) ≡ e (Ast-F.Qualified qualifier name at)
  at-Qualified qualifier name at = ap of_ast (sym (ast.rolls-Qualified qualifier name at)) ∙ fold-roll-Ast A B C D e i t s (Ast-F.Qualified qualifier name at)

  pub at-Sign : (minus : Bool) (operand : Ast) (at : ℕ) → of_ast (ast.Sign minus operand at) ≡ e (Ast-F.Sign minus (of_ast operand) at)
  at-Sign minus operand at = ap of_ast (sym (ast.rolls-Sign minus operand at)) ∙ fold-roll-Ast A B C D e i t s (Ast-F.Sign minus operand at)

  pub at-Sum : (terms : List (Bool × Ast)) (at : ℕ) → of_ast (ast.Sum terms at) ≡ e (Ast-F.Sum (map of_term terms) at)
  at-Sum terms at = ap of_ast (sym (ast.rolls-Sum terms at)) ∙ fold-roll-Ast A B C D e i t s (Ast-F.Sum terms at)

  pub at-Product : (factors : List Ast) (at : ℕ) → of_ast (ast.Product factors at) ≡ e (Ast-F.Product (map of_ast factors) at)
  at-Product factors at = ap of_ast (sym (ast.rolls-Product factors at)) ∙ fold-roll-Ast A B C D e i t s (Ast-F.Product factors at)

  pub at-Concat : (parts : List Ast) (at : ℕ) → of_ast (ast.Concat parts at) ≡ e (Ast-F.Concat (map of_ast parts) at)
  at-Concat parts at = ap of_ast (sym (ast.rolls-Concat parts at)) ∙ fold-roll-Ast A B C D e i t s (Ast-F.Concat parts at)

  pub at-Compare : (op : CmpWord) (left right : Ast) (at : ℕ) → of_ast (ast.Compare op left right at) ≡ e (Ast-F.Compare op (of_ast left) (of_ast right) at)
  at-Compare op left right at = ap of_ast (sym (ast.rolls-Compare op left right at)) ∙ fold-roll-Ast A B C D e i t s (Ast-F.Compare op left right at)

  pub at-Between : (operand low high : Ast) (at : ℕ) → of_ast (ast.Between operand low high at) ≡ e (Ast-F.Between (of_ast operand) (of_ast low) (of_ast high) at)
  at-Between operand low high at = ap of_ast (sym (ast.rolls-Between operand low high at)) ∙ fold-roll-Ast A B C D e i t s (Ast-F.Between operand low high at)

  pub at-InList : (operand : Ast) (list : List Ast) (at : ℕ) → of_ast (ast.InList operand list at) ≡ e (Ast-F.InList (of_ast operand) (map of_ast list) at)
  at-InList operand list at = ap of_ast (sym (ast.rolls-InList operand list at)) ∙ fold-roll-Ast A B C D e i t s (Ast-F.InList operand list at)

  pub at-InSelect : (operand : Ast) (select : Select) (at : ℕ) → of_ast (ast.InSelect operand select at) ≡ e (Ast-F.InSelect (of_ast operand) (of_select select) at)
  at-InSelect operand select at = ap of_ast (sym (ast.rolls-InSelect operand select at)) ∙ fold-roll-Ast A B C D e i t s (Ast-F.InSelect operand select at)

  pub at-And : (list : List Ast) (at : ℕ) → of_ast (ast.And list at) ≡ e (Ast-F.And (map of_ast list) at)
  at-And list at = ap of_ast (sym (ast.rolls-And list at)) ∙ fold-roll-Ast A B C D e i t s (Ast-F.And list at)

  pub at-Or : (list : List Ast) (at : ℕ) → of_ast (ast.Or list at) ≡ e (Ast-F.Or (map of_ast list) at)
  at-Or list at = ap of_ast (sym (ast.rolls-Or list at)) ∙ fold-roll-Ast A B C D e i t s (Ast-F.Or list at)

  pub at-Not : (operand : Ast) (at : ℕ) → of_ast (ast.Not operand at) ≡ e (Ast-F.Not (of_ast operand) at)
  at-Not operand at = ap of_ast (sym (ast.rolls-Not operand at)) ∙ fold-roll-Ast A B C D e i t s (Ast-F.Not operand at)

  pub at-Is : (operand : Ast) (negated : Bool) (word : IsWord) (at : ℕ) → of_ast (ast.Is operand negated word at) ≡ e (Ast-F.Is (of_ast operand) negated word at)
  at-Is operand negated word at = ap of_ast (sym (ast.rolls-Is operand negated word at)) ∙ fold-roll-Ast A B C D e i t s (Ast-F.Is operand negated word at)

  pub at-Exists : (select : Select) (at : ℕ) → of_ast (ast.Exists select at) ≡ e (Ast-F.Exists (of_select select) at)
  at-Exists select at = ap of_ast (sym (ast.rolls-Exists select at)) ∙ fold-roll-Ast A B C D e i t s (Ast-F.Exists select at)

  pub at-Coalesce : (list : List Ast) (at : ℕ) → of_ast (ast.Coalesce list at) ≡ e (Ast-F.Coalesce (map of_ast list) at)
  at-Coalesce list at = ap of_ast (sym (ast.rolls-Coalesce list at)) ∙ fold-roll-Ast A B C D e i t s (Ast-F.Coalesce list at)

  pub at-Case : (operand : Option Ast) (arms : List (Ast × Ast)) (otherwise : Option Ast) (at : ℕ) → of_ast (ast.Case operand arms otherwise at) ≡ e (Ast-F.Case (option_map of_ast operand) (map of_arm arms) (option_map of_ast otherwise) at)
  at-Case operand arms otherwise at =
      ap of_ast (sym (ast.rolls-Case operand arms otherwise at)) ∙ fold-roll-Ast A B C D e i t s (Ast-F.Case operand arms otherwise at)
      ∙ ap (λ k. e (Ast-F.Case k (map of_arm arms) ((former-Ast-Case-0).map Ast A of_ast otherwise) at)) (box_maps of_ast operand)
      ∙ ap (λ k. e (Ast-F.Case (option_map of_ast operand) (map of_arm arms) k at)) (box_maps of_ast otherwise)

  pub at-Table : (name : List ℕ) (alias : Option (List ℕ)) (at : ℕ) → of_item (item.Table name alias at) ≡ i (FromItem-F.Table name alias at)
  at-Table name alias at = ap of_item (sym (item.rolls-Table name alias at)) ∙ fold-roll-FromItem A B C D e i t s (FromItem-F.Table name alias at)

  pub at-Sub : (select : Select) (alias : Option (List ℕ)) (at : ℕ) → of_item (item.Sub select alias at) ≡ i (FromItem-F.Sub (of_select select) alias at)
  at-Sub select alias at = ap of_item (sym (item.rolls-Sub select alias at)) ∙ fold-roll-FromItem A B C D e i t s (FromItem-F.Sub select alias at)

  pub at-Join : (kind : JoinWord) (left right : FromItem) (on : Option Ast) (at : ℕ) → of_item (item.Join kind left right on at) ≡ i (FromItem-F.Join kind (of_item left) (of_item right) (option_map of_ast on) at)
  at-Join kind left right on at =
      ap of_item (sym (item.rolls-Join kind left right on at)) ∙ fold-roll-FromItem A B C D e i t s (FromItem-F.Join kind left right on at)
      ∙ ap (λ k. i (FromItem-F.Join kind (of_item left) (of_item right) k at)) (maybe_maps of_ast on)

  pub at-All : (at : ℕ) → of_target (target.All at) ≡ t (Target-F.All at)
  at-All at = ap of_target (sym (target.rolls-All at)) ∙ fold-roll-Target A B C D e i t s (Target-F.All at)

  pub at-AllOf : (name : List ℕ) (at : ℕ) → of_target (target.AllOf name at) ≡ t (Target-F.AllOf name at)
  at-AllOf name at = ap of_target (sym (target.rolls-AllOf name at)) ∙ fold-roll-Target A B C D e i t s (Target-F.AllOf name at)

  pub at-One : (expr : Ast) (alias : Option (List ℕ)) → of_target (target.One expr alias) ≡ t (Target-F.One (of_ast expr) alias)
  at-One expr alias = ap of_target (sym (target.rolls-One expr alias)) ∙ fold-roll-Target A B C D e i t s (Target-F.One expr alias)

  pub at-Select : (x : Select-F Ast FromItem Target Select) → of_select (roll-Select x) ≡ s (record { distinct = x.distinct; targets = map of_target x.targets; items = map of_item x.items; cond = option_map of_ast x.cond })
  at-Select x =
      fold-roll-Select A B C D e i t s x
      ∙ ap (λ k. s (record { distinct = x.distinct; targets = map of_target x.targets; items = map of_item x.items; cond = k })) (maybe_maps of_ast x.cond)

-- What it is for each node to be whole, in terms of its parts.
use Rattle.std.proofs.Common.{◌≡◌, ◌∙◌, ap, ap₂, sym, refl, ℕ, Bool, true, ◌&&◌, List, [], ◌∷◌, map, Option, Some, None}
use Rattle.std.specs.Prelude.{ℤ}
use Rattle.std.specs.Option.{option_map}
use Rattle.std.specs.List.{list_all}
use Rattle.std.proofs.lemmas.List.Folds.{list_all-map}
use Rattle.jp_ast.specs.declared.tree.CmpWord.{CmpWord}
use Rattle.jp_ast.specs.declared.tree.IsWord.{IsWord}
use Rattle.jp_ast.specs.declared.tree.Ast.TheVariants as ast
use Rattle.jp_ast.specs.declared.tree.FromItem.TheVariants as item
use Rattle.jp_ast.specs.declared.tree.Target.TheVariants as target
use Rattle.jp_ast.specs.declared.tree.Select.{out-Select, roll-Select, roll-out-Select}
use Rattle.jp_statements.specs.Layers.{Ast, FromItem, Target, Select, Select-F, JoinWord, itself, in_term}
use Rattle.jp_statements.specs.Whole.{has_one, has_two, is_literal, fits_join, arm_passes, maybe_passes, ast_whole, item_whole, target_whole, select_whole, is_whole_ast, is_whole_item, is_whole_target, is_whole_select}
use Rattle.jp_ast.specs.declared.tree.JoinWord.TheVariants as join
use Rattle.jp_statements.proofs.FoldLaws as fold

-- ---- lists of wholes, and parts that may be missing

one_of : {A B : Type 0} (f : A → B) (xs : List A) → has_one (map f xs) ≡ has_one xs
one_of f [] = refl
one_of f (x ∷ xs) = refl

two_of : {A B : Type 0} (f : A → B) (xs : List A) → has_two (map f xs) ≡ has_two xs
two_of f [] = refl
two_of f (x ∷ []) = refl
two_of f (x ∷ y ∷ xs) = refl

maybe_of : {A : Type 0} (f : A → Bool) (o : Option A) → maybe_passes itself (option_map f o) ≡ maybe_passes f o
maybe_of f None = refl
maybe_of f (Some x) = refl

join_of : {A : Type 0} (f : A → Bool) (kind : JoinWord) (o : Option A) → fits_join itself kind (option_map f o) ≡ fits_join f kind o
join_of f join.Cross None = refl
join_of f join.Inner None = refl
join_of f join.Left None = refl
join_of f join.Right None = refl
join_of f join.Full None = refl
join_of f join.Cross (Some x) = refl
join_of f join.Inner (Some x) = refl
join_of f join.Left (Some x) = refl
join_of f join.Right (Some x) = refl
join_of f join.Full (Some x) = refl

module _ {A B : Type 0} (f : A → B) (passes : B → Bool) where
  some_of : (xs : List A) → (has_one (map f xs) && list_all passes (map f xs)) ≡ (has_one xs && list_all (λ x. passes (f x)) xs)
  some_of xs = ap₂ ◌&&◌ (one_of f xs) (list_all-map passes f xs)

  several_of : (xs : List A) → (has_two (map f xs) && list_all passes (map f xs)) ≡ (has_two xs && list_all (λ x. passes (f x)) xs)
  several_of xs = ap₂ ◌&&◌ (two_of f xs) (list_all-map passes f xs)

-- ---- nodes

pub whole-Number : (value : ℤ) (at : ℕ) → is_whole_ast (ast.Number value at) ≡ is_literal value
whole-Number value at = fold.at-Number ast_whole item_whole target_whole select_whole value at

pub whole-Text : (value : List ℕ) (at : ℕ) → is_whole_ast (ast.Text value at) ≡ true
whole-Text value at = fold.at-Text ast_whole item_whole target_whole select_whole value at

pub whole-Bool : (value : Bool) (at : ℕ) → is_whole_ast (ast.Bool value at) ≡ true
whole-Bool value at = fold.at-Bool ast_whole item_whole target_whole select_whole value at

pub whole-Null : (at : ℕ) → is_whole_ast (ast.Null at) ≡ true
whole-Null at = fold.at-Null ast_whole item_whole target_whole select_whole at

pub whole-Name : (name : List ℕ) (at : ℕ) → is_whole_ast (ast.Name name at) ≡ true
whole-Name name at = fold.at-Name ast_whole item_whole target_whole select_whole name at

pub whole-Qualified : (qualifier name : List ℕ) (at : ℕ) → is_whole_ast (ast.Qualified qualifier name at) ≡ true
whole-Qualified qualifier name at = fold.at-Qualified ast_whole item_whole target_whole select_whole qualifier name at

pub whole-Sign : (minus : Bool) (operand : Ast) (at : ℕ) → is_whole_ast (ast.Sign minus operand at) ≡ is_whole_ast operand
whole-Sign minus operand at = fold.at-Sign ast_whole item_whole target_whole select_whole minus operand at

pub whole-Sum : (terms : List (Bool × Ast)) (at : ℕ) → is_whole_ast (ast.Sum terms at) ≡ (has_two terms && list_all (in_term is_whole_ast) terms)
whole-Sum terms at = fold.at-Sum ast_whole item_whole target_whole select_whole terms at ∙ several_of (fold.of_term ast_whole item_whole target_whole select_whole) (in_term itself) terms

pub whole-Product : (factors : List Ast) (at : ℕ) → is_whole_ast (ast.Product factors at) ≡ (has_two factors && list_all is_whole_ast factors)
whole-Product factors at = fold.at-Product ast_whole item_whole target_whole select_whole factors at ∙ several_of is_whole_ast itself factors

pub whole-Concat : (parts : List Ast) (at : ℕ) → is_whole_ast (ast.Concat parts at) ≡ (has_two parts && list_all is_whole_ast parts)
whole-Concat parts at = fold.at-Concat ast_whole item_whole target_whole select_whole parts at ∙ several_of is_whole_ast itself parts

pub whole-And : (list : List Ast) (at : ℕ) → is_whole_ast (ast.And list at) ≡ (has_two list && list_all is_whole_ast list)
whole-And list at = fold.at-And ast_whole item_whole target_whole select_whole list at ∙ several_of is_whole_ast itself list

pub whole-Or : (list : List Ast) (at : ℕ) → is_whole_ast (ast.Or list at) ≡ (has_two list && list_all is_whole_ast list)
whole-Or list at = fold.at-Or ast_whole item_whole target_whole select_whole list at ∙ several_of is_whole_ast itself list

pub whole-Compare : (op : CmpWord) (left right : Ast) (at : ℕ) → is_whole_ast (ast.Compare op left right at) ≡ (is_whole_ast left && is_whole_ast right)
whole-Compare op left right at = fold.at-Compare ast_whole item_whole target_whole select_whole op left right at

pub whole-Between : (operand low high : Ast) (at : ℕ) → is_whole_ast (ast.Between operand low high at) ≡ (is_whole_ast operand && (is_whole_ast low && is_whole_ast high))
whole-Between operand low high at = fold.at-Between ast_whole item_whole target_whole select_whole operand low high at

pub whole-InList : (operand : Ast) (list : List Ast) (at : ℕ) → is_whole_ast (ast.InList operand list at) ≡ (is_whole_ast operand && (has_one list && list_all is_whole_ast list))
whole-InList operand list at = fold.at-InList ast_whole item_whole target_whole select_whole operand list at ∙ ap (λ b. is_whole_ast operand && b) (some_of is_whole_ast itself list)

pub whole-InSelect : (operand : Ast) (select : Select) (at : ℕ) → is_whole_ast (ast.InSelect operand select at) ≡ (is_whole_ast operand && is_whole_select select)
whole-InSelect operand select at = fold.at-InSelect ast_whole item_whole target_whole select_whole operand select at

pub whole-Not : (operand : Ast) (at : ℕ) → is_whole_ast (ast.Not operand at) ≡ is_whole_ast operand
whole-Not operand at = fold.at-Not ast_whole item_whole target_whole select_whole operand at

pub whole-Is : (operand : Ast) (negated : Bool) (word : IsWord) (at : ℕ) → is_whole_ast (ast.Is operand negated word at) ≡ is_whole_ast operand
whole-Is operand negated word at = fold.at-Is ast_whole item_whole target_whole select_whole operand negated word at

pub whole-Exists : (select : Select) (at : ℕ) → is_whole_ast (ast.Exists select at) ≡ is_whole_select select
whole-Exists select at = fold.at-Exists ast_whole item_whole target_whole select_whole select at

pub whole-Coalesce : (list : List Ast) (at : ℕ) → is_whole_ast (ast.Coalesce list at) ≡ (has_one list && list_all is_whole_ast list)
whole-Coalesce list at = fold.at-Coalesce ast_whole item_whole target_whole select_whole list at ∙ some_of is_whole_ast itself list

pub whole-Case : (operand : Option Ast) (arms : List (Ast × Ast)) (otherwise : Option Ast) (at : ℕ) → is_whole_ast (ast.Case operand arms otherwise at) ≡ (maybe_passes is_whole_ast operand && ((has_one arms && list_all (arm_passes is_whole_ast) arms) && maybe_passes is_whole_ast otherwise))
whole-Case operand arms otherwise at = fold.at-Case ast_whole item_whole target_whole select_whole operand arms otherwise at ∙ ap₂ ◌&&◌ (maybe_of is_whole_ast operand) (ap₂ ◌&&◌ (some_of (fold.of_arm ast_whole item_whole target_whole select_whole) (arm_passes itself) arms) (maybe_of is_whole_ast otherwise))

pub whole-Table : (name : List ℕ) (alias : Option (List ℕ)) (at : ℕ) → is_whole_item (item.Table name alias at) ≡ true
whole-Table name alias at = fold.at-Table ast_whole item_whole target_whole select_whole name alias at

pub whole-Sub : (select : Select) (alias : Option (List ℕ)) (at : ℕ) → is_whole_item (item.Sub select alias at) ≡ is_whole_select select
whole-Sub select alias at = fold.at-Sub ast_whole item_whole target_whole select_whole select alias at

pub whole-Join : (kind : JoinWord) (left right : FromItem) (on : Option Ast) (at : ℕ) → is_whole_item (item.Join kind left right on at) ≡ (is_whole_item left && (is_whole_item right && fits_join is_whole_ast kind on))
whole-Join kind left right on at = fold.at-Join ast_whole item_whole target_whole select_whole kind left right on at ∙ ap (λ b. is_whole_item left && (is_whole_item right && b)) (join_of is_whole_ast kind on)

pub whole-All : (at : ℕ) → is_whole_target (target.All at) ≡ true
whole-All at = fold.at-All ast_whole item_whole target_whole select_whole at

pub whole-AllOf : (name : List ℕ) (at : ℕ) → is_whole_target (target.AllOf name at) ≡ true
whole-AllOf name at = fold.at-AllOf ast_whole item_whole target_whole select_whole name at

pub whole-One : (expr : Ast) (alias : Option (List ℕ)) → is_whole_target (target.One expr alias) ≡ is_whole_ast expr
whole-One expr alias = fold.at-One ast_whole item_whole target_whole select_whole expr alias

pub whole-made : (x : Select-F Ast FromItem Target Select) → is_whole_select (roll-Select x) ≡ ((has_one x.targets && list_all is_whole_target x.targets) && ((has_one x.items && list_all is_whole_item x.items) && maybe_passes is_whole_ast x.cond))
whole-made x = fold.at-Select ast_whole item_whole target_whole select_whole x ∙ ap₂ ◌&&◌ (some_of is_whole_target itself x.targets) (ap₂ ◌&&◌ (some_of is_whole_item itself x.items) (maybe_of is_whole_ast x.cond))

pub whole-Select : (x : Select) → is_whole_select x
    ≡ ((has_one (out-Select x).targets && list_all is_whole_target (out-Select x).targets) && ((has_one (out-Select x).items && list_all is_whole_item (out-Select x).items) && maybe_passes is_whole_ast (out-Select x).cond))
whole-Select x = ap is_whole_select (sym (roll-out-Select x)) ∙ whole-made (out-Select x)

-- what bodies over the trees want
pub ruleset equations = (whole-Number, whole-Text, whole-Bool, whole-Null, whole-Name, whole-Qualified, whole-Sign, whole-Sum, whole-Product, whole-Concat, whole-And, whole-Or, whole-Compare, whole-Between, whole-InList, whole-InSelect, whole-Not, whole-Is, whole-Exists, whole-Coalesce, whole-Case, whole-Table, whole-Sub, whole-Join, whole-All, whole-AllOf, whole-One, whole-Select)

-- How many entries each node has, in terms of its parts.
use Rattle.std.proofs.Common.{◌≡◌, ◌∙◌, ap, ap₂, sym, refl, ℕ, ◌+◌, ◌<◌, ◌≤◌, Bool, List, length, map, get_or, Option, Some, None, arith}
use Rattle.std.specs.Prelude.{ℤ}
use Rattle.std.specs.Option.{option_map}
use Rattle.std.specs.List.{sum_by}
use Rattle.std.proofs.lemmas.List.Folds.{fold-map}
use Rattle.std.proofs.lemmas.List.Sums.{get_or-le-sum_by}
use Rattle.jp_ast.specs.declared.tree.CmpWord.{CmpWord}
use Rattle.jp_ast.specs.declared.tree.IsWord.{IsWord}
use Rattle.jp_ast.specs.declared.tree.Ast.TheVariants as ast
use Rattle.jp_ast.specs.declared.tree.FromItem.TheVariants as item
use Rattle.jp_ast.specs.declared.tree.Target.TheVariants as target
use Rattle.jp_ast.specs.declared.tree.Select.{out-Select, roll-Select, roll-out-Select}
use Rattle.jp_statements.specs.Layers.{Ast, FromItem, Target, Select, Select-F, JoinWord, itself, in_term}
use Rattle.jp_statements.specs.Entries.{in_arm, in_maybe, ast_entries, item_entries, target_entries, select_entries, entries_in_ast, entries_in_item, entries_in_target, entries_in_select}
use Rattle.jp_statements.proofs.FoldLaws as fold

-- ---- lists of counts, and parts that may be missing

maybe_of : {A : Type 0} (f : A → ℕ) (o : Option A) → in_maybe itself (option_map f o) ≡ in_maybe f o
maybe_of f None = refl
maybe_of f (Some x) = refl

sum_of : {A B : Type 0} (f : A → B) (count : B → ℕ) (xs : List A) → sum_by count (map f xs) ≡ sum_by (λ x. count (f x)) xs
sum_of f count xs = fold-map (λ n x. n + count x) f 0 xs

-- ---- nodes

pub entries-Number : (value : ℤ) (at : ℕ) → entries_in_ast (ast.Number value at) ≡ 0
entries-Number value at = fold.at-Number ast_entries item_entries target_entries select_entries value at

pub entries-Text : (value : List ℕ) (at : ℕ) → entries_in_ast (ast.Text value at) ≡ 0
entries-Text value at = fold.at-Text ast_entries item_entries target_entries select_entries value at

pub entries-Bool : (value : Bool) (at : ℕ) → entries_in_ast (ast.Bool value at) ≡ 0
entries-Bool value at = fold.at-Bool ast_entries item_entries target_entries select_entries value at

pub entries-Null : (at : ℕ) → entries_in_ast (ast.Null at) ≡ 0
entries-Null at = fold.at-Null ast_entries item_entries target_entries select_entries at

pub entries-Name : (name : List ℕ) (at : ℕ) → entries_in_ast (ast.Name name at) ≡ 0
entries-Name name at = fold.at-Name ast_entries item_entries target_entries select_entries name at

pub entries-Qualified : (qualifier name : List ℕ) (at : ℕ) → entries_in_ast (ast.Qualified qualifier name at) ≡ 0
entries-Qualified qualifier name at = fold.at-Qualified ast_entries item_entries target_entries select_entries qualifier name at

pub entries-Sign : (minus : Bool) (operand : Ast) (at : ℕ) → entries_in_ast (ast.Sign minus operand at) ≡ entries_in_ast operand
entries-Sign minus operand at = fold.at-Sign ast_entries item_entries target_entries select_entries minus operand at

pub entries-Sum : (terms : List (Bool × Ast)) (at : ℕ) → entries_in_ast (ast.Sum terms at) ≡ sum_by (in_term entries_in_ast) terms
entries-Sum terms at = fold.at-Sum ast_entries item_entries target_entries select_entries terms at ∙ sum_of (fold.of_term ast_entries item_entries target_entries select_entries) (in_term itself) terms

pub entries-Product : (factors : List Ast) (at : ℕ) → entries_in_ast (ast.Product factors at) ≡ sum_by entries_in_ast factors
entries-Product factors at = fold.at-Product ast_entries item_entries target_entries select_entries factors at ∙ sum_of entries_in_ast itself factors

pub entries-Concat : (parts : List Ast) (at : ℕ) → entries_in_ast (ast.Concat parts at) ≡ sum_by entries_in_ast parts
entries-Concat parts at = fold.at-Concat ast_entries item_entries target_entries select_entries parts at ∙ sum_of entries_in_ast itself parts

pub entries-And : (list : List Ast) (at : ℕ) → entries_in_ast (ast.And list at) ≡ sum_by entries_in_ast list
entries-And list at = fold.at-And ast_entries item_entries target_entries select_entries list at ∙ sum_of entries_in_ast itself list

pub entries-Or : (list : List Ast) (at : ℕ) → entries_in_ast (ast.Or list at) ≡ sum_by entries_in_ast list
entries-Or list at = fold.at-Or ast_entries item_entries target_entries select_entries list at ∙ sum_of entries_in_ast itself list

pub entries-Compare : (op : CmpWord) (left right : Ast) (at : ℕ) → entries_in_ast (ast.Compare op left right at) ≡ entries_in_ast left + entries_in_ast right
entries-Compare op left right at = fold.at-Compare ast_entries item_entries target_entries select_entries op left right at

pub entries-Between : (operand low high : Ast) (at : ℕ) → entries_in_ast (ast.Between operand low high at) ≡ entries_in_ast operand + (entries_in_ast low + entries_in_ast high)
entries-Between operand low high at = fold.at-Between ast_entries item_entries target_entries select_entries operand low high at

pub entries-InList : (operand : Ast) (list : List Ast) (at : ℕ) → entries_in_ast (ast.InList operand list at) ≡ entries_in_ast operand + sum_by entries_in_ast list
entries-InList operand list at = fold.at-InList ast_entries item_entries target_entries select_entries operand list at ∙ ap (λ n. entries_in_ast operand + n) (sum_of entries_in_ast itself list)

pub entries-InSelect : (operand : Ast) (select : Select) (at : ℕ) → entries_in_ast (ast.InSelect operand select at) ≡ entries_in_ast operand + entries_in_select select
entries-InSelect operand select at = fold.at-InSelect ast_entries item_entries target_entries select_entries operand select at

pub entries-Not : (operand : Ast) (at : ℕ) → entries_in_ast (ast.Not operand at) ≡ entries_in_ast operand
entries-Not operand at = fold.at-Not ast_entries item_entries target_entries select_entries operand at

pub entries-Is : (operand : Ast) (negated : Bool) (word : IsWord) (at : ℕ) → entries_in_ast (ast.Is operand negated word at) ≡ entries_in_ast operand
entries-Is operand negated word at = fold.at-Is ast_entries item_entries target_entries select_entries operand negated word at

pub entries-Exists : (select : Select) (at : ℕ) → entries_in_ast (ast.Exists select at) ≡ entries_in_select select
entries-Exists select at = fold.at-Exists ast_entries item_entries target_entries select_entries select at

pub entries-Coalesce : (list : List Ast) (at : ℕ) → entries_in_ast (ast.Coalesce list at) ≡ sum_by entries_in_ast list
entries-Coalesce list at = fold.at-Coalesce ast_entries item_entries target_entries select_entries list at ∙ sum_of entries_in_ast itself list

pub entries-Case : (operand : Option Ast) (arms : List (Ast × Ast)) (otherwise : Option Ast) (at : ℕ) → entries_in_ast (ast.Case operand arms otherwise at) ≡ in_maybe entries_in_ast operand + (sum_by (in_arm entries_in_ast) arms + in_maybe entries_in_ast otherwise)
entries-Case operand arms otherwise at = fold.at-Case ast_entries item_entries target_entries select_entries operand arms otherwise at ∙ ap₂ ◌+◌ (maybe_of entries_in_ast operand) (ap₂ ◌+◌ (sum_of (fold.of_arm ast_entries item_entries target_entries select_entries) (in_arm itself) arms) (maybe_of entries_in_ast otherwise))

pub entries-Table : (name : List ℕ) (alias : Option (List ℕ)) (at : ℕ) → entries_in_item (item.Table name alias at) ≡ 1
entries-Table name alias at = fold.at-Table ast_entries item_entries target_entries select_entries name alias at

pub entries-Sub : (select : Select) (alias : Option (List ℕ)) (at : ℕ) → entries_in_item (item.Sub select alias at) ≡ 1 + entries_in_select select
entries-Sub select alias at = fold.at-Sub ast_entries item_entries target_entries select_entries select alias at

pub entries-Join : (kind : JoinWord) (left right : FromItem) (on : Option Ast) (at : ℕ) → entries_in_item (item.Join kind left right on at) ≡ entries_in_item left + (entries_in_item right + in_maybe entries_in_ast on)
entries-Join kind left right on at = fold.at-Join ast_entries item_entries target_entries select_entries kind left right on at ∙ ap (λ n. entries_in_item left + (entries_in_item right + n)) (maybe_of entries_in_ast on)

pub entries-All : (at : ℕ) → entries_in_target (target.All at) ≡ 0
entries-All at = fold.at-All ast_entries item_entries target_entries select_entries at

pub entries-AllOf : (name : List ℕ) (at : ℕ) → entries_in_target (target.AllOf name at) ≡ 0
entries-AllOf name at = fold.at-AllOf ast_entries item_entries target_entries select_entries name at

pub entries-One : (expr : Ast) (alias : Option (List ℕ)) → entries_in_target (target.One expr alias) ≡ entries_in_ast expr
entries-One expr alias = fold.at-One ast_entries item_entries target_entries select_entries expr alias

pub entries-made : (x : Select-F Ast FromItem Target Select) → entries_in_select (roll-Select x) ≡ sum_by entries_in_target x.targets + (sum_by entries_in_item x.items + in_maybe entries_in_ast x.cond)
entries-made x = fold.at-Select ast_entries item_entries target_entries select_entries x ∙ ap₂ ◌+◌ (sum_of entries_in_target itself x.targets) (ap₂ ◌+◌ (sum_of entries_in_item itself x.items) (maybe_of entries_in_ast x.cond))

pub entries-Select : (x : Select) → entries_in_select x ≡ sum_by entries_in_target (out-Select x).targets + (sum_by entries_in_item (out-Select x).items + in_maybe entries_in_ast (out-Select x).cond)
entries-Select x = ap entries_in_select (sym (roll-out-Select x)) ∙ entries-made (out-Select x)

-- ---- a term and an arm have no more entries than their list

pub term_fits : (terms : List (Bool × Ast)) (i : ℕ) (d : Bool × Ast) → i < length terms → entries_in_ast (get_or terms i d).1 ≤ sum_by (in_term entries_in_ast) terms
term_fits = get_or-le-sum_by (in_term entries_in_ast)

pub when_fits : (arms : List (Ast × Ast)) (i : ℕ) (d : Ast × Ast) → i < length arms → entries_in_ast (get_or arms i d).0 ≤ sum_by (in_arm entries_in_ast) arms
when_fits arms i d lt = omega (arith, get_or-le-sum_by (in_arm entries_in_ast) arms i d lt)

pub then_fits : (arms : List (Ast × Ast)) (i : ℕ) (d : Ast × Ast) → i < length arms → entries_in_ast (get_or arms i d).1 ≤ sum_by (in_arm entries_in_ast) arms
then_fits arms i d lt = omega (arith, get_or-le-sum_by (in_arm entries_in_ast) arms i d lt)

-- what bodies over the trees want
pub ruleset equations = (entries-Number, entries-Text, entries-Bool, entries-Null, entries-Name, entries-Qualified, entries-Sign, entries-Sum, entries-Product, entries-Concat, entries-And, entries-Or, entries-Compare, entries-Between, entries-InList, entries-InSelect, entries-Not, entries-Is, entries-Exists, entries-Coalesce, entries-Case, entries-Table, entries-Sub, entries-Join, entries-All, entries-AllOf, entries-One, entries-Select, term_fits, when_fits, then_fits)

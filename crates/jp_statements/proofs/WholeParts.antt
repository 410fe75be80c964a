-- A whole node taken apart, in the form that closes calls over lists and reads of their members.
use Rattle.std.proofs.Common.{◌≡◌, ◌∙◌, sym, ℕ, ◌≤◌, Bool, true, ◌&&◌, List, [], ◌∷◌, length, Option, arith}
use Rattle.std.proofs.lemmas.Bool.{and_parts}
use Rattle.std.proofs.lemmas.List.Sums.{AllPass-from_list_all}
use Rattle.std.specs.List.{AllPass, list_all}
use Rattle.jp_ast.specs.declared.tree.Ast.TheVariants as ast
use Rattle.jp_ast.specs.declared.tree.Select.{out-Select}
use Rattle.jp_statements.specs.Layers.{Ast, Select, Stmt, in_term}
use Rattle.jp_statements.specs.Whole.{has_one, has_two, arm_passes, maybe_passes, is_whole_ast, is_whole_item, is_whole_target, is_whole_select, is_whole_order, is_whole}
use Rattle.jp_statements.proofs.WholeLaws.{whole-Sum, whole-Product, whole-Concat, whole-InList, whole-And, whole-Or, whole-Coalesce, whole-Case, whole-Select}

-- ---- lists

one_at_least : {A : Type 0} (xs : List A) → has_one xs ≡ true → 1 ≤ length xs
one_at_least [] h = absurd cc
one_at_least (x ∷ xs) h = omega arith

two_at_least : {A : Type 0} (xs : List A) → has_two xs ≡ true → 2 ≤ length xs
two_at_least [] h = absurd cc
two_at_least (x ∷ []) h = absurd cc
two_at_least (x ∷ y ∷ xs) h = omega arith

module _ {A : Type 0} (passes : A → Bool) (xs : List A) where
  some_pass : (has_one xs && list_all passes xs) ≡ true → (1 ≤ length xs) × AllPass passes xs
  some_pass h = let both = and_parts (has_one xs) (list_all passes xs) h in (one_at_least xs both.0, AllPass-from_list_all passes xs both.1)

  several_pass : (has_two xs && list_all passes xs) ≡ true → (2 ≤ length xs) × AllPass passes xs
  several_pass h = let both = and_parts (has_two xs) (list_all passes xs) h in (two_at_least xs both.0, AllPass-from_list_all passes xs both.1)

-- ---- nodes

pub members-Sum : (terms : List (Bool × Ast)) (at : ℕ) → is_whole_ast (ast.Sum terms at) ≡ true → AllPass (in_term is_whole_ast) terms
members-Sum terms at h = (several_pass (in_term is_whole_ast) terms (sym (whole-Sum terms at) ∙ h)).1

pub count-Sum : (terms : List (Bool × Ast)) (at : ℕ) → is_whole_ast (ast.Sum terms at) ≡ true → 2 ≤ length terms
count-Sum terms at h = (several_pass (in_term is_whole_ast) terms (sym (whole-Sum terms at) ∙ h)).0

pub members-Product : (factors : List Ast) (at : ℕ) → is_whole_ast (ast.Product factors at) ≡ true → AllPass is_whole_ast factors
members-Product factors at h = (several_pass is_whole_ast factors (sym (whole-Product factors at) ∙ h)).1

pub count-Product : (factors : List Ast) (at : ℕ) → is_whole_ast (ast.Product factors at) ≡ true → 2 ≤ length factors
count-Product factors at h = (several_pass is_whole_ast factors (sym (whole-Product factors at) ∙ h)).0

pub members-Concat : (parts : List Ast) (at : ℕ) → is_whole_ast (ast.Concat parts at) ≡ true → AllPass is_whole_ast parts
members-Concat parts at h = (several_pass is_whole_ast parts (sym (whole-Concat parts at) ∙ h)).1

pub count-Concat : (parts : List Ast) (at : ℕ) → is_whole_ast (ast.Concat parts at) ≡ true → 2 ≤ length parts
count-Concat parts at h = (several_pass is_whole_ast parts (sym (whole-Concat parts at) ∙ h)).0

pub members-And : (list : List Ast) (at : ℕ) → is_whole_ast (ast.And list at) ≡ true → AllPass is_whole_ast list
members-And list at h = (several_pass is_whole_ast list (sym (whole-And list at) ∙ h)).1

pub count-And : (list : List Ast) (at : ℕ) → is_whole_ast (ast.And list at) ≡ true → 2 ≤ length list
count-And list at h = (several_pass is_whole_ast list (sym (whole-And list at) ∙ h)).0

pub members-Or : (list : List Ast) (at : ℕ) → is_whole_ast (ast.Or list at) ≡ true → AllPass is_whole_ast list
members-Or list at h = (several_pass is_whole_ast list (sym (whole-Or list at) ∙ h)).1

pub count-Or : (list : List Ast) (at : ℕ) → is_whole_ast (ast.Or list at) ≡ true → 2 ≤ length list
count-Or list at h = (several_pass is_whole_ast list (sym (whole-Or list at) ∙ h)).0

pub members-Coalesce : (list : List Ast) (at : ℕ) → is_whole_ast (ast.Coalesce list at) ≡ true → AllPass is_whole_ast list
members-Coalesce list at h = (some_pass is_whole_ast list (sym (whole-Coalesce list at) ∙ h)).1

pub count-Coalesce : (list : List Ast) (at : ℕ) → is_whole_ast (ast.Coalesce list at) ≡ true → 1 ≤ length list
count-Coalesce list at h = (some_pass is_whole_ast list (sym (whole-Coalesce list at) ∙ h)).0

pub members-InList : (operand : Ast) (list : List Ast) (at : ℕ) → is_whole_ast (ast.InList operand list at) ≡ true → AllPass is_whole_ast list
members-InList operand list at h = (some_pass is_whole_ast list (and_parts (is_whole_ast operand) (has_one list && list_all is_whole_ast list) (sym (whole-InList operand list at) ∙ h)).1).1

pub count-InList : (operand : Ast) (list : List Ast) (at : ℕ) → is_whole_ast (ast.InList operand list at) ≡ true → 1 ≤ length list
count-InList operand list at h = (some_pass is_whole_ast list (and_parts (is_whole_ast operand) (has_one list && list_all is_whole_ast list) (sym (whole-InList operand list at) ∙ h)).1).0

pub members-Case : (operand : Option Ast) (arms : List (Ast × Ast)) (otherwise : Option Ast) (at : ℕ) → is_whole_ast (ast.Case operand arms otherwise at) ≡ true → AllPass (arm_passes is_whole_ast) arms
members-Case operand arms otherwise at h = (some_pass (arm_passes is_whole_ast) arms (and_parts (has_one arms && list_all (arm_passes is_whole_ast) arms) (maybe_passes is_whole_ast otherwise) (and_parts (maybe_passes is_whole_ast operand) ((has_one arms && list_all (arm_passes is_whole_ast) arms) && maybe_passes is_whole_ast otherwise) (sym (whole-Case operand arms otherwise at) ∙ h)).1).0).1

pub count-Case : (operand : Option Ast) (arms : List (Ast × Ast)) (otherwise : Option Ast) (at : ℕ) → is_whole_ast (ast.Case operand arms otherwise at) ≡ true → 1 ≤ length arms
count-Case operand arms otherwise at h = (some_pass (arm_passes is_whole_ast) arms (and_parts (has_one arms && list_all (arm_passes is_whole_ast) arms) (maybe_passes is_whole_ast otherwise) (and_parts (maybe_passes is_whole_ast operand) ((has_one arms && list_all (arm_passes is_whole_ast) arms) && maybe_passes is_whole_ast otherwise) (sym (whole-Case operand arms otherwise at) ∙ h)).1).0).0

pub members-targets : (x : Select) → is_whole_select x ≡ true → AllPass is_whole_target (out-Select x).targets
members-targets x h = (some_pass is_whole_target (out-Select x).targets (and_parts (has_one (out-Select x).targets && list_all is_whole_target (out-Select x).targets) ((has_one (out-Select x).items && list_all is_whole_item (out-Select x).items) && maybe_passes is_whole_ast (out-Select x).cond) (sym (whole-Select x) ∙ h)).0).1

pub count-targets : (x : Select) → is_whole_select x ≡ true → 1 ≤ length (out-Select x).targets
count-targets x h = (some_pass is_whole_target (out-Select x).targets (and_parts (has_one (out-Select x).targets && list_all is_whole_target (out-Select x).targets) ((has_one (out-Select x).items && list_all is_whole_item (out-Select x).items) && maybe_passes is_whole_ast (out-Select x).cond) (sym (whole-Select x) ∙ h)).0).0

pub members-items : (x : Select) → is_whole_select x ≡ true → AllPass is_whole_item (out-Select x).items
members-items x h = (some_pass is_whole_item (out-Select x).items (and_parts (has_one (out-Select x).items && list_all is_whole_item (out-Select x).items) (maybe_passes is_whole_ast (out-Select x).cond) (and_parts (has_one (out-Select x).targets && list_all is_whole_target (out-Select x).targets) ((has_one (out-Select x).items && list_all is_whole_item (out-Select x).items) && maybe_passes is_whole_ast (out-Select x).cond) (sym (whole-Select x) ∙ h)).1).0).1

pub count-items : (x : Select) → is_whole_select x ≡ true → 1 ≤ length (out-Select x).items
count-items x h = (some_pass is_whole_item (out-Select x).items (and_parts (has_one (out-Select x).items && list_all is_whole_item (out-Select x).items) (maybe_passes is_whole_ast (out-Select x).cond) (and_parts (has_one (out-Select x).targets && list_all is_whole_target (out-Select x).targets) ((has_one (out-Select x).items && list_all is_whole_item (out-Select x).items) && maybe_passes is_whole_ast (out-Select x).cond) (sym (whole-Select x) ∙ h)).1).0).0

pub members-order : (s : Stmt) → is_whole s ≡ true → AllPass is_whole_order s.order
members-order s h = AllPass-from_list_all is_whole_order s.order (and_parts (is_whole_select s.select) (list_all is_whole_order s.order) h).1

-- what bodies over the trees want, beside the equations
pub ruleset parts = (members-Sum, count-Sum, members-Product, count-Product, members-Concat, count-Concat, members-And, count-And, members-Or, count-Or, members-Coalesce, count-Coalesce, members-InList, count-InList, members-Case, count-Case, members-targets, count-targets, members-items, count-items, members-order)

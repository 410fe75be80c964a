-- What the evaluator computes at each constructor, where a `||` may stand there, and what a loop adds at a step.
use Rattle.std.proofs.Common.{◌≡◌, ◌∙◌, ap, sym, refl, ℕ, ◌+◌, ◌<◌, Bool, List, [], ◌∷◌, ◌++◌, map, fold, length, get_or, take, drop, Option, Some, None, pos}
use Rattle.std.specs.Prelude.{if◌then◌else◌}
use Rattle.std.specs.Option.{option_map}
use Rattle.std.proofs.lemmas.List.{take_more, take-append-drop}
use Rattle.jp_base.specs.declared.truth.Truth.{Truth}
use Rattle.jp_base.specs.declared.truth.Truth.TheVariants.{True, False, Unknown}
use Rattle.jp_base.specs.Truth.{and_of, or_of, not_of}
use Rattle.jp_base.specs.declared.values.Ty.{Ty}
use Rattle.jp_base.specs.declared.values.Value.{Value}
use Rattle.jp_base.specs.declared.values.Value.TheVariants as value
use Rattle.jp_query.specs.declared.Expr.TheVariants as expr
use Rattle.jp_query.specs.declared.Expr.{Expr}
use Rattle.jp_query.specs.declared.Query.{Query}
use Rattle.jp_query.specs.declared.CmpOp.{CmpOp}
use Rattle.jp_query.specs.declared.CmpOp.TheVariants as cmp
use Rattle.jp_query.specs.declared.IsTest.{IsTest}
use Rattle.jp_query.specs.Operators.{value_of_truth, truth_of_value, all_of, any_of, among, compared, between, passes, joined, concat_of, first_value, first_arm, value_or_null, case_of}
use Rattle.jp_query.specs.Meaning.{Row, Env, ValueIn, Tuples, SortKey, RowsIn, cell_in, any_present, truth_at, value_at, term_at, arm_at, first_of, is_row, tree_tuples, no_tables, order_key, output_value, query_rows}
use Rattle.jp_query.proofs.FoldLaws as laws
use Rattle.jp_eval.specs.Arithmetic.{negated_in_128, plus_in_128, signed_in_128, terms_sum, times_in_128, product_in_128, value_of_product}
use Rattle.jp_eval.specs.declared.arithmetic.Multiplied.TheVariants as multiplied
use Rattle.jp_eval.specs.declared.evaluated.Evaluated.{Evaluated}
use Rattle.jp_eval.specs.Evaluated.{chosen_or}
use Rattle.jp_eval.specs.Computed.{computed_at, computed, value_in, truth_in, equality_in, term_in, arm_in, equality_of_row}

-- ---- what is computed at a node that holds a list

maps : {A B C : Type 0} (g : B → C) (f : A → B) (h : A → C) → ((x : A) → g (f x) ≡ h x) → (xs : List A) → map g (map f xs) ≡ map h xs
maps g f h e [] = refl
maps g f h e (x ∷ xs) = λ i. e x i ∷ maps g f h e xs i

option_maps : {A B C : Type 0} (g : B → C) (f : A → B) (h : A → C) → ((x : A) → g (f x) ≡ h x) → (o : Option A) → option_map g (option_map f o) ≡ option_map h o
option_maps g f h e None = refl
option_maps g f h e (Some x) = ap Some (e x)

module _ (rows : ℕ → List Row) (env : Env) where
  at_env : {v w : ValueIn} → v ≡ w → v env ≡ w env
  at_env {v} {w} e = ap (λ (u : ValueIn). u env) e

  values_on : (es : List Expr) → map (value_at env) (map (computed rows) es) ≡ map (value_in rows env) es
  values_on = maps (value_at env) (computed rows) (value_in rows env) (λ e. refl)

  truths_on : (es : List Expr) → map (truth_at env) (map (computed rows) es) ≡ map (truth_in rows env) es
  truths_on = maps (truth_at env) (computed rows) (truth_in rows env) (λ e. refl)

  pub computed-Col : (rel col : ℕ) (ty : Ty) (nulled : ℕ) → computed rows (expr.Col rel col ty nulled) env ≡ cell_in (env rel) col
  unfolding computed
  computed-Col rel col ty nulled = at_env (laws.at-Col ValueIn Tuples SortKey ValueIn RowsIn (computed_at rows) (tree_tuples no_tables) order_key output_value query_rows rel col ty nulled)

  pub computed-Lit : (v : Value) (ty : Ty) → computed rows (expr.Lit v ty) env ≡ v
  unfolding computed
  computed-Lit v ty = at_env (laws.at-Lit ValueIn Tuples SortKey ValueIn RowsIn (computed_at rows) (tree_tuples no_tables) order_key output_value query_rows v ty)

  pub computed-Place : (inner : Expr) (rels : ℕ) → computed rows (expr.Place inner rels) env ≡ (if any_present rels env then computed rows inner env else value.Null)
  unfolding computed
  computed-Place inner rels = at_env (laws.at-Place ValueIn Tuples SortKey ValueIn RowsIn (computed_at rows) (tree_tuples no_tables) order_key output_value query_rows inner rels)

  pub computed-Neg : (operand : Expr) → computed rows (expr.Neg operand) env ≡ negated_in_128 (computed rows operand env)
  unfolding computed
  computed-Neg operand = at_env (laws.at-Neg ValueIn Tuples SortKey ValueIn RowsIn (computed_at rows) (tree_tuples no_tables) order_key output_value query_rows operand)

  pub computed-Sum : (terms : List (Bool × Expr)) → computed rows (expr.Sum terms) env ≡ terms_sum (map (term_in rows env) terms)
  unfolding computed
  computed-Sum terms = at_env (laws.at-Sum ValueIn Tuples SortKey ValueIn RowsIn (computed_at rows) (tree_tuples no_tables) order_key output_value query_rows terms)
      ∙ ap (λ ts. terms_sum (map signed_in_128 ts)) (maps (term_at env) (λ t. (t.0, computed rows t.1)) (λ t. (t.0, computed rows t.1 env)) (λ t. refl) terms)
      ∙ ap terms_sum (maps signed_in_128 (λ t. (t.0, computed rows t.1 env)) (term_in rows env) (λ t. refl) terms)

  pub computed-Product : (factors : List Expr) → computed rows (expr.Product factors) env ≡ value_of_product (product_in_128 (map (value_in rows env) factors))
  unfolding computed
  computed-Product factors = at_env (laws.at-Product ValueIn Tuples SortKey ValueIn RowsIn (computed_at rows) (tree_tuples no_tables) order_key output_value query_rows factors) ∙ ap (λ vs. value_of_product (product_in_128 vs)) (values_on factors)

  pub computed-Concat : (pieces : List Expr) → computed rows (expr.Concat pieces) env ≡ concat_of (map (value_in rows env) pieces)
  unfolding computed
  computed-Concat pieces = at_env (laws.at-Concat ValueIn Tuples SortKey ValueIn RowsIn (computed_at rows) (tree_tuples no_tables) order_key output_value query_rows pieces) ∙ ap concat_of (values_on pieces)

  pub computed-Compare : (op : CmpOp) (left right : Expr) → computed rows (expr.Compare op left right) env ≡ value_of_truth (compared op (computed rows left env) (computed rows right env))
  unfolding computed
  computed-Compare op left right = at_env (laws.at-Compare ValueIn Tuples SortKey ValueIn RowsIn (computed_at rows) (tree_tuples no_tables) order_key output_value query_rows op left right)

  pub computed-Between : (operand low high : Expr) → computed rows (expr.Between operand low high) env ≡ value_of_truth (between (computed rows operand env) (computed rows low env) (computed rows high env))
  unfolding computed
  computed-Between operand low high = at_env (laws.at-Between ValueIn Tuples SortKey ValueIn RowsIn (computed_at rows) (tree_tuples no_tables) order_key output_value query_rows operand low high)

  pub computed-InList : (operand : Expr) (list : List Expr) → computed rows (expr.InList operand list) env ≡ value_of_truth (any_of (map (equality_in rows env (computed rows operand env)) list))
  unfolding computed
  computed-InList operand list = at_env (laws.at-InList ValueIn Tuples SortKey ValueIn RowsIn (computed_at rows) (tree_tuples no_tables) order_key output_value query_rows operand list)
      ∙ ap (λ vs. value_of_truth (among (computed rows operand env) vs)) (values_on list)
      ∙ ap (λ ts. value_of_truth (any_of ts)) (maps (compared cmp.Eq (computed rows operand env)) (value_in rows env) (equality_in rows env (computed rows operand env)) (λ e. refl) list)

  pub computed-And : (members : List Expr) → computed rows (expr.And members) env ≡ value_of_truth (all_of (map (truth_in rows env) members))
  unfolding computed
  computed-And members = at_env (laws.at-And ValueIn Tuples SortKey ValueIn RowsIn (computed_at rows) (tree_tuples no_tables) order_key output_value query_rows members) ∙ ap (λ ts. value_of_truth (all_of ts)) (truths_on members)

  pub computed-Or : (members : List Expr) → computed rows (expr.Or members) env ≡ value_of_truth (any_of (map (truth_in rows env) members))
  unfolding computed
  computed-Or members = at_env (laws.at-Or ValueIn Tuples SortKey ValueIn RowsIn (computed_at rows) (tree_tuples no_tables) order_key output_value query_rows members) ∙ ap (λ ts. value_of_truth (any_of ts)) (truths_on members)

  pub computed-Not : (operand : Expr) → computed rows (expr.Not operand) env ≡ value_of_truth (not_of (truth_of_value (computed rows operand env)))
  unfolding computed
  computed-Not operand = at_env (laws.at-Not ValueIn Tuples SortKey ValueIn RowsIn (computed_at rows) (tree_tuples no_tables) order_key output_value query_rows operand)

  pub computed-Test : (test : IsTest) (operand : Expr) → computed rows (expr.Test test operand) env ≡ value.Bool (passes test (computed rows operand env))
  unfolding computed
  computed-Test test operand = at_env (laws.at-Test ValueIn Tuples SortKey ValueIn RowsIn (computed_at rows) (tree_tuples no_tables) order_key output_value query_rows test operand)

  pub computed-Coalesce : (members : List Expr) → computed rows (expr.Coalesce members) env ≡ first_value (map (value_in rows env) members)
  unfolding computed
  computed-Coalesce members = at_env (laws.at-Coalesce ValueIn Tuples SortKey ValueIn RowsIn (computed_at rows) (tree_tuples no_tables) order_key output_value query_rows members) ∙ ap first_value (values_on members)

  pub computed-Case : (operand : Option Expr) (arms : List (Expr × Expr)) (otherwise : Option Expr) → computed rows (expr.Case operand arms otherwise) env ≡ first_arm (option_map (value_in rows env) operand) (map (arm_in rows env) arms) (value_or_null (option_map (value_in rows env) otherwise))
  unfolding computed
  computed-Case operand arms otherwise = at_env (laws.at-Case ValueIn Tuples SortKey ValueIn RowsIn (computed_at rows) (tree_tuples no_tables) order_key output_value query_rows operand arms otherwise)
      ∙ (λ i. case_of (option_maps (value_at env) (computed rows) (value_in rows env) (λ e. refl) operand i) (maps (arm_at env) (λ a. (computed rows a.0, computed rows a.1)) (arm_in rows env) (λ a. refl) arms i) (option_maps (value_at env) (computed rows) (value_in rows env) (λ e. refl) otherwise i))

  -- CASE, where the evaluator has found which arm is chosen
  pub computed-chosen : (value_of_operand : Option Value) (operand : Option Expr) (arms : List (Expr × Expr)) (otherwise : Option Expr) (found : Option Evaluated) → value_of_operand ≡ option_map (value_in rows env) operand
      → ((z : Value) → chosen_or found z ≡ first_arm value_of_operand (map (arm_in rows env) arms) z) → computed rows (expr.Case operand arms otherwise) env ≡ chosen_or found (value_or_null (option_map (value_in rows env) otherwise))
  computed-chosen value_of_operand operand arms otherwise found e h = let z = value_or_null (option_map (value_in rows env) otherwise) in
      computed-Case operand arms otherwise ∙ sym (ap (λ o. first_arm o (map (arm_in rows env) arms) z) e) ∙ sym (h z)

  pub computed-Exists : (sub : ℕ) (query : Query) → computed rows (expr.Exists sub query) env ≡ value.Bool (is_row (rows sub))
  unfolding computed
  computed-Exists sub query = at_env (laws.at-Exists ValueIn Tuples SortKey ValueIn RowsIn (computed_at rows) (tree_tuples no_tables) order_key output_value query_rows sub query)

  pub computed-InSub : (sub : ℕ) (operand : Expr) (query : Query) → computed rows (expr.InSub sub operand query) env ≡ value_of_truth (any_of (map (equality_of_row (computed rows operand env)) (rows sub)))
  unfolding computed
  computed-InSub sub operand query = at_env (laws.at-InSub ValueIn Tuples SortKey ValueIn RowsIn (computed_at rows) (tree_tuples no_tables) order_key output_value query_rows sub operand query)
      ∙ ap (λ ts. value_of_truth (any_of ts)) (maps (compared cmp.Eq (computed rows operand env)) first_of (equality_of_row (computed rows operand env)) (λ r. refl) (rows sub))

-- ---- one more element of a loop

module _ {X T U : Type 0} (f : X → U) (g : T → U → T) where
  map_onto : (xs ys : List X) → map f (xs ++ ys) ≡ map f xs ++ map f ys
  map_onto [] ys = refl
  map_onto (x ∷ xs) ys = ap (λ zs. f x ∷ zs) (map_onto xs ys)

  fold_onto : (a : T) (ts us : List U) → fold g a (ts ++ us) ≡ fold g (fold g a ts) us
  fold_onto a [] us = refl
  fold_onto a (t ∷ ts) us = fold_onto (g a t) ts us

  fold_more : (a : T) (xs : List X) (i : ℕ) (d : X) → i < length xs → fold g a (map f (take (i + 1) xs)) ≡ g (fold g a (map f (take i xs))) (f (get_or xs i d))
  fold_more a xs i d within = ap (λ ys. fold g a (map f ys)) (take_more xs i d within) ∙ ap (λ ts. fold g a ts) (map_onto (take i xs) (get_or xs i d ∷ [])) ∙ fold_onto a (map f (take i xs)) (f (get_or xs i d) ∷ [])

false_stays : (ts : List Truth) → fold and_of False ts ≡ False
false_stays [] = refl
false_stays (True ∷ ts) = false_stays ts
false_stays (False ∷ ts) = false_stays ts
false_stays (Unknown ∷ ts) = false_stays ts

true_stays : (ts : List Truth) → fold or_of True ts ≡ True
true_stays [] = refl
true_stays (True ∷ ts) = true_stays ts
true_stays (False ∷ ts) = true_stays ts
true_stays (Unknown ∷ ts) = true_stays ts

module _ {X : Type 0} where
  pub all_more : (f : X → Truth) (xs : List X) (i : ℕ) (d : X) → i < length xs → all_of (map f (take (i + 1) xs)) ≡ and_of (all_of (map f (take i xs))) (f (get_or xs i d))
  all_more f = fold_more f and_of True

  pub any_more : (f : X → Truth) (xs : List X) (i : ℕ) (d : X) → i < length xs → any_of (map f (take (i + 1) xs)) ≡ or_of (any_of (map f (take i xs))) (f (get_or xs i d))
  any_more f = fold_more f or_of False

  pub sum_more : (f : X → Value) (xs : List X) (i : ℕ) (d : X) → i < length xs → terms_sum (map f (take (i + 1) xs)) ≡ plus_in_128 (terms_sum (map f (take i xs))) (f (get_or xs i d))
  sum_more f = fold_more f plus_in_128 (value.Num (pos 0))

  pub product_more : (f : X → Value) (xs : List X) (i : ℕ) (d : X) → i < length xs → product_in_128 (map f (take (i + 1) xs)) ≡ times_in_128 (product_in_128 (map f (take i xs))) (f (get_or xs i d))
  product_more f = fold_more f times_in_128 (multiplied.Number (pos 1))

  pub concat_more : (f : X → Value) (xs : List X) (i : ℕ) (d : X) → i < length xs → concat_of (map f (take (i + 1) xs)) ≡ joined (concat_of (map f (take i xs))) (f (get_or xs i d))
  concat_more f = fold_more f joined (value.Text [])

  -- ---- AND is settled at a member that is false, and OR at one that is true

  settled : (f : X → Truth) (g : Truth → Truth → Truth) (a b : Truth) → ((ts : List Truth) → fold g b ts ≡ b) → (xs : List X) (i : ℕ) (d : X) → i < length xs → g (fold g a (map f (take i xs))) (f (get_or xs i d)) ≡ b → fold g a (map f xs) ≡ b
  settled f g a b stays xs i d within h =
      ap (λ ys. fold g a (map f ys)) (sym (take-append-drop (i + 1) xs))
      ∙ ap (fold g a) (map_onto f g (take (i + 1) xs) (drop (i + 1) xs))
      ∙ fold_onto f g a (map f (take (i + 1) xs)) (map f (drop (i + 1) xs))
      ∙ ap (λ t. fold g t (map f (drop (i + 1) xs))) (fold_more f g a xs i d within ∙ h)
      ∙ stays (map f (drop (i + 1) xs))

  -- the truth so far, that of the next member, and both together
  pub all_settled : (f : X → Truth) (xs : List X) (i : ℕ) (d : X) (all next both : Truth) → i < length xs → all ≡ all_of (map f (take i xs)) → next ≡ f (get_or xs i d) → both ≡ and_of all next → both ≡ False → both ≡ all_of (map f xs)
  all_settled f xs i d all next both within so_far is joined found = found ∙ sym (settled f and_of True False false_stays xs i d within ((λ k. and_of (sym so_far k) (sym is k)) ∙ sym joined ∙ found))

  pub any_settled : (f : X → Truth) (xs : List X) (i : ℕ) (d : X) (any next both : Truth) → i < length xs → any ≡ any_of (map f (take i xs)) → next ≡ f (get_or xs i d) → both ≡ or_of any next → both ≡ True → both ≡ any_of (map f xs)
  any_settled f xs i d any next both within so_far is joined found = found ∙ sym (settled f or_of False True true_stays xs i d within ((λ k. or_of (sym so_far k) (sym is k)) ∙ sym joined ∙ found))

pub ruleset loops = (any_more)

pub ruleset equations = (computed-Col, computed-Lit, computed-Place, computed-Neg, computed-Sum, computed-Product, computed-Concat, computed-Compare, computed-Between, computed-InList, computed-And, computed-Or, computed-Not, computed-Test, computed-Coalesce, computed-Case, computed-Exists, computed-InSub, all_more, any_more, sum_more, product_more, concat_more)

-- What the evaluator computes is the value, where the expression can be evaluated: no number on the way passes 128 bits.
use Rattle.std.proofs.Common.{◌≡◌, ◌∙◌, ap, sym, subst, refl, ℕ, ◌≤◌, pos, Bool, true, List, [], ◌∷◌, map, IsSome, Some, arith}
use Rattle.std.proofs.lemmas.Bool.Decides.{nat_tests}
use Rattle.jp_base.specs.declared.values.Ty.TheVariants as ty
use Rattle.jp_base.specs.declared.values.Value.{Value}
use Rattle.jp_base.specs.declared.values.Value.TheVariants as value
use Rattle.jp_query.specs.declared.Expr.{Expr}
use Rattle.jp_query.specs.declared.JoinTree.{JoinTree}
use Rattle.jp_query.specs.declared.Order.{Order}
use Rattle.jp_query.specs.declared.Output.{Output}
use Rattle.jp_query.specs.declared.Query.{Query}
use Rattle.jp_query.specs.declared.Expr.TheOpen.{Expr-F}
use Rattle.jp_query.specs.declared.Expr.TheViews.{roll-Expr}
use Rattle.jp_query.specs.declared.Expr.TheFolds.{fold-JoinTree, fold-Order, fold-Output, fold-Query, map-Expr, fold-roll-Expr}
use Rattle.jp_query.specs.Layers.{ExprLayer}
use Rattle.jp_query.specs.Meaning.{Row, Env, ValueIn, Tuples, SortKey, RowsIn, given, no_tables, value_at, term_at, expr_value, tree_tuples, order_key, output_value, query_rows, value_given}
use Rattle.jp_query.specs.Parts.{term_part, parts}
use Rattle.jp_query.specs.Scopes.{Column, Schema, Scope, Entry, BoundIn, EntriesIn, ColumnIn, ColumnsIn, in_scope, expr_bound, tree_entries, order_bound, output_column, query_columns, bound_of}
use Rattle.jp_query.specs.Typing.{Typed, TypedOutput, TypedQuery, are_all, is_of, expr_type, tree_typed, order_typed, output_typed, query_typed, type_of, tree_is_typed, typed_query}
use Rattle.jp_query.specs.Conditions.{Tests, Judged, judged_value, expr_judged, tree_judged, order_judged, output_judged, query_judged, judged_expr, judged_tree, judged_query, knows_columns, keeps_bounds, fits, IsBoundedExpr}
use Rattle.jp_query.specs.Fitting.{IsCellAt, own_columns}
use Rattle.jp_induction.proofs.Between.{OwnSame, value_same}
use Rattle.jp_induction.proofs.Induction.{expr_alone}
use Rattle.jp_laws.proofs.EachPart.{Each, each_of, each_mapped, parts_map}
use Rattle.jp_laws.proofs.GatheredLaws.{when_some, parts_typed, typed_order, typed_output}
use Rattle.jp_laws.proofs.JudgedLaws.{expr_passes, judged_order_by, judged_output_by, own_seen, sound}
use Rattle.jp_laws.proofs.JudgedValues.{bound_judged}
use Rattle.jp_laws.proofs.OwnColumns.{own_has}
use Rattle.jp_laws.proofs.ValuesFit.{Fits, number_fits, is_of_some, all_types, value_fits}
use Rattle.jp_eval.specs.Arithmetic.{negated_in_128, sum_in_128, product_in_128, value_of_product}
use Rattle.jp_eval.specs.Computed.{computed_at, computed}
use Rattle.jp_eval.specs.Evaluation.{CanEvaluate}
use Rattle.jp_eval.proofs.NumberLaws.{most, negated_exact, AreWithin, sum_exact, product_exact}

small_of : (n : ℕ) → fits n ≡ true → n ≤ most
small_of n h = grind (arith, nat_tests)

module _ (schema : Schema) (scope : Scope) (rows : ℕ → List Row) (env : Env) where
  abbrev Same : Expr → Type 0
  Same x = computed rows x env ≡ value_given rows x env

  record Ready (x : Expr) : Type 0 where
    typed : IsSome (type_of x)
    knows : (judged_expr schema knows_columns x).passes scope ≡ true
    bounded : IsBoundedExpr schema scope x
    cells : Each (IsCellAt scope env) (own_columns x)

  -- ---- what is known of the parts

  all_ready : (xs : List Expr) → Each (λ x. IsSome (type_of x)) xs → Each (λ x. (judged_expr schema knows_columns x).passes scope ≡ true) xs → Each (IsBoundedExpr schema scope) xs → Each (λ x. Each (IsCellAt scope env) (own_columns x)) xs → Each Ready xs
  all_ready [] a b c d = tt
  all_ready (x ∷ xs) a b c d = (record { typed = a.0; knows = b.0; bounded = c.0; cells = d.0 }, all_ready xs a.1 b.1 c.1 d.1)

  abbrev typed_level : ExprLayer → Expr-F Typed Bool Typed TypedOutput TypedQuery
  typed_level = map-Expr Expr JoinTree Order Output Query Typed Bool Typed TypedOutput TypedQuery type_of tree_is_typed typed_order typed_output typed_query

  abbrev judged_level : Tests → ExprLayer → Expr-F (Judged ℕ) (Judged (List Entry)) (Judged ℕ) (Judged Column) (Judged (List Column))
  judged_level tests = map-Expr Expr JoinTree Order Output Query (Judged ℕ) (Judged (List Entry)) (Judged ℕ) (Judged Column) (Judged (List Column)) (judged_expr schema tests) (judged_tree schema tests) (judged_order_by schema tests) (judged_output_by schema tests) (judged_query schema tests)

  at_level : (tests : Tests) (x : ExprLayer) → judged_expr schema tests (roll-Expr x) ≡ expr_judged schema tests (judged_level tests x)
  at_level tests = fold-roll-Expr (Judged ℕ) (Judged (List Entry)) (Judged ℕ) (Judged Column) (Judged (List Column)) (expr_judged schema tests) (tree_judged schema tests) (order_judged schema tests) (output_judged schema tests) (query_judged schema tests)

  parts_pass : (tests : Tests) (x : ExprLayer) → (judged_expr schema tests (roll-Expr x)).passes scope ≡ true → Each (λ p. (judged_expr schema tests p).passes scope ≡ true) (parts x)
  parts_pass tests x h =
      let good = expr_passes schema tests scope (judged_level tests x) (subst (λ (j : Judged ℕ). j.passes scope ≡ true) (at_level tests x) h) in
      each_mapped (λ (j : Judged ℕ). j.passes scope ≡ true) (judged_expr schema tests) (parts x)
      (subst (Each (λ (j : Judged ℕ). j.passes scope ≡ true)) (parts_map (judged_expr schema tests) (judged_tree schema tests) (judged_order_by schema tests) (judged_output_by schema tests) (judged_query schema tests) x) good.parts)

  type_at : (x : ExprLayer) → type_of (roll-Expr x) ≡ expr_type (typed_level x)
  type_at = fold-roll-Expr Typed Bool Typed TypedOutput TypedQuery expr_type tree_typed order_typed output_typed query_typed

  parts_ready : (x : ExprLayer) → Ready (roll-Expr x) → Each Ready (parts x)
  parts_ready x h = all_ready (parts x)
      (each_mapped IsSome type_of (parts x) (subst (Each IsSome) (parts_map type_of tree_is_typed typed_order typed_output typed_query x) (parts_typed (typed_level x) (subst IsSome (type_at x) h.typed)).0))
      (parts_pass knows_columns x h.knows) (parts_pass keeps_bounds x h.bounded) (own_has (IsCellAt scope env) x h.cells).1

  -- ---- bounds

  abbrev bound_level : ExprLayer → Expr-F BoundIn EntriesIn BoundIn ColumnIn ColumnsIn
  bound_level = map-Expr Expr JoinTree Order Output Query BoundIn EntriesIn BoundIn ColumnIn ColumnsIn (bound_of schema)
      (fold-JoinTree BoundIn EntriesIn BoundIn ColumnIn ColumnsIn expr_bound (tree_entries schema) order_bound output_column query_columns)
      (fold-Order BoundIn EntriesIn BoundIn ColumnIn ColumnsIn expr_bound (tree_entries schema) order_bound output_column query_columns)
      (fold-Output BoundIn EntriesIn BoundIn ColumnIn ColumnsIn expr_bound (tree_entries schema) order_bound output_column query_columns)
      (fold-Query BoundIn EntriesIn BoundIn ColumnIn ColumnsIn expr_bound (tree_entries schema) order_bound output_column query_columns)

  small : (x : ExprLayer) → IsBoundedExpr schema scope (roll-Expr x) → expr_bound (bound_level x) scope ≤ most
  small x h =
      let good = expr_passes schema keeps_bounds scope (judged_level keeps_bounds x) (subst (λ (j : Judged ℕ). j.passes scope ≡ true) (at_level keeps_bounds x) h) in
      let bound : (expr_judged schema keeps_bounds (judged_level keeps_bounds x)).value ≡ expr_bound (bound_level x) =
      sym (ap judged_value (at_level keeps_bounds x)) ∙ bound_judged schema keeps_bounds (roll-Expr x) ∙ fold-roll-Expr BoundIn EntriesIn BoundIn ColumnIn ColumnsIn expr_bound (tree_entries schema) order_bound output_column query_columns x in
      small_of (expr_bound (bound_level x) scope) (subst (λ (b : BoundIn). fits (b scope) ≡ true) bound good.bound)

  number : (x : Expr) → Ready x → type_of x ≡ Some ty.Number → Fits ty.Number (bound_of schema x scope) (value_given rows x env)
  number x h typed = value_fits schema (given rows) no_tables scope env x (sound scope env (own_columns x) (own_seen schema scope x h.knows) h.cells) ty.Number typed

  -- ---- sums and products

  terms_same : (terms : List (Bool × Expr)) → Each Same (map term_part terms) → map (term_at env) (map (λ t. (t.0, computed rows t.1)) terms) ≡ map (term_at env) (map (λ t. (t.0, value_given rows t.1)) terms)
  terms_same [] h = refl
  terms_same (term ∷ terms) h = λ i. (term.0, h.0 i) ∷ terms_same terms h.1 i

  terms_within : (terms : List (Bool × Expr)) → Each Ready (map term_part terms) → Each (λ o. o ≡ Some ty.Number) (map term_part (map (λ t. (t.0, type_of t.1)) terms))
      → AreWithin (map (in_scope scope) (map term_part (map (λ t. (t.0, bound_of schema t.1)) terms))) (map (λ (t : Bool × Value). t.1) (map (term_at env) (map (λ t. (t.0, value_given rows t.1)) terms)))
  terms_within [] h typed = tt
  terms_within (term ∷ terms) h typed = (number term.1 h.0 typed.0, terms_within terms h.1 typed.1)

  factors_same : (factors : List Expr) → Each Same factors → map (value_at env) (map (computed rows) factors) ≡ map (value_at env) (map (value_given rows) factors)
  factors_same [] h = refl
  factors_same (factor ∷ factors) h = λ i. h.0 i ∷ factors_same factors h.1 i

  factors_within : (factors : List Expr) → Each Ready factors → Each (λ o. o ≡ Some ty.Number) (map type_of factors) → AreWithin (map (in_scope scope) (map (bound_of schema) factors)) (map (value_at env) (map (value_given rows) factors))
  factors_within [] h typed = tt
  factors_within (factor ∷ factors) h typed = (number factor h.0 typed.0, factors_within factors h.1 typed.1)

  -- ---- one level

  abbrev computed_level : ExprLayer → Expr-F ValueIn Tuples SortKey ValueIn RowsIn
  computed_level = map-Expr Expr JoinTree Order Output Query ValueIn Tuples SortKey ValueIn RowsIn (computed rows)
      (fold-JoinTree ValueIn Tuples SortKey ValueIn RowsIn (computed_at rows) (tree_tuples no_tables) order_key output_value query_rows)
      (fold-Order ValueIn Tuples SortKey ValueIn RowsIn (computed_at rows) (tree_tuples no_tables) order_key output_value query_rows)
      (fold-Output ValueIn Tuples SortKey ValueIn RowsIn (computed_at rows) (tree_tuples no_tables) order_key output_value query_rows)
      (fold-Query ValueIn Tuples SortKey ValueIn RowsIn (computed_at rows) (tree_tuples no_tables) order_key output_value query_rows)

  abbrev given_level : ExprLayer → Expr-F ValueIn Tuples SortKey ValueIn RowsIn
  given_level = map-Expr Expr JoinTree Order Output Query ValueIn Tuples SortKey ValueIn RowsIn (value_given rows)
      (fold-JoinTree ValueIn Tuples SortKey ValueIn RowsIn (expr_value (given rows)) (tree_tuples no_tables) order_key output_value query_rows)
      (fold-Order ValueIn Tuples SortKey ValueIn RowsIn (expr_value (given rows)) (tree_tuples no_tables) order_key output_value query_rows)
      (fold-Output ValueIn Tuples SortKey ValueIn RowsIn (expr_value (given rows)) (tree_tuples no_tables) order_key output_value query_rows)
      (fold-Query ValueIn Tuples SortKey ValueIn RowsIn (expr_value (given rows)) (tree_tuples no_tables) order_key output_value query_rows)

  abbrev Own : ExprLayer → Type 0
  Own = OwnSame (computed rows) (value_given rows)
      (fold-JoinTree ValueIn Tuples SortKey ValueIn RowsIn (computed_at rows) (tree_tuples no_tables) order_key output_value query_rows)
      (fold-JoinTree ValueIn Tuples SortKey ValueIn RowsIn (expr_value (given rows)) (tree_tuples no_tables) order_key output_value query_rows)
      (fold-Order ValueIn Tuples SortKey ValueIn RowsIn (computed_at rows) (tree_tuples no_tables) order_key output_value query_rows)
      (fold-Order ValueIn Tuples SortKey ValueIn RowsIn (expr_value (given rows)) (tree_tuples no_tables) order_key output_value query_rows)
      (fold-Output ValueIn Tuples SortKey ValueIn RowsIn (computed_at rows) (tree_tuples no_tables) order_key output_value query_rows)
      (fold-Output ValueIn Tuples SortKey ValueIn RowsIn (expr_value (given rows)) (tree_tuples no_tables) order_key output_value query_rows)
      (fold-Query ValueIn Tuples SortKey ValueIn RowsIn (computed_at rows) (tree_tuples no_tables) order_key output_value query_rows)
      (fold-Query ValueIn Tuples SortKey ValueIn RowsIn (expr_value (given rows)) (tree_tuples no_tables) order_key output_value query_rows)
      (given rows) (given rows) env env

  own : (x : ExprLayer) → Own x
  own (Expr-F.Col rel col t nulled) = refl
  own (Expr-F.Place inner rels) = refl
  own (Expr-F.Exists sub query) = refl
  own (Expr-F.InSub sub operand query) = λ w. refl
  own x = tt

  level_same : (x : ExprLayer) → Each Same (parts x) → expr_value (given rows) (computed_level x) env ≡ expr_value (given rows) (given_level x) env
  level_same x same = value_same (computed rows) (value_given rows)
      (fold-JoinTree ValueIn Tuples SortKey ValueIn RowsIn (computed_at rows) (tree_tuples no_tables) order_key output_value query_rows)
      (fold-JoinTree ValueIn Tuples SortKey ValueIn RowsIn (expr_value (given rows)) (tree_tuples no_tables) order_key output_value query_rows)
      (fold-Order ValueIn Tuples SortKey ValueIn RowsIn (computed_at rows) (tree_tuples no_tables) order_key output_value query_rows)
      (fold-Order ValueIn Tuples SortKey ValueIn RowsIn (expr_value (given rows)) (tree_tuples no_tables) order_key output_value query_rows)
      (fold-Output ValueIn Tuples SortKey ValueIn RowsIn (computed_at rows) (tree_tuples no_tables) order_key output_value query_rows)
      (fold-Output ValueIn Tuples SortKey ValueIn RowsIn (expr_value (given rows)) (tree_tuples no_tables) order_key output_value query_rows)
      (fold-Query ValueIn Tuples SortKey ValueIn RowsIn (computed_at rows) (tree_tuples no_tables) order_key output_value query_rows)
      (fold-Query ValueIn Tuples SortKey ValueIn RowsIn (expr_value (given rows)) (tree_tuples no_tables) order_key output_value query_rows)
      (given rows) (given rows) env env x same (own x)

  level_exact : (x : ExprLayer) → Each Same (parts x) → Each Ready (parts x) → IsSome (expr_type (typed_level x)) → expr_bound (bound_level x) scope ≤ most → computed_at rows (computed_level x) env ≡ expr_value (given rows) (given_level x) env
  level_exact (Expr-F.Neg operand) same ready typed low =
      ap negated_in_128 same.0 ∙ negated_exact (bound_of schema operand scope) (value_given rows operand env) (number operand ready.0 (is_of_some ty.Number (type_of operand) (when_some (is_of ty.Number (type_of operand)) ty.Number typed))) low
  level_exact (Expr-F.Sum terms) same ready typed low =
      let types = map term_part (map (λ t. (t.0, type_of t.1)) terms) in
      ap sum_in_128 (terms_same terms same)
      ∙ sum_exact 0 (value.Num (pos 0)) (map (in_scope scope) (map term_part (map (λ t. (t.0, bound_of schema t.1)) terms))) (map (term_at env) (map (λ t. (t.0, value_given rows t.1)) terms))
      (number_fits 0 (pos 0) (omega arith)) (terms_within terms ready (all_types ty.Number types (when_some (are_all ty.Number types) ty.Number typed))) low
  level_exact (Expr-F.Product factors) same ready typed low =
      ap (λ vs. value_of_product (product_in_128 vs)) (factors_same factors same)
      ∙ product_exact (map (in_scope scope) (map (bound_of schema) factors)) (map (value_at env) (map (value_given rows) factors))
      (factors_within factors ready (all_types ty.Number (map type_of factors) (when_some (are_all ty.Number (map type_of factors)) ty.Number typed))) low
  level_exact x same ready typed low = level_same x same

  -- ---- the induction

  both : (xs : List Expr) → Each (λ x. Ready x → Same x) xs → Each Ready xs → Each Same xs
  both [] h ready = tt
  both (x ∷ xs) h ready = (h.0 ready.0, both xs h.1 ready.1)

  step : (x : ExprLayer) → Each (λ x. Ready x → Same x) (parts x) → Ready (roll-Expr x) → Same (roll-Expr x)
  unfolding computed
  step x h ready =
      let inner = parts_ready x ready in
      ap (λ (v : ValueIn). v env) (fold-roll-Expr ValueIn Tuples SortKey ValueIn RowsIn (computed_at rows) (tree_tuples no_tables) order_key output_value query_rows x)
      ∙ level_exact x (both (parts x) h inner) inner (subst IsSome (type_at x) ready.typed) (small x ready.bounded)
      ∙ sym (ap (λ (v : ValueIn). v env) (fold-roll-Expr ValueIn Tuples SortKey ValueIn RowsIn (expr_value (given rows)) (tree_tuples no_tables) order_key output_value query_rows x))

  exact_ready : (x : Expr) → Ready x → Same x
  exact_ready = expr_alone (λ x. Ready x → Same x) step

pub exact : (rows : ℕ → List Row) (x : Expr) (env : Env) → CanEvaluate rows x env → computed rows x env ≡ value_given rows x env
exact rows x env can = exact_ready can.schema can.scope rows env x (record {
  typed = can.typed;
  knows = can.columns;
  bounded = can.bounded;
  cells = each_of (IsCellAt can.scope env) (own_columns x) can.fits.cells;
})

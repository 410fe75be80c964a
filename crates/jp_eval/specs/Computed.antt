-- What the evaluator computes: the value of an expression by arithmetic in 128 bits. It is the expression's value where the
-- expression can be evaluated.
use Rattle.std.specs.Prelude.{ℕ, Bool, true, false, List, map}
use Rattle.jp_base.specs.declared.truth.Truth.{Truth}
use Rattle.jp_base.specs.declared.values.Value.{Value}
use Rattle.jp_query.specs.declared.CmpOp.TheVariants as cmp
use Rattle.jp_query.specs.declared.Expr.{Expr, out-Expr}
use Rattle.jp_query.specs.declared.Expr.TheOpen.{Expr-F}
use Rattle.jp_query.specs.declared.Expr.TheFolds.{fold-Expr}
use Rattle.jp_query.specs.Meaning.{Row, Env, ValueIn, Tuples, SortKey, RowsIn, given, no_tables, value_at, term_at, first_of, expr_value, tree_tuples, order_key, output_value, query_rows}
use Rattle.jp_query.specs.Operators.{truth_of_value, compared}
use Rattle.jp_eval.specs.Arithmetic.{negated_in_128, signed_in_128, sum_in_128, product_in_128, value_of_product}

abbrev pub computed_at : (ℕ → List Row) → Expr-F ValueIn Tuples SortKey ValueIn RowsIn → ValueIn
computed_at rows (Expr-F.Neg operand) env = negated_in_128 (operand env)
computed_at rows (Expr-F.Sum terms) env = sum_in_128 (map (term_at env) terms)
computed_at rows (Expr-F.Product factors) env = value_of_product (product_in_128 (map (value_at env) factors))
computed_at rows x env = expr_value (given rows) x env

unfoldable pub computed : (ℕ → List Row) → Expr → ValueIn
computed rows = fold-Expr ValueIn Tuples SortKey ValueIn RowsIn (computed_at rows) (tree_tuples no_tables) order_key output_value query_rows

-- what a member of a list gives
abbrev pub value_in : (ℕ → List Row) → Env → Expr → Value
value_in rows env expr = computed rows expr env

abbrev pub truth_in : (ℕ → List Row) → Env → Expr → Truth
truth_in rows env expr = truth_of_value (computed rows expr env)

abbrev pub equality_in : (ℕ → List Row) → Env → Value → Expr → Truth
equality_in rows env value expr = compared cmp.Eq value (computed rows expr env)

abbrev pub term_in : (ℕ → List Row) → Env → Bool × Expr → Value
term_in rows env term = signed_in_128 (term.0, computed rows term.1 env)

abbrev pub arm_in : (ℕ → List Row) → Env → Expr × Expr → Value × Value
arm_in rows env arm = (computed rows arm.0 env, computed rows arm.1 env)

-- whether a row of an IN's query is equal to the operand
abbrev pub equality_of_row : Value → Row → Truth
equality_of_row value row = compared cmp.Eq value (first_of row)

-- the operators that give a truth value
abbrev pub truth_level : {A B C D F : Type 0} → Expr-F A B C D F → Bool
truth_level (Expr-F.Compare op left right) = true
truth_level (Expr-F.Between operand low high) = true
truth_level (Expr-F.InList operand list) = true
truth_level (Expr-F.And members) = true
truth_level (Expr-F.Or members) = true
truth_level (Expr-F.Not operand) = true
truth_level (Expr-F.Test test operand) = true
truth_level (Expr-F.Exists sub query) = true
truth_level (Expr-F.InSub sub operand query) = true
truth_level _ = false

abbrev pub gives_truth : Expr → Bool
gives_truth expr = truth_level (out-Expr expr)

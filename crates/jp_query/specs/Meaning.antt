-- Which value an expression has, which tuples a join tree has and which rows a query has: the plain meaning of SQL,
-- with sublinks in place and joins in the order in which they are written.
use Rattle.std.specs.Prelude.{ℕ, Bool, true, false, not, ◌&&◌, ◌==◌, List, [], ◌∷◌, ◌++◌, map, filter, fold, Option, Some, None, is_some, slice_index_or, if◌then◌else◌}
use Rattle.std.specs.Int.{bit_at}
use Rattle.std.specs.List.{list_all, list_any, flat_map, range_with_len}
use Rattle.std.specs.Option.{option_map}
use Rattle.jp_base.specs.declared.truth.Truth.{Truth}
use Rattle.jp_base.specs.declared.values.Value.{Value}
use Rattle.jp_base.specs.declared.values.Value.TheVariants as value
use Rattle.jp_base.specs.Truth.{not_of}
use Rattle.jp_query.specs.declared.JoinKind.{JoinKind}
use Rattle.jp_query.specs.declared.JoinKind.TheVariants as join
use Rattle.jp_query.specs.Layers.{Expr, JoinTree, Query, Expr-F, JoinTree-F, Order-F, Output-F, Query-F, fold-Expr, fold-JoinTree, fold-Query}
use Rattle.jp_query.specs.Refs.{only, union}
use Rattle.jp_query.specs.Joins.{join_rels}
pub use Rattle.jp_query.specs.Ordering.{Row, Line, Direction, outputs_of, distinct_lines, inserted, sorted}
use Rattle.jp_query.specs.Operators.{value_of_truth, truth_of_value, is_true, all_of, any_of, compared, between, among, passes, negated, sum_of, product_of, concat_of, first_value, case_of}

-- An environment gives each relation a row, or none where the relation is absent.
abbrev pub Env : Type 0
Env = ℕ → Option Row

-- no relation has a row: the environment of a statement's query
abbrev pub no_outer_rows : Env
no_outer_rows rel = None

-- a column; of an absent relation it is NULL
abbrev pub cell_in : Option Row → ℕ → Value
cell_in (Some row) col = slice_index_or row col value.Null
cell_in None col = value.Null

abbrev pub has : ℕ → ℕ → Bool
has set i = bit_at set i == 1

abbrev pub is_present : ℕ → Env → ℕ → Bool
is_present set env i = has set i && is_some (env i)

-- some relation of the set is present
unfoldable pub any_present : ℕ → Env → Bool
any_present set env = list_any (is_present set env) (range_with_len 0 64)

-- what an expression and a query mean in an environment
abbrev pub ValueIn : Type 0
ValueIn = Env → Value

abbrev pub RowsIn : Type 0
RowsIn = Env → List Row

-- What a join tree means: the set of relations that its tuples give rows to, and the tuples in an outer environment, each
-- of which is that environment with other rows for these relations.
pub record Tuples : Type 0 where
  pub rels : ℕ
  pub tuples : Env → List Env

pub record SortKey : Type 0 where
  pub key : ValueIn
  pub desc : Bool
  pub nulls_first : Bool

-- Which rows a sublink has, by its number and its query's rows: those of its query in the environment where the sublink
-- stands, or lists that are given by number.
abbrev pub SublinkRows : Type 0
SublinkRows = ℕ → RowsIn → RowsIn

abbrev pub in_place : SublinkRows
in_place sub query = query

abbrev pub given : (ℕ → List Row) → SublinkRows
given rows sub query env = rows sub

-- ---- expressions

abbrev pub value_at : Env → ValueIn → Value
value_at env v = v env

abbrev pub term_at : Env → Bool × ValueIn → Bool × Value
term_at env term = (term.0, term.1 env)

abbrev pub arm_at : Env → ValueIn × ValueIn → Value × Value
arm_at env arm = (arm.0 env, arm.1 env)

abbrev pub truth_at : Env → ValueIn → Truth
truth_at env v = truth_of_value (v env)

-- the one value of a row of IN's query
abbrev pub first_of : Row → Value
first_of row = slice_index_or row 0 value.Null

abbrev pub is_row : List Row → Bool
is_row [] = false
is_row (row ∷ rows) = true

-- A label of a column changes nothing. A placeholder is NULL where no relation of its set is present.
abbrev pub expr_value : SublinkRows → Expr-F ValueIn Tuples SortKey ValueIn RowsIn → ValueIn
expr_value subs (Expr-F.Col rel col ty nulled) env = cell_in (env rel) col
expr_value subs (Expr-F.Lit v ty) env = v
expr_value subs (Expr-F.Place inner rels) env = if any_present rels env then inner env else value.Null
expr_value subs (Expr-F.Neg operand) env = negated (operand env)
expr_value subs (Expr-F.Sum terms) env = sum_of (map (term_at env) terms)
expr_value subs (Expr-F.Product factors) env = product_of (map (value_at env) factors)
expr_value subs (Expr-F.Concat parts) env = concat_of (map (value_at env) parts)
expr_value subs (Expr-F.Compare op left right) env = value_of_truth (compared op (left env) (right env))
expr_value subs (Expr-F.Between operand low high) env = value_of_truth (between (operand env) (low env) (high env))
expr_value subs (Expr-F.InList operand list) env = value_of_truth (among (operand env) (map (value_at env) list))
expr_value subs (Expr-F.And members) env = value_of_truth (all_of (map (truth_at env) members))
expr_value subs (Expr-F.Or members) env = value_of_truth (any_of (map (truth_at env) members))
expr_value subs (Expr-F.Not operand) env = value_of_truth (not_of (truth_at env operand))
expr_value subs (Expr-F.Test test operand) env = value.Bool (passes test (operand env))
expr_value subs (Expr-F.Coalesce members) env = first_value (map (value_at env) members)
expr_value subs (Expr-F.Case operand arms otherwise) env = case_of (option_map (value_at env) operand) (map (arm_at env) arms) (option_map (value_at env) otherwise)
expr_value subs (Expr-F.Exists sub query) env = value.Bool (is_row (subs sub query env))
expr_value subs (Expr-F.InSub sub operand query) env = value_of_truth (among (operand env) (map first_of (subs sub query env)))

abbrev pub is_true_at : Env → ValueIn → Bool
is_true_at env v = is_true (truth_at env v)

-- a list of conditions holds where each member is true
abbrev pub holds : List ValueIn → Env → Bool
holds conds env = list_all (is_true_at env) conds

-- ---- join trees

-- the relation gets the row
abbrev pub with_row : Env → ℕ → Row → Env
with_row env rel row n = if n == rel then Some row else env n

-- the relations of the set get their rows of the second environment
abbrev pub with_rows : ℕ → Env → Env → Env
with_rows rels left right n = if has rels n then right n else left n

-- the relations of the set become absent
abbrev pub without : ℕ → Env → Env
without rels env n = if has rels n then None else env n

abbrev pub or_else : List Env → Env → List Env
or_else [] env = env ∷ []
or_else (tuple ∷ tuples) env = tuple ∷ tuples

-- whether the pair of a left and a right tuple makes ON hold; `rels` are the relations of the right one
abbrev pub is_match : List ValueIn → ℕ → Env → Env → Bool
is_match on rels left right = holds on (with_rows rels left right)

abbrev pub is_match_of : List ValueIn → ℕ → Env → Env → Bool
is_match_of on rels right left = is_match on rels left right

-- the pairs of a left tuple with the right tuples that match it, in their order
abbrev pub pairs : List ValueIn → ℕ → List Env → Env → List Env
pairs on rels rights left = filter (holds on) (map (with_rows rels left) rights)

-- the pairs, or the tuple with the right side absent if there are none
abbrev pub pairs_or_alone : List ValueIn → ℕ → List Env → Env → List Env
pairs_or_alone on rels rights left = or_else (pairs on rels rights left) (without rels left)

abbrev pub has_match : List ValueIn → ℕ → List Env → Env → Bool
has_match on rels rights left = list_any (is_match on rels left) rights

abbrev pub has_no_match : List ValueIn → ℕ → List Env → Env → Bool
has_no_match on rels rights left = not (has_match on rels rights left)

-- a right tuple that matches no left one
abbrev pub is_unmatched : List ValueIn → ℕ → List Env → Env → Bool
is_unmatched on rels lefts right = not (list_any (is_match_of on rels right) lefts)

abbrev pub left_join : List ValueIn → ℕ → List Env → List Env → List Env
left_join on rels lefts rights = flat_map (pairs_or_alone on rels rights) lefts

-- The tuples of a join of `lefts`, with the relations `l`, and `rights`, with the relations `r`. Inner gives the pairs,
-- left slowest. Left gives per left tuple its pairs, or the tuple with the right side absent if there are none. Right is
-- Left with the sides exchanged. Full is Left, and then each right tuple that matched nothing, with the left side
-- absent. Semi and Anti give the left tuples that match at least one right tuple, or none.
abbrev pub join_tuples : JoinKind → List ValueIn → ℕ → List Env → ℕ → List Env → List Env
join_tuples join.Inner on l lefts r rights = flat_map (pairs on r rights) lefts
join_tuples join.Left on l lefts r rights = left_join on r lefts rights
join_tuples join.Right on l lefts r rights = left_join on l rights lefts
join_tuples join.Full on l lefts r rights = left_join on r lefts rights ++ map (without l) (filter (is_unmatched on r lefts) rights)
join_tuples join.Semi on l lefts r rights = filter (has_match on r rights) lefts
join_tuples join.Anti on l lefts r rights = filter (has_no_match on r rights) lefts

abbrev pub extended : Tuples → Env → Env → List Env
extended member env tuple = map (with_rows member.rels tuple) (member.tuples env)

abbrev pub with_member : Env → List Env → Tuples → List Env
with_member env tuples member = flat_map (extended member env) tuples

-- all combinations of the members' tuples, the first member slowest
abbrev pub combined : List Tuples → Env → List Env
combined members env = fold (with_member env) (env ∷ []) members

abbrev pub rels_in : Tuples → ℕ
rels_in member = member.rels

-- `tables` gives the records of each table of the catalogue, by its place there, in file order.
abbrev pub tree_tuples : (ℕ → List Row) → JoinTree-F ValueIn Tuples SortKey ValueIn RowsIn → Tuples
tree_tuples tables (JoinTree-F.Base rel name table) = record { rels = only rel; tuples = λ env. map (with_row env rel) (tables table) }
tree_tuples tables (JoinTree-F.Sub rel name query) = record { rels = only rel; tuples = λ env. map (with_row env rel) (query env) }
tree_tuples tables (JoinTree-F.Join kind left right on) = record { rels = join_rels kind left.rels right.rels; tuples = λ env. join_tuples kind on left.rels (left.tuples env) right.rels (right.tuples env) }
tree_tuples tables (JoinTree-F.From members conds) = record { rels = union (map rels_in members); tuples = λ env. filter (holds conds) (combined members env) }

-- ---- queries

abbrev pub order_key : Order-F ValueIn Tuples SortKey ValueIn RowsIn → SortKey
order_key order = record { key = order.expr; desc = order.desc; nulls_first = order.nulls_first }

abbrev pub output_value : Output-F ValueIn Tuples SortKey ValueIn RowsIn → ValueIn
output_value output = output.expr

abbrev pub key_at : Env → SortKey → Value
key_at env key = key.key env

abbrev pub line_at : List ValueIn → List SortKey → Env → Line
line_at columns order env = record { outputs = map (value_at env) columns; keys = map (key_at env) order }

abbrev pub direction : SortKey → Direction
direction key = record { desc = key.desc; nulls_first = key.nulls_first }

-- The tuples that make the conditions hold, their outputs and sort keys, under DISTINCT the first of each same row, then
-- the stable sort.
abbrev pub query_rows : Query-F ValueIn Tuples SortKey ValueIn RowsIn → RowsIn
query_rows query env =
    let tuples = filter (holds query.conds) (query.tree.tuples env) in
    let lines = distinct_lines query.distinct (map (line_at query.columns query.order) tuples) in
    map outputs_of (sorted (map direction query.order) lines)

-- ---- the meaning

-- the value of an expression, with its sublinks evaluated in place
abbrev pub value_of : (ℕ → List Row) → Expr → ValueIn
value_of tables = fold-Expr ValueIn Tuples SortKey ValueIn RowsIn (expr_value in_place) (tree_tuples tables) order_key output_value query_rows

abbrev pub tuples_of : (ℕ → List Row) → JoinTree → Tuples
tuples_of tables = fold-JoinTree ValueIn Tuples SortKey ValueIn RowsIn (expr_value in_place) (tree_tuples tables) order_key output_value query_rows

abbrev pub meaning : (ℕ → List Row) → Query → RowsIn
meaning tables = fold-Query ValueIn Tuples SortKey ValueIn RowsIn (expr_value in_place) (tree_tuples tables) order_key output_value query_rows

abbrev pub no_tables : ℕ → List Row
no_tables table = []

-- the value of an expression, with given rows for the sublinks that stand in no other sublink's query
abbrev pub value_given : (ℕ → List Row) → Expr → ValueIn
value_given rows = fold-Expr ValueIn Tuples SortKey ValueIn RowsIn (expr_value (given rows)) (tree_tuples no_tables) order_key output_value query_rows

abbrev pub truth_of : (ℕ → List Row) → Expr → Env → Truth
truth_of tables expr env = truth_of_value (value_of tables expr env)

abbrev pub truth_given : (ℕ → List Row) → Expr → Env → Truth
truth_given rows expr env = truth_of_value (value_given rows expr env)

-- The meaning run on small inputs. Each query is written by the steps that its fold takes, level by level.
use Rattle.std.specs.Prelude.{ℕ, pos, ◌==◌, if◌then◌else◌, Bool, true, false, List, [], ◌∷◌, Some, None}
use Rattle.jp_base.specs.declared.values.Value.{Value}
use Rattle.jp_base.specs.declared.values.Value.TheVariants as value
use Rattle.jp_base.specs.declared.values.Ty.TheVariants as ty
use Rattle.jp_query.specs.declared.CmpOp.TheVariants as cmp
use Rattle.jp_query.specs.declared.JoinKind.{JoinKind}
use Rattle.jp_query.specs.declared.JoinKind.TheVariants as join
use Rattle.jp_query.specs.Layers.{Expr-F, JoinTree-F}
use Rattle.jp_query.specs.Meaning.{Row, Env, no_outer_rows, ValueIn, RowsIn, Tuples, SortKey, in_place, given, expr_value, tree_tuples, order_key, output_value, query_rows}

abbrev pub number : ℕ → Value
number n = value.Num (pos n)

abbrev pub null : Value
null = value.Null

-- a (id, x): 1, 10; 2, NULL. b (id, aid): 7, 1; 8, NULL. c (v, k): NULL, 4; 1, 9; 2, 5; 1, 1; NULL, 0.
abbrev pub records_of_a : List Row
records_of_a = (number 1 ∷ number 10 ∷ []) ∷ (number 2 ∷ null ∷ []) ∷ []

abbrev pub records_of_b : List Row
records_of_b = (number 7 ∷ number 1 ∷ []) ∷ (number 8 ∷ null ∷ []) ∷ []

abbrev pub records_of_c : List Row
records_of_c = (null ∷ number 4 ∷ []) ∷ (number 1 ∷ number 9 ∷ []) ∷ (number 2 ∷ number 5 ∷ []) ∷ (number 1 ∷ number 1 ∷ []) ∷ (null ∷ number 0 ∷ []) ∷ []

abbrev pub tables : ℕ → List Row
tables table = if table == 0 then records_of_a else (if table == 1 then records_of_b else records_of_c)

-- ---- the constructors

abbrev pub column : ℕ → ℕ → ValueIn
column rel col = expr_value in_place (Expr-F.Col rel col ty.Number 0)

abbrev pub literal : Value → ValueIn
literal v = expr_value in_place (Expr-F.Lit v ty.Number)

abbrev pub equal : ValueIn → ValueIn → ValueIn
equal left right = expr_value in_place (Expr-F.Compare cmp.Eq left right)

abbrev pub placeholder : ValueIn → ℕ → ValueIn
placeholder inner rels = expr_value in_place (Expr-F.Place inner rels)

abbrev pub in_list : ValueIn → List ValueIn → ValueIn
in_list operand list = expr_value in_place (Expr-F.InList operand list)

abbrev pub not_in : ValueIn → RowsIn → ValueIn
not_in operand query = expr_value in_place (Expr-F.Not (expr_value in_place (Expr-F.InSub 1 operand query)))

abbrev pub exists : RowsIn → ValueIn
exists query = expr_value in_place (Expr-F.Exists 1 query)

abbrev pub case_when : ValueIn → ValueIn → ValueIn
case_when when result = expr_value in_place (Expr-F.Case None ((when, result) ∷ []) None)

abbrev pub base : ℕ → ℕ → Tuples
base rel table = tree_tuples tables (JoinTree-F.Base rel [] table)

abbrev pub joined : JoinKind → List ValueIn → Tuples
joined kind on = tree_tuples tables (JoinTree-F.Join kind (base 0 0) (base 1 1) on)

abbrev pub all_pairs : Tuples
all_pairs = tree_tuples tables (JoinTree-F.From (base 0 0 ∷ base 1 1 ∷ []) [])

abbrev pub item : ValueIn → Bool → Bool → SortKey
item key desc nulls_first = order_key (record { expr = key; desc = desc; nulls_first = nulls_first })

abbrev pub output : ValueIn → ValueIn
output v = output_value (record { name = []; ty = ty.Number; expr = v })

abbrev pub select : Bool → List ValueIn → Tuples → List ValueIn → List SortKey → RowsIn
select distinct columns tree conds order = query_rows (record { columns = columns; distinct = distinct; tree = tree; conds = conds; order = order })

-- ---- the queries

abbrev pub a_id_b_id : List ValueIn
a_id_b_id = output (column 0 0) ∷ output (column 1 0) ∷ []

abbrev pub a_id_is_b_aid : List ValueIn
a_id_is_b_aid = equal (column 0 0) (column 1 1) ∷ []

-- SELECT a.id, b.id FROM a JOIN b ON a.id = b.aid, by the kind of join
abbrev pub by_kind : JoinKind → List Row
by_kind kind = select false a_id_b_id (joined kind a_id_is_b_aid) [] [] no_outer_rows

-- the same in an environment that has a row for b
abbrev pub outer_row : Env
outer_row rel = if rel == 1 then Some (number 99 ∷ number 99 ∷ []) else None

abbrev pub left_join_inside : List Row
left_join_inside = select false a_id_b_id (joined join.Left a_id_is_b_aid) [] [] outer_row

abbrev pub combinations : List Row
combinations = select false a_id_b_id all_pairs [] [] no_outer_rows

-- SELECT aid FROM b
abbrev pub aids : RowsIn
aids = select false (output (column 1 1) ∷ []) (base 1 1) [] []

-- SELECT id FROM b WHERE aid = a.id
abbrev pub matches_of_a : RowsIn
matches_of_a = select false (output (column 1 0) ∷ []) (base 1 1) a_id_is_b_aid []

-- SELECT id FROM a WHERE EXISTS (SELECT id FROM b WHERE aid = a.id)
abbrev pub with_match : List Row
with_match = select false (output (column 0 0) ∷ []) (base 0 0) (exists matches_of_a ∷ []) [] no_outer_rows

-- SELECT DISTINCT v FROM c
abbrev pub distinct_values : List Row
distinct_values = select true (output (column 2 0) ∷ []) (base 2 2) [] [] no_outer_rows

-- SELECT DISTINCT v FROM c ORDER BY k
abbrev pub distinct_by_key : List Row
distinct_by_key = select true (output (column 2 0) ∷ []) (base 2 2) [] (item (column 2 1) false false ∷ []) no_outer_rows

-- SELECT v, k FROM c ORDER BY v, with or without DESC and NULLS FIRST
abbrev pub by_value : Bool → Bool → List Row
by_value desc nulls_first = select false (output (column 2 0) ∷ output (column 2 1) ∷ []) (base 2 2) [] (item (column 2 0) desc nulls_first ∷ []) no_outer_rows

abbrev pub a_present : Env
a_present rel = if rel == 0 then Some (number 1 ∷ number 10 ∷ []) else None

-- IN over a select whose rows are given
abbrev pub in_given : List Row → Value
in_given rows = expr_value (given (λ sub. rows)) (Expr-F.InSub 1 (literal (number 1)) aids) no_outer_rows

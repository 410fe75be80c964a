-- Queries over three small tables, whose rows are known.
use Rattle.std.specs.Prelude.{ℕ, ◌==◌, ◌||◌, if◌then◌else◌, true, false, List, [], ◌∷◌, Some, None}
use Rattle.jp_base.specs.declared.values.Ty.TheVariants as ty
use Rattle.jp_base.specs.declared.values.Value.{Value}
use Rattle.jp_query.specs.declared.JoinKind.{JoinKind}
use Rattle.jp_query.specs.declared.JoinKind.TheVariants as join
use Rattle.jp_query.specs.declared.Expr.{Expr}
use Rattle.jp_query.specs.declared.JoinTree.{JoinTree}
use Rattle.jp_query.specs.declared.Query.{Query}
use Rattle.jp_query.specs.Meaning.{Row, Env, no_outer_rows, value_of, meaning}
use Rattle.jp_query.specs.TreeExamples.{col, equals, sum, exists_by, placeholder}
use Rattle.jp_examples.specs.Trees as tree

-- a (k, v): 1, 10; 2, 20; 2, 30; 3, 40
abbrev pub records_of_a : List Row
records_of_a = (tree.number 1 ∷ tree.number 10 ∷ []) ∷ (tree.number 2 ∷ tree.number 20 ∷ []) ∷ (tree.number 2 ∷ tree.number 30 ∷ []) ∷ (tree.number 3 ∷ tree.number 40 ∷ []) ∷ []

-- b (k, w): 1, 100; 1, 200; 2, 300; 4, 400
abbrev pub records_of_b : List Row
records_of_b = (tree.number 1 ∷ tree.number 100 ∷ []) ∷ (tree.number 1 ∷ tree.number 200 ∷ []) ∷ (tree.number 2 ∷ tree.number 300 ∷ []) ∷ (tree.number 4 ∷ tree.number 400 ∷ []) ∷ []

-- c (v, k): NULL, 4; 1, 9; 2, 5; 1, 1; NULL, 0
abbrev pub records_of_c : List Row
records_of_c =
    (tree.null ∷ tree.number 4 ∷ []) ∷ (tree.number 1 ∷ tree.number 9 ∷ []) ∷ (tree.number 2 ∷ tree.number 5 ∷ [])
    ∷ (tree.number 1 ∷ tree.number 1 ∷ []) ∷ (tree.null ∷ tree.number 0 ∷ []) ∷ []

abbrev pub tables : ℕ → List Row
tables n = if n == 0 then records_of_a else (if n == 1 then records_of_b else records_of_c)

-- the rows of a statement's query
abbrev pub rows : Query → List Row
rows query = meaning tables query no_outer_rows

abbrev pub a : JoinTree
a = tree.table 0 0

abbrev pub b : JoinTree
b = tree.table 1 1

abbrev pub c : JoinTree
c = tree.table 2 2

-- a.k = b.k
abbrev pub same_key : Expr
same_key = equals (col 0 0) (col 1 0)

-- SELECT a.v, b.w FROM a JOIN b ON a.k = b.k, by the kind of join
abbrev pub both_columns : JoinKind → Query
both_columns kind = tree.select (tree.numeric (col 0 1) ∷ tree.numeric (col 1 1) ∷ []) (tree.join kind a b (same_key ∷ [])) []

-- SELECT a.v FROM a JOIN b ON a.k = b.k, by the kind of join
abbrev pub left_column : JoinKind → Query
left_column kind = tree.select (tree.numeric (col 0 1) ∷ []) (tree.join kind a b (same_key ∷ [])) []

-- SELECT a.v, b.w FROM a, b WHERE a.k = b.k, with the condition in the FROM itself
abbrev pub from_with_condition : Query
from_with_condition = tree.select (tree.numeric (col 0 1) ∷ tree.numeric (col 1 1) ∷ []) (tree.from (a ∷ b ∷ []) (same_key ∷ [])) []

-- SELECT k FROM a AS d WHERE d.v = a.v
abbrev pub keys_of_its_value : Query
keys_of_its_value = tree.select (tree.numeric (col 3 0) ∷ []) (tree.table 3 0) (equals (col 3 1) (col 0 1) ∷ [])

-- SELECT a.v, b.w FROM a LEFT JOIN b ON b.k IN (SELECT d.k FROM a AS d WHERE d.v = a.v)
abbrev pub sublink_in_on : Query
sublink_in_on = tree.select (tree.numeric (col 0 1) ∷ tree.numeric (col 1 1) ∷ []) (tree.join join.Left a b (tree.in_query 1 (col 1 0) keys_of_its_value ∷ [])) []

-- SELECT s.1, s.0 FROM (SELECT a.k, a.v FROM a WHERE a.k = 2) AS s
abbrev pub from_sub_select : Query
from_sub_select =
    tree.select (tree.numeric (col 3 1) ∷ tree.numeric (col 3 0) ∷ [])
    (tree.sub_select 3 (tree.select (tree.numeric (col 0 0) ∷ tree.numeric (col 0 1) ∷ []) a (equals (col 0 0) (tree.num 2) ∷ []))) []

-- SELECT c.v, c.k FROM c ORDER BY c.v DESC NULLS LAST, c.k
abbrev pub by_two_keys : Query
by_two_keys =
    tree.query false (tree.numeric (col 2 0) ∷ tree.numeric (col 2 1) ∷ []) c []
    (tree.item (col 2 0) true false ∷ tree.item (col 2 1) false false ∷ [])

-- SELECT DISTINCT a.k, b.k + 1 FROM a LEFT JOIN b ON a.k = b.k WHERE EXISTS (SELECT c.k FROM c WHERE c.v = a.k) ORDER BY a.k DESC NULLS FIRST
abbrev pub whole : Query
whole =
    tree.query true (tree.numeric (col 0 0) ∷ tree.numeric (sum (col 1 0) (tree.num 1)) ∷ []) (tree.join join.Left a b (same_key ∷ []))
    (exists_by 1 (tree.select (tree.numeric (col 2 1) ∷ []) c (equals (col 2 0) (col 0 0) ∷ [])) ∷ [])
    (tree.item (col 0 0) true true ∷ [])

-- an outer environment that gives both relations of a join rows
abbrev pub outer_rows : Env
outer_rows rel = if rel == 0 || rel == 1 then Some (tree.number 98 ∷ tree.number 99 ∷ []) else None

-- SELECT b.w FROM b WHERE b.k = a.k
abbrev pub matches_of_a : Query
matches_of_a = tree.select (tree.numeric (col 1 1) ∷ []) b (equals (col 1 0) (col 0 0) ∷ [])

-- SELECT a.v FROM a WHERE EXISTS (SELECT s.0 FROM (SELECT b.w FROM b WHERE b.k = a.k) AS s)
abbrev pub correlated_sub_select : Query
correlated_sub_select = tree.select (tree.numeric (col 0 1) ∷ []) a (exists_by 1 (tree.select (tree.numeric (col 3 0) ∷ []) (tree.sub_select 3 matches_of_a) []) ∷ [])

-- SELECT EXISTS (SELECT b.w FROM b WHERE b.k = a.k), a.k FROM a ORDER BY the same, a.k DESC
abbrev pub by_sublink : Query
by_sublink =
    tree.query false (tree.output ty.Boolean (exists_by 1 matches_of_a) ∷ tree.numeric (col 0 0) ∷ []) a []
    (tree.item (exists_by 1 matches_of_a) false false ∷ tree.item (col 0 0) true true ∷ [])

-- SELECT a.v, the placeholder of 7 over b FROM a LEFT JOIN b ON a.k = b.k
abbrev pub placeholder_over_join : Query
placeholder_over_join = tree.select (tree.numeric (col 0 1) ∷ tree.numeric (placeholder (tree.num 7) 2) ∷ []) (tree.join join.Left a b (same_key ∷ [])) []

-- SELECT a.k FROM a WHERE a.v = n
abbrev pub key_at : ℕ → Query
key_at n = tree.select (tree.numeric (col 0 0) ∷ []) a (equals (col 0 1) (tree.num n) ∷ [])

-- the value of an expression without outer columns
abbrev pub evaluated : Expr → Value
evaluated e = value_of tables e no_outer_rows

-- NULL IN (SELECT a.k FROM a WHERE a.v = n)
abbrev pub null_in : ℕ → Expr
null_in n = tree.in_query 1 tree.nothing (key_at n)

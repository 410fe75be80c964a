-- Small blocks whose sets and steps are worked out: four tables a, b, c and d, in this order the items 0, 1, 2 and 3, joined
-- by left joins.
use Rattle.std.specs.Prelude.{ℕ, List, [], ◌∷◌, map}
use Rattle.jp_query.specs.declared.Expr.{Expr}
use Rattle.jp_query.specs.declared.Expr.TheOpen.{JoinTree-F}
use Rattle.jp_query.specs.declared.Expr.TheViews.{roll-JoinTree}
use Rattle.jp_query.specs.declared.JoinKind.TheVariants as join
use Rattle.jp_query.specs.declared.JoinTree.{JoinTree}
use Rattle.jp_query.specs.declared.Query.{Query}
use Rattle.jp_query.specs.TreeExamples.{a, b, one, col, coalesce, equals, select}
use Rattle.jp_problem.specs.declared.types.Special.{Special}
use Rattle.jp_problem.specs.MinimumSets.{specials_of}

abbrev pub c : JoinTree
c = roll-JoinTree (JoinTree-F.Base 2 [] 2)

abbrev pub d : JoinTree
d = roll-JoinTree (JoinTree-F.Base 3 [] 3)

abbrev pub left_join : JoinTree → JoinTree → Expr → JoinTree
left_join left right e = roll-JoinTree (JoinTree-F.Join join.Left left right (e ∷ []))

abbrev pub rows_of : JoinTree → Query
rows_of tree = select one tree []

-- a LEFT JOIN b ON a.0 = b.1
abbrev pub a_b : JoinTree
a_b = left_join a b (equals (col 0 0) (col 1 1))

-- a LEFT JOIN b ON a.0 = b.1 LEFT JOIN c ON b.0 = c.1
abbrev pub a_b_c : JoinTree
a_b_c = left_join a_b c (equals (col 1 0) (col 2 1))

-- a LEFT JOIN b ON a.0 = b.1 LEFT JOIN c ON COALESCE(b.0, 1) = c.1
abbrev pub a_b_keeps_c : JoinTree
a_b_keeps_c = left_join a_b c (equals (coalesce (col 1 0) one) (col 2 1))

-- .. LEFT JOIN d ON COALESCE(c.2, 1) = d.0
abbrev pub chain_keeps_d : JoinTree
chain_keeps_d = left_join a_b_c d (equals (coalesce (col 2 2) one) (col 3 0))

-- .. LEFT JOIN d ON c.2 = d.0
abbrev pub chain : JoinTree
chain = left_join a_b_c d (equals (col 2 2) (col 3 0))

abbrev pub sets_of : Special → ℕ × ℕ
sets_of s = (s.min_left, s.min_right)

-- the left and the right set of each join, by number
abbrev pub sets_in : JoinTree → List (ℕ × ℕ)
sets_in tree = map sets_of (specials_of (rows_of tree))

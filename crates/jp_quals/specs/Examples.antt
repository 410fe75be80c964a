-- The query of the test.
use Rattle.std.specs.Prelude.{ℕ, List, [], ◌∷◌}
use Rattle.jp_base.specs.declared.values.Ty.TheVariants as ty
use Rattle.jp_query.specs.declared.IsTest.TheVariants as test
use Rattle.jp_query.specs.declared.JoinKind.TheVariants as join
use Rattle.jp_query.specs.declared.Expr.{Expr}
use Rattle.jp_query.specs.declared.JoinTree.{JoinTree}
use Rattle.jp_query.specs.declared.Output.{Output}
use Rattle.jp_query.specs.declared.Query.{Query}
use Rattle.jp_query.specs.declared.Expr.TheOpen.{Expr-F, JoinTree-F}
use Rattle.jp_query.specs.declared.Expr.TheViews.{roll-Expr, roll-JoinTree, roll-Output}
use Rattle.jp_query.specs.TreeExamples.{col, equals, one, select}

abbrev pub output : Output
output = roll-Output (record { name = []; ty = ty.Number; expr = one })

abbrev pub is_null : Expr → Expr
is_null operand = roll-Expr (Expr-F.Test test.Null operand)

abbrev pub leaf : ℕ → ℕ → JoinTree
leaf rel table = roll-JoinTree (JoinTree-F.Base rel [] table)

abbrev pub left_join : JoinTree → JoinTree → List Expr → JoinTree
left_join left right on = roll-JoinTree (JoinTree-F.Join join.Left left right on)

-- a LEFT JOIN b ON a.0 = b.0 AND b.1 IS NULL
abbrev pub lower : JoinTree
lower = left_join (leaf 0 0) (leaf 1 1) (equals (col 0 0) (col 1 0) ∷ is_null (col 1 1) ∷ [])

-- .. LEFT JOIN c ON b.0 = c.0, where c is the first table again
abbrev pub both : JoinTree
both = left_join lower (leaf 2 0) (equals (col 1 0) (col 2 0) ∷ [])

-- SELECT 1 FROM a LEFT JOIN b ON a.0 = b.0 AND b.1 IS NULL LEFT JOIN c ON b.0 = c.0 WHERE c.0 = c.0
abbrev pub two_left_joins : Query
two_left_joins = select one both (equals (col 2 0) (col 2 0) ∷ [])

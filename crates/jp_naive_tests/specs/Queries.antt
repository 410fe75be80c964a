-- The queries that the tests run, over one table a.
use Rattle.std.specs.Prelude.{ℕ, ℤ, pos, true, false, [], ◌∷◌}
use Rattle.jp_base.specs.declared.values.Value.TheVariants as value
use Rattle.jp_base.specs.declared.values.Ty.TheVariants as ty
use Rattle.jp_query.specs.declared.JoinKind.TheVariants as join
use Rattle.jp_query.specs.declared.Expr.TheViews.{roll-Expr, roll-JoinTree, roll-Order, roll-Output, roll-Query}
use Rattle.jp_query.specs.declared.Expr.{Expr}
use Rattle.jp_query.specs.declared.Expr.TheOpen.{Expr-F, JoinTree-F}
use Rattle.jp_query.specs.declared.JoinTree.{JoinTree}
use Rattle.jp_query.specs.declared.Order.{Order}
use Rattle.jp_query.specs.declared.Output.{Output}
use Rattle.jp_query.specs.declared.Query.{Query}
use Rattle.jp_query.specs.TreeExamples.{col, equals, exists_by, select}

abbrev pub literal : ℤ → Expr
literal n = roll-Expr (Expr-F.Lit (value.Num n) ty.Number)

abbrev pub table : ℕ → JoinTree
table rel = roll-JoinTree (JoinTree-F.Base rel [] 0)

abbrev pub made : ℕ → Query → JoinTree
made rel query = roll-JoinTree (JoinTree-F.Sub rel [] query)

abbrev pub output : Expr → Output
output e = roll-Output (record { name = []; ty = ty.Number; expr = e })

-- SELECT 1 FROM a WHERE x.0 = y.0
abbrev pub same_inner : Query
same_inner = select (literal (pos 1)) (table 3) (equals (col 4 0) (col 5 0) ∷ [])

-- SELECT 1 FROM a WHERE EXISTS (SELECT 1 FROM a WHERE x.0 = y.0)
abbrev pub same_outer : Query
same_outer = select (literal (pos 1)) (table 2) (exists_by 2 same_inner ∷ [])

abbrev pub same_two_levels_out : Expr
same_two_levels_out = exists_by 1 same_outer

-- (SELECT 1 FROM a) x, and (SELECT 2 FROM a) y
abbrev pub ones : JoinTree
ones = made 4 (select (literal (pos 1)) (table 0) [])

abbrev pub twos : JoinTree
twos = made 5 (select (literal (pos 2)) (table 1) [])

-- x.0 NULLS FIRST
abbrev pub by_x : Order
by_x = roll-Order (record { expr = col 4 0; desc = false; nulls_first = true })

-- SELECT DISTINCT x.0, y.0 FROM (SELECT 1 FROM a) x FULL JOIN (SELECT 2 FROM a) y
-- ON EXISTS (SELECT 1 FROM a WHERE EXISTS (SELECT 1 FROM a WHERE x.0 = y.0)) ORDER BY x.0 NULLS FIRST
abbrev pub full_apart : Query
full_apart = roll-Query (record {
  columns = output (col 4 0) ∷ output (col 5 0) ∷ [];
  distinct = true;
  tree = roll-JoinTree (JoinTree-F.Join join.Full ones twos (same_two_levels_out ∷ []));
  conds = [];
  order = by_x ∷ [];
})

-- SELECT 1 FROM a WHERE 1 = 2
abbrev pub nothing : Query
nothing = select (literal (pos 1)) (table 1) (equals (literal (pos 1)) (literal (pos 2)) ∷ [])

-- SELECT 1 FROM a WHERE NOT 1 IN (SELECT 1 FROM a WHERE 1 = 2)
abbrev pub not_in_nothing : Query
not_in_nothing = select (literal (pos 1)) (table 0) (roll-Expr (Expr-F.Not (roll-Expr (Expr-F.InSub 1 (literal (pos 1)) nothing))) ∷ [])

-- The layout, run.
use Rattle.std.proofs.Common.{◌≡◌, ◌∙◌, ap, refl, ℕ, [], ◌++◌, lit<}
use Rattle.std.specs.Prelude.{codes, ◌*◌, max, if◌then◌else◌}
use Rattle.std.proofs.lemmas.Fmt.{decimal_digit}
use Rattle.jp_base.specs.declared.values.Ty.TheVariants as ty
use Rattle.jp_query.specs.declared.Expr.TheOpen.{Expr-F}
use Rattle.jp_query.specs.declared.CmpOp.TheVariants as cmp
use Rattle.jp_query.specs.declared.IsTest.TheVariants as is
use Rattle.jp_query.specs.Refs.{refs_of}
use Rattle.jp_query.specs.TreeExamples.{a, col, select}
use Rattle.jp_query.proofs.TreeRules.{folds}
use Rattle.jp_query.specs.declared.Expr.{out-Expr}
use Rattle.jp_query.specs.declared.Expr.TheViews.{out-roll-Expr}
use Rattle.jp_problem.specs.Blocks.{items_with}
use Rattle.jp_problem.specs.LegalTests.{is_inside}
use Rattle.jp_problem.specs.Problems.{problem_rels}
use Rattle.jp_problem.specs.Sets.{is_empty}
use Rattle.jp_cost.specs.Estimates.{at_most, divided, divisor, divisor_at, estimate, estimate_in, values_at, values_of}
use Rattle.jp_explain.specs.Expressions.{Level, Printed, expr_text, printed, printed_level, text_of}
use Rattle.jp_explain.specs.Lines.{line_of}
use Rattle.jp_tree.specs.PlanTrees.{tree_at, tree_within}
use Rattle.jp_explain.specs.Plans.{blocks_of_sublink, explain_text, plans_from, problem_at, scan_lines, step_lines, sublinks_from, tree_text}
use Rattle.jp_explain.proofs.TextLaws.{at}
use Rattle.jp_explain_tests.specs.Layouts.{conditioned, joined, joined_by, layout, tested_before, tested_behind}

column_text : expr_text layout.names (col 1 0) ≡ codes "b.id"
unfolding expr_text
column_text = ap text_of (at layout.names (Expr-F.Col 1 0 ty.Number 0))

pub layout_text : explain_text layout ≡ codes "Sort b.id DESC NULLS LAST\nDistinct\nNest Inner rows=3 cost=8\n  Sub s rows=1 cost=2\n    Distinct\n    Scan a rows=4 cost=4\n  Scan b rows=3 cost=3\n#1:\n  Distinct\n  Scan d rows=6 cost=6\n#2:\n  Distinct\n  Full rows=5 cost=9\n    Scan l rows=2 cost=2\n    Scan r rows=3 cost=3\n"
unfolding plans_from tree_text scan_lines step_lines line_of tree_at tree_within blocks_of_sublink sublinks_from estimate_in
layout_text =
    rw (column_text, decimal_digit 1 (lit< tt), decimal_digit 2 (lit< tt), decimal_digit 3 (lit< tt), decimal_digit 4 (lit< tt), decimal_digit 5 (lit< tt), decimal_digit 6 (lit< tt), decimal_digit 8 (lit< tt), decimal_digit 9 (lit< tt)) refl

-- ---- with conditions

abbrev level : Level → Printed
level = printed_level conditioned.names

col_is : (rel : ℕ) → printed conditioned.names (col rel 0) ≡ level (Expr-F.Col rel 0 ty.Number 0)
col_is rel = at conditioned.names (Expr-F.Col rel 0 ty.Number 0)

joined_text : expr_text conditioned.names joined_by ≡ codes "a.id = b.id"
unfolding expr_text
joined_text = ap text_of (at conditioned.names (Expr-F.Compare cmp.Eq (col 0 0) (col 1 0)) ∙ (λ i. level (Expr-F.Compare cmp.Eq (col_is 0 i) (col_is 1 i))))

behind_text : expr_text conditioned.names tested_behind ≡ codes "EXISTS(#1)"
unfolding expr_text
behind_text = ap text_of (at conditioned.names (Expr-F.Exists 1 (select (col 2 0) a []))) ∙ (λ i. codes "EXISTS(#" ++ (decimal_digit 1 (lit< tt) i ++ codes ")"))

before_text : expr_text conditioned.names tested_before ≡ codes "a.id IS NOT NULL"
unfolding expr_text
before_text = ap text_of (at conditioned.names (Expr-F.Test is.NotNull (col 0 0)) ∙ (λ i. level (Expr-F.Test is.NotNull (col_is 0 i))))

refs_0 : refs_of (col 0 0) ≡ 1
refs_0 = simp folds

refs_1 : refs_of (col 1 0) ≡ 2
refs_1 = simp folds

-- ---- by what the conditions divide

values_0 : values_of joined (col 0 0) ≡ 3
values_0 =
    ap (λ r. if is_empty (items_with (problem_rels joined) r) then 1 else values_at joined.items (out-Expr (col 0 0))) refs_0
    ∙ ap (values_at joined.items) (out-roll-Expr (Expr-F.Col 0 0 ty.Number 0))

values_1 : values_of joined (col 1 0) ≡ 2
values_1 =
    ap (λ r. if is_empty (items_with (problem_rels joined) r) then 1 else values_at joined.items (out-Expr (col 1 0))) refs_1
    ∙ ap (values_at joined.items) (out-roll-Expr (Expr-F.Col 1 0 ty.Number 0))

by_join : divisor joined joined_by ≡ 3
by_join = ap (divisor_at joined) (out-roll-Expr (Expr-F.Compare cmp.Eq (col 0 0) (col 1 0))) ∙ (λ i. max (values_0 i) (values_1 i))

by_behind : divisor joined tested_behind ≡ 2
by_behind = ap (divisor_at joined) (out-roll-Expr (Expr-F.Exists 1 (select (col 2 0) a [])))

by_before : divisor joined tested_before ≡ 2
by_before = ap (divisor_at joined) (out-roll-Expr (Expr-F.Test is.NotNull (col 0 0)))

-- ---- the estimates

rows_a : estimate joined 1 ≡ 3
unfolding estimate_in
rows_a = ap (divided 6) by_before

rows_b : estimate joined 2 ≡ 2
unfolding estimate_in
rows_b = refl

rows_both : estimate joined 3 ≡ 1
unfolding estimate_in is_inside
rows_both = λ i. divided (max (divided 6 (by_before i)) (divided (at_most (divided 6 (by_before i) * 2)) (by_join i))) (by_behind i)

rows_c : estimate (problem_at conditioned 1) 1 ≡ 5
unfolding estimate_in
rows_c = refl

pub conditioned_text : explain_text conditioned ≡ codes "Nest Left rows=1 cost=8\n  on: a.id = b.id\n  filter: EXISTS(#1)\n  Scan a rows=3 cost=1\n    filter: a.id IS NOT NULL\n  Scan b rows=2 cost=1\n#1:\n  Distinct\n  Scan c rows=5 cost=1\n"
unfolding plans_from tree_text scan_lines step_lines line_of tree_at tree_within blocks_of_sublink sublinks_from
conditioned_text =
    rw (joined_text, behind_text, before_text, rows_a, rows_b, rows_both, rows_c, decimal_digit 1 (lit< tt), decimal_digit 2 (lit< tt), decimal_digit 3 (lit< tt), decimal_digit 5 (lit< tt), decimal_digit 8 (lit< tt)) refl

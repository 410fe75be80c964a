-- The relations whose nulls a list rejects, run for each number below 64.
use Rattle.std.proofs.Common.{◌≡◌, ℕ, ◌||◌, false, [], ◌∷◌, map}
use Rattle.std.specs.Prelude.{◌^◌, ◌-◌, pos, if◌then◌else◌}
use Rattle.std.specs.List.{range_with_len}
use Rattle.jp_base.specs.declared.values.Ty.TheVariants as ty
use Rattle.jp_base.specs.declared.values.Value.TheVariants as value
use Rattle.jp_query.specs.declared.CmpOp.TheVariants as cmp
use Rattle.jp_query.specs.declared.IsTest.TheVariants as is
use Rattle.jp_query.specs.declared.Expr.TheOpen.{Expr-F}
use Rattle.jp_query.specs.Nullness.{Gone, Surely, expr_surely, of_literal, surely_of, nonnull_items}
use Rattle.jp_query.specs.Nullness.Gone.{relations}
use Rattle.jp_query.specs.Refs.{only, union}
use Rattle.jp_query.specs.TreeExamples.{col, one, equals, test}
use Rattle.jp_examples.specs.Trees.{or, truth}
use Rattle.jp_examples.proofs.Runs.{surely_rolls}

abbrev column : Gone → ℕ → ℕ → Surely
column gone rel c = expr_surely gone (Expr-F.Col rel c ty.Number 0)

abbrev equal : Gone → Surely → Surely → Surely
equal gone left right = expr_surely gone (Expr-F.Compare cmp.Eq left right)

abbrev literal_one : Gone → Surely
literal_one gone = of_literal (value.Num (pos 1))

-- a.0 = b.1, c.0 IS NULL, and d.0 = 1 OR a.0 = 1
abbrev first : Gone → Surely
first gone = equal gone (column gone 0 0) (column gone 1 1)

abbrev second : Gone → Surely
second gone = expr_surely gone (Expr-F.Test is.Null (column gone 2 0))

abbrev third : Gone → Surely
third gone = expr_surely gone (Expr-F.Or (equal gone (column gone 3 0) (literal_one gone) ∷ equal gone (column gone 0 0) (literal_one gone) ∷ []))

first_is : (gone : Gone) → surely_of gone (equals (col 0 0) (col 1 1)) ≡ first gone
first_is gone = simp surely_rolls

second_is : (gone : Gone) → surely_of gone (test is.Null (col 2 0)) ≡ second gone
second_is gone = simp surely_rolls

third_is : (gone : Gone) → surely_of gone (or (equals (col 3 0) one) (equals (col 0 0) one)) ≡ third gone
third_is gone = simp surely_rolls

pub some_rejected : nonnull_items (equals (col 0 0) (col 1 1) ∷ test is.Null (col 2 0) ∷ or (equals (col 3 0) one) (equals (col 0 0) one) ∷ []) ≡ 3
unfolding nonnull_items
some_rejected = λ i.
    let rejects = λ (gone : Gone). (first_is gone i).not_true || ((second_is gone i).not_true || ((third_is gone i).not_true || false)) in
    union (map (λ rel. if rejects (relations (only rel)) then only rel else 0) (range_with_len 0 64))

false_is : (gone : Gone) → surely_of gone (truth (value.Bool false)) ≡ of_literal (value.Bool false)
false_is gone = simp surely_rolls

pub all_rejected : nonnull_items (truth (value.Bool false) ∷ []) ≡ 2 ^ 64 - 1
unfolding nonnull_items
all_rejected = λ i. union (map (λ rel. if ((false_is (relations (only rel)) i).not_true || false) then only rel else 0) (range_with_len 0 64))

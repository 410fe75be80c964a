-- How many rows a set of items is estimated to have. It is a function of the set alone, whatever tree makes it.
use Rattle.std.specs.Prelude.{ℕ, zero, suc, ◌*◌, ◌/◌, ◌^◌, ◌==◌, ◌&&◌, Bool, false, not, min, max, find, bit_or, is_none, List, [], ◌∷◌, ◌++◌, map, filter, fold, length, Option, Some, None, slice_get, if◌then◌else◌}
use Rattle.std.specs.List.{flat_map, list_any}
use Rattle.jp_query.specs.declared.CmpOp.{CmpOp}
use Rattle.jp_query.specs.declared.CmpOp.TheVariants as cmp
use Rattle.jp_query.specs.declared.IsTest.{IsTest}
use Rattle.jp_query.specs.declared.IsTest.TheVariants as is
use Rattle.jp_query.specs.declared.Expr.{Expr, out-Expr}
use Rattle.jp_query.specs.declared.Expr.TheOpen.{Expr-F}
use Rattle.jp_query.specs.declared.JoinKind.{JoinKind}
use Rattle.jp_query.specs.declared.JoinKind.TheVariants as join
use Rattle.jp_query.specs.Layers.{ExprLayer}
use Rattle.jp_query.specs.Refs.{only, union}
use Rattle.jp_problem.specs.declared.types.Problem.{Problem}
use Rattle.jp_problem.specs.declared.types.Item.{Item}
use Rattle.jp_problem.specs.declared.types.ItemKind.{ItemKind}
use Rattle.jp_problem.specs.declared.types.ItemKind.TheVariants as kind
use Rattle.jp_problem.specs.declared.types.Special.{Special}
use Rattle.jp_problem.specs.declared.types.Clause.{Clause}
use Rattle.jp_problem.specs.declared.types.Class.{Class}
use Rattle.jp_cost.specs.declared.conditions.Pick.{Pick}
use Rattle.jp_cost.specs.declared.conditions.Pick.TheVariants as pick
use Rattle.jp_problem.specs.Blocks.{used}
use Rattle.jp_problem.specs.Equalities.{equals}
use Rattle.jp_problem.specs.LegalTests.{is_inside}
use Rattle.jp_problem.specs.MinimumSets.{right_of}
use Rattle.jp_problem.specs.Problems.{problem_rels}
use Rattle.jp_problem.specs.Sets.{is_empty, is_within, meets, without}
use Rattle.jp_problem.specs.StepClauses.{is_done, is_open, is_open_class}

-- the most rows that an estimate has
abbrev pub most_rows : ℕ
most_rows = 2 ^ 60

abbrev pub at_most : ℕ → ℕ
at_most rows = min most_rows rows

-- Dividing leaves at least one row.
abbrev pub divided : ℕ → ℕ → ℕ
divided rows by = max 1 (rows / by)

-- ---- how many distinct values an expression is said to have

abbrev pub is_table_of : ℕ → ItemKind → Bool
is_table_of rel (kind.Base r table) = r == rel
is_table_of rel _ = false

abbrev pub or_ten : Option ℕ → ℕ
or_ten (Some n) = n
or_ten None = 10

-- the number of a column of a table that is an item, 10 of another item's column
abbrev pub is_item_of : ℕ → Item → Bool
is_item_of rel item = is_table_of rel item.kind

abbrev pub values_in : Option Item → ℕ → ℕ
values_in (Some item) col = or_ten (slice_get item.distinct col)
values_in None col = 10

abbrev pub column_values : List Item → ℕ → ℕ → ℕ
column_values items rel col = values_in (find (is_item_of rel) items) col

abbrev pub values_at : List Item → ExprLayer → ℕ
values_at items (Expr-F.Col rel col ty nulled) = column_values items rel col
values_at items _ = 10

-- 1 without items; of a column of a table what is stated of it; 10 of anything else
abbrev pub values_of : Problem → Expr → ℕ
values_of problem e = if is_empty (used (problem_rels problem) e) then 1 else values_at problem.items (out-Expr e)

-- ---- by what a condition divides the rows

abbrev pub compare_divisor : Problem → CmpOp → Expr → Expr → ℕ
compare_divisor problem cmp.Eq left right = max (values_of problem left) (values_of problem right)
compare_divisor problem cmp.Ne left right = 2
compare_divisor problem cmp.Lt left right = 3
compare_divisor problem cmp.Le left right = 3
compare_divisor problem cmp.Gt left right = 3
compare_divisor problem cmp.Ge left right = 3

abbrev pub test_divisor : IsTest → ℕ
test_divisor is.Null = 10
test_divisor _ = 2

abbrev pub divisor_at : Problem → ExprLayer → ℕ
divisor_at problem (Expr-F.Compare op left right) = compare_divisor problem op left right
divisor_at problem (Expr-F.Between operand low high) = 4
divisor_at problem (Expr-F.Test test operand) = test_divisor test
divisor_at problem (Expr-F.InList operand list) = max 1 (values_of problem operand / length list)
divisor_at problem _ = 2

abbrev pub divisor : Problem → Expr → ℕ
divisor problem e = divisor_at problem (out-Expr e)

abbrev pub divided_by : Problem → ℕ → Expr → ℕ
divided_by problem rows e = divided rows (divisor problem e)

abbrev pub divided_by_all : Problem → ℕ → List Expr → ℕ
divided_by_all problem = fold (divided_by problem)

-- ---- the conditions that count in a set

-- a condition with the items that it needs
pub record Counted : Type 0 where
  pub expr : Expr
  pub needs : ℕ

abbrev pub counted_expr : Counted → Expr
counted_expr c = c.expr

-- a clause that is no equality of a class, where its region isn't done
abbrev pub counts_alone : List Special → ℕ → Clause → Bool
counts_alone joins set c = is_none c.class && (is_within c.req set && is_open joins set c.region)

abbrev pub counted_clause : Clause → Counted
counted_clause c = record { expr = c.expr; needs = c.req }

abbrev pub is_available : ℕ → Expr × ℕ → Bool
is_available set member = is_within member.1 set

abbrev pub equal_to : Expr → ℕ → Expr × ℕ → Counted
equal_to first needs member = record { expr = equals first member.0; needs = bit_or needs member.1 }

-- of a class the equalities of its first available member, which is the constant where there is one, with each other one
abbrev pub with_first : List (Expr × ℕ) → List Counted
with_first [] = []
with_first (first ∷ members) = map (equal_to first.0 first.1) members

abbrev pub equalities_with : Option Expr → List (Expr × ℕ) → List Counted
equalities_with (Some constant) members = map (equal_to constant 0) members
equalities_with None members = with_first members

abbrev pub counted_in_class : ℕ → Class → List Counted
counted_in_class set class = equalities_with class.constant (filter (is_available set) class.members)

abbrev pub counted_in : Problem → ℕ → List Counted
counted_in problem set =
    map counted_clause (filter (counts_alone problem.joins set) problem.clauses)
    ++ flat_map (counted_in_class set) (filter (is_open_class problem.joins set) problem.classes)

-- ---- the core of a set: its items that no join done in it makes absent

abbrev pub done_in : Problem → ℕ → List Special
done_in problem set = filter (is_done set) problem.joins

abbrev pub core : Problem → ℕ → ℕ
core problem set = without set (union (map right_of (done_in problem set)))

-- the numbers below n
abbrev pub below : ℕ → ℕ
below zero = 0
below (suc n) = bit_or (below n) (only n)

abbrev pub picks : Pick → ℕ → Bool
picks (pick.Ending core item upto) needs = is_within needs core && (meets needs item && is_within needs upto)
picks (pick.Beyond core) needs = not (is_within needs core)

abbrev pub is_picked : Pick → Counted → Bool
is_picked pick c = picks pick c.needs

-- the rows divided by those conditions of the set that are meant
abbrev pub filtered_by : Problem → ℕ → Pick → ℕ → ℕ
filtered_by problem set pick rows = divided_by_all problem rows (map counted_expr (filter (is_picked pick) (counted_in problem set)))

-- the conditions in the core whose greatest item is this one
abbrev pub ending_at : ℕ → ℕ → Pick
ending_at core i = pick.Ending core (only i) (below (suc i))

-- An item of the core multiplies the rows by its own; the conditions that end with it divide them.
abbrev pub with_item : Problem → ℕ → ℕ → ℕ → Item → ℕ
with_item problem set rows i item =
    if meets (core problem set) (only i) then filtered_by problem set (ending_at (core problem set) i) (at_most (rows * item.rows)) else rows

-- the items from `first` on, one after another
abbrev pub rows_from : Problem → ℕ → ℕ → ℕ → List Item → ℕ
rows_from problem set rows first [] = rows
rows_from problem set rows first (item ∷ items) = rows_from problem set (with_item problem set rows first item) (suc first) items

abbrev pub core_rows : Problem → ℕ → ℕ
core_rows problem set = rows_from problem set 1 0 problem.items

-- ---- the joins that are done in a set and inside no other that is

abbrev pub is_outermost : List Special → Special → Bool
is_outermost done s = not (list_any (is_inside s) done)

abbrev pub outermost_in : Problem → ℕ → List Special
outermost_in problem set = filter (is_outermost (done_in problem set)) (done_in problem set)

-- A Left join keeps each left row, and has more where several right rows match; a Semi or Anti join keeps some half.
abbrev pub joined : Problem → (ℕ → ℕ) → JoinKind → ℕ → Special → ℕ
joined problem estimate join.Left rows s = max rows (divided_by_all problem (at_most (rows * estimate s.min_right)) s.on)
joined problem estimate _ rows s = divided rows 2

abbrev pub join_rows : Problem → (ℕ → ℕ) → ℕ → Special → ℕ
join_rows problem estimate rows s = joined problem estimate s.kind rows s

-- ---- the estimate

-- by that of smaller sets
abbrev pub estimate_by : Problem → (ℕ → ℕ) → ℕ → ℕ
estimate_by problem estimate set =
    filtered_by problem set (pick.Beyond (core problem set)) (fold (join_rows problem estimate) (core_rows problem set) (outermost_in problem set))

-- The right set of a join that is done in a set has fewer joins done in it, so one round more than there are joins is enough.
unfoldable pub estimate_in : ℕ → Problem → ℕ → ℕ
estimate_in zero problem set = 1
estimate_in (suc rounds) problem set = estimate_by problem (estimate_in rounds problem) set

abbrev pub estimate : Problem → ℕ → ℕ
estimate problem set = estimate_in (suc (length problem.joins)) problem set

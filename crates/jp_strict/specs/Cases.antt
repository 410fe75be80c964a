-- The tests of nullness in several cases at once: for each test the set of the cases in which it passes.
use Rattle.std.specs.Prelude.{ℕ, ◌==◌, ◌&&◌, Bool, true, false, List, map, fold, bit_or, bit_and, if◌then◌else◌}
use Rattle.std.specs.List.{range_with_len}
use Rattle.jp_base.specs.declared.values.Value.{Value}
use Rattle.jp_base.specs.declared.values.Value.TheVariants as value
use Rattle.jp_query.specs.declared.IsTest.{IsTest}
use Rattle.jp_query.specs.declared.IsTest.TheVariants as is
use Rattle.jp_query.specs.declared.Expr.{Expr}
use Rattle.jp_query.specs.declared.Expr.TheOpen.{Expr-F}
use Rattle.jp_query.specs.declared.Expr.TheFolds.{fold-Expr}
use Rattle.jp_query.specs.Meaning.{has}
use Rattle.jp_query.specs.Nullness.{Gone}
use Rattle.jp_query.specs.Refs.{only, union, below_64}
use Rattle.jp_strict.specs.declared.absence.Absence.{Absence}
use Rattle.jp_strict.specs.declared.absence.Absence.TheVariants as absence
use Rattle.jp_strict.specs.declared.absence.Surely.{Surely}
use Rattle.jp_strict.specs.declared.absence.Members.{Members}

-- ---- cases

-- what is gone in a case
abbrev pub gone_in : Absence → ℕ → Gone
gone_in (absence.Relations set) i = Gone.relations set
gone_in (absence.Column rel col) i = Gone.column rel col
gone_in (absence.Each rels) i = Gone.relations (only i)

-- the one case of number 0, where the test passes
abbrev pub in_case : Bool → ℕ
in_case passes = if passes then below_64 (only 0) else 0

-- the numbers below 64 of a set that pass a test
abbrev pub kept_one : ℕ → (ℕ → Bool) → ℕ → ℕ
kept_one set passes i = if has set i && passes i then only i else 0

unfoldable pub kept : ℕ → (ℕ → Bool) → ℕ
kept set passes = union (map (kept_one set passes) (range_with_len 0 64))

abbrev pub all_cases : Absence → ℕ
all_cases (absence.Relations set) = below_64 (only 0)
all_cases (absence.Column rel col) = below_64 (only 0)
all_cases (absence.Each rels) = rels

abbrev pub column_cases : Absence → ℕ → ℕ → ℕ
column_cases (absence.Relations set) rel col = in_case (has set rel)
column_cases (absence.Column r c) rel col = in_case (r == rel && c == col)
column_cases (absence.Each rels) rel col = bit_and rels (below_64 (only rel))

-- no relation of the set is left where the relation alone is gone
abbrev pub leaves_alone : ℕ → ℕ → Bool
leaves_alone rels i = bit_and rels (only i) == rels

-- the numbers of a set that alone hold all of another
abbrev pub alone_in : ℕ → ℕ → ℕ
alone_in each rels = if rels == 0 then each else kept each (leaves_alone rels)

abbrev pub relation_cases : Absence → ℕ → ℕ
relation_cases (absence.Relations set) rels = in_case (bit_and rels set == rels)
relation_cases (absence.Column r c) rels = 0
relation_cases (absence.Each each) rels = alone_in each rels

-- ---- the tests

-- what is NULL is neither true nor false
abbrev pub tests : ℕ → ℕ → ℕ → Surely
tests null not_true not_false = record { null = null; not_true = bit_or null not_true; not_false = bit_or null not_false }

abbrev pub null_in : ℕ → Surely
null_in null = tests null 0 0

abbrev pub literal_cases : ℕ → Value → Surely
literal_cases all value.Null = null_in all
literal_cases all (value.Bool false) = tests 0 all 0
literal_cases all (value.Bool true) = tests 0 0 all
literal_cases all _ = null_in 0

abbrev pub test_cases : IsTest → Surely → Surely
test_cases is.NotNull e = tests 0 e.null 0
test_cases is.NotUnknown e = tests 0 e.null 0
test_cases is.True e = tests 0 e.not_true 0
test_cases is.False e = tests 0 e.not_false 0
test_cases _ e = null_in 0

-- ---- lists

abbrev pub either : Surely → Surely → Surely
either a b = record { null = bit_or a.null b.null; not_true = bit_or a.not_true b.not_true; not_false = bit_or a.not_false b.not_false }

abbrev pub shared : Surely → Surely → Surely
shared a b = record { null = bit_and a.null b.null; not_true = bit_and a.not_true b.not_true; not_false = bit_and a.not_false b.not_false }

abbrev pub in_all : ℕ → Surely
in_all all = record { null = all; not_true = all; not_false = all }

abbrev pub no_members : ℕ → Members
no_members all = record { some = in_all 0; every = in_all all; listed = 0 }

abbrev pub with_member : ℕ → Members → Surely → Members
with_member all before member = record { some = either before.some member; every = shared before.every member; listed = all }

abbrev pub members_of : ℕ → List Surely → Members
members_of all members = fold (with_member all) (no_members all) members

abbrev pub null_term : Bool × Surely → ℕ
null_term term = term.1.null

-- ---- expressions

abbrev pub and_cases : Members → Surely
and_cases m = tests (bit_and m.listed m.every.null) m.some.not_true (bit_and m.listed m.every.not_false)

abbrev pub or_cases : Members → Surely
or_cases m = tests (bit_and m.listed m.every.null) (bit_and m.listed m.every.not_true) m.some.not_false

abbrev pub cases_level : Absence → Expr-F Surely (Unit {0}) (Unit {0}) (Unit {0}) (Unit {0}) → Surely
cases_level a (Expr-F.Col rel col ty nulled) = null_in (column_cases a rel col)
cases_level a (Expr-F.Lit v ty) = literal_cases (all_cases a) v
cases_level a (Expr-F.Place inner rels) = tests (bit_or (relation_cases a rels) inner.null) inner.not_true inner.not_false
cases_level a (Expr-F.Neg operand) = null_in operand.null
cases_level a (Expr-F.Sum terms) = null_in (union (map null_term terms))
cases_level a (Expr-F.Product factors) = null_in (members_of (all_cases a) factors).some.null
cases_level a (Expr-F.Concat parts) = null_in (members_of (all_cases a) parts).some.null
cases_level a (Expr-F.Compare op left right) = null_in (bit_or left.null right.null)
cases_level a (Expr-F.Between operand low high) = tests operand.null (bit_or operand.null (bit_or low.null high.null)) 0
cases_level a (Expr-F.InList operand list) = null_in operand.null
cases_level a (Expr-F.Not operand) = tests operand.null operand.not_false operand.not_true
cases_level a (Expr-F.And members) = and_cases (members_of (all_cases a) members)
cases_level a (Expr-F.Or members) = or_cases (members_of (all_cases a) members)
cases_level a (Expr-F.Coalesce members) = null_in (members_of (all_cases a) members).every.null
cases_level a (Expr-F.Test test operand) = test_cases test operand
cases_level a (Expr-F.InSub sub operand query) = tests 0 operand.null 0
cases_level a (Expr-F.Case operand arms otherwise) = null_in 0
cases_level a (Expr-F.Exists sub query) = null_in 0

abbrev pub cases_of : Absence → Expr → Surely
cases_of a = fold-Expr Surely (Unit {0}) (Unit {0}) (Unit {0}) (Unit {0}) (cases_level a) (λ t. tt) (λ o. tt) (λ o. tt) (λ q. tt)

abbrev pub null_of_term : Absence → Bool × Expr → ℕ
null_of_term a term = (cases_of a term.1).null

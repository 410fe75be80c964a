-- What surely holds of an expression where given relations are null-extended, or one given column is NULL. These tests are
-- this product's own; each follows from the meaning of its operator.
use Rattle.std.specs.Prelude.{ℕ, ◌==◌, ◌&&◌, ◌||◌, Bool, true, false, bit_and, List, [], ◌∷◌, map, if◌then◌else◌}
use Rattle.std.specs.List.{list_all, list_any, range_with_len}
use Rattle.jp_base.specs.declared.values.Value.{Value}
use Rattle.jp_base.specs.declared.values.Value.TheVariants as value
use Rattle.jp_query.specs.declared.IsTest.{IsTest}
use Rattle.jp_query.specs.declared.IsTest.TheVariants as is
use Rattle.jp_query.specs.Layers.{Expr, Expr-F, fold-Expr}
use Rattle.jp_query.specs.Meaning.{has}
use Rattle.jp_query.specs.Parts.{all_in, term_part}
use Rattle.jp_query.specs.Refs.{only, union}
use Rattle.jp_query.specs.Typing.{is_listed}

-- What is gone: a set of relations, which are null-extended, or one column of a relation, which is NULL.
pub data Gone : Type 0 where
  relations : ℕ → Gone
  column : ℕ → ℕ → Gone

abbrev pub is_gone : Gone → ℕ → ℕ → Bool
is_gone (Gone.relations set) rel col = has set rel
is_gone (Gone.column r c) rel col = r == rel && c == col

-- no relation of the set is left
abbrev pub are_gone : Gone → ℕ → Bool
are_gone (Gone.relations set) rels = bit_and rels set == rels
are_gone (Gone.column r c) rels = false

pub record Surely : Type 0 where
  pub null : Bool
  pub not_true : Bool
  pub not_false : Bool

-- what is NULL is neither true nor false
abbrev pub surely : Bool → Bool → Bool → Surely
surely null not_true not_false = record { null = null; not_true = null || not_true; not_false = null || not_false }

abbrev pub no : Surely
no = surely false false false

abbrev pub is_null : Surely → Bool
is_null s = s.null

abbrev pub is_not_true : Surely → Bool
is_not_true s = s.not_true

abbrev pub is_not_false : Surely → Bool
is_not_false s = s.not_false

abbrev pub of_literal : Value → Surely
of_literal value.Null = surely true false false
of_literal (value.Bool false) = surely false true false
of_literal (value.Bool true) = surely false false true
of_literal _ = no

abbrev pub of_test : IsTest → Surely → Surely
of_test is.NotNull e = surely false e.null false
of_test is.NotUnknown e = surely false e.null false
of_test is.True e = surely false e.not_true false
of_test is.False e = surely false e.not_false false
of_test _ e = no

-- all of at least one
abbrev pub each : (Surely → Bool) → List Surely → Bool
each test members = is_listed members && list_all test members

abbrev pub expr_surely : Gone → Expr-F Surely (Unit {0}) (Unit {0}) (Unit {0}) (Unit {0}) → Surely
expr_surely gone (Expr-F.Col rel col ty nulled) = surely (is_gone gone rel col) false false
expr_surely gone (Expr-F.Lit v ty) = of_literal v
expr_surely gone (Expr-F.Place inner rels) = surely (are_gone gone rels || inner.null) inner.not_true inner.not_false
expr_surely gone (Expr-F.Neg operand) = surely operand.null false false
expr_surely gone (Expr-F.Sum terms) = surely (list_any is_null (map term_part terms)) false false
expr_surely gone (Expr-F.Product factors) = surely (list_any is_null factors) false false
expr_surely gone (Expr-F.Concat parts) = surely (list_any is_null parts) false false
expr_surely gone (Expr-F.Compare op left right) = surely (left.null || right.null) false false
expr_surely gone (Expr-F.Between operand low high) = surely operand.null (operand.null || (low.null || high.null)) false
expr_surely gone (Expr-F.InList operand list) = surely operand.null false false
expr_surely gone (Expr-F.Not operand) = surely operand.null operand.not_false operand.not_true
expr_surely gone (Expr-F.And members) = surely (each is_null members) (list_any is_not_true members) (each is_not_false members)
expr_surely gone (Expr-F.Or members) = surely (each is_null members) (each is_not_true members) (list_any is_not_false members)
expr_surely gone (Expr-F.Coalesce members) = surely (list_all is_null members) false false
expr_surely gone (Expr-F.Test test operand) = of_test test operand
expr_surely gone (Expr-F.InSub sub operand query) = surely false operand.null false
expr_surely gone (Expr-F.Case operand arms otherwise) = no
expr_surely gone (Expr-F.Exists sub query) = no

abbrev pub surely_of : Gone → Expr → Surely
surely_of gone = fold-Expr Surely (Unit {0}) (Unit {0}) (Unit {0}) (Unit {0}) (expr_surely gone) (λ t. tt) (λ o. tt) (λ o. tt) (λ q. tt)

-- a condition list rejects the nulls of what is gone where some member is surely not true
abbrev pub is_rejecting : Gone → Expr → Bool
is_rejecting gone e = (surely_of gone e).not_true

abbrev pub rejects : Gone → List Expr → Bool
rejects gone conds = list_any (is_rejecting gone) conds

-- the relations below 64 whose nulls, each taken alone, the list rejects; all of them where it is surely never true
abbrev pub rejects_relation : List Expr → ℕ → Bool
rejects_relation conds rel = rejects (Gone.relations (only rel)) conds

abbrev pub rejected : List Expr → ℕ → ℕ
rejected conds rel = if rejects_relation conds rel then only rel else 0

unfoldable pub nonnull_items : List Expr → ℕ
nonnull_items conds = union (map (rejected conds) (range_with_len 0 64))

-- ---- the columns that a list forces to be NULL: those with a member `c IS NULL` or `c IS UNKNOWN`, the members of an
-- AND among them

pub record Forced : Type 0 where
  pub itself : List (ℕ × ℕ)
  pub forced : List (ℕ × ℕ)

abbrev pub forced_part : Forced → List (ℕ × ℕ)
forced_part f = f.forced

abbrev pub forces_nothing : Forced
forces_nothing = record { itself = []; forced = [] }

abbrev pub forced_by_test : IsTest → Forced → Forced
forced_by_test is.Null operand = record { itself = []; forced = operand.itself }
forced_by_test is.Unknown operand = record { itself = []; forced = operand.itself }
forced_by_test _ operand = forces_nothing

abbrev pub expr_forced : Expr-F Forced (Unit {0}) (Unit {0}) (Unit {0}) (Unit {0}) → Forced
expr_forced (Expr-F.Col rel col ty nulled) = record { itself = (rel, col) ∷ []; forced = [] }
expr_forced (Expr-F.Test test operand) = forced_by_test test operand
expr_forced (Expr-F.And members) = record { itself = []; forced = all_in (map forced_part members) }
expr_forced _ = forces_nothing

abbrev pub forcing : Expr → Forced
forcing = fold-Expr Forced (Unit {0}) (Unit {0}) (Unit {0}) (Unit {0}) expr_forced (λ t. tt) (λ o. tt) (λ o. tt) (λ q. tt)

abbrev pub forced_by : Expr → List (ℕ × ℕ)
forced_by e = (forcing e).forced

abbrev pub forced_null : List Expr → List (ℕ × ℕ)
forced_null conds = all_in (map forced_by conds)

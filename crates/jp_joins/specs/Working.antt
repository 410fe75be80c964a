-- What the functions inside a step say to each other.
use Rattle.std.specs.Prelude.{◌≡◌, ℕ, ◌<◌, ◌&&◌, ◌||◌, Bool, true, false, not, nat_eq, length, slice_index_or, List, All, Option, Some, None, Result, Vec}
use Rattle.std.specs.declared.alloc.Global.{Global}
use Rattle.jp_base.specs.declared.memory.Memory.{Memory}
use Rattle.jp_query.specs.declared.JoinKind.{JoinKind}
use Rattle.jp_query.specs.declared.JoinKind.TheVariants as join
use Rattle.jp_base.specs.declared.truth.Truth.{Truth}
use Rattle.jp_query.specs.declared.Expr.{Expr}
use Rattle.jp_query.specs.Meaning.{Row, truth_given}
use Rattle.jp_query.specs.Operators.{is_true}
use Rattle.jp_frame.specs.Maps.{Map, both}
use Rattle.jp_joins.specs.Conditions.{CanPair, CanEvaluateAt}
use Rattle.std.specs.List.{list_any}
use Rattle.jp_joins.specs.Keys.{map_at}
use Rattle.jp_joins.specs.Lending.{numbers_in_all}
use Rattle.jp_joins.specs.Meant.{Meant, list_holds, GivesRows}
use Rattle.jp_joins.specs.Tuples.{map_of}
use Rattle.jp_joins.specs.declared.tuples.Tuple.{Tuple}

-- Inner keeps every match
abbrev pub kept_by : JoinKind → Bool → Bool
kept_by join.Inner holds = true
kept_by _ holds = holds

abbrev pub is_kept : Meant → Map → Bool
is_kept meant m = kept_by meant.kind (list_holds meant meant.filters m)

abbrev pub only_if : Bool → Map → Option Map
only_if true m = Some m
only_if false m = None

-- the truth of a condition at a map
abbrev pub truth_at : Meant → Map → Expr → Truth
truth_at meant m e = truth_given (meant.sublink_rows m) e (meant.environment m)

-- the condition at the place is true at the map; past the end of the list there is none
abbrev pub IsKnown : Meant → List Expr → ℕ → Map → Type 0
IsKnown meant conds known m = (d : Expr) → known < length conds → is_true (truth_at meant m (slice_index_or conds known d)) ≡ true

-- a left and a right map can be tried, where the member of the ON list at the place is known to be true
pub record CanTry (meant : Meant) (place : ℕ) (a b : Map) : Type 0 where
  pub pair : CanPair meant a b
  pub known : IsKnown meant meant.on place (both a b)

-- a left and each of some right tuples can be tried
abbrev pub CanTryAll : Meant → ℕ → Tuple → List Tuple → Type 0
CanTryAll meant known left rights = All (λ right. CanTry meant known (map_of left) (map_of right)) rights

abbrev pub CanKeep : Meant → Map → Type 0
CanKeep meant m = All (CanEvaluateAt meant m) meant.filters

-- the sublinks are those of the lists, and what is handed in gives their rows
pub record IsReady (meant : Meant) (on_sublinks filter_sublinks : List ℕ) (gives : Tuple → ℕ → Result (Vec Row Global) Memory → Type 0) : Type 0 where
  pub on : on_sublinks ≡ numbers_in_all meant.on
  pub filters : filter_sublinks ≡ numbers_in_all meant.filters
  pub rows : GivesRows meant gives

-- ---- marks of the left tuples that have a match

abbrev pub mark_at : List Bool → ℕ → Bool
mark_at marks i = slice_index_or marks i false

-- the places whose pairs with a right map match are marked too
abbrev pub Marks : (Map → Bool) → List Map → Map → List ℕ → List Bool → List Bool → Type 0
Marks test lefts b places old now = (i : ℕ) → i < length lefts → mark_at now i ≡ (mark_at old i || (list_any (nat_eq i) places && test (both (map_at lefts i) b)))

-- the marks say at which maps the test is true
abbrev pub AreMarks : (Map → Bool) → List Map → List Bool → Type 0
AreMarks test lefts marks = (i : ℕ) → i < length lefts → mark_at marks i ≡ test (map_at lefts i)

abbrev pub is_not : (Map → Bool) → Map → Bool
is_not test m = not (test m)

-- Two relations of one column of numbers each, and a step between them.
use Rattle.std.specs.Prelude.{◌≡◌, ◌≤◌, ◌^◌, ◌==◌, ◌⊎◌, ℕ, pos, false, List, [], ◌∷◌, All, Contains, Option, Some, None, length, slice_index_or, if◌then◌else◌}
use Rattle.jp_base.specs.declared.values.Value.{Value}
use Rattle.jp_base.specs.declared.values.Value.TheVariants as value
use Rattle.jp_query.specs.declared.Expr.{Expr}
use Rattle.jp_query.specs.declared.Expr.TheOpen.{JoinTree-F}
use Rattle.jp_query.specs.declared.Expr.TheViews.{roll-JoinTree, roll-Query}
use Rattle.jp_query.specs.declared.Query.{Query}
use Rattle.jp_query.specs.declared.IsTest.TheVariants as is
use Rattle.jp_query.specs.Meaning.{Row, Env}
use Rattle.jp_query.specs.TreeExamples.{col, equals, exists_by, test}
use Rattle.jp_frame.specs.Maps.{Map, at}
use Rattle.jp_joins.specs.Meant.{Meant}
use Rattle.jp_joins_tests.specs.declared.relations.Relations.{Relations}

abbrev pub value_of_number : Option ℕ → Value
value_of_number (Some n) = value.Num (pos n)
value_of_number None = value.Null

-- the row of a relation; it has a NULL past the end
abbrev pub row_of : List (Option ℕ) → Option ℕ → Option Row
row_of numbers (Some i) = Some (value_of_number (slice_index_or numbers i None) ∷ [])
row_of numbers None = None

abbrev pub rows_at : List (Option ℕ) → List (Option ℕ) → Map → Env
rows_at left right m rel = if rel == 0 then row_of left (at m 0) else (if rel == 1 then row_of right (at m 1) else None)

-- the sublink has a row where both sides have the same row number
abbrev pub one_if_same : Option ℕ → Option ℕ → List Row
one_if_same (Some i) (Some j) = if i == j then [] ∷ [] else []
one_if_same _ _ = []

abbrev pub same_rows : Map → ℕ → List Row
same_rows m sub = one_if_same (at m 0) (at m 1)

abbrev pub meant_of : Relations → Meant
meant_of s = record {
  kind = s.kind;
  environment = rows_at s.left.now s.right.now;
  sublink_rows = same_rows;
  key = Some (s.first, s.second);
  on = s.on;
  filters = s.filters;
}

-- SELECT over nothing
abbrev pub nothing : Query
nothing = roll-Query (record { columns = []; distinct = false; tree = roll-JoinTree (JoinTree-F.From [] []); conds = []; order = [] })

abbrev pub equality : Expr
equality = equals (col 0 0) (col 1 0)

abbrev pub sublink : Expr
sublink = exists_by 1 nothing

abbrev pub right_is_null : Expr
right_is_null = test is.Null (col 1 0)

abbrev pub IsCondition : Expr → Type 0
IsCondition e = (e ≡ equality) ⊎ ((e ≡ sublink) ⊎ (e ≡ right_is_null))

abbrev pub IsSmall : Option ℕ → Type 0
IsSmall (Some n) = n ≤ 2 ^ 32
IsSmall None = Unit {0}

-- the step's key is the equality of the two columns
pub record IsStep (s : Relations) : Type 0 where
  pub left : All IsSmall s.left.now
  pub right : All IsSmall s.right.now
  pub first : s.first ≡ col 0 0
  pub second : s.second ≡ col 1 0
  pub equality : Contains s.on equality
  pub on : All IsCondition s.on
  pub filters : All IsCondition s.filters

-- maps of the left and of the right relation alone
pub record IsLeft (m : Map) : Type 0 where
  pub wide : length m ≡ 2
  pub none : at m 1 ≡ None

pub record IsRight (m : Map) : Type 0 where
  pub wide : length m ≡ 2
  pub none : at m 0 ≡ None

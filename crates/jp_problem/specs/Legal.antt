-- Which sets of items can be joined by themselves, which steps are legal, and legal trees. Where PostgreSQL's join_is_legal
-- (joinrels.c) asks these questions step by step, here they are conditions on sets; they are this product's own.
use Rattle.std.specs.Prelude.{◌≡◌, ℕ, bit_or, List, All, Contains, Some, slice_get}
use Rattle.jp_base.specs.Sets.{Has, Within, Meets}
use Rattle.jp_query.specs.declared.JoinKind.TheVariants as join
use Rattle.jp_problem.specs.declared.types.Problem.{Problem}
use Rattle.jp_problem.specs.declared.types.Special.{Special}
use Rattle.jp_problem.specs.declared.types.Step.{Step}
use Rattle.jp_problem.specs.declared.types.Step.TheVariants.{Inner, By}

-- no common item
abbrev pub Apart : ℕ → ℕ → Type 0
Apart a b = ¬ Meets a b

-- all that the join needs lies in the set
pub record IsDone (set : ℕ) (s : Special) : Type 0 where
  pub left : Within s.min_left set
  pub right : Within s.min_right set

-- all that u needs lies in the right set of s
pub record IsInside (u s : Special) : Type 0 where
  pub left : Within u.min_left s.min_right
  pub right : Within u.min_right s.min_right

-- the item lies in the right set of a Left join that is done in the set and not inside s
pub record HangsBy (set : ℕ) (s : Special) (i : ℕ) (u : Special) : Type 0 where
  pub kind : u.kind ≡ join.Left
  pub done : IsDone set u
  pub outside : ¬ IsInside u s
  pub right : Has u.min_right i

abbrev pub Hangs : List Special → ℕ → Special → ℕ → Type 0
Hangs joins set s i = (u : Special) × Contains joins u × HangsBy set s i u

-- how a joinable set may stand to a join
pub data Stands (joins : List Special) (set : ℕ) (s : Special) : Type 0 where
  -- it misses the right set
  misses : Apart set s.min_right → Stands joins set s
  -- it lies in the right set
  lies_in : Within set s.min_right → Stands joins set s
  is_done : IsDone set s → Stands joins set s
  -- the join is a Left join, whose left set it misses, and its items outside the right set hang there by other Left joins
  hangs : s.kind ≡ join.Left → Apart set s.min_left → ((i : ℕ) → Has set i → ¬ Has s.min_right i → Hangs joins set s i) → Stands joins set s

pub record IsJoinable (problem : Problem) (set : ℕ) : Type 0 where
  pub some : (i : ℕ) × Has set i
  pub stands : All (Stands problem.joins set) problem.joins

-- ---- steps

-- the join is done in the union and in neither part
pub record IsNew (left right : ℕ) (s : Special) : Type 0 where
  pub in_union : IsDone (bit_or left right) s
  pub not_left : ¬ IsDone left s
  pub not_right : ¬ IsDone right s

-- at exactly one place of the list there is a new join, and it is s
pub record IsOnlyNew (left right : ℕ) (joins : List Special) (s : Special) : Type 0 where
  pub place : ℕ
  pub join : slice_get joins place ≡ Some s
  pub new : IsNew left right s
  pub only : (k : ℕ) (t : Special) → slice_get joins k ≡ Some t → IsNew left right t → k ≡ place

-- a step joins two disjoint joinable sets to a joinable one
pub record IsStep (problem : Problem) (left right : ℕ) : Type 0 where
  pub apart : Apart left right
  pub left_joinable : IsJoinable problem left
  pub right_joinable : IsJoinable problem right
  pub joinable : IsJoinable problem (bit_or left right)

-- no join comes to be done
abbrev pub IsInner : List Special → ℕ → ℕ → Type 0
IsInner joins left right = (k : ℕ) (s : Special) → slice_get joins k ≡ Some s → ¬ IsNew left right s

-- exactly one does, whose left set lies in the left part and whose right set in the right part
pub record IsBy (joins : List Special) (left right number : ℕ) : Type 0 where
  pub join : Special
  pub numbered : join.no ≡ number
  pub only_new : IsOnlyNew left right joins join
  pub on_left : Within join.min_left left
  pub on_right : Within join.min_right right

abbrev pub IsOfKind : List Special → ℕ → ℕ → Step → Type 0
IsOfKind joins left right Inner = IsInner joins left right
IsOfKind joins left right (By number) = IsBy joins left right number

pub record IsLegalStep (problem : Problem) (left right : ℕ) (kind : Step) : Type 0 where
  pub step : IsStep problem left right
  pub of_kind : IsOfKind problem.joins left right kind

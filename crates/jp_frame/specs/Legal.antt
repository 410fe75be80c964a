-- Done joins, joinable sets and legal steps.
use Rattle.std.specs.Prelude.{◌≡◌, ℕ, suc, ◌<◌, ◌⊎◌, bit_or}
use Rattle.jp_base.specs.Sets.{Has, Within}
use Rattle.jp_frame.specs.Frames.{Frame, Left, Apart, IsInside, IsVoid}

-- all that a join needs lies in the set
pub record IsDone (f : Frame) (set s : ℕ) : Type 0 where
  pub join : s < f.joins
  pub left : Within (f.left s) set
  pub right : Within (f.right s) set

-- done, and inside no other join that is done
pub record IsOuter (f : Frame) (set s : ℕ) : Type 0 where
  pub done : IsDone f set s
  pub free : (t : ℕ) → IsDone f set t → IsInside f s t → ⊥

-- how a join may stand to a joinable set
pub data Stands (f : Frame) (set s : ℕ) : Type 0 where
  misses : Apart set (f.right s) → Stands f set s
  lies_in : Within set (f.right s) → Stands f set s
  is_done : IsDone f set s → Stands f set s
  -- the set's further items hang on the right set of s by other left joins
  hangs : f.kind s ≡ Left → Apart set (f.left s) → ((i : ℕ) → Has set i → ¬ Has (f.right s) i → (u : ℕ) × IsDone f set u × (f.kind u ≡ Left) × ¬ IsInside f u s × Has (f.right u) i) → Stands f set s

pub record IsJoinable (f : Frame) (set : ℕ) : Type 0 where
  pub some : (i : ℕ) × Has set i
  pub stands : (s : ℕ) → s < f.joins → Stands f set s

-- a step joins two disjoint joinable sets to a joinable one
pub record IsStep (f : Frame) (left right : ℕ) : Type 0 where
  pub apart : Apart left right
  pub left_joinable : IsJoinable f left
  pub right_joinable : IsJoinable f right
  pub joinable : IsJoinable f (bit_or left right)

-- no join is done in the union that is done in neither part
pub record IsInnerStep (f : Frame) (left right : ℕ) : Type 0 where
  pub step : IsStep f left right
  pub no_new : (u : ℕ) → IsDone f (bit_or left right) u → IsDone f left u ⊎ IsDone f right u

-- exactly the join s is
pub record IsStepBy (f : Frame) (left right s : ℕ) : Type 0 where
  pub step : IsStep f left right
  pub join : s < f.joins
  pub on_left : Within (f.left s) left
  pub on_right : Within (f.right s) right
  pub one_new : (u : ℕ) → IsDone f (bit_or left right) u → (IsDone f left u ⊎ IsDone f right u) ⊎ (u ≡ s)

-- A place of a step by s: a joinable set that holds the right set of s and misses its left set.
pub record IsByPlace (f : Frame) (set s : ℕ) : Type 0 where
  pub join : s < f.joins
  pub joinable : IsJoinable f set
  pub within : Within (f.right s) set
  pub misses : Apart (f.left s) set

-- u hangs on s in the set: outer there, and not inside s
pub record IsHanging (f : Frame) (set s u : ℕ) : Type 0 where
  pub outer : IsOuter f set u
  pub free : IsInside f u s → ⊥

-- The hanging join u hangs on t, which is s or hangs too: an item of t's right set stands before all of u's, and the ON
-- list of u isn't true where t's right set is none.
pub record HangsOn (f : Frame) (set s u t j : ℕ) : Type 0 where
  pub left_kind : f.kind u ≡ Left
  pub base : (t ≡ s) ⊎ IsHanging f set s t
  pub item : Has (f.right t) j
  pub before : (i : ℕ) → Has (f.right u) i → j < i
  pub off : Apart (f.right u) (f.right t)
  pub void : IsVoid f u (f.right t)

-- what a clause needs lies in the set, and its region isn't done there
pub record IsActive (f : Frame) (set c : ℕ) : Type 0 where
  pub clause : c < f.clauses
  pub within : Within (f.needs c) set
  pub open_region : (r : ℕ) → f.region c ≡ suc r → IsDone f set r → ⊥

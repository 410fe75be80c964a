-- What a step makes of the row sets of its two sets.
use Rattle.std.specs.Prelude.{◌≡◌, ℕ, suc, ◌<◌, ◌⊎◌, ◌↔◌, Bool, true, false, not, ◌&&◌, ◌||◌, bit_or}
use Rattle.jp_base.specs.Sets.{Within}
use Rattle.jp_frame.specs.Maps.{Map, NoneOn, part, both, all_below}
use Rattle.jp_frame.specs.Frames.{Frame, Kind, Left, Semi, Anti}
use Rattle.jp_frame.specs.Legal.{IsDone, IsInnerStep, IsStepBy}
use Rattle.jp_frame.specs.Rows.{Lives, is_within, region_done, InRowSet}

pub data Step : Type 0 where
  Inner : Step
  By : ℕ → Step

abbrev pub IsLegal : Frame → ℕ → ℕ → Step → Type 0
IsLegal f left right Inner = IsInnerStep f left right
IsLegal f left right (By s) = IsStepBy f left right s

-- what a clause needs lies in the union and in neither part, and its region isn't done in the union
pub record IsDue (f : Frame) (left right c : ℕ) : Type 0 where
  pub clause : c < f.clauses
  pub within : Within (f.needs c) (bit_or left right)
  pub not_left : Within (f.needs c) left → ⊥
  pub not_right : Within (f.needs c) right → ⊥
  pub open_region : (r : ℕ) → f.region c ≡ suc r → IsDone f (bit_or left right) r → ⊥

abbrev pub AllDue : Frame → ℕ → ℕ → Map → Type 0
AllDue f left right m = (c : ℕ) → IsDue f left right c → f.holds c m ≡ true

-- some or no member of the right row set makes the ON list hold with a left member
abbrev pub HasPartner : Frame → ℕ → ℕ → Map → Type 0
HasPartner f right s a = (b : Map) × InRowSet f right b × (f.on s (both a b) ≡ true)

abbrev pub HasNoPartner : Frame → ℕ → ℕ → Map → Type 0
HasNoPartner f right s a = (b : Map) → InRowSet f right b → f.on s (both a b) ≡ false

abbrev pub JoinedBy : Kind → Frame → ℕ → ℕ → ℕ → Map → Type 0
JoinedBy Left f left right s m = (InRowSet f right (part right m) × (f.on s m ≡ true)) ⊎ (NoneOn right m × HasNoPartner f right s (part left m))
JoinedBy Semi f left right s m = NoneOn right m × HasPartner f right s (part left m)
JoinedBy Anti f left right s m = NoneOn right m × HasNoPartner f right s (part left m)

abbrev pub Joined : Step → Frame → ℕ → ℕ → Map → Type 0
Joined Inner f left right m = InRowSet f right (part right m)
Joined (By s) f left right m = JoinedBy (f.kind s) f left right s m

-- a map that the step makes before its clauses are tested, null-extended ones included
pub record IsCandidate (f : Frame) (left right : ℕ) (step : Step) (m : Map) : Type 0 where
  pub lives : Lives f (bit_or left right) m
  pub on_left : InRowSet f left (part left m)
  pub joined : Joined step f left right m

-- a test is enough at a step where it holds at each candidate exactly where all due clauses do
abbrev pub IsEnough : Frame → ℕ → ℕ → Step → (Map → Bool) → Type 0
IsEnough f left right step test = (m : Map) → IsCandidate f left right step m → (test m ≡ true) ↔ AllDue f left right m

-- the due clauses by a test, without classes
abbrev pub due : Frame → ℕ → ℕ → ℕ → Bool
due f left right c = is_within (f.needs c) (bit_or left right) && (not (is_within (f.needs c) left || is_within (f.needs c) right) && not (region_done f (bit_or left right) (f.region c)))

abbrev pub due_met : Frame → ℕ → ℕ → Map → ℕ → Bool
due_met f left right m c = not (due f left right c) || f.holds c m

abbrev pub step_test : Frame → ℕ → ℕ → Map → Bool
step_test f left right m = all_below f.clauses (due_met f left right m)

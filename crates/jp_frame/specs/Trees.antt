-- Legal trees and their lists of rows.
use Rattle.std.specs.Prelude.{ℕ, ◌<◌, ◌^◌, Bool, List, bit_or}
use Rattle.jp_frame.specs.Maps.{Map}
use Rattle.jp_frame.specs.Frames.{Frame}
use Rattle.jp_frame.specs.Steps.{Step, IsLegal, IsEnough}
use Rattle.jp_frame.specs.Methods.{Method, IsAllowed, IsEnoughAtScan, scan, list_of}

-- a scan of an item with the test of its clauses, or a step with its method and the test of its clauses
pub data Tree : Type 0 where
  Scan : ℕ → (Map → Bool) → Tree
  Join : Method → Step → (Map → Bool) → Tree → Tree → Tree

abbrev pub set_of : Tree → ℕ
set_of (Scan i test) = 2 ^ i
set_of (Join method step test left right) = bit_or (set_of left) (set_of right)

-- each step is legal, each method allowed, and the tests are enough
abbrev pub IsLegalTree : Frame → Tree → Type 0
IsLegalTree f (Scan i test) = (i < f.items) × IsEnoughAtScan f i test
IsLegalTree f (Join method step test left right) =
    IsLegal f (set_of left) (set_of right) step × IsAllowed f method step × IsEnough f (set_of left) (set_of right) step test × IsLegalTree f left × IsLegalTree f right

abbrev pub rows_of : Frame → Tree → List Map
rows_of f (Scan i test) = scan f i test
rows_of f (Join method step test left right) = list_of f method step test (rows_of f left) (rows_of f right)

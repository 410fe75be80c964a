-- What a sink took of a line.
use Rattle.std.specs.Prelude.{ℕ, ◌<◌, ◌⊎◌, ◌++◌, List, [], length, take, fold, Option}
use Rattle.std.specs.Borrow.{Bor}
use Rattle.jp_io.specs.Sinks.{Rose, TookMore}

-- all of it, or only the first bytes, and a fault was counted
abbrev pub TookLine : Option (List ℕ) → Option (List ℕ) → ℕ → ℕ → List ℕ → Type 0
TookLine before now faults_before faults_now line =
    TookMore before line now ⊎ ((n : ℕ) × (n < length line) × TookMore before (take n line) now × Rose faults_before faults_now)

-- the bytes of a line's pieces
abbrev pub with_piece : List ℕ → Bor (List ℕ) → List ℕ
with_piece line piece = line ++ piece.now

abbrev pub bytes_of : List (Bor (List ℕ)) → List ℕ
bytes_of = fold with_piece []

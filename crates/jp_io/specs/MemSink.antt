-- What a `MemSink` tells.
use Rattle.std.specs.Prelude.{ℕ, ◌-◌, min, ◌==◌, nat_lt, Bool, ◌&&◌, ◌||◌, List, length, Option, Some, None, if◌then◌else◌}
use Rattle.std.specs.List.{list_any}
use Rattle.jp_io.specs.declared.mem_sink.MemSink.{MemSink}

-- what it took
abbrev pub taken_bytes : MemSink → List ℕ
taken_bytes s = s.taken.items

-- how many calls failed
abbrev pub fault_count : MemSink → ℕ
fault_count s = s.failed

-- how many calls were made
abbrev pub call_count : MemSink → ℕ
call_count s = s.calls

-- the numbers of the calls that are to fail
abbrev pub failing_calls : MemSink → List ℕ
failing_calls s = s.failing.items

-- how many bytes it takes at most in one call
abbrev pub piece_size : MemSink → ℕ
piece_size s = s.piece

-- how many bytes it still takes
abbrev pub room_left : MemSink → ℕ
room_left s = s.room - length (taken_bytes s)

-- the bytes that are surely taken, where no call is to fail
abbrev pub sure_room : MemSink → Option ℕ
sure_room s = if length (failing_calls s) == 0 then Some (room_left s) else None

-- a call of this number fails with so many bytes
abbrev pub fails_at : MemSink → ℕ → ℕ → Bool
fails_at s call n = list_any (λ k. k == call) (failing_calls s) || (nat_lt 0 n && (room_left s == 0))

-- how many of so many bytes a call takes that doesn't fail
abbrev pub takes_of : MemSink → ℕ → ℕ
takes_of s n = min (min (piece_size s) (room_left s)) n

-- What a `MemFiles` tells.
use Rattle.std.specs.Prelude.{ℕ, ◌==◌, Bool, not, ◌&&◌, ◌||◌, List, length, Option, option_map, is_some, find, Vec, bytes_eq, if◌then◌else◌}
use Rattle.std.specs.List.{list_any}
use Rattle.std.specs.declared.alloc.Global.{Global}
use Rattle.jp_io.specs.declared.mem_files.MemFiles.{MemFiles}

-- the bytes of the first file of this name
abbrev pub first_named : List (List ℕ × Vec ℕ Global) → List ℕ → Option (List ℕ)
first_named files name = option_map (λ file. file.1.items) (find (λ file. bytes_eq file.0 name) files)

abbrev pub told_files : MemFiles → List ℕ → Option (List ℕ)
told_files s = first_named s.files.items

abbrev pub holds_name : MemFiles → List ℕ → Bool
holds_name s name = is_some (told_files s name)

-- how many calls on names that are held failed, and how many on other names
abbrev pub held_count : MemFiles → ℕ
held_count s = s.held_faults

abbrev pub other_count : MemFiles → ℕ
other_count s = s.other_faults

-- one number is the count of each name that is held, another that of each other name
abbrev pub fault_count : MemFiles → List ℕ → ℕ
fault_count s name = if holds_name s name then held_count s else other_count s

-- how many calls were made
abbrev pub call_count : MemFiles → ℕ
call_count s = s.calls

-- the numbers of the calls that are to fail
abbrev pub failing_calls : MemFiles → List ℕ
failing_calls s = s.failing.items

-- no call is to fail
abbrev pub is_calm : MemFiles → Bool
is_calm s = length (failing_calls s) == 0

-- a name that is held is surely read where no call is to fail
abbrev pub is_surely_read : MemFiles → List ℕ → Bool
is_surely_read s name = is_calm s && holds_name s name

-- a call of this number fails at this name
abbrev pub fails_at : MemFiles → ℕ → List ℕ → Bool
fails_at s call name = list_any (λ n. n == call) (failing_calls s) || not (holds_name s name)

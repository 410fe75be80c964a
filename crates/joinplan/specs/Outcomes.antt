-- What a status says. The answer is known where the contents of the files are told.
use Rattle.std.specs.Prelude.{◌≡◌, ℕ, ◌<◌, ◌⊎◌, ◌-◌, ◌^◌, Bool, true, List, length, take, Option, Some, None, option_map, IfSome, IfOk, Ok, Err, Contains}
use Rattle.jp_io.specs.Sinks.{Rose, TookMore, HasRoom}
use Rattle.joinplan.specs.declared.refusal.Refusal.{Refusal}
use Rattle.joinplan.specs.declared.refusal.Refusal.TheVariants as refusal
use Rattle.joinplan.specs.Answers.{HasBytes, Output, answer_of}
use Rattle.joinplan.specs.Faults.{Counts, MayBeRead}
use Rattle.joinplan.specs.Readings.{Held, Reading}
use Rattle.joinplan.specs.Lines.{TookLine}
use Rattle.joinplan.specs.Refusals.{IsSaid, line_of, status_of}
use Rattle.joinplan.specs.Words.{Command}

abbrev pub Answer : Type 0
Answer = Reading Output

abbrev pub answer_told : List (List ℕ) → Option Held → Option Answer
answer_told words contents = option_map (answer_of words) contents

-- the first refusal has this status
abbrev pub Refuses : ℕ → Answer → Type 0
Refuses status answer = (r : Refusal) × (answer.answer ≡ Err r) × (status_of r ≡ status)

-- a fault of one of these files was counted
abbrev pub FaultAmong : List (List ℕ) → Counts → Counts → Type 0
FaultAmong names before now = (name : List ℕ) × Contains names name × Rose (before name) (now name)

-- The status comes only where the first refusal has it, and it comes there, but that memory may be wanting,
-- or a file that is read before may be at fault.
pub record IsExactly (status : ℕ) (answer : Answer) (result : ℕ) (before now : Counts) : Type 0 where
  pub only : result ≡ status → Refuses status answer
  pub comes : Refuses status answer → (result ≡ status) ⊎ ((result ≡ 8) ⊎ ((result ≡ 6) × FaultAmong answer.names before now))

abbrev pub ComesExactly : ℕ → Option Answer → ℕ → Counts → Counts → Type 0
ComesExactly status told result before now = IfSome told (λ answer. IsExactly status answer result before now)

-- a fault of a file that is read before any refusal; where the answer isn't known, of one that may be read
abbrev pub FaultIn : Option Answer → Option Command → Counts → Counts → Type 0
FaultIn (Some answer) words before now = FaultAmong answer.names before now
FaultIn None words before now = (name : List ℕ) × MayBeRead words name × Rose (before name) (now name)

-- these bytes are of the output, where it is known
abbrev pub IsOutput : Option Answer → List ℕ → Type 0
IsOutput told bytes = IfSome told (λ answer. (output : Output) × (answer.answer ≡ Ok output) × HasBytes output bytes)

-- all of the output was taken
pub record WroteAll (told : Option Answer) (before now : Option (List ℕ)) : Type 0 where
  pub bytes : List ℕ
  pub output : IsOutput told bytes
  pub took : TookMore before bytes now

-- the start of the output was taken
pub record WrotePart (told : Option Answer) (before now : Option (List ℕ)) : Type 0 where
  pub bytes : List ℕ
  pub output : IsOutput told bytes
  pub count : ℕ
  pub short : count < length bytes
  pub took : TookMore before (take count bytes) now

-- the refusal behind a status: the first one, or a fault or want of memory before it
abbrev pub IsCause : Answer → Refusal → Type 0
IsCause answer refusal.Memory = Unit {0}
IsCause answer (refusal.ReadFault name) = Contains answer.names name
IsCause answer refusal.WriteFault = (output : Output) × (answer.answer ≡ Ok output)
IsCause answer other = answer.answer ≡ Err other

abbrev pub NoFault : List (List ℕ) → Counts → Counts → Type 0
NoFault names before now = (name : List ℕ) → Contains names name → ¬ Rose (before name) (now name)

-- ---- completeness

-- all of the output was taken at status 0, or memory was wanting
abbrev pub IsServed : Output → ℕ → Option (List ℕ) → Option (List ℕ) → Type 0
IsServed output result before now = ((bytes : List ℕ) × (result ≡ 0) × HasBytes output bytes × TookMore before bytes now) ⊎ (result ≡ 8)

-- Where the answer is an output and nothing fails, it is served.
abbrev pub IsComplete : Answer → ℕ → Counts → Counts → ℕ → ℕ → Option (List ℕ) → Option (List ℕ) → Type 0
IsComplete answer result before now sink_before sink_now taken_before taken_now =
    IfOk answer.answer (λ output. NoFault answer.names before now → ¬ Rose sink_before sink_now → IsServed output result taken_before taken_now)

-- each of these names is known to be read without a fault, and its count isn't at the end of its range
abbrev pub AreSure : (List ℕ → Bool) → Counts → List (List ℕ) → Type 0
AreSure sound before names = (name : List ℕ) → Contains names name → (sound name ≡ true) × (before name < 2 ^ 64 - 1)

-- the sink has room for all bytes that the output may have
abbrev pub HasRoomFor : Option ℕ → Output → Type 0
HasRoomFor room output = (bytes : List ℕ) → HasBytes output bytes → HasRoom room (length bytes)

-- Where the answer is an output, all files are surely read, and the sink has room for it, it is served.
abbrev pub IsSurelyServed : (List ℕ → Bool) → Counts → Option ℕ → Answer → ℕ → Option (List ℕ) → Option (List ℕ) → Type 0
IsSurelyServed sound before room answer result taken_before taken_now =
    IfOk answer.answer (λ output. AreSure sound before answer.names → HasRoomFor room output → IsServed output result taken_before taken_now)

-- where the answer is an output for which the sink has room, no fault of the sink is counted
abbrev pub RoomServes : Option ℕ → Answer → ℕ → ℕ → Type 0
RoomServes room answer before now = IfOk answer.answer (λ output. HasRoomFor room output → now ≡ before)

-- of a file that couldn't be read a fault was counted
abbrev pub IsCounted : Counts → Counts → Refusal → Type 0
IsCounted before now (refusal.ReadFault name) = Rose (before name) (now name)
IsCounted before now _ = Unit {0}

-- the counts of a sink's and of the files' faults before and after
pub record Faults : Type 0 where
  pub sink_before : ℕ
  pub sink_now : ℕ
  pub files_before : Counts
  pub files_now : Counts

-- of the refusal behind a status, which has a line, that line was written
pub record IsReported (told : Option Answer) (status : ℕ) (before now : Option (List ℕ)) (faults : Faults) : Type 0 where
  pub cause : Refusal
  pub status_is : status_of cause ≡ status
  pub first : IfSome told (λ answer. IsCause answer cause)
  pub said : IsSaid cause
  pub counted : IsCounted faults.files_before faults.files_now cause
  pub line : TookLine before now faults.sink_before faults.sink_now (line_of cause)

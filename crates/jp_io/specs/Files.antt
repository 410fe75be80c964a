-- What a read of a file gives, and what stays.
use Rattle.std.specs.Prelude.{◌≡◌, ℕ, ◌+◌, ◌-◌, ◌^◌, ◌<◌, ◌≤◌, min, Bool, true, List, length, take, drop, Option, Some, None, Result, Ok, Err, Vec}
use Rattle.std.specs.declared.alloc.Global.{Global}
use Rattle.jp_io.specs.declared.reading.Failed.{Failed}
use Rattle.jp_io.specs.declared.reading.FileError.{FileError}
use Rattle.jp_io.specs.declared.reading.FileError.TheVariants as file_error

-- a count rose; one that stands at the end of its range is said to have risen
abbrev pub Rose : ℕ → ℕ → Type 0
Rose before now = min (before + 1) (2 ^ 64 - 1) ≤ now

-- a count that rises by one, or stands at the end of its range
abbrev pub one_more : ℕ → ℕ
one_more count = min (count + 1) (2 ^ 64 - 1)

-- the count of no name falls
abbrev pub NoneFalls : (List ℕ → ℕ) → (List ℕ → ℕ) → Type 0
NoneFalls before now = (name : List ℕ) → before name ≤ now name

-- a name that is known to be read without a fault stays so, and its count stays
abbrev pub StaysSound : (List ℕ → Bool) → (List ℕ → Bool) → (List ℕ → ℕ) → (List ℕ → ℕ) → Type 0
StaysSound sound sound_after before now =
    (name : List ℕ) → sound name ≡ true → (sound_after name ≡ true) × (now name ≡ before name)

-- a read of a file at a place, into a buffer: what is read stands in the file at that place, and
-- nothing is read only with no room or at or past the end; a file that isn't there can't be read
abbrev pub ReadsBytes : Option (List ℕ) → ℕ → Result ℕ Failed → List ℕ → Type 0
ReadsBytes _ at (Err _) buffer = Unit {0}
ReadsBytes None at (Ok n) buffer = ⊥
ReadsBytes (Some bytes) at (Ok n) buffer =
    (take n buffer ≡ take n (drop at bytes)) × (n ≡ 0 → 0 < length buffer → length bytes ≤ at)

-- the same of a name, where the contents are told
abbrev pub ReadsAt : Option (List ℕ → Option (List ℕ)) → List ℕ → ℕ → Result ℕ Failed → List ℕ → Type 0
ReadsAt None name at result buffer = Unit {0}
ReadsAt (Some files) name at result buffer = ReadsBytes (files name) at result buffer

-- how many bytes a read gave
abbrev pub count_read : Result ℕ Failed → ℕ
count_read (Ok n) = n
count_read (Err _) = 0

-- a file's whole content is given, or it is longer than the limit
abbrev pub WholeFile : List ℕ → ℕ → Result (Vec ℕ Global) FileError → Type 0
WholeFile bytes limit (Ok v) = (v.items ≡ bytes) × (length bytes ≤ limit)
WholeFile bytes limit (Err file_error.TooLarge) = limit < length bytes
WholeFile bytes limit (Err file_error.Failed) = Unit {0}
WholeFile bytes limit (Err file_error.Memory) = Unit {0}

-- of a file that isn't there neither a content nor its length is told
abbrev pub NotThere : Result (Vec ℕ Global) FileError → Type 0
NotThere (Ok v) = ⊥
NotThere (Err file_error.TooLarge) = ⊥
NotThere (Err file_error.Failed) = Unit {0}
NotThere (Err file_error.Memory) = Unit {0}

abbrev pub WholeIfThere : Option (List ℕ) → ℕ → Result (Vec ℕ Global) FileError → Type 0
WholeIfThere None limit result = NotThere result
WholeIfThere (Some bytes) limit result = WholeFile bytes limit result

-- the same of a name, where the contents are told
abbrev pub ReadsWhole : Option (List ℕ → Option (List ℕ)) → List ℕ → ℕ → Result (Vec ℕ Global) FileError → Type 0
ReadsWhole None name limit result = Unit {0}
ReadsWhole (Some files) name limit result = WholeIfThere (files name) limit result

-- bytes are the first ones of a file
abbrev pub IsStart : Option (List ℕ) → List ℕ → Type 0
IsStart None bytes = Unit {0}
IsStart (Some file) bytes = bytes ≡ take (length bytes) file

abbrev pub IsStartOf : Option (List ℕ → Option (List ℕ)) → List ℕ → List ℕ → Type 0
IsStartOf None name bytes = Unit {0}
IsStartOf (Some files) name bytes = IsStart (files name) bytes

-- a file has no byte at the place or past it
abbrev pub EndsBy : Option (List ℕ) → ℕ → Type 0
EndsBy None at = ⊥
EndsBy (Some file) at = length file ≤ at

abbrev pub IsEndOf : Option (List ℕ → Option (List ℕ)) → List ℕ → ℕ → Type 0
IsEndOf None name at = Unit {0}
IsEndOf (Some files) name at = EndsBy (files name) at

-- a file has more bytes than the limit
abbrev pub Passes : Option (List ℕ) → ℕ → Type 0
Passes None limit = ⊥
Passes (Some file) limit = limit < length file

abbrev pub PassesLimit : Option (List ℕ → Option (List ℕ)) → List ℕ → ℕ → Type 0
PassesLimit None name limit = Unit {0}
PassesLimit (Some files) name limit = Passes (files name) limit

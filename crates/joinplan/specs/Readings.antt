-- What is answered where the contents of the files are told: the names of the files that are read, in order,
-- and what they give, a value or the first refusal.
use Rattle.std.specs.Prelude.{◌≡◌, ℕ, List, [], ◌∷◌, ◌++◌, length, nat_le, Option, Some, None, Result, Ok, Err, if◌then◌else◌, Contains}
use Rattle.joinplan.specs.declared.refusal.Refusal.{Refusal}
use Rattle.joinplan.specs.declared.refusal.Refusal.TheVariants as refusal

-- what each name holds, if it is there
abbrev pub Held : Type 0
Held = List ℕ → Option (List ℕ)

pub record Reading (A : Type 0) : Type 0 where
  pub names : List (List ℕ)
  pub answer : Result A Refusal

-- nothing is read
abbrev pub known : {A : Type 0} → Result A Refusal → Reading A
known answer = record { names = []; answer = answer }

-- after these names, what the value leads to; a refusal is the last
abbrev pub after : {A B : Type 0} → List (List ℕ) → Result A Refusal → (A → Reading B) → Reading B
after names (Err refusal) next = record { names = names; answer = Err refusal }
after names (Ok value) next = record { names = names ++ (next value).names; answer = (next value).answer }

abbrev pub and_then : {A B : Type 0} → Reading A → (A → Reading B) → Reading B
and_then reading next = after reading.names reading.answer next

-- the content of a file, which has at most so many bytes
abbrev pub content_of : List ℕ → ℕ → Refusal → Option (List ℕ) → Result (List ℕ) Refusal
content_of name limit too_large None = Err (refusal.ReadFault name)
content_of name limit too_large (Some bytes) = if nat_le (length bytes) limit then Ok bytes else Err too_large

abbrev pub file_of : Held → List ℕ → ℕ → Refusal → Reading (List ℕ)
file_of held name limit too_large = record { names = name ∷ []; answer = content_of name limit too_large (held name) }

-- a refusal is the answer of the files; but memory may be wanting, and a file may not be read although it is there
abbrev pub AgreesRefused : {A : Type 0} → Refusal → Reading A → Type 0
AgreesRefused refusal.Memory reading = Unit {0}
AgreesRefused (refusal.ReadFault name) reading = Contains reading.names name
AgreesRefused other reading = reading.answer ≡ Err other

-- what a call answered is the answer of the files, as far as this is known
abbrev pub Agrees : {X A : Type 0} → (X → A) → Result X Refusal → Reading A → Type 0
Agrees view (Ok value) reading = reading.answer ≡ Ok (view value)
Agrees view (Err refusal) reading = AgreesRefused refusal reading

-- the same, where the contents are told
abbrev pub AgreesTold : {X A : Type 0} → (X → A) → Result X Refusal → Option Held → (Held → Reading A) → Type 0
AgreesTold view result None reading = Unit {0}
AgreesTold view result (Some held) reading = Agrees view result (reading held)

-- one reading for each of a list, in order, each on what the one before gave
abbrev pub fold_in : {A X : Type 0} → (A → X → Reading A) → A → List X → Reading A
fold_in step value [] = known (Ok value)
fold_in step value (x ∷ xs) = and_then (step value x) (λ next. fold_in step next xs)

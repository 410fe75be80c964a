-- What a write to a sink takes, and what stays.
use Rattle.std.specs.Prelude.{◌≡◌, ℕ, ◌-◌, ◌≤◌, List, [], ◌++◌, length, take, Option, Some, None, Result, MatchResult, IsOkAnd, refl}
use Rattle.std.proofs.Common.{ap, append_assoc, ◌∙◌}
use Rattle.std.proofs.lemmas.List.{append-nil}
use Rattle.jp_io.specs.declared.reading.Failed.{Failed}
pub use Rattle.jp_io.specs.Files.{Rose}

-- what was taken, where it is told, and then the bytes
abbrev pub with_more : Option (List ℕ) → List ℕ → Option (List ℕ)
with_more None bytes = None
with_more (Some taken) bytes = Some (taken ++ bytes)

-- what was taken, where it is told, grew by exactly the bytes; where it isn't told, it isn't told afterwards
abbrev pub TookMore : Option (List ℕ) → List ℕ → Option (List ℕ) → Type 0
TookMore before bytes after = after ≡ with_more before bytes

-- a write took as many of the first bytes as it says, and none where it failed
abbrev pub TakesFirst : Option (List ℕ) → Option (List ℕ) → Result ℕ Failed → List ℕ → Type 0
TakesFirst before after result bytes =
    MatchResult result (λ n. TookMore before (take n bytes) after) (λ _. after ≡ before)

-- it is known that so many bytes are taken without a fault
abbrev pub HasRoom : Option ℕ → ℕ → Type 0
HasRoom None n = ⊥
HasRoom (Some room) n = n ≤ room

abbrev pub less_room : Option ℕ → ℕ → Option ℕ
less_room None n = None
less_room (Some room) n = Some (room - n)

-- where there is room for the bytes, no fault is counted, and the room falls by what was taken
abbrev pub WritesSurely : Option ℕ → Option ℕ → ℕ → ℕ → Result ℕ Failed → List ℕ → Type 0
WritesSurely room room_after before now result bytes =
    HasRoom room (length bytes) → (now ≡ before) × IsOkAnd result (λ n. room_after ≡ less_room room n)

-- nothing more
pub with_more-nothing : (taken : Option (List ℕ)) → with_more taken [] ≡ taken
with_more-nothing None = refl
with_more-nothing (Some taken) = ap Some (append-nil taken)

-- one piece and then another are both in a row
pub with_more-twice : (taken : Option (List ℕ)) (first second : List ℕ) →
    with_more (with_more taken first) second ≡ with_more taken (first ++ second)
with_more-twice None first second = refl
with_more-twice (Some taken) first second = ap Some (append_assoc taken first second)

-- so both are taken in a row
pub TookMore-twice : (before : Option (List ℕ)) (first : List ℕ) (between : Option (List ℕ)) (second : List ℕ)
    (after : Option (List ℕ)) → TookMore before first between → TookMore between second after →
    TookMore before (first ++ second) after
TookMore-twice before first between second after took_first took_second =
    took_second ∙ ap (λ taken. with_more taken second) took_first ∙ with_more-twice before first second

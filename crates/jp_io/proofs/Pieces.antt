-- What follows from one piece to the next, as a file is read and a text is written.
use Rattle.std.proofs.Common.{◌≡◌, ℕ, ◌+◌, ◌-◌, ◌≤◌, List, ◌++◌, length, take, drop, Option, Some, None, Ok, refl, ap, sym, ◌∙◌, arith, subst, length-append, length-take, length-drop}
use Rattle.std.proofs.lemmas.List.{take-append-le, take_rest}
use Rattle.std.proofs.Math.Seq.{take-add}
use Rattle.jp_io.specs.Files.{ReadsAt, ReadsBytes, IsStart, IsStartOf}
use Rattle.jp_io.specs.Sinks.{TookMore, TookMore-twice, HasRoom, less_room}

start_of_more : (file front piece : List ℕ) (n : ℕ) → n ≤ length piece → take n piece ≡ take n (drop (length front) file) →
    front ≡ take (length front) file → front ++ take n piece ≡ take (length (front ++ take n piece)) file
start_of_more file front piece n fits read start =
    let long : length (front ++ take n piece) ≡ length front + n = omega (arith, length-append front (take n piece), length-take n piece) in
    rw (long, take-add (length front) n file, ← read, ← start) refl

start_if_there : (file : Option (List ℕ)) (front piece : List ℕ) (n : ℕ) → n ≤ length piece →
    ReadsBytes file (length front) (Ok n) piece → IsStart file front → IsStart file (front ++ take n piece)
start_if_there None front piece n fits read start = tt
start_if_there (Some file) front piece n fits read start = start_of_more file front piece n fits read.0 start

-- what is read behind a start of a file makes a longer start
pub start_grows : (told : Option (List ℕ → Option (List ℕ))) (name front piece rest : List ℕ) (n : ℕ) → n ≤ length piece →
    ReadsAt told name (length front) (Ok n) piece → IsStartOf told name front →
    IsStartOf told name (front ++ take n (piece ++ rest))
start_grows None name front piece rest n fits read start = tt
start_grows (Some files) name front piece rest n fits read start =
    rw (take-append-le n piece rest fits) (start_if_there (files name) front piece n fits read start)

-- what stands behind a place, as a slice has it
abbrev pub behind : List ℕ → ℕ → List ℕ
behind bytes at = take (length bytes - at) (drop at bytes)

behind-is : (bytes : List ℕ) (at : ℕ) → behind bytes at ≡ drop at bytes
behind-is bytes at = take_rest bytes at

pub within_grows : (bytes : List ℕ) (at n : ℕ) → at ≤ length bytes → n ≤ length (behind bytes at) → at + n ≤ length bytes
within_grows bytes at n within fits = omega (arith, length-drop at bytes, rw behind-is at fits)

-- one more piece is taken in a row
pub taken_grows : (before between after : Option (List ℕ)) (bytes : List ℕ) (at n : ℕ) →
    TookMore before (take at bytes) between → TookMore between (take n (behind bytes at)) after →
    TookMore before (take (at + n) bytes) after
taken_grows before between after bytes at n so_far takes =
    rw (take-add at n bytes) (TookMore-twice before (take at bytes) between (take n (drop at bytes)) after so_far
    (subst (λ rest. TookMore between (take n rest) after) (behind-is bytes at) takes))

less_room-twice : (room : Option ℕ) (first second : ℕ) → less_room (less_room room first) second ≡ less_room room (first + second)
less_room-twice None first second = refl
less_room-twice (Some room) first second = let same : (room - first) - second ≡ room - (first + second) = omega arith in ap Some same

room_behind : (room : Option ℕ) (bytes : List ℕ) (at : ℕ) → HasRoom room (length bytes) → HasRoom (less_room room at) (length (behind bytes at))
room_behind None bytes at has = has
room_behind (Some room) bytes at has = rw behind-is (omega (arith, length-drop at bytes))

-- room for all bytes is room for the next piece, and is filled by the pieces in a row
pub room_fills : (room between after : Option ℕ) (bytes : List ℕ) (at n first before now : ℕ) → HasRoom room (length bytes) →
    (before ≡ first) × (between ≡ less_room room at) →
    (HasRoom between (length (behind bytes at)) → (now ≡ before) × (after ≡ less_room between n)) →
    (now ≡ first) × (after ≡ less_room room (at + n))
room_fills room between after bytes at n first before now has so_far writes =
    let next : (now ≡ before) × (after ≡ less_room between n) =
    writes (subst (λ room. HasRoom room (length (behind bytes at))) (sym so_far.1) (room_behind room bytes at has)) in
    (next.0 ∙ so_far.0, next.1 ∙ ap (λ room. less_room room n) so_far.1 ∙ less_room-twice room at n)

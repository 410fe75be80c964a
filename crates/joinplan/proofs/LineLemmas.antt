-- A line that is written in pieces.
use Rattle.std.proofs.Common.{◌≡◌, ◌∙◌, ap, ℕ, suc, ◌+◌, ◌<◌, ◌≤◌, inl, inr, List, [], ◌∷◌, ◌++◌, append_assoc, length, take, drop, fold, get_or, Bor, Option, refl, sym, subst, arith, length-append}
use Rattle.std.proofs.lemmas.List.{append-nil, take-append-le, take-append-drop, take_more}
use Rattle.std.proofs.Math.Seq.{drop-cons, take-append-add}
use Rattle.std.specs.Prelude.{OnOk, OnErr, Result, Ok, Err}
use Rattle.jp_io.specs.Sinks.{Rose, TookMore, TookMore-twice}
use Rattle.jp_io.specs.declared.writing.SinkError.{SinkError}
use Rattle.jp_io.specs.declared.writing.SinkError.TheVariants.{Failed}
use Rattle.joinplan.specs.Lines.{TookLine, bytes_of, with_piece}

-- a piece that stopped early is the start of any line that begins with it
pub took-early : (before now : Option (List ℕ)) (a b : ℕ) (piece more : List ℕ) (n : ℕ) → n < length piece → TookMore before (take n piece) now → Rose a b → TookLine before now a b (piece ++ more)
took-early before now a b piece more n short took rose =
    let below : n ≤ length piece = omega (arith, short) in
    inr (n, omega (arith, length-append piece more, short), subst (λ bytes. TookMore before bytes now) (sym (take-append-le n piece more below)) took, rose)

-- a whole piece, and then what was taken of the rest
pub took-then : (before between now : Option (List ℕ)) (a b c : ℕ) (piece more : List ℕ) → TookMore before piece between → a ≤ b → TookLine between now b c more → TookLine before now a c (piece ++ more)
took-then before between now a b c piece more first grows (inl all) = inl (TookMore-twice before piece between more now first all)
took-then before between now a b c piece more first grows (inr part) =
    let (n, short, took, rose) = part in
    inr (length piece + n, omega (arith, length-append piece more, short), subst (λ bytes. TookMore before bytes now) (sym (take-append-add piece more n)) (TookMore-twice before piece between (take n more) now first took), omega (arith, rose, grows))

bytes_from : (line : List ℕ) (pieces : List (Bor (List ℕ))) → fold with_piece line pieces ≡ line ++ bytes_of pieces
bytes_from line [] = sym (append-nil line)
bytes_from line (piece ∷ pieces) = bytes_from (line ++ piece.now) pieces ∙ append_assoc line piece.now (bytes_of pieces) ∙ ap (λ ys. line ++ ys) (sym (bytes_from piece.now pieces))

bytes-append : (a b : List (Bor (List ℕ))) → bytes_of (a ++ b) ≡ bytes_of a ++ bytes_of b
bytes-append [] b = refl
bytes-append (piece ∷ a) b = bytes_from piece.now (a ++ b) ∙ ap (λ ys. piece.now ++ ys) (bytes-append a b) ∙ sym (append_assoc piece.now (bytes_of a) (bytes_of b)) ∙ ap (λ ys. ys ++ bytes_of b) (sym (bytes_from piece.now a))

pub bytes_more : (pieces : List (Bor (List ℕ))) (i : ℕ) (d : Bor (List ℕ)) (bytes : List ℕ) → i < length pieces → bytes ≡ (get_or pieces i d).now → bytes_of (take (i + 1) pieces) ≡ bytes_of (take i pieces) ++ bytes
bytes_more pieces i d bytes below is =
    ap bytes_of (take_more pieces i d below) ∙ bytes-append (take i pieces) (get_or pieces i d ∷ []) ∙ ap (λ ys. bytes_of (take i pieces) ++ ys) (sym is)

pub bytes_around : (pieces : List (Bor (List ℕ))) (i : ℕ) (d : Bor (List ℕ)) (bytes : List ℕ) → i < length pieces → bytes ≡ (get_or pieces i d).now → bytes_of pieces ≡ bytes_of (take i pieces) ++ (bytes ++ bytes_of (drop (suc i) pieces))
bytes_around pieces i d bytes below is =
    let rest = drop (suc i) pieces in
    let piece = get_or pieces i d in
    let parts : take i pieces ++ piece ∷ rest ≡ pieces = ap (λ ys. take i pieces ++ ys) (sym (drop-cons pieces i d below)) ∙ take-append-drop i pieces in
    ap bytes_of (sym parts) ∙ bytes-append (take i pieces) (piece ∷ rest) ∙ ap (λ ys. bytes_of (take i pieces) ++ ys) (bytes_from piece.now rest ∙ ap (λ ys. ys ++ bytes_of rest) (sym is))

abbrev pub failed : SinkError → Result (Unit {0}) SinkError
failed e = Err e

-- what a write that failed took of a line that begins with its bytes
pub stopped : (before now : Option (List ℕ)) (a b : ℕ) (piece more : List ℕ) (e : SinkError) → Rose a b →
    ((n : ℕ) → failed e ≡ Err (Failed n) → (n < length piece) × TookMore before (take n piece) now) → TookLine before now a b (piece ++ more)
stopped before now a b piece more (Failed n) rose part = took-early before now a b piece more n (part n refl).0 (part n refl).1 rose

-- what a write took of its bytes
pub taken_line : (before now : Option (List ℕ)) (a b : ℕ) (piece : List ℕ) (result : Result (Unit {0}) SinkError) → OnErr result (Rose a b) → OnOk result (TookMore before piece now) →
    ((n : ℕ) → result ≡ Err (Failed n) → (n < length piece) × TookMore before (take n piece) now) → TookLine before now a b piece
taken_line before now a b piece (Ok u) rose all part = inl all
taken_line before now a b piece (Err (Failed n)) rose all part = inr (n, (part n refl).0, (part n refl).1, rose)

pub line_is : (before now : Option (List ℕ)) (a b : ℕ) (line other : List ℕ) → line ≡ other → TookLine before now a b line → TookLine before now a b other
line_is before now a b line other e took = subst (TookLine before now a b) e took

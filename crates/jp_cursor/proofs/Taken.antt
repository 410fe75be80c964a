-- Readers of one token, by the class that the cursor knows.
use Rattle.std.proofs.Common.{◌≡◌, Bool, true, false, if◌then◌else◌, List, [], ◌∷◌, refl, Ok, Err}
use Rattle.jp_ast.specs.declared.class.Class.{Class}
use Rattle.jp_ast.specs.Seen.{Seen}
use Rattle.jp_ast.specs.Classes.{class, first}
use Rattle.jp_cursor.specs.Reading.{and_then, pure, token_if}
use Rattle.jp_cursor.specs.Reads.{take_if}

either : {A : Type 0} (b : Bool) (a : A) (t : Seen) (ts : List Seen) (f : Seen → A) → a ≡ f t
    → (if b then Ok (a, ts) else Err (t ∷ ts)) ≡ and_then (if b then Ok (t, ts) else Err (t ∷ ts)) (λ t. pure (f t))
either true a t ts f e = λ i. Ok (e i, ts)
either false a t ts f e = refl

pub token_if_is : {A : Type 0} (passes : Class → Bool) (meaning : Seen → A) (ts : List Seen)
    → token_if passes meaning ts ≡ and_then (take_if (passes (first ts)) ts) (λ t. pure (meaning t))
token_if_is passes meaning [] = refl
token_if_is passes meaning (t ∷ ts) = either (passes (class t)) (meaning t) t ts meaning refl

pub class_token_is : {A : Type 0} (passes : Class → Bool) (m : Class → A) (ts : List Seen)
    → token_if passes (λ t. m (class t)) ts ≡ and_then (take_if (passes (first ts)) ts) (λ t. pure (m (first ts)))
class_token_is passes m [] = refl
class_token_is passes m (t ∷ ts) = either (passes (class t)) (m (class t)) t ts (λ _. m (class t)) refl

-- What std's parse of a signed number says of `number_of`.
use Rattle.std.proofs.Common.{◌≡◌, ◌≤◌, ◌<◌, ℕ, ℤ, zero, suc, pos, neg_ℤ, Bool, true, false, cond, ◌&&◌, List, [], ◌∷◌, length, drop, get_or, Option, Some, None, Result, Ok, Err, refl, ap, arith, w64, eqb-true, lt-ltb, ltb-true, le-leb, leb-true}
use Rattle.std.proofs.lemmas.Bool.{false≢true}
use Rattle.std.proofs.lemmas.Str.{IsUtf8-from_ascii}
use Rattle.std.proofs.lemmas.Str.Ascii.{IsAscii-nil}
use Rattle.std.proofs.lemmas.Fmt.{IsAscii-from_digits}
use Rattle.std.proofs.lemmas.Str.Parse.{IsNumeralModel, numerals_by_value, tells_all_ascii_digits}
use Rattle.std.specs.Prelude.{◌==◌, FitsSigned, IsUtf8, nat_lt, nat_le}
use Rattle.std.specs.Result.{result_ok}
use Rattle.std.specs.Str.{IsAscii, all_ascii_digits}
use Rattle.std.specs.Str.Parse.{IsNumeral, ParsesSigned, digits_value, signed_digits_value, starts_with_minus, without_leading_sign}
use Rattle.jp_table.specs.Fields.{greatest_size, is_number, number_of}

fits_size : (m : Bool) (n : ℕ) → n ≤ greatest_size m → FitsSigned w64 (cond m (neg_ℤ (pos n)) (pos n))
fits_size true zero h = record { sfits = omega arith }
fits_size true (suc n) h = record { sfits = h }
fits_size false n h = record { sfits = omega (arith, h) }

size_fits : (m : Bool) (n : ℕ) → FitsSigned w64 (cond m (neg_ℤ (pos n)) (pos n)) → n ≤ greatest_size m
size_fits true zero h = omega arith
size_fits true (suc n) h = h.sfits
size_fits false n h = omega (arith, h.sfits)

own : IsNumeralModel (λ ds. all_ascii_digits ds ≡ true) (digits_value 10)
own = numerals_by_value (λ ds. all_ascii_digits ds ≡ true) tells_all_ascii_digits

abbrev pub Writes : List ℕ → Type 0
Writes bs = IsNumeral 10 (without_leading_sign bs) × FitsSigned w64 (signed_digits_value 10 bs)

both : (a b c : Bool) → a ≡ true → b ≡ true → c ≡ true → (a && b && c) ≡ true
both a b c e f g = rw (e, f, g) refl

parts : (a b c : Bool) → (a && b && c) ≡ true → (a ≡ true) × (b ≡ true) × (c ≡ true)
parts true true true e = (refl, refl, refl)
parts true true false e = absurd (false≢true e)
parts true false c e = absurd (false≢true e)
parts false b c e = absurd (false≢true e)

written : (bs : List ℕ) → Writes bs → is_number bs ≡ true
written bs h =
    both _ _ _ (lt-ltb 0 (length (without_leading_sign bs)) h.0.0) (own.from (without_leading_sign bs) h.0.1)
    (le-leb _ _ (size_fits (starts_with_minus bs) (digits_value 10 (without_leading_sign bs)) h.1))

pub writes : (bs : List ℕ) → is_number bs ≡ true → Writes bs
writes bs e =
    let p = parts (nat_lt 0 (length (without_leading_sign bs))) (all_ascii_digits (without_leading_sign bs)) (nat_le (digits_value 10 (without_leading_sign bs)) (greatest_size (starts_with_minus bs))) e in
    ((ltb-true _ _ p.0, own.to (without_leading_sign bs) p.1), fits_size (starts_with_minus bs) (digits_value 10 (without_leading_sign bs)) (leb-true _ _ p.2))

pub parses : {E : Type 0} (bs : List ℕ) (r : Result ℤ E) → ParsesSigned w64 10 bs r → result_ok r ≡ number_of bs
parses bs (Ok x) h = rw (written bs h.0) (ap Some h.1)
parses bs (Err e) h = at_test (is_number bs) refl
  where
    at_test : (b : Bool) → is_number bs ≡ b → ◌≡◌ {A = Option ℤ} None (cond b (Some (signed_digits_value 10 bs)) None)
    at_test true t = absurd (h (writes bs t))
    at_test false t = refl

-- a sign and digits are ASCII
ascii_sign : (b : ℕ) (rest : List ℕ) (m p : Bool) → (b == 45) ≡ m → (b == 43) ≡ p → IsAscii (cond m rest (drop (cond p 1 0) (b ∷ rest))) → IsAscii (b ∷ rest)
ascii_sign b rest true p e f h = λ (i : ℕ). at i
  where
    at : (i : ℕ) → get_or (b ∷ rest) i 0 < 128
    at zero = omega (arith, eqb-true b 45 e)
    at (suc i) = h i
ascii_sign b rest false true e f h = λ (i : ℕ). at i
  where
    at : (i : ℕ) → get_or (b ∷ rest) i 0 < 128
    at zero = omega (arith, eqb-true b 43 f)
    at (suc i) = h i
ascii_sign b rest false false e f h = h

ascii_signed : (bs : List ℕ) → IsAscii (without_leading_sign bs) → IsAscii bs
ascii_signed [] h = IsAscii-nil
ascii_signed (b ∷ rest) h = ascii_sign b rest (b == 45) (b == 43) refl refl h

-- bytes that are no text are no number
pub no_number : (bs : List ℕ) → ¬ (IsUtf8 bs) → ◌≡◌ {A = Option ℤ} None (number_of bs)
no_number bs n = at_test (is_number bs) refl
  where
    at_test : (b : Bool) → is_number bs ≡ b → ◌≡◌ {A = Option ℤ} None (cond b (Some (signed_digits_value 10 bs)) None)
    at_test true t = absurd (n (IsUtf8-from_ascii bs (ascii_signed bs (IsAscii-from_digits (without_leading_sign bs) (writes bs t).0.1))))
    at_test false t = refl

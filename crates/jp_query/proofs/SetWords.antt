-- The masks of the sets that the operations on sets give.
use Rattle.std.proofs.Common.{◌≡◌, ◌∙◌, sym, ap, ℕ, ◌+◌, ◌-◌, ◌*◌, ◌%◌, ◌^◌, ◌<◌, ◌≤◌, arith}
use Rattle.std.specs.Prelude.{bit_or}
use Rattle.std.specs.Int.{bit_at}
use Rattle.std.proofs.lemmas.Nat.{mod_low, pow-add, pow_pos, one_shl}
use Rattle.std.proofs.lemmas.Nat.Bits.{bit_at-zero, bit_at-pow_same, bit_at-pow_other}
use Rattle.std.proofs.lemmas.Bool.{cases_eq}
use Rattle.jp_base.specs.Sets.{Has, IsEmpty, IsOnly, IsUnion}
use Rattle.jp_base.proofs.SetLemmas.{has_or, only_one, same_set}
use Rattle.jp_query.specs.Refs.{only, below_64}

pub union_is : (a b r : ℕ) → IsUnion a b r → r ≡ bit_or a b
union_is a b r u = same_set r (bit_or a b) (λ i. (λ h. (has_or a b i).1 ((u i).0 h), λ h. (u i).1 ((has_or a b i).0 h)))

pub empty_is : (r : ℕ) → IsEmpty r → r ≡ 0
empty_is r none = same_set r 0 (λ i. (λ h. absurd (none i h), λ h. absurd (omega (arith, bit_at-zero i, h))))

pub only_is : (rel r : ℕ) → rel < 64 → IsOnly rel r → r ≡ below_64 (only rel)
only_is rel r small o =
    same_set r (1 * 2 ^ rel % 2 ^ 64) (λ i. (λ h. (only_one rel i small).1 ((o i).0 h), λ h. (o i).1 ((only_one rel i small).0 h)))
    ∙ ap (λ n. n % 2 ^ 64) (one_times (2 ^ rel))
  where
    one_times : (n : ℕ) → 1 * n ≡ n
    one_times n = omega arith

-- a number from 64 on leaves no trace below 64
pub beyond : (rel : ℕ) → 64 ≤ rel → below_64 (only rel) ≡ 0
beyond rel far =
    ap (λ k. 2 ^ k % 2 ^ 64) (sum rel far) ∙ ap (λ n. n % 2 ^ 64) (pow-add 2 (rel - 64) 64 ∙ none (2 ^ (rel - 64) * 2 ^ 64)) ∙ mod_low (2 ^ (rel - 64)) 64 0 (pow_pos 64)
  where
    sum : (k : ℕ) → 64 ≤ k → k ≡ k - 64 + 64
    sum k h = omega arith

    none : (n : ℕ) → n ≡ n + 0
    none n = omega arith

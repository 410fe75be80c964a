use Rattle.std.proofs.Common.{◌≡◌, ℕ, ◌-◌, ◌*◌, ◌%◌, ◌^◌, ◌<◌, ap, arith}
use Rattle.std.specs.Int.{bit_not, w64}
use Rattle.std.specs.Int.Count.{count_leading_zeros}
use Rattle.std.specs.Prelude.{bit_and}
use Rattle.std.proofs.lemmas.Nat.{leading_top, one_shl, and_le_l}
use Rattle.jp_base.proofs.SetLemmas.{none_outside}
use Rattle.jp_base.proofs.GreatestPart.{IsHighest, part-within, part-greatest, part-below}
use Rattle.jp_base.proofs.sets.greatest_part.Goals as goal

pub returns-then-outside-eq0-clause-within : goal.returns-then-outside-eq0-clause-within
returns-then-outside-eq0-clause-within c = none_outside c.args.set c.args.top (omega arith) (omega arith) c.if-outside-eq0.true

-- the place that the code finds, and the mask that it makes of it
place_of : (t s : ℕ) → t < 2 ^ 64 → (bit_and t (bit_not w64 s) ≡ 0 → ⊥) → (j : ℕ) × (63 - count_leading_zeros 64 (bit_and t (bit_not w64 s)) ≡ j) × (j < 64) × IsHighest (bit_and t (bit_not w64 s)) j × (1 * 2 ^ j % 2 ^ 64 - 1 ≡ 2 ^ j - 1)
place_of t s small some =
    let top = leading_top 64 (bit_and t (bit_not w64 s)) (omega (arith, some)) (omega (arith, and_le_l t (bit_not w64 s), small)) in
    let below : top.0 < 64 = omega (arith, top.1) in
    (top.0, omega (arith, top.1), below, record { from = top.2; below = top.3 }, ap (λ n. n - 1) (one_shl top.0 64 below))

pub returns-clause-within : goal.returns-clause-within
returns-clause-within c =
    let found = place_of c.args.top c.args.set (omega arith) c.if-outside-eq0.false in
    rw (found.1, found.4) (part-within c.args.set c.args.top found.0)

pub returns-clause-below : goal.returns-clause-below
returns-clause-below c =
    let found = place_of c.args.top c.args.set (omega arith) c.if-outside-eq0.false in
    rw (found.1, found.4) (part-below c.args.set c.args.top found.0 (omega arith) (omega arith) found.2 found.3)

pub returns-clause-greatest : goal.returns-clause-greatest
returns-clause-greatest c =
    let found = place_of c.args.top c.args.set (omega arith) c.if-outside-eq0.false in
    λ q within most. rw (found.1, found.4) (part-greatest c.args.set c.args.top found.0 q (omega arith) (omega arith) found.2 found.3 within most)

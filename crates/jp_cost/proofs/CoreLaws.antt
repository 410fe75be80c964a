-- The rows of the core, one item at a time.
use Rattle.std.proofs.Common.{◌≡◌, ◌∙◌, ap, ap₂, sym, ℕ, suc, ◌+◌, length, get_or, drop, drop-cons, ◌*◌, ◌^◌, ◌<◌, ◌≤◌, arith, inl, inr, false}
use Rattle.std.specs.Prelude.{not, bit_and, bit_or, if◌then◌else◌}
use Rattle.std.specs.Int.Bits.{and_zero_r}
use Rattle.std.proofs.Math.Nat.{mod-eq_of_lt}
use Rattle.std.proofs.Math.Pow.{pow-lt}
use Rattle.std.proofs.lemmas.List.{drop_all}
use Rattle.std.proofs.lemmas.Bool.{cases_eq, cases_lt}
use Rattle.std.proofs.lemmas.Nat.Bits.{bit_at-pow_other}
use Rattle.jp_base.specs.Sets.{Has}
use Rattle.jp_base.proofs.MaskAlgebra.{has_none}
use Rattle.jp_base.proofs.SetLemmas.{has_and, has_below, same_set}
use Rattle.jp_query.specs.Refs.{only, below_64}
use Rattle.jp_query.proofs.SetWords.{beyond}
use Rattle.jp_problem.specs.declared.types.Problem.{Problem}
use Rattle.jp_problem.specs.declared.types.Item.{Item}
use Rattle.jp_problem.specs.Sets.{is_empty, meets}
use Rattle.jp_cost.specs.declared.conditions.Pick.TheVariants.{Ending}
use Rattle.jp_cost.specs.Estimates.{at_most, below, core, filtered_by, rows_from, with_item}

is_itself : (i k : ℕ) → Has (only i) k → k ≡ i
is_itself i k h = elim (cases_eq k i) [ inl e ↦ e | inr n ↦ absurd (omega (arith, bit_at-pow_other i k n, h)) ]

pub low_mask : (i : ℕ) → i < 64 → below_64 (only i) ≡ only i
low_mask i small = mod-eq_of_lt {n = 2 ^ i} {m = 2 ^ 64} (pow-lt {i = i} {j = 64} small)

no_share : (a i : ℕ) → a < 2 ^ 64 → 64 ≤ i → bit_and a (only i) ≡ 0
no_share a i small far = same_set (bit_and a (only i)) 0 (λ k. (λ h. absurd (apart k ((has_and a (only i) k).0 h).0 (is_itself i k ((has_and a (only i) k).0 h).1)), λ h. absurd (has_none k h)))
  where
    apart : (k : ℕ) → Has a k → k ≡ i → ⊥
    apart k h e = omega (arith, has_below a k small h, e, far)

pub meets_far : (a i : ℕ) → a < 2 ^ 64 → 64 ≤ i → meets a (only i) ≡ false
meets_far a i small far = ap (λ n. not (is_empty n)) (no_share a i small far)

next_below : (i upto one : ℕ) → (i ≤ 64 → upto ≡ below i) → one ≡ below_64 (only i) → suc i ≤ 64 → bit_or upto one ≡ below (suc i)
next_below i upto one same e low = ap₂ bit_or (same (omega (arith, low))) (e ∙ low_mask i low)

module _ (problem : Problem) (set rows i : ℕ) (item : Item) where
  abbrev with_sets : ℕ → ℕ → ℕ
  with_sets one upto = if meets (core problem set) one then filtered_by problem set (Ending (core problem set) one upto) (at_most (rows * item.rows)) else rows

  near : (upto : ℕ) → i < 64 → upto ≡ below (suc i) → with_sets (below_64 (only i)) upto ≡ with_item problem set rows i item
  near upto small e = ap (λ one. with_sets one upto) (low_mask i small) ∙ ap (λ u. with_sets (only i) u) e

  far_item : core problem set < 2 ^ 64 → 64 ≤ i → (upto : ℕ) → with_sets (below_64 (only i)) upto ≡ with_item problem set rows i item
  far_item small far upto =
      ap (λ one. with_sets one upto) (beyond i far) ∙ ap (λ n. if not (is_empty n) then filtered_by problem set (Ending (core problem set) 0 upto) (at_most (rows * item.rows)) else rows) (and_zero_r (core problem set))
      ∙ sym (ap (λ b. if b then filtered_by problem set (Ending (core problem set) (only i) (below (suc i))) (at_most (rows * item.rows)) else rows) (meets_far (core problem set) i small far))

  item_step : (one upto : ℕ) → one ≡ below_64 (only i) → core problem set < 2 ^ 64 → (suc i ≤ 64 → upto ≡ below (suc i)) → with_sets one upto ≡ with_item problem set rows i item
  item_step one upto e small same = ap (λ n. with_sets n upto) e ∙ elim (cases_lt i 64) [ inl low ↦ near upto low (same low) | inr far ↦ far_item small far upto ]

  -- one item more
  pub item_further : (one upto after : ℕ)
      → i < length problem.items → get_or problem.items i item ≡ item
      → one ≡ below_64 (only i) → core problem set < 2 ^ 64 → (i ≤ 64 → upto ≡ below i)
      → after ≡ with_sets one (bit_or upto one)
      → (rows_from problem set after (i + 1) (drop (i + 1) problem.items) ≡ rows_from problem set rows i (drop i problem.items)) × (i + 1 ≤ 64 → bit_or upto one ≡ below (i + 1))
  item_further one upto after low at e small same is =
      let next : suc i ≤ 64 → bit_or upto one ≡ below (suc i) = next_below i upto one same e in (
        ap (λ r. rows_from problem set r (i + 1) (drop (i + 1) problem.items)) (is ∙ item_step one (bit_or upto one) e small next)
            ∙ ap (λ n. rows_from problem set (with_item problem set rows i item) n (drop n problem.items)) further
            ∙ ap (λ x. rows_from problem set (with_item problem set rows i x) (suc i) (drop (suc i) problem.items)) (sym at)
            ∙ sym (ap (λ xs. rows_from problem set rows i xs) (drop-cons problem.items i item low)),
        λ p. next (omega (arith, p)) ∙ ap below (sym further),
      )
    where
      further : i + 1 ≡ suc i
      further = omega arith

pub items_ended : (problem : Problem) (set rows i : ℕ) → length problem.items ≤ i → (all : ℕ) → rows_from problem set rows i (drop i problem.items) ≡ all → rows ≡ all
items_ended problem set rows i past all e = sym (ap (λ xs. rows_from problem set rows i xs) (drop_all i problem.items past)) ∙ e

-- The table as it is filled, and the answer that it gives.
use Rattle.std.proofs.Common.{◌≡◌, ◌∙◌, sym, ap, subst, subst₂, refl, ℕ, zero, suc, ◌+◌, ◌-◌, ◌*◌, ◌%◌, ◌^◌, ◌<◌, ◌≤◌, ◌↔◌, inl, inr, arith, List, ◌++◌, length, Option, Some, None, append_assoc}
use Rattle.std.specs.Prelude.{bit_or, slice_set}
use Rattle.std.proofs.lemmas.Bool.{cases_eq, cases_lt}
use Rattle.std.proofs.lemmas.List.{get_or-set_same, get_or-set_other}
use Rattle.std.proofs.lemmas.Nat.{one_shl, pow_pos}
use Rattle.std.proofs.lemmas.Nat.Bits.{bit_at_ones, bit_at_ones_above, bit_at-pow_same}
use Rattle.jp_base.specs.Sets.{Has}
use Rattle.jp_base.proofs.SetLemmas.{has_or, same_set, empty_zero}
use Rattle.jp_base.proofs.MaskAlgebra.{has_none}
use Rattle.jp_problem.specs.declared.types.Problem.{Problem}
use Rattle.jp_problem.specs.Made.{IsSearchable}
use Rattle.jp_problem.specs.Problems.{items_of}
use Rattle.jp_problem.specs.Sets.{span}
use Rattle.jp_problem.specs.Trees.{Tree, set_of, IsPlan}
use Rattle.jp_tree.specs.declared.pool.PlanNode.{PlanNode}
use Rattle.jp_tree.specs.Pools.{IsTreeOf}
use Rattle.jp_tree.proofs.PoolLaws.{tree_stays, same_tree}
use Rattle.jp_search.specs.declared.table.Found.{Found}
use Rattle.jp_search.specs.Counts.{parts_of, parts_below}
use Rattle.jp_tree.specs.Pools.{GrowsTo}
use Rattle.jp_search.specs.Entries.{IsEntry, Knows}
use Rattle.jp_search.specs.Tables.{entry_at}
use Rattle.jp_search.specs.TreeOrder.{ComesBefore}
use Rattle.jp_search.proofs.NumberLaws.{of_one}
use Rattle.jp_search.proofs.TreeLaws.{tree_item}

-- more nodes change no entry
entry_stays : (problem : Problem) (nodes more : List PlanNode) (set : ℕ) (o : Option Found) → IsEntry problem nodes set o → IsEntry problem (nodes ++ more) set o
entry_stays problem nodes more set None none = none
entry_stays problem nodes more set (Some f) (t, named, first, cost, rows, facts) = (t, tree_stays nodes more f.plan t named, first, cost, rows, facts)

pub knows_more : (problem : Problem) (nodes after : List PlanNode) (entries : List (Option Found)) (set : ℕ) (o : Option Found) → Knows problem nodes entries set → GrowsTo nodes after → IsEntry problem after set o → set < length entries → Knows problem after (slice_set entries set o) (set + 1)
knows_more problem nodes after entries set o knows (more, grown) entry there = record { known = known }
  where
    known : (k : ℕ) → k < set + 1 → IsEntry problem after k (entry_at (slice_set entries set o) k)
    known k low = elim (cases_eq k set) [
      | inl e ↦ subst₂ (IsEntry problem after) (sym e) (sym (ap (entry_at (slice_set entries set o)) e ∙ get_or-set_same entries set o None there)) entry
      | inr d ↦
          subst₂ (λ ns x. IsEntry problem ns k x) (sym grown) (sym (get_or-set_other entries set k o None d))
          (entry_stays problem nodes more k (entry_at entries k) (knows.known k (omega (arith, low, d))))
    ]

pub grows_twice : (a b c : List PlanNode) → GrowsTo a b → GrowsTo b c → GrowsTo a c
grows_twice a b c (more, e) (others, f) = (more ++ others, f ∙ ap (λ ns. ns ++ others) e ∙ append_assoc a more others)

pub parts_next : (n set : ℕ) → parts_below n (set + 1) ≡ parts_below n set + parts_of n set
unfolding parts_below
parts_next n set = ap (parts_below n) one
  where
    one : set + 1 ≡ suc set
    one = omega arith

-- the empty set has no tree
pub begun : (problem : Problem) (nodes : List PlanNode) (entries : List (Option Found)) → ((set : ℕ) → entry_at entries set ≡ None) → Knows problem nodes entries 1
begun problem nodes entries empty = record { known = known }
  where
    none : IsEntry problem nodes 0 None
    none t legal e = let item = tree_item problem t legal in empty_zero (set_of t) e item.0 item.1

    known : (k : ℕ) → k < 1 → IsEntry problem nodes k (entry_at entries k)
    known k low = subst₂ (IsEntry problem nodes) zero_is (sym (empty k)) none
      where
        zero_is : 0 ≡ k
        zero_is = omega (arith, low)

-- ---- all items

span_more : (first n i : ℕ) → Has (span (suc first) n) i ↔ ((suc first ≤ i) × (i < suc first + n)) → Has (span first (suc n)) i ↔ ((first ≤ i) × (i < first + suc n))
span_more first n i rest = (to, from)
  where
    to : Has (bit_or (2 ^ first) (span (suc first) n)) i → (first ≤ i) × (i < first + suc n)
    to h = elim ((has_or (2 ^ first) (span (suc first) n) i).0 h) [
      | inl p ↦ let e = of_one first i p in (omega (arith, e), omega (arith, e))
      | inr q ↦ let more = rest.0 q in (omega (arith, more.0), omega (arith, more.1))
    ]

    from : (first ≤ i) × (i < first + suc n) → Has (bit_or (2 ^ first) (span (suc first) n)) i
    from h = elim (cases_eq i first) [
      | inl e ↦ (has_or (2 ^ first) (span (suc first) n) i).1 (inl (subst (λ k. Has (2 ^ first) k) (sym e) (bit_at-pow_same first)))
      | inr d ↦ (has_or (2 ^ first) (span (suc first) n) i).1 (inr (rest.1 (omega (arith, h.0, d), omega (arith, h.1))))
    ]

pub has_span : (first n i : ℕ) → Has (span first n) i ↔ ((first ≤ i) × (i < first + n))
has_span first zero i = (λ h. absurd (has_none i h), λ h. absurd (omega (arith, h.0, h.1)))
has_span first (suc n) i = span_more first n i (has_span (suc first) n i)

span_is : (n : ℕ) → 2 ^ n - 1 ≡ span 0 n
span_is n = same_set (2 ^ n - 1) (span 0 n) (λ i. (to i, from i))
  where
    to : (i : ℕ) → Has (2 ^ n - 1) i → Has (span 0 n) i
    to i h = elim (cases_lt i n) [
      | inl low ↦ (has_span 0 n i).1 (omega arith, omega (arith, low))
      | inr high ↦ absurd (omega (arith, bit_at_ones_above n i high, h))
    ]

    from : (i : ℕ) → Has (span 0 n) i → Has (2 ^ n - 1) i
    from i h = bit_at_ones n i (omega (arith, ((has_span 0 n i).0 h).1))

pub all_items : (problem : Problem) (count r : ℕ) → length problem.items ≤ 16 → count ≡ length problem.items → r ≡ 1 * 2 ^ count % 2 ^ 64 - 1 → r ≡ items_of problem
all_items problem count r few is e = e ∙ ap (λ k. k - 1) (one_shl count 64 (omega (arith, few, is))) ∙ ap (λ k. 2 ^ k - 1) is ∙ span_is (length problem.items)

pub all_below : (problem : Problem) (count r : ℕ) → length problem.items ≤ 16 → count ≡ length problem.items → r ≡ 1 * 2 ^ count % 2 ^ 64 - 1 → r < 2 ^ length problem.items
all_below problem count r few is e = omega (arith, e, one_shl count 64 (omega (arith, few, is)), ap (λ k. 2 ^ k) is, pow_pos (length problem.items))

-- ---- the answer

module _ (problem : Problem) (nodes : List PlanNode) (set : ℕ) (all : set ≡ items_of problem) where
  pub has_tree : (o : Option Found) → IsSearchable problem → IsEntry problem nodes set o → ¬ (o ≡ None)
  has_tree None ok none e = none ok.tree ok.plan.legal (ok.plan.whole ∙ sym all)
  has_tree (Some f) ok known e = some_not_none f e
    where
      some_not_none : (f : Found) → Some f ≡ None → ⊥
      some_not_none f e = cc

  module _ (o : Option Found) (id : ℕ) (known : IsEntry problem nodes set o) (some : ¬ (o ≡ None)) (is : (f : Found) → o ≡ Some f → id ≡ f.plan) where
    found : (f : Found) × (o ≡ Some f)
    found = go o refl
      where
        go : (x : Option Found) → o ≡ x → (f : Found) × (o ≡ Some f)
        go None e = absurd (some e)
        go (Some f) e = (f, e)

    entry : IsEntry problem nodes set (Some found.0)
    entry = subst (IsEntry problem nodes set) found.1 known

    tree : Tree
    tree = entry.0

    named : IsTreeOf nodes id tree
    unfolding tree entry
    named = subst (λ k. IsTreeOf nodes k tree) (sym (is found.0 found.1)) entry.1

    pub plan_is : (t : Tree) × IsTreeOf nodes id t × IsPlan problem t
    unfolding tree entry
    plan_is = (tree, named, record { legal = entry.2.legal; whole = entry.2.covers ∙ all })

    pub none_before : (t other : Tree) → IsTreeOf nodes id t → IsPlan problem other → ¬ ComesBefore problem other t
    unfolding tree entry
    none_before t other by plan before =
        entry.2.first other plan.legal (plan.whole ∙ sym all) (subst (ComesBefore problem other) (same_tree nodes id t tree by named) before)

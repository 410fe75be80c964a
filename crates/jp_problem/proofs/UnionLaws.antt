-- Members of unions of lists of sets.
use Rattle.std.proofs.Common.{refl, ℕ, ◌⊎◌, ◌↔◌, inl, inr, sym, subst, List, [], ◌∷◌}
use Rattle.std.specs.Prelude.{bit_or}
use Rattle.std.specs.List.{fold}
use Rattle.jp_base.specs.Sets.{Has}
use Rattle.jp_base.proofs.SetLemmas.{has_or, empty_zero}
use Rattle.jp_facts.proofs.Members.{In}
use Rattle.jp_query.specs.Refs.{union}

-- some set of the list has the item
abbrev pub InSome : List ℕ → ℕ → Type 0
InSome sets i = (set : ℕ) × In set sets × Has set i

union_from : (sets : List ℕ) (all i : ℕ) → Has (fold bit_or all sets) i ↔ (Has all i ⊎ InSome sets i)
union_from [] all i = (inl, λ h. elim h [ inl p ↦ p | inr q ↦ absurd q.1 ])
union_from (set ∷ sets) all i = (λ h. to ((union_from sets (bit_or all set) i).0 h), λ h. (union_from sets (bit_or all set) i).1 (from h))
  where
    to : Has (bit_or all set) i ⊎ InSome sets i → Has all i ⊎ InSome (set ∷ sets) i
    to (inl p) = elim ((has_or all set i).0 p) [ inl q ↦ inl q | inr q ↦ inr (set, inl refl, q) ]
    to (inr q) = inr (q.0, inr q.1, q.2)

    from : Has all i ⊎ InSome (set ∷ sets) i → Has (bit_or all set) i ⊎ InSome sets i
    from (inl p) = inl ((has_or all set i).1 (inl p))
    from (inr q) = elim q.1 [ inl e ↦ inl ((has_or all set i).1 (inr (subst (λ s. Has s i) (sym e) q.2))) | inr r ↦ inr (q.0, r, q.2) ]

pub has_union : (sets : List ℕ) (i : ℕ) → Has (union sets) i ↔ InSome sets i
has_union sets i = (λ h. elim ((union_from sets 0 i).0 h) [ inl p ↦ absurd (empty_zero 0 refl i p) | inr q ↦ q ], λ h. (union_from sets 0 i).1 (inr h))

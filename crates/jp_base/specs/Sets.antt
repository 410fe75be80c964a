-- Sets of numbers below 64, seen as masks: bit i of the mask says that i is a member.
use Rattle.std.specs.Prelude.{◌≡◌, ℕ, ◌<◌, ◌≤◌, ◌↔◌, ◌⊎◌, List, [], ◌∷◌}
use Rattle.std.specs.Int.{bit_at}

abbrev pub Has : ℕ → ℕ → Type 0
Has set i = bit_at set i ≡ 1

abbrev pub IsEmpty : ℕ → Type 0
IsEmpty set = (i : ℕ) → ¬ Has set i

abbrev pub IsOnly : ℕ → ℕ → Type 0
IsOnly i set = (k : ℕ) → Has set k ↔ (k ≡ i)

abbrev pub IsUnion : ℕ → ℕ → ℕ → Type 0
IsUnion a b set = (i : ℕ) → Has set i ↔ (Has a i ⊎ Has b i)

-- the members of a that b lacks
abbrev pub IsDifference : ℕ → ℕ → ℕ → Type 0
IsDifference a b set = (i : ℕ) → Has set i ↔ (Has a i × ¬ Has b i)

abbrev pub Within : ℕ → ℕ → Type 0
Within a b = (i : ℕ) → Has a i → Has b i

-- a and b share a member
abbrev pub Meets : ℕ → ℕ → Type 0
Meets a b = (i : ℕ) × Has a i × Has b i

abbrev pub IsSameSet : ℕ → ℕ → Type 0
IsSameSet a b = (i : ℕ) → Has a i ↔ Has b i

pub record IsLeastMember (set i : ℕ) : Type 0 where
  pub member : Has set i
  pub least : (k : ℕ) → k < i → ¬ Has set k

-- of the subsets of set that lie below p as numbers, part is the greatest
pub record IsGreatestBelow (set p part : ℕ) : Type 0 where
  pub within : Within part set
  pub below : part < p
  pub greatest : (q : ℕ) → Within q set → q < p → q ≤ part

-- the masks met from p down to the empty set, each the greatest subset of set below the one before
pub data IsWalk (set : ℕ) : ℕ → List ℕ → Type 0 where
  ends : IsWalk set 0 (0 ∷ [])
  goes_on : {p part : ℕ} {parts : List ℕ} → 0 < p → IsGreatestBelow set p part → IsWalk set part parts → IsWalk set p (p ∷ parts)

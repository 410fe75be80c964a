-- Spans of the numbers of entries and sublinks: of what stands between two counts.
use Rattle.std.proofs.Common.{ℕ, suc, ◌+◌, ◌≤◌, ◌≡◌, ap₂, sym, subst, map, List, [], ◌∷◌, ◌++◌, arith}
use Rattle.jp_resolution.specs.declared.words.Counts.{Counts}
use Rattle.jp_resolution.specs.Counting.{none, both}

abbrev counted : ℕ → ℕ → Counts
counted entries sublinks = record { entries = entries; sublinks = sublinks }

pub both_assoc : (a b c : Counts) → both (both a b) c ≡ both a (both b c)
both_assoc a b c = ap₂ counted (omega arith) (omega arith)

pub both_of_three : (a b c d : Counts) → both (both (both a b) c) d ≡ both a (both (both b c) d)
both_of_three a b c d = ap₂ counted (omega arith) (omega arith)

pub both_none : (a : Counts) → both a none ≡ a
both_none a = ap₂ counted (omega arith) (omega arith)

pub right_zero : (n : ℕ) → n + 0 ≡ n
right_zero n = omega arith

pub next_first : (n : ℕ) → suc n ≤ n + 1
next_first n = omega arith

-- ---- lists whose members have spans one behind the other

module _ {X : Type 0} (P : Counts → Counts → X → Type 0) where
  abbrev pub Along : Counts → Counts → List X → Type 0
  Along a b [] = a ≡ b
  Along a b (x ∷ xs) = (m : Counts) × P a m x × Along m b xs

  pub along_append : (a m b : Counts) (xs ys : List X) → Along a m xs → Along m b ys → Along a b (xs ++ ys)
  along_append a m b [] ys p q = subst (λ c. Along c b ys) (sym p) q
  along_append a m b (x ∷ xs) ys p q = (p.0, p.1, along_append p.0 m b xs ys p.2 q)

module _ {X Y : Type 0} (P : Counts → Counts → X → Type 0) (Q : Counts → Counts → Y → Type 0) (f : X → Y) where
  pub along_map : ((a b : Counts) (x : X) → P a b x → Q a b (f x)) → (a b : Counts) (xs : List X) → Along P a b xs → Along Q a b (map f xs)
  along_map w a b [] h = h
  along_map w a b (x ∷ xs) h = (h.0, w a h.0 x h.1, along_map w h.0 b xs h.2)

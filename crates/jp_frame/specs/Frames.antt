-- A frame: the items of a block with their counts of rows, its special joins and its clauses, without tree, expressions
-- and tables. An ON list and a clause are tests on maps.
use Rattle.std.specs.Prelude.{◌≡◌, ℕ, zero, suc, ◌<◌, ◌⊎◌, Bool, false}
use Rattle.jp_base.specs.Sets.{Has, Within, Meets}
use Rattle.jp_frame.specs.Maps.{Map, Agree, NoneOn}

pub data Kind : Type 0 where
  Left : Kind
  Semi : Kind
  Anti : Kind

-- Items, joins and clauses are numbers from 0 on, below their count. Sets of items are masks.
pub record Frame : Type 0 where
  pub items : ℕ
  -- how many rows an item has
  pub rows : ℕ → ℕ
  pub joins : ℕ
  pub kind : ℕ → Kind
  -- the least sets of items to the left and to the right that a join needs
  pub left : ℕ → ℕ
  pub right : ℕ → ℕ
  -- the ON list of a join, and the items that it looks at
  pub on : ℕ → Map → Bool
  pub on_uses : ℕ → ℕ
  pub clauses : ℕ
  -- 0, or one more than the join in whose right side the clause stands
  pub region : ℕ → ℕ
  -- the items that must be there before a clause is tested
  pub needs : ℕ → ℕ
  pub holds : ℕ → Map → Bool
  pub uses : ℕ → ℕ

-- no common item
abbrev pub Apart : ℕ → ℕ → Type 0
Apart a b = (i : ℕ) → Has a i → ¬ Has b i

-- join u needs only items of the right set of another join t
pub record IsInside (f : Frame) (u t : ℕ) : Type 0 where
  pub other : u ≡ t → ⊥
  pub left : Within (f.left u) (f.right t)
  pub right : Within (f.right u) (f.right t)

-- join t stands in a region
abbrev pub IsUnder : Frame → ℕ → ℕ → Type 0
IsUnder f t zero = Unit {0}
IsUnder f t (suc r) = IsInside f t r

-- the ON list of u is true at no map that is none on the set
abbrev pub IsVoid : Frame → ℕ → ℕ → Type 0
IsVoid f u set = (m : Map) → NoneOn set m → f.on u m ≡ false

-- u needs both sets of t to its left, or it is a left join whose ON list is true at no map that lacks t's right set
pub data Covers (f : Frame) (u t : ℕ) : Type 0 where
  takes_in : Within (f.left t) (f.left u) → Within (f.right t) (f.left u) → Covers f u t
  rejects : f.kind u ≡ Left → IsVoid f u (f.right t) → Covers f u t

-- two right sets are apart, or one lies in the other
pub data Nested (a b : ℕ) : Type 0 where
  apart : Apart a b → Nested a b
  within : Within a b → Nested a b
  around : Within b a → Nested a b

pub record IsFrame (f : Frame) : Type 0 where
  -- tests look at the items that they use, alone
  pub on_local : (s : ℕ) (m n : Map) → s < f.joins → Agree (f.on_uses s) m n → f.on s m ≡ f.on s n
  pub clause_local : (c : ℕ) (m n : Map) → c < f.clauses → Agree (f.uses c) m n → f.holds c m ≡ f.holds c n
  pub region_join : (c r : ℕ) → c < f.clauses → f.region c ≡ suc r → r < f.joins
  -- both sets of a join have items, and those to the left stand before those to the right
  pub left_some : (s : ℕ) → s < f.joins → (i : ℕ) × Has (f.left s) i
  pub right_some : (s : ℕ) → s < f.joins → (i : ℕ) × Has (f.right s) i
  pub in_order : (s i j : ℕ) → s < f.joins → Has (f.left s) i → Has (f.right s) j → i < j
  -- right sets are nested or apart, and a join whose right set lies in another has its left set there too
  pub nested : (s t : ℕ) → s < f.joins → t < f.joins → (s ≡ t → ⊥) → Nested (f.right s) (f.right t)
  pub left_within : (s t : ℕ) → s < f.joins → t < f.joins → (s ≡ t → ⊥) → Within (f.right s) (f.right t) → Within (f.left s) (f.right t)
  -- where the left set of u meets the right set of t and u isn't inside t, t comes first, or its absence voids u
  pub covers : (u t : ℕ) → u < f.joins → t < f.joins → (u ≡ t → ⊥) → Meets (f.left u) (f.right t) → (IsInside f u t → ⊥) → Covers f u t
  -- a clause needs some item, and what it needs lies in the right set of its region
  pub needs_some : (c : ℕ) → c < f.clauses → (i : ℕ) × Has (f.needs c) i
  pub needs_within : (c r : ℕ) → c < f.clauses → f.region c ≡ suc r → Within (f.needs c) (f.right r)
  -- and is closed under the joins of its region
  pub needs_closed : (c t : ℕ) → c < f.clauses → t < f.joins → IsUnder f t (f.region c) → Meets (f.right t) (f.needs c) → Within (f.left t) (f.needs c) × Within (f.right t) (f.needs c)
  -- a clause uses only what it needs, and an ON list only items of the two sets of its join
  pub uses_within : (c : ℕ) → c < f.clauses → Within (f.uses c) (f.needs c)
  pub on_uses_within : (s i : ℕ) → s < f.joins → Has (f.on_uses s) i → Has (f.left s) i ⊎ Has (f.right s) i

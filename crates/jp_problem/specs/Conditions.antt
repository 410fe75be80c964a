-- The conditions that the least sets of a block's joins and clauses meet. Why every legal order of the joins gives the same
-- rows rests on these alone.
use Rattle.std.specs.Prelude.{◌≡◌, ℕ, suc, ◌<◌, ◌⊎◌, false, List, map, Contains, Some, None, slice_get}
use Rattle.jp_base.specs.Sets.{Has, Within, Meets}
use Rattle.jp_query.specs.declared.JoinKind.TheVariants as join
use Rattle.jp_query.specs.Meaning.{Row, Env, holds, value_of, value_given}
use Rattle.jp_problem.specs.declared.types.Problem.{Problem}
use Rattle.jp_problem.specs.declared.types.Special.{Special}
use Rattle.jp_problem.specs.declared.types.Clause.{Clause}
use Rattle.jp_problem.specs.Blocks.{used, used_by, rels_at}
use Rattle.jp_problem.specs.Legal.{Apart, IsInside}
use Rattle.jp_problem.specs.Problems.{problem_rels}

-- s and t are two special joins of the problem
pub record AreTwo (problem : Problem) (s t : Special) : Type 0 where
  pub first : Contains problem.joins s
  pub second : Contains problem.joins t
  pub differ : s.no ≡ t.no → ⊥

-- no relation of the set has a row
abbrev pub IsAbsent : ℕ → Env → Type 0
IsAbsent rels env = (rel : ℕ) → Has rels rel → env rel ≡ None

-- the ON list of u holds in no environment in which the relations of these items are absent, with its sublinks in place or
-- with given rows for them
pub record IsVoid (problem : Problem) (u : Special) (set : ℕ) : Type 0 where
  pub in_place : (tables : ℕ → List Row) (env : Env) → IsAbsent (rels_at (problem_rels problem) set) env → holds (map (value_of tables) u.on) env ≡ false
  pub given : (rows : ℕ → List Row) (env : Env) → IsAbsent (rels_at (problem_rels problem) set) env → holds (map (value_given rows) u.on) env ≡ false

-- u needs both sets of t to its left, or it is a Left join whose ON list isn't true where t's right set is absent
pub data Covers (problem : Problem) (u t : Special) : Type 0 where
  takes_in : Within t.min_left u.min_left → Within t.min_right u.min_left → Covers problem u t
  rejects : u.kind ≡ join.Left → IsVoid problem u t.min_right → Covers problem u t

-- one of two sets lies in the other, or they are apart
pub data Nested (a b : ℕ) : Type 0 where
  apart : Apart a b → Nested a b
  within : Within a b → Nested a b
  around : Within b a → Nested a b

-- t stands under a clause's region: any join does at the top, else those inside the region's join
abbrev pub IsUnder : Problem → Special → ℕ → Type 0
IsUnder problem t region = (region ≡ 0) ⊎ ((r : Special) × Contains problem.joins r × (r.no ≡ region) × IsInside t r)

pub record MeetsConditions (problem : Problem) : Type 0 where
  -- joins are numbered from 1 in their order, and the region of a clause is 0 or a join's number
  pub numbered : (k : ℕ) (s : Special) → slice_get problem.joins k ≡ Some s → s.no ≡ suc k
  pub region_join : (c : Clause) → Contains problem.clauses c → (c.region ≡ 0) ⊎ ((r : Special) × Contains problem.joins r × (r.no ≡ c.region))
  -- both sets of a join have items, and those to the left stand before those to the right
  pub left_some : (s : Special) → Contains problem.joins s → (i : ℕ) × Has s.min_left i
  pub right_some : (s : Special) → Contains problem.joins s → (i : ℕ) × Has s.min_right i
  pub in_order : (s : Special) (i j : ℕ) → Contains problem.joins s → Has s.min_left i → Has s.min_right j → i < j
  -- right sets are nested or apart, and a join whose right set lies in another has its left set there too
  pub nested : (s t : Special) → AreTwo problem s t → Nested s.min_right t.min_right
  pub left_within : (s t : Special) → AreTwo problem s t → Within s.min_right t.min_right → Within s.min_left t.min_right
  -- where the left set of u meets the right set of t and u isn't inside t, t comes first, or its absence voids u
  pub covers : (u t : Special) → AreTwo problem u t → Meets u.min_left t.min_right → ¬ IsInside u t → Covers problem u t
  -- a clause needs some item, and what it needs lies in the right set of its region
  pub needs_some : (c : Clause) → Contains problem.clauses c → (i : ℕ) × Has c.req i
  pub needs_within : (c : Clause) (r : Special) → Contains problem.clauses c → Contains problem.joins r → r.no ≡ c.region → Within c.req r.min_right
  -- and is closed under the joins of its region
  pub needs_closed : (c : Clause) (t : Special) → Contains problem.clauses c → Contains problem.joins t → IsUnder problem t c.region → Meets t.min_right c.req → Within t.min_left c.req × Within t.min_right c.req
  -- a clause uses only what it needs, and an ON list only items of the two sets of its join
  pub uses_within : (c : Clause) → Contains problem.clauses c → Within (used (problem_rels problem) c.expr) c.req
  pub on_uses_within : (s : Special) (i : ℕ) → Contains problem.joins s → Has (used_by (problem_rels problem) s.on) i → Has s.min_left i ⊎ Has s.min_right i

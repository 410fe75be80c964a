-- Environments that agree on a set of relations.
use Rattle.std.specs.Prelude.{◌≡◌, ℕ, ◌≤◌, ◌⊎◌}
use Rattle.jp_base.specs.Sets.{Has}
use Rattle.jp_query.specs.Meaning.{Env}

-- They agree on the relations of the set, and on the numbers from 64 on, which no typed query has.
abbrev pub Agree : ℕ → Env → Env → Type 0
Agree set env other = (i : ℕ) → Has set i ⊎ (64 ≤ i) → env i ≡ other i

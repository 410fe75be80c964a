-- The set of the relations that an environment gives a row.
use Rattle.std.specs.Prelude.{ℕ, ◌<◌, ◌↔◌, IsSome}
use Rattle.jp_base.specs.Sets.{Has}
use Rattle.jp_query.specs.Meaning.{Env}

abbrev pub IsPresentSet : ℕ → Env → Type 0
IsPresentSet set env = (i : ℕ) → i < 64 → Has set i ↔ IsSome (env i)

-- Environments that are the same where an expression looks.
use Rattle.std.specs.Prelude.{◌≡◌, ℕ, ◌<◌, is_some}
use Rattle.jp_base.specs.Sets.{Has}
use Rattle.jp_query.specs.Meaning.{Env, cell_in}
use Rattle.jp_query.specs.Parts.{ColumnRef}

-- the column has one cell in both
abbrev pub IsSameCell : Env → Env → ColumnRef → Type 0
IsSameCell env other c = cell_in (env c.relation) c.column ≡ cell_in (other c.relation) c.column

-- each relation of the placeholder has a row in both or in neither
abbrev pub IsSamePresence : Env → Env → ℕ → Type 0
IsSamePresence env other rels = (i : ℕ) → i < 64 → Has rels i → is_some (env i) ≡ is_some (other i)

-- Two tuples of one tree, which has these relations, in two environments: its relations have equal rows in both, and each
-- has its own environment's rows for all others.
pub record AreTwins (rels : ℕ) (env other tuple twin : Env) : Type 0 where
  pub own : (i : ℕ) → Has rels i → tuple i ≡ twin i
  pub others : (i : ℕ) → ¬ Has rels i → (tuple i ≡ env i) × (twin i ≡ other i)

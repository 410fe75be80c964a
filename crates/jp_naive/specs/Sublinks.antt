-- The outermost sublinks of an expression as the evaluator finds them, and rows computed for them.
use Rattle.std.specs.Prelude.{ℕ, ◌==◌, List, [], ◌∷◌, if◌then◌else◌}
use Rattle.jp_query.specs.Meaning.{Row, Env}
use Rattle.jp_naive.specs.Frames.{place_env}
use Rattle.jp_naive.specs.declared.env.PlaceEnv.{PlaceEnv}
use Rattle.jp_query.specs.Outermost.{Outer}
use Rattle.jp_naive.specs.declared.sublinks.Sublink.{Sublink}
use Rattle.jp_naive.specs.declared.sublinks.Lent.{Lent}

abbrev pub outer_of : Sublink → Outer
outer_of sublink = record { number = sublink.number; query = sublink.query.now }

-- the rows with the number, the first of them; none where there are no such rows
abbrev pub rows_by_number : List Lent → ℕ → List Row
rows_by_number [] number = []
rows_by_number (lent ∷ more) number = if lent.number == number then lent.rows.items else rows_by_number more number

-- the environment of an evaluation
abbrev pub env_of_place_env : PlaceEnv → Env
env_of_place_env env = place_env env.tables.now.list (record { first = env.first; second = env.second; outer = env.outer })

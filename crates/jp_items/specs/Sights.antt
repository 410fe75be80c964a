-- The environments that tuples stand for.
use Rattle.std.specs.Prelude.{ℕ, List, map}
use Rattle.jp_query.specs.Meaning.{Env}
use Rattle.jp_frame.specs.Maps.{Map}
use Rattle.jp_framed.specs.Environments.{env_from, source_at}
use Rattle.jp_items.specs.Params.{env_given}
use Rattle.jp_items.specs.Rows.{rows_meant}
use Rattle.jp_items.specs.declared.params.Around.{Around}
use Rattle.jp_items.specs.declared.sight.Sight.{Sight}

-- what stands around
abbrev pub env_around : Around → Env
env_around around = env_given around.cells.now around.present

abbrev pub sources_in : Sight → List (List Env)
sources_in sight = map (rows_meant sight.tables.now.list) sight.sources.now

-- the rows of an item
abbrev pub source_of : Sight → ℕ → List Env
source_of sight item = source_at (sources_in sight) item

unfoldable pub sight_env : Sight → Map → Env
sight_env sight m = env_from 0 sight.layout.now (sources_in sight) (env_around sight.around) m

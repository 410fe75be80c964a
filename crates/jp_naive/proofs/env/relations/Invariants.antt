use Rattle.std.proofs.Common.{ℕ, ◌<◌}
use Rattle.std.specs.Prelude.{◌↔◌, IsSome}
use Rattle.jp_base.specs.Sets.{Has}
use Rattle.jp_query.specs.Tables.{TableRows}
use Rattle.jp_naive.specs.Frames.{place_env}
use Rattle.jp_naive.proofs.env.relations.Given as goal

abbrev pub invariant-relations : goal.invariant-relations
invariant-relations l = (tables : TableRows) (i : ℕ) → Has l.present i ↔ ((i < l.rel) × IsSome (place_env tables l.place i))

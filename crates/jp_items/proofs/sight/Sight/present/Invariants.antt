use Rattle.std.proofs.Common.{ℕ, ◌<◌}
use Rattle.std.specs.Prelude.{◌↔◌, IsSome}
use Rattle.jp_base.specs.Sets.{Has}
use Rattle.jp_joins.specs.Tuples.{map_of}
use Rattle.jp_items.specs.Sights.{sight_env}
use Rattle.jp_items.proofs.sight.Sight.present.Given as goal

abbrev pub invariant-rels : goal.invariant-rels
invariant-rels l = (i : ℕ) → Has l.present i ↔ ((i < l.rel) × IsSome (sight_env l.self (map_of l.tuple) i))

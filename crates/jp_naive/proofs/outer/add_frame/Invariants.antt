use Rattle.std.proofs.Common.{◌≡◌, drop}
use Rattle.jp_query.specs.Meaning.{Env}
use Rattle.jp_naive.specs.Frames.{env_after, env_over}
use Rattle.jp_naive.proofs.outer.add_frame.Given as goal

abbrev pub invariant-leaves : goal.invariant-leaves
invariant-leaves l = (outer : Env) → env_after l.tables.list l.rows.items (env_over l.tables.list (drop l.at l.frame.leaves.now) (drop l.at l.frame.numbers.now) outer)
    ≡ env_after l.tables.list l.initial.rows.items (env_over l.tables.list l.frame.leaves.now l.frame.numbers.now outer)

use Rattle.std.proofs.Common.{◌≡◌, drop}
use Rattle.jp_query.specs.Meaning.{Env}
use Rattle.jp_query.specs.Tables.{TableRows}
use Rattle.jp_naive.specs.Frames.{env_over}
use Rattle.jp_naive.proofs.frames.seen_in.Given as goal

abbrev pub invariant-leaves : goal.invariant-leaves
invariant-leaves l = (tables : TableRows) (outer : Env) → env_over tables (drop l.at l.leaves) (drop l.at l.numbers) outer l.rel ≡ env_over tables l.leaves l.numbers outer l.rel

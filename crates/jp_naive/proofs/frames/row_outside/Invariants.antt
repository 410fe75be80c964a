use Rattle.std.proofs.Common.{◌≡◌, drop}
use Rattle.jp_query.specs.Tables.{TableRows}
use Rattle.jp_naive.specs.Frames.{env_of}
use Rattle.jp_naive.proofs.frames.row_outside.Given as goal

abbrev pub invariant-rows : goal.invariant-rows
invariant-rows l = (tables : TableRows) → env_of tables (drop l.row-index l.outer) l.rel ≡ env_of tables l.outer l.rel

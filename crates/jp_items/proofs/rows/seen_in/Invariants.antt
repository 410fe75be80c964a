use Rattle.std.proofs.Common.{◌≡◌, drop}
use Rattle.jp_items.specs.Rows.{parts_env}
use Rattle.jp_items.proofs.rows.seen_in.Given as goal

abbrev pub invariant-parts : goal.invariant-parts
invariant-parts l = parts_env l.tables.list (drop l.at l.parts) (drop l.at l.numbers) l.rel ≡ parts_env l.tables.list l.parts l.numbers l.rel

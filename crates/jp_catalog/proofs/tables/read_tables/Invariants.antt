use Rattle.jp_catalog.proofs.Steps.{HasRead}
use Rattle.jp_catalog.proofs.tables.read_tables.Given as goal

abbrev pub invariant-loop-name : goal.invariant-loop-name
invariant-loop-name l = HasRead l.tables.entries l.defs.entries l.name-iterator

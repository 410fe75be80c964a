use Rattle.std.proofs.Common.{◌≡◌}
use Rattle.jp_catalog.specs.Names.{value_of}
use Rattle.jp_catalog.proofs.named.Named.get.Given as goal

abbrev pub invariant-loop-key : goal.invariant-loop-key
invariant-loop-key g l = value_of l.name l.key-iterator ≡ value_of l.name l.self

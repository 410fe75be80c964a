use Rattle.std.proofs.Common.{◌≡◌, ◌++◌, drop}
use Rattle.std.specs.Prelude.{string_bytes}
use Rattle.jp_explain.specs.Plans.{blocks_of_sublink}
use Rattle.jp_explain.proofs.statements.push_sublink.Given as goal

abbrev pub invariant-each : goal.invariant-each
invariant-each l = string_bytes l.text ++ blocks_of_sublink l.prepared l.sub l.number (drop l.number l.block-items) ≡ string_bytes l.initial.text ++ blocks_of_sublink l.prepared l.sub 0 l.prepared.blocks

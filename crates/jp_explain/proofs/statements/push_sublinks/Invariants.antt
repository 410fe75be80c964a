use Rattle.std.proofs.Common.{◌≡◌, ◌-◌, ◌++◌}
use Rattle.std.specs.Prelude.{string_bytes}
use Rattle.jp_explain.specs.Plans.{sublinks_from}
use Rattle.jp_explain.proofs.statements.push_sublinks.Given as goal

abbrev pub invariant-subs : goal.invariant-subs
invariant-subs l = string_bytes l.text ++ sublinks_from l.prepared l.sub (256 - l.sub) ≡ string_bytes l.initial.text ++ sublinks_from l.prepared 0 256

use Rattle.std.proofs.Common.{◌≡◌, ◌++◌}
use Rattle.std.specs.Prelude.{string_bytes}
use Rattle.std.specs.List.{flat_map}
use Rattle.jp_explain.specs.Values.{in_quotes}
use Rattle.jp_explain.proofs.values.push_characters.Given as goal

abbrev pub invariant-characters : goal.invariant-characters
invariant-characters l = string_bytes l.text ≡ string_bytes l.initial.text ++ flat_map in_quotes l.yielded

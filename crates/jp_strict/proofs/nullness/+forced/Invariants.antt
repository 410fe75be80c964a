use Rattle.std.proofs.Common.{◌≡◌, ◌++◌, take}
use Rattle.std.specs.List.{flat_map}
use Rattle.jp_query.specs.Nullness.{forced_by}
use Rattle.jp_strict.proofs.nullness.+forced.Given as goal

abbrev pub invariant-push_forced_in-loop-member : goal.invariant-push_forced_in-loop-member
invariant-push_forced_in-loop-member l = l.columns.items ≡ l.initial.columns.items ++ flat_map forced_by (take l.member-index l.members)

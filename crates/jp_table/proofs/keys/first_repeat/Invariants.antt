use Rattle.std.proofs.Common.{◌≡◌, [], filter, take}
use Rattle.jp_table.specs.Judging.{first_refusal, is_kind, no_repeat}
use Rattle.jp_table.proofs.keys.first_repeat.Given as goal

abbrev pub invariant-keys : goal.invariant-keys
invariant-keys l = l.first ≡ first_refusal (no_repeat (filter (is_kind l.primary) (take l.key-index l.keys))) [] l.table

use Rattle.std.proofs.Common.{◌≡◌, ◌-◌}
use Rattle.jp_cursor.specs.Reading.{many_from, is, expect, ◌>>◌}
use Rattle.jp_cursor.specs.Lists.{separated_by}
use Rattle.jp_cursor.specs.Reads.{ReadsBy}
use Rattle.jp_cursor.proofs.lists.separated.Given as goal

abbrev pub invariant-members : goal.invariant-members
invariant-members g l = (goal.M-IsAlwaysCallable g l.member) × ((reader : _) → ReadsBy reader (goal.M-post g l.member) → separated_by l.between reader l.fn.tokens ≡ many_from (is l.between) (expect l.between >> reader) (l._turn-end - l._turn) l.found l.tokens)

use Rattle.std.proofs.Common.{◌≡◌, ◌-◌}
use Rattle.jp_cursor.specs.Reading.{many, many_from}
use Rattle.jp_cursor.specs.Lists.{begins_by}
use Rattle.jp_cursor.specs.Reads.{ReadsBy}
use Rattle.jp_cursor.proofs.lists.many.Given as goal

abbrev pub invariant-members : goal.invariant-members
invariant-members g l = (goal.M-IsAlwaysCallable g l.member) × ((reader : _) → ReadsBy reader (goal.M-post g l.member) → many (begins_by l.begin) reader l.fn.tokens ≡ many_from (begins_by l.begin) reader (l._turn-end - l._turn) l.found l.tokens)

use Rattle.std.proofs.Common.{◌≡◌, take}
use Rattle.jp_session.proofs.names.copies.Given as goal

abbrev pub invariant-texts : goal.invariant-texts
invariant-texts l = l.copies ≡ take l.text-index l.texts

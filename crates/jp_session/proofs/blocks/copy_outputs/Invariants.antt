use Rattle.std.proofs.Common.{◌≡◌, take}
use Rattle.jp_session.proofs.blocks.copy_outputs.Given as goal

abbrev pub invariant-outputs : goal.invariant-outputs
invariant-outputs l = l.copies ≡ take l.output-index l.outputs

use Rattle.std.proofs.Common.{◌≡◌, ◌+◌, ◌-◌, ◌*◌, ◌^◌, ◌<◌, drop, fold}
use Rattle.jp_lex.specs.Cutting.{value}
use Rattle.jp_lex.proofs.cut.fits.Given as goal

abbrev pub invariant-loop-b : goal.invariant-loop-b
invariant-loop-b l = record {
  same : fold (λ n b. 10 * n + (b - 48)) l.value (drop l.b-index l.digits) ≡ value l.digits;
  narrow : l.value < 2 ^ 127;
}

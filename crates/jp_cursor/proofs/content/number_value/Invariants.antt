use Rattle.std.proofs.Common.{◌≡◌, ◌+◌, ◌-◌, ◌*◌, drop, fold}
use Rattle.jp_lex.specs.Cutting.{value}
use Rattle.jp_cursor.proofs.content.number_value.Given as goal

abbrev pub invariant-digits : goal.invariant-digits
invariant-digits l = fold (λ n b. 10 * n + (b - 48)) l.number (drop l.digit-index l.digits) ≡ value l.fn.digits

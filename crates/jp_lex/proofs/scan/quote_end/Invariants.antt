use Rattle.std.proofs.Common.{◌≡◌, ◌+◌, ◌≤◌, length, false}
use Rattle.jp_lex.specs.Scan.{quote_from}
use Rattle.jp_lex.proofs.scan.quote_end.Given as goal

abbrev pub invariant-loop-rest : goal.invariant-loop-rest
invariant-loop-rest l = record {
  same : quote_from l.quote false l.at l.size l.rest ≡ quote_from l.quote false 1 0 l.body;
  place : l.at + length l.rest ≡ length l.body + 1;
  few : l.size + 1 ≤ l.at;
}

abbrev pub decreases-loop-rest : goal.decreases-loop-rest
decreases-loop-rest l = length l.rest

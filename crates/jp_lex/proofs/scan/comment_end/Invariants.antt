use Rattle.std.proofs.Common.{◌≡◌, ◌+◌, ◌≤◌, length, false}
use Rattle.jp_lex.specs.Scan.{comment_from}
use Rattle.jp_lex.proofs.scan.comment_end.Given as goal

abbrev pub invariant-loop-rest : goal.invariant-loop-rest
invariant-loop-rest l = record {
  same : comment_from false l.depth l.at l.rest ≡ comment_from false 0 2 l.comment;
  place : l.at + length l.rest ≡ length l.comment + 2;
  few : l.depth + 2 ≤ l.at;
}

abbrev pub decreases-loop-rest : goal.decreases-loop-rest
decreases-loop-rest l = length l.rest

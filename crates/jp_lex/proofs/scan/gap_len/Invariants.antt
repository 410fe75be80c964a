use Rattle.std.proofs.Common.{ℕ, ◌+◌, ◌-◌, ◌≤◌, length, drop}
use Rattle.jp_lex.specs.Scan.{LongestAt}
use Rattle.jp_lex.proofs.scan.gap_len.Given as goal

abbrev pub invariant-pieces : goal.invariant-pieces
invariant-pieces l = record {
  within : l.len ≤ length l.src;
  longest : (n : ℕ) → LongestAt (drop l.len l.src) n → LongestAt l.src (l.len + n);
}

abbrev pub decreases-pieces : goal.decreases-pieces
decreases-pieces l = length l.src - l.len

-- A fresh query is fresh when it is folded.
use Rattle.std.proofs.Common.{◌≤◌}
use Rattle.jp_query.specs.declared.Query.{Query}
use Rattle.jp_query.specs.Freshness.{IsFresh}
use Rattle.jp_folding.specs.Folding.{folded}
use Rattle.jp_folded.proofs.GatheredUses.{no_placeholder, leaves_keep}
use Rattle.jp_folded.proofs.SublinksLaws.{numbers_kept, equal_kept}
use Rattle.jp_folded.proofs.OccurrenceLaws.{placed_kept}

pub folded_fresh : (q : Query) → IsFresh q → IsFresh (folded q)
folded_fresh q h = record {
  placeholders = no_placeholder q h.placeholders;
  numbers = numbers_kept q h.numbers;
  leaves = leaves_keep (λ n. ¬ ((32 ≤ n) × (n ≤ 46))) q h.leaves;
  equal = equal_kept q h.equal;
  placed = placed_kept q h.placed;
}

-- Tuples that have a number for each leaf.
use Rattle.std.specs.Prelude.{◌≡◌, All, length, vec_len}
use Rattle.jp_naive.specs.declared.leaves.Tuples.{Tuples}

pub record AreWhole (tuples : Tuples) : Type 0 where
  pub width : tuples.numbers.width ≡ vec_len tuples.leaves
  pub each : All (λ tuple. length tuple ≡ tuples.numbers.width) tuples.numbers.list

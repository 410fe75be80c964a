use Rattle.std.proofs.Common.{◌↔◌, ◌<◌, ℕ}
use Rattle.jp_base.specs.Sets.{Has}
use Rattle.jp_strict.proofs.nullness.all_relations.Given as goal

abbrev pub invariant-loop-rel : goal.invariant-loop-rel
invariant-loop-rel l = (k : ℕ) → Has l.all k ↔ (k < l.rel)

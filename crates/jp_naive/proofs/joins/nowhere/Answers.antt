use Rattle.std.proofs.Common.{◌∙◌, ◌++◌, ◌∷◌, [], ap, sym}
use Rattle.std.specs.Prelude.{None}
use Rattle.jp_naive.proofs.ListFacts.{replicate_more}
use Rattle.jp_naive.proofs.joins.nowhere.Goals as goal

pub leaves-preserved : goal.leaves-preserved
leaves-preserved c = c.in-Ok.ensures.items ∙ ap (λ ms. ms ++ None ∷ []) c.leaves.invariant ∙ sym (replicate_more c.leaves.counter None)

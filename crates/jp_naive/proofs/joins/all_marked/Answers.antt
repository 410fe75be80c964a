use Rattle.std.proofs.Common.{◌∙◌, ◌++◌, ◌∷◌, [], ap, sym, true}
use Rattle.jp_naive.proofs.ListFacts.{replicate_more}
use Rattle.jp_naive.proofs.joins.all_marked.Goals as goal

pub marks-preserved : goal.marks-preserved
marks-preserved c = c.in-Ok.ensures.items ∙ ap (λ ms. ms ++ true ∷ []) c.marks.invariant ∙ sym (replicate_more c.marks.counter true)

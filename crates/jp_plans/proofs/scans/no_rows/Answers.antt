use Rattle.std.proofs.Common.{◌∙◌, ◌++◌, ◌∷◌, [], None, ap}
use Rattle.jp_plans.proofs.RowFacts.{none_more}
use Rattle.jp_plans.proofs.scans.no_rows.Goals as goal

pub items-preserved : goal.items-preserved
items-preserved c = c.in_ok-push.ensures.items ∙ ap (λ xs. xs ++ None ∷ []) c.items.invariant ∙ none_more c.items.counter

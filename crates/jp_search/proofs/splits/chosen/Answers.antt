use Rattle.std.proofs.Common.{◌<◌, ◌∙◌, sym, ap, subst₂, length}
use Rattle.jp_search.specs.declared.joins.Facts.{Facts}
use Rattle.jp_search.proofs.SplitLaws.{no_split}
use Rattle.jp_search.proofs.PartLaws.{exponent_below}
use Rattle.jp_search.proofs.splits.chosen.Goals as goal

pub scan-requires : goal.scan-requires
scan-requires g c =
    exponent_below c.in-Some.item (length c.args.problem.now.items)
    (subst₂ (λ a b. a < b) ((c.only_item.ensures c.in-Some.item).0 c.in-Some.is) c.requires.ready.size c.requires.ready.there)

pub returns-in-Some-clause-several : goal.returns-in-Some-clause-several
returns-in-Some-clause-several g c = λ none. absurd (none c.in-Some.item ((c.only_item.ensures c.in-Some.item).0 c.in-Some.is))

pub returns-else-facts-clause-several : goal.returns-else-facts-clause-several
returns-else-facts-clause-several g c =
    λ several. no_split c.args.problem.now c.args.table.now c.args.set (sym (ap (λ (f : Facts). f.joinable) c.requires.facts) ∙ c.if-facts.false)

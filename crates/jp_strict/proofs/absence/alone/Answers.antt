use Rattle.std.proofs.Common.{◌∙◌, sym, refl}
use Rattle.std.proofs.lemmas.Bool.{false≢true}
use Rattle.jp_strict.proofs.SharedSets.{none_alone, one_alone, several_alone}
use Rattle.jp_strict.proofs.absence.alone.Goals as goal

pub returns-in-None : goal.returns-in-None
returns-in-None c = none_alone c.args.each c.args.rels (c.in-None.ensures.none.0 refl)

pub returns-then-within : goal.returns-then-within
returns-then-within c = c.common.ensures ∙ one_alone c.args.each c.args.rels c.in-Some.first c.one-one.result c.in-Some.ensures.below c.one-one.ensures.members c.in-Some.ensures.least.member (c.if-within.ensures.0 refl)

pub returns-else-within : goal.returns-else-within
returns-else-within c = c.nothing.ensures ∙ several_alone c.args.each c.args.rels c.in-Some.first c.one-one.result c.one-one.ensures.members c.in-Some.ensures.least.member (λ w. false≢true (sym c.if-within.false ∙ c.within.ensures.1 w))

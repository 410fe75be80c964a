use Rattle.std.proofs.Common.{◌∙◌, sym}
use Rattle.jp_search.proofs.OrderLaws.{strict, transitive, total}
use Rattle.jp_search.proofs.laws.plans_are_ordered.Goals as goal

pub returns-clause-strict : goal.returns-clause-strict
returns-clause-strict c = strict

pub returns-clause-transitive : goal.returns-clause-transitive
returns-clause-transitive c = transitive

pub returns-clause-total : goal.returns-clause-total
returns-clause-total c = λ problem a b plan_a plan_b. total problem a b plan_a.legal plan_b.legal (plan_a.whole ∙ sym plan_b.whole)

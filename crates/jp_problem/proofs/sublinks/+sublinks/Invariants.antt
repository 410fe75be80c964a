use Rattle.std.proofs.Common.{◌≡◌, drop}
use Rattle.std.specs.List.{list_any}
use Rattle.jp_problem.specs.Equalities.{has_sublink}
use Rattle.jp_problem.specs.SublinkWords.{arm_has_sublink, term_has_sublink}
use Rattle.jp_problem.proofs.sublinks.+sublinks.Given as goal

abbrev pub invariant-any-exprs : goal.invariant-any-exprs
invariant-any-exprs l = list_any has_sublink (drop l.expr-index l.exprs) ≡ list_any has_sublink l.exprs

abbrev pub invariant-any_term-terms : goal.invariant-any_term-terms
invariant-any_term-terms l = list_any term_has_sublink (drop l.term-index l.terms) ≡ list_any term_has_sublink l.terms

abbrev pub invariant-any_arm-arms : goal.invariant-any_arm-arms
invariant-any_arm-arms l = list_any arm_has_sublink (drop l.when-index l.arms) ≡ list_any arm_has_sublink l.arms

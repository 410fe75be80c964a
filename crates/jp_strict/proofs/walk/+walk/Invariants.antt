use Rattle.std.proofs.Common.{◌≡◌, take, map}
use Rattle.jp_query.specs.Refs.{union}
use Rattle.jp_strict.specs.Cases.{all_cases, cases_of, members_of, null_of_term}
use Rattle.jp_strict.proofs.walk.+walk.Given as goal

abbrev pub invariant-members-loop-expr : goal.invariant-members-loop-expr
invariant-members-loop-expr l = (l.all ≡ all_cases l.absence) × (l.found ≡ members_of (all_cases l.absence) (map (cases_of l.absence) (take l.expr-index l.exprs)))

abbrev pub invariant-null_terms-loop-term : goal.invariant-null_terms-loop-term
invariant-null_terms-loop-term l = l.null ≡ union (map (null_of_term l.absence) (take l.term-index l.terms))

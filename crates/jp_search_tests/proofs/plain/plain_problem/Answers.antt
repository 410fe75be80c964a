use Rattle.std.proofs.Common.{◌≤◌, sym, subst}
use Rattle.jp_search_tests.proofs.PlainLaws.{plain_made}
use Rattle.jp_search_tests.proofs.plain.plain_problem.Goals as goal

pub returns : goal.returns
returns c =
    plain_made c.in_ok-items.items c.new.result c.in_ok-clauses.clauses c.new-2.result c.new.ensures c.new-2.ensures
    (subst (λ n. 1 ≤ n) (sym c.in_ok-items.ensures.count) c.requires.some) (subst (λ n. n ≤ 16) (sym c.in_ok-items.ensures.count) c.requires.few) c.in_ok-items.ensures.plain c.in_ok-clauses.ensures

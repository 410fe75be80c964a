use Rattle.std.proofs.Common.{◌≡◌, ap}
use Rattle.jp_problem.specs.SublinkWords.{option_has_sublink}
use Rattle.jp_problem.proofs.SublinkLaws.{in-Case, or_assoc}
use Rattle.jp_problem.proofs.sublinks.+sublinks.Goals as goal
use Rattle.jp_problem.proofs.sublinks.+sublinks.Goals.{has_sublink-in-Some, has_sublink-in-None, has_sublink-in-Some-otherwise, has_sublink-in-None-otherwise}

pub has_sublink-returns-after-otherwise : goal.has_sublink-returns-after-otherwise
has_sublink-returns-after-otherwise t c =
    let first : c.match-operand.first ≡ option_has_sublink c.in-Case.operand = elim c.match-operand.branch [ has_sublink-in-Some w ↦ (let e = ap option_has_sublink w.in-Some.is in cc) | has_sublink-in-None w ↦ (let e = ap option_has_sublink w.in-None.is in cc) ] in
    let last : c.match-otherwise.last ≡ option_has_sublink c.in-Case.otherwise = elim c.match-otherwise.branch [ has_sublink-in-Some-otherwise w ↦ (let e = ap option_has_sublink w.in-Some-otherwise.is in cc) | has_sublink-in-None-otherwise w ↦ (let e = ap option_has_sublink w.in-None-otherwise.is in cc) ] in
    let e = in-Case c.in-Case.operand c.in-Case.arms c.in-Case.otherwise in
    let turned = or_assoc c.match-operand.first c.any_arm.result c.match-otherwise.last in
    cc

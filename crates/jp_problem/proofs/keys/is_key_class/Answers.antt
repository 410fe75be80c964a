use Rattle.std.proofs.Common.{◌∙◌, map, ap, sym, Some}
use Rattle.std.specs.List.{list_any}
use Rattle.jp_problem.specs.KeyTests.{is_key}
use Rattle.jp_problem.specs.Problems.{rels_of_item}
use Rattle.jp_problem.specs.StepClauses.{of_constant, ranked_from}
use Rattle.jp_problem.proofs.KeyLaws.{with_constants}
use Rattle.jp_problem.proofs.keys.is_key_class.Goals as goal

pub returns-in-Some : goal.returns-in-Some
returns-in-Some c =
    let rels = map rels_of_item c.args.items.now in
    let stage = c.args.stage.now in
    let ms = c.args.class.now.members in
    c.any_with_constant.ensures ∙ with_constants rels c.args.s1 c.args.s2 stage c.in-Some.constant c.as_slice-members.result.now
    ∙ ap (λ l. list_any (is_key rels c.args.s1 c.args.s2) (of_constant (Some c.in-Some.constant) stage (ranked_from 0 l))) c.as_slice-members.ensures
    ∙ ap (λ o. list_any (is_key rels c.args.s1 c.args.s2) (of_constant o stage (ranked_from 0 ms))) (sym c.in-Some.is)

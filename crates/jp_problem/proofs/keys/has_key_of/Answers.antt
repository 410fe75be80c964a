use Rattle.std.proofs.Common.{◌∙◌, ap, sym, map, is_some}
use Rattle.std.specs.List.{list_any}
use Rattle.std.specs.Option.{option_copied}
use Rattle.jp_problem.specs.KeyTests.{is_key}
use Rattle.jp_problem.specs.Keys.{first_key, on_of, key_of}
use Rattle.jp_problem.specs.Problems.{rels_of_item, join_of}
use Rattle.jp_problem.specs.StepClauses.{step_clauses}
use Rattle.jp_problem.proofs.KeyLaws.{first_there}
use Rattle.jp_problem.proofs.keys.has_key_of.Goals as goal

pub returns-in-Inner : goal.returns-in-Inner
returns-in-Inner c =
    c.is_inner_key.ensures ∙ sym (first_there (map rels_of_item c.args.problem.now.items) c.args.s1 c.args.s2 (step_clauses c.args.problem.now c.args.s1 c.args.s2))
    ∙ ap (λ k. is_some (key_of c.args.problem.now c.args.s1 c.args.s2 k)) (sym c.in-Inner.is)

pub returns-in-Some : goal.returns-in-Some
returns-in-Some c =
    let rels = map rels_of_item c.args.problem.now.items in
    c.any_key.ensures
    ∙ (λ i. list_any (is_key (map rels_of_item (c.as_slice-in-Some.ensures i)) c.args.s1 c.args.s2) (c.as_slice-in-Some-2.ensures i))
    ∙ sym (first_there rels c.args.s1 c.args.s2 c.in-Some.join.now.on)
    ∙ ap (λ o. is_some (first_key rels c.args.s1 c.args.s2 (on_of o))) (sym (ap option_copied c.in-Some.is) ∙ c.join_of.ensures ∙ ap (λ j. join_of j c.in-By.number) c.as_slice.ensures)
    ∙ ap (λ k. is_some (key_of c.args.problem.now c.args.s1 c.args.s2 k)) (sym c.in-By.is)

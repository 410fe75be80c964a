use Rattle.std.proofs.Common.{◌∙◌, sym, map}
use Rattle.std.specs.List.{list_any}
use Rattle.jp_problem.specs.KeyTests.{is_key}
use Rattle.jp_problem.specs.Problems.{rels_of_item}
use Rattle.jp_problem.specs.StepClauses.{clauses_of_stage}
use Rattle.jp_problem.proofs.KeyLaws.{of_stage, or_first, or_second}
use Rattle.jp_problem.proofs.keys.any_at.Goals as goal

pub returns-then-any_class : goal.returns-then-any_class
returns-then-any_class c =
    let law = of_stage (map rels_of_item c.args.problem.now.items) c.args.s1 c.args.s2 c.args.problem.now c.args.stage.now in
    c.any_class.ensures ∙ or_first _ _ (list_any (is_key (map rels_of_item c.args.problem.now.items) c.args.s1 c.args.s2) (clauses_of_stage c.args.problem.now c.args.stage.now)) law (sym c.any_class.ensures ∙ c.if-any_class.true)

pub returns-else-any_class : goal.returns-else-any_class
returns-else-any_class c =
    let law = of_stage (map rels_of_item c.args.problem.now.items) c.args.s1 c.args.s2 c.args.problem.now c.args.stage.now in
    c.any_clause.ensures ∙ or_second _ _ (list_any (is_key (map rels_of_item c.args.problem.now.items) c.args.s1 c.args.s2) (clauses_of_stage c.args.problem.now c.args.stage.now)) law (sym c.any_class.ensures ∙ c.if-any_class.false)

use Rattle.std.proofs.Common.{◌∙◌, ap, subst, map}
use Rattle.std.specs.Prelude.{Contains}
use Rattle.jp_frame.specs.Methods.{one_row}
use Rattle.jp_joins.specs.Tuples.{maps_of}
use Rattle.jp_plans.proofs.LookupFacts.{all_enough, found_enough}
use Rattle.jp_plans.proofs.SceneFacts.{item_listed}
use Rattle.jp_plans.proofs.scans.tuples_to_test.Goals as goal

pub returns-in_ok-tuples-in-Some : goal.returns-in_ok-tuples-in-Some
returns-in_ok-tuples-in-Some c =
    let found = c.in-Some.ensures in
    found_enough c.args.scene.now c.args.problem.now c.args.item c.requires.item c.in-Some.numbers.now found.0 (subst (λ conds. Contains conds found.0) c.requires.clauses found.1) found.2 (maps_of c.in_ok-tuples-in-Some.tuples.items)
    (c.in_ok-tuples-in-Some.ensures ∙ ap (λ n. map (one_row n c.args.item) c.in-Some.numbers.now) c.len-items.ensures)

pub returns-in_ok-tuples-in-None : goal.returns-in_ok-tuples-in-None
returns-in_ok-tuples-in-None c =
    let maps = maps_of c.in_ok-tuples-in-None.tuples.items in
    all_enough c.args.scene.now c.args.problem.now c.args.item maps
    (item_listed c.args.scene.now c.args.problem.now c.args.item maps c.len-items.result c.rows_of-rows.result c.in_ok-tuples-in-None.ensures c.len-items.ensures c.rows_of-rows.ensures)

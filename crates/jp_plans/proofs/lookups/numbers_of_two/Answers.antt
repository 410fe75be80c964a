use Rattle.jp_plans.proofs.LookupFacts.{found_straight, some_turned}
use Rattle.jp_plans.proofs.lookups.numbers_of_two.Goals as goal

pub returns-in-Some-looked_up : goal.returns-in-Some-looked_up
returns-in-Some-looked_up c = found_straight c.args.scene.now c.args.item c.args.first.now c.args.second.now c.in-Some.left c.in-Some-column_of.right c.in-Some-looked_up.numbers.now c.in-Some-looked_up.ensures c.in-Some.ensures c.in-Some-column_of.ensures

pub returns-in-None : goal.returns-in-None
returns-in-None c = some_turned c.args.scene.now c.args.item c.args.second.now c.args.first.now c.in-Some-column_of.right c.in-Some.left c.in-Some-column_of.ensures c.in-Some.ensures c.looked_up-in-None.result c.looked_up-in-None.ensures

use Rattle.jp_fulls.proofs.ItemFacts.{bare, full_scene, full_source}
use Rattle.jp_fulls.proofs.laws.the_sides_of_a_full_item_can_be_joined.Goals as goal

pub returns-clause-test : goal.returns-clause-test
returns-clause-test c = full_scene

pub returns-clause-rows : goal.returns-clause-rows
returns-clause-rows c = full_source

pub returns-clause-beside : goal.returns-clause-beside
returns-clause-beside c = bare

use Rattle.std.proofs.Common.{drop}
use Rattle.jp_items.specs.Scenes.{run_of}
use Rattle.jp_tree.specs.PlanTrees.{tree_at}
use Rattle.jp_plans.specs.Operators.{IsUnderWay}
use Rattle.jp_plans.proofs.plans.done_all.Given as goal

abbrev pub invariant-operators : goal.invariant-operators
invariant-operators g l = IsUnderWay (run_of l.scene) l.block.problem (tree_at l.scene.prepared.now.pool.nodes l.block.plan) (drop l.operator-index l.operators) l.parts.items

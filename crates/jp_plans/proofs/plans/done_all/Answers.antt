use Rattle.std.proofs.Common.{refl}
use Rattle.jp_tree.specs.PlanTrees.{tree_at}
use Rattle.jp_items.specs.Scenes.{run_of}
use Rattle.jp_plans.proofs.OperatorFacts.{begins, next_can, next_way}
use Rattle.jp_plans.proofs.plans.done_all.Goals as goal

pub operators-init : goal.operators-init
operators-init g c =
    let t = tree_at c.args.scene.now.prepared.now.pool.nodes c.args.block.now.plan in
    begins (run_of c.args.scene.now) c.args.block.now.problem t c.args.operators.now c.new-parts.result.items c.requires.operators c.new-parts.ensures.items

pub do_one-requires : goal.do_one-requires
do_one-requires g c =
    let problem = c.args.block.now.problem in
    let t = tree_at c.args.scene.now.prepared.now.pool.nodes c.args.block.now.plan in
    λ k. (
      (refl, (refl, tt)),
      (
        c.requires.can,
        (
          c.requires.gives,
          (
            c.requires.scene,
            (
              c.requires.indexes,
              next_can problem t c.requires.legal (run_of c.args.scene.now) c.args.operators.now c.operators.operator-index _ c.operators.parts.items c.operators-test.true c.operators.invariant,
            ),
          ),
        ),
      ),
    )

pub operators-preserved : goal.operators-preserved
operators-preserved g c =
    let t = tree_at c.args.scene.now.prepared.now.pool.nodes c.args.block.now.plan in
    next_way (run_of c.args.scene.now) c.args.block.now.problem t c.args.operators.now c.operators.operator-index _ c.operators.parts.items c.do_one.new.parts.items c.operators-test.true c.operators.invariant c.in_ok-do_one.ensures

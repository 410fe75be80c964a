use Rattle.std.proofs.Common.{refl}
use Rattle.jp_plans.proofs.OperatorFacts.{pushed_first}
use Rattle.jp_plans.proofs.SceneFacts.{plan_legal, plan_there}
use Rattle.jp_plans.proofs.plans.plan_tuples.Goals as goal

pub push_operators-requires : goal.push_operators-requires
push_operators-requires g c = plan_there c.args.scene.now c.args.block.now c.requires.scene

pub done_all-requires : goal.done_all-requires
done_all-requires g c =
    let scene = c.args.scene.now in
    let block = c.args.block.now in
    λ k. (
      (refl, (refl, tt)),
      (
        c.requires.can,
        (
          c.requires.gives,
          (
            c.requires.scene,
            (
              c.requires.indexes,
              (
                plan_legal scene block c.requires.scene c.has_children_before.ensures,
                pushed_first c.new-operators.result.items c.push_operators.new.operators.items c.as_slice.result.now _ c.as_slice.ensures.value c.in_ok-push_operators.ensures c.new-operators.ensures.items,
              ),
            ),
          ),
        ),
      ),
    )

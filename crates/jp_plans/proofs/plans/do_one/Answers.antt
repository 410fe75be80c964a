use Rattle.std.proofs.Common.{sym, subst, refl}
use Rattle.jp_items.specs.Scenes.{run_of}
use Rattle.jp_plans.specs.Operators.{AreParts, CanDo, HasSides, done}
use Rattle.jp_plans.proofs.OperatorFacts.{join_done, scan_done, sides_are}
use Rattle.jp_plans.proofs.SceneFacts.{parts_join, parts_listed, parts_run, scan_listed}
use Rattle.jp_plans.proofs.plans.do_one.Goals as goal

pub step_tuples-requires : goal.step_tuples-requires
step_tuples-requires g c =
    let scene = c.args.scene.now in
    let block = c.args.block.now in
    let run = run_of scene in
    let how = c.in-Join.method in
    let kind = c.in-Join.kind in
    let ready : HasSides run block.problem how kind c.args.parts.now.items = subst (λ o. CanDo run block.problem o c.args.parts.now.items) c.in-Join.is c.requires.ready in
    let sides = sides_are run block.problem how kind c.args.parts.now.items c.pop.new.self.items c.pop-in-Join.new.self.items c.in-Some-pop.left c.in-Some.right c.in-Some.ensures.items c.in-Some-pop.ensures.items ready.left ready.right ready.others ready.are in
    λ k. (
      (refl, (refl, tt)),
      (
        c.requires.can,
        (
          c.requires.gives,
          (
            parts_join scene block c.requires.scene how kind ready.left ready.right c.in-Some-pop.left c.in-Some.right sides.0 sides.1 ready.legal,
            parts_run scene block c.requires.scene how kind ready.left ready.right c.in-Some-pop.left c.in-Some.right sides.0 sides.1 ready.legal,
          ),
        ),
      ),
    )

pub returns-in_ok-push-in-Scan : goal.returns-in_ok-push-in-Scan
returns-in_ok-push-in-Scan g c = λ trees are.
    let run = run_of c.args.scene.now in
    let problem = c.args.block.now.problem in
    subst (λ o. AreParts run problem (done o trees) c.push.new.self.items) (sym c.in-Scan.is)
    (scan_done run problem c.in-Scan.item trees c.args.parts.now.items c.push.new.self.items _ c.in_ok-push-in-Scan.ensures.items c.one.ensures (scan_listed c.args.scene.now problem c.in-Scan.item _ c.in_ok-tuples-in-Scan.ensures) are)

pub returns-in_ok-push-in-Join : goal.returns-in_ok-push-in-Join
returns-in_ok-push-in-Join g c = λ trees are.
    let scene = c.args.scene.now in
    let block = c.args.block.now in
    let run = run_of scene in
    let how = c.in-Join.method in
    let kind = c.in-Join.kind in
    let left = c.in-Some-pop.left in
    let right = c.in-Some.right in
    subst (λ o. AreParts run block.problem (done o trees) c.push-in-Join.new.self.items) (sym c.in-Join.is)
    (join_done run block.problem how kind c.args.parts.now.items c.pop.new.self.items c.pop-in-Join.new.self.items left right c.in-Some.ensures.items c.in-Some-pop.ensures.items
    c.push-in-Join.new.self.items _ c.in_ok-push-in-Join.ensures.items c.both.ensures.is
    (λ l r on_left on_right. parts_listed scene block c.requires.scene how kind l r left right on_left on_right _ c.in_ok-tuples-in-Join.ensures) trees are)

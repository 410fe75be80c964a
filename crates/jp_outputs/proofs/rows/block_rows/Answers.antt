use Rattle.std.proofs.Common.{◌≡◌, ◌∙◌, ap, sym, subst, refl, map}
use Rattle.std.specs.Prelude.{IfOk}
use Rattle.jp_problem.specs.Blocks.{output_expr, order_expr}
use Rattle.jp_items.specs.Scenes.{rows_known}
use Rattle.jp_items.specs.declared.scene.Scene.{Scene}
use Rattle.jp_joins.specs.Lending.{numbers_in_all}
use Rattle.jp_joins.specs.Tuples.{map_of, maps_of}
use Rattle.jp_outputs.specs.Exprs.{lent_exprs}
use Rattle.jp_outputs.proofs.SceneFacts.{outputs_evaluable, keys_evaluable, rows_are}
use Rattle.jp_outputs.proofs.rows.block_rows.Goals as goal

pub lines_at-requires : goal.lines_at-requires
lines_at-requires g c κs =
    let step = c.step_in-step.result in
    let scene = c.args.scene.now in
    let block = c.args.block.now in
    let outputs = ap lent_exprs c.in_ok-outputs.ensures.exprs ∙ c.in_ok-exprs.ensures ∙ ap (map output_expr) c.as_slice.ensures in
    let keys = ap lent_exprs c.in_ok-keys.ensures.exprs ∙ c.in_ok-exprs-2.ensures ∙ ap (map order_expr) c.as_slice-2.ensures in (
      (refl, tt),
      (
        c.requires.can,
        (
          λ t sub r gave. subst (λ (s : Scene). IfOk r (λ v. v.items ≡ rows_known s (map_of t) sub)) (sym c.step_in-step.ensures) (c.requires.gives t sub r gave),
          (
            c.in_ok-outputs.ensures.numbers ∙ ap (λ es. numbers_in_all (lent_exprs es)) (sym c.in_ok-outputs.ensures.exprs),
            (
              c.in_ok-keys.ensures.numbers ∙ ap (λ es. numbers_in_all (lent_exprs es)) (sym c.in_ok-keys.ensures.exprs),
              (
                outputs_evaluable step scene block c.step_in-step.ensures c.requires.scene (lent_exprs c.in_ok-outputs.outputs.exprs.items) outputs,
                keys_evaluable step scene block c.step_in-step.ensures c.requires.scene (lent_exprs c.in_ok-keys.keys.exprs.items) keys,
              ),
            ),
          ),
        ),
      ),
    )

pub returns : goal.returns
returns g c =
    rows_are c.step_in-step.result c.args.scene.now c.args.block.now c.step_in-step.ensures c.requires.scene
    (lent_exprs c.in_ok-outputs.outputs.exprs.items) (lent_exprs c.in_ok-keys.keys.exprs.items) c.as_slice-3.result.now (maps_of c.args.tuples.now) c.in_ok-lines.lines c.in_ok-rows.rows.items
    (ap lent_exprs c.in_ok-outputs.ensures.exprs ∙ c.in_ok-exprs.ensures ∙ ap (map output_expr) c.as_slice.ensures)
    (ap lent_exprs c.in_ok-keys.ensures.exprs ∙ c.in_ok-exprs-2.ensures ∙ ap (map order_expr) c.as_slice-2.ensures)
    c.as_slice-3.ensures c.in_ok-lines.ensures c.in_ok-rows.ensures

use Rattle.std.proofs.Common.{◌∙◌, ap₂, refl, subst, sym}
use Rattle.std.specs.Prelude.{All}
use Rattle.jp_indexes.specs.Indexes.{IsIndex}
use Rattle.jp_table.specs.declared.table.Tables.{Tables}
use Rattle.jp_tree.specs.PlanTrees.{tree_at}
use Rattle.jp_tree.specs.declared.prepared.Prepared.{Prepared}
use Rattle.jp_lists.specs.Steps.{tree_list}
use Rattle.jp_exec.proofs.InteriorFacts.{gives_scene, is_scene, run_is}
use Rattle.jp_exec.proofs.interior.tuples_inside.Goals as goal

pub plan_tuples-requires : goal.plan_tuples-requires
plan_tuples-requires g c κs =
    let e = c.scene_in-scene.ensures in (
      (refl, (refl, tt)),
      (
        c.requires.can,
        (
          gives_scene c.args.run.now c.args.around.now c.args.interior.now c.scene_in-scene.result e.prepared e.tables e.around e.sources e.layout e.sublinks _ c.requires.gives,
          (
            is_scene c.args.run.now c.args.around.now c.args.interior.now c.scene_in-scene.result e.prepared e.tables e.around e.sources e.layout e.sublinks c.args.block.now c.requires.inside,
            subst (λ (ts : Tables). All (IsIndex ts.list) c.args.run.now.indexes.now) (sym e.tables) c.requires.inside.is.runs.indexes,
          ),
        ),
      ),
    )

pub returns : goal.returns
returns g c =
    let e = c.scene_in-scene.ensures in
    c.in_ok-tuples.ensures
    ∙ ap₂ (λ r (p : Prepared). tree_list r c.args.block.now.problem (tree_at p.pool.nodes c.args.block.now.plan))
    (run_is c.args.run.now c.args.around.now c.args.interior.now c.scene_in-scene.result e.prepared e.tables e.around e.sources e.layout e.sublinks) e.prepared

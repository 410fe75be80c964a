use Rattle.std.proofs.Common.{◌∙◌, refl}
use Rattle.jp_joins.specs.Tuples.{maps_of}
use Rattle.jp_exec.proofs.InteriorFacts.{gives_scene, is_scene, lines_same, rows_listed}
use Rattle.jp_exec.proofs.interior.rows_inside.Goals as goal

pub block_rows-requires : goal.block_rows-requires
block_rows-requires g c κs =
    let e = c.scene_in-scene.ensures in (
      (refl, tt),
      (
        c.requires.can,
        (
          gives_scene c.args.run.now c.args.around.now c.args.interior.now c.scene_in-scene.result e.prepared e.tables e.around e.sources e.layout e.sublinks _ c.requires.gives,
          is_scene c.args.run.now c.args.around.now c.args.interior.now c.scene_in-scene.result e.prepared e.tables e.around e.sources e.layout e.sublinks c.args.block.now c.requires.inside,
        ),
      ),
    )

pub returns : goal.returns
returns g c number outer is =
    let e = c.scene_in-scene.ensures in
    c.in_ok-rows.ensures
    ∙ lines_same c.args.run.now c.args.around.now c.args.interior.now c.scene_in-scene.result e.prepared e.tables e.around e.sources e.layout e.sublinks c.args.block.now (maps_of c.args.tuples.now)
    ∙ rows_listed c.args.run.now number outer c.args.block.now c.args.around.now c.args.interior.now is (maps_of c.args.tuples.now) c.requires.tuples

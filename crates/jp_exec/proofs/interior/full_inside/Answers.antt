use Rattle.std.proofs.Common.{refl}
use Rattle.jp_joins.specs.Tuples.{maps_of}
use Rattle.jp_exec.proofs.InteriorFacts.{full_listed, gives_scene, is_full_scene}
use Rattle.jp_exec.proofs.interior.full_inside.Goals as goal

pub full_tuples-requires : goal.full_tuples-requires
full_tuples-requires g c κs =
    let e = c.scene_in-scene.ensures in
    let some = c.requires.inside in (
      (refl, (refl, tt)),
      (
        c.requires.can,
        (
          gives_scene c.args.run.now c.args.around.now c.args.interior.now c.scene_in-scene.result e.prepared e.tables e.around e.sources e.layout e.sublinks _ c.requires.gives,
          is_full_scene c.args.run.now c.args.around.now c.args.interior.now c.scene_in-scene.result e.prepared e.tables e.around e.sources e.layout e.sublinks some.number some.outer some.block some.item some.left
              some.right c.args.on.now some.is,
        ),
      ),
    )

pub returns : goal.returns
returns g c number outer block item left right is =
    let e = c.scene_in-scene.ensures in
    full_listed c.args.run.now c.args.around.now c.args.interior.now c.scene_in-scene.result e.prepared e.tables e.around e.sources e.layout e.sublinks number outer block item left right c.args.on.now is
    (maps_of c.in_ok-tuples.tuples.matched.items) (maps_of c.in_ok-tuples.tuples.alone.items) c.in_ok-tuples.ensures.matched c.in_ok-tuples.ensures.alone

use Rattle.std.proofs.Common.{◌∙◌, ap, refl}
use Rattle.jp_query.specs.declared.JoinKind.TheVariants as join
use Rattle.jp_joins.specs.Tuples.{maps_of}
use Rattle.jp_items.specs.Scenes.{meant_by}
use Rattle.jp_fulls.proofs.FullFacts.{alone_here, can_match_here, can_reject_here, gives_here, matched_here}
use Rattle.jp_fulls.proofs.fulls.full_tuples.Goals as goal

pub nest-requires : goal.nest-requires
nest-requires g c κs = (
  (refl, tt),
  (
    c.requires.can,
    (
      gives_here c.args.scene.now c.args.on.now c.requires.full join.Left (meant_by c.full_step-left.result) _ c.full_step-left.ensures c.requires.gives,
      can_match_here c.args.scene.now c.args.on.now c.requires.full (meant_by c.full_step-left.result) (maps_of c.as_slice.result.now) (maps_of c.as_slice-2.result.now)
          c.full_step-left.ensures (ap maps_of c.as_slice.ensures.value ∙ c.in_ok-lefts.ensures) (ap maps_of c.as_slice-2.ensures.value ∙ c.in_ok-rights.ensures),
    ),
  ),
)

pub nest-requires-2 : goal.nest-requires-2
nest-requires-2 g c κs = (
  (refl, tt),
  (
    c.requires.can,
    (
      gives_here c.args.scene.now c.args.on.now c.requires.full join.Anti (meant_by c.full_step-anti.result) _ c.full_step-anti.ensures c.requires.gives,
      can_reject_here c.args.scene.now c.args.on.now c.requires.full (meant_by c.full_step-anti.result) (maps_of c.as_slice-3.result.now) (maps_of c.as_slice-4.result.now)
          c.full_step-anti.ensures (ap maps_of c.as_slice-3.ensures.value ∙ c.in_ok-rights.ensures) (ap maps_of c.as_slice-4.ensures.value ∙ c.in_ok-lefts.ensures),
    ),
  ),
)

pub returns-clause-matched : goal.returns-clause-matched
returns-clause-matched g c =
    matched_here c.args.scene.now c.args.on.now c.requires.full (meant_by c.full_step-left.result) (maps_of c.as_slice.result.now) (maps_of c.as_slice-2.result.now) (maps_of c.in_ok-matched.matched.items)
    c.full_step-left.ensures (ap maps_of c.as_slice.ensures.value ∙ c.in_ok-lefts.ensures) (ap maps_of c.as_slice-2.ensures.value ∙ c.in_ok-rights.ensures) c.in_ok-matched.ensures

pub returns-clause-alone : goal.returns-clause-alone
returns-clause-alone g c =
    alone_here c.args.scene.now c.args.on.now c.requires.full (meant_by c.full_step-anti.result) (maps_of c.as_slice-3.result.now) (maps_of c.as_slice-4.result.now) (maps_of c.in_ok-alone.alone.items)
    c.full_step-anti.ensures (ap maps_of c.as_slice-3.ensures.value ∙ c.in_ok-rights.ensures) (ap maps_of c.as_slice-4.ensures.value ∙ c.in_ok-lefts.ensures) c.in_ok-alone.ensures

use Rattle.std.proofs.Common.{◌∙◌, sym, ap, refl, filter}
use Rattle.std.specs.List.{flat_map}
use Rattle.std.proofs.lemmas.List.{take_all}
use Rattle.jp_joins.specs.Meant.{is_match, left_gives, list_holds}
use Rattle.jp_joins.specs.Tuples.{maps_of}
use Rattle.jp_joins.specs.Working.{is_kept}
use Rattle.jp_joins.proofs.JoinFacts.{can_keep, tries_unknown}
use Rattle.jp_joins.proofs.StepFacts.{kept_is}
use Rattle.jp_joins.proofs.nesting.tried_all.Goals as goal

pub add_left-requires : goal.add_left-requires
add_left-requires g c =
    let meant = g.E.TupleEnv.meant c.args.work.now.env.now in
    λ k. (
      (refl, tt),
      (
        c.requires.can,
        (
          c.requires.ready,
          (
            c.requires.join.kind,
            (
              can_keep meant c.args.work.now.kind c.args.lefts.now c.args.rights.now c.requires.join c.lefts.left-index _ c.lefts-test.true,
              tries_unknown meant c.args.work.now.kind c.args.lefts.now c.args.rights.now c.requires.join c.args.work.now.known c.requires.none_known c.lefts.left-index _ c.lefts-test.true,
            ),
          ),
        ),
      ),
    )

pub returns : goal.returns
returns g c =
    let meant = g.E.TupleEnv.meant c.args.work.now.env.now in
    c.lefts.invariant ∙ ap (λ ts. filter (is_kept meant) (flat_map (left_gives meant.kind (is_match meant) (maps_of c.args.rights.now)) (maps_of ts))) (take_all c.lefts.left-index c.args.lefts.now c.lefts-test.false)
    ∙ sym (kept_is meant.kind (list_holds meant meant.filters) (flat_map (left_gives meant.kind (is_match meant) (maps_of c.args.rights.now)) (maps_of c.args.lefts.now)))

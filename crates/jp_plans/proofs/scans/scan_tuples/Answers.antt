use Rattle.std.proofs.Common.{◌≡◌, ◌∙◌, ap, sym, subst, subst₂, refl, []}
use Rattle.std.specs.Prelude.{IfOk}
use Rattle.jp_problem.specs.declared.types.Step.TheVariants as step
use Rattle.jp_joins.specs.Conditions.{CanJoin}
use Rattle.jp_joins.specs.Meant.{plain_list}
use Rattle.jp_joins.specs.Tuples.{map_of, maps_of}
use Rattle.jp_items.specs.Scenes.{rows_known}
use Rattle.jp_plans.proofs.SceneFacts.{can_scan, empty_list, scan_is, scan_meant, untested_scan}
use Rattle.jp_plans.proofs.scans.scan_tuples.Goals as goal

pub tuples_to_test-requires : goal.tuples_to_test-requires
tuples_to_test-requires g c = record { indexes = c.requires.indexes; item = c.requires.item; clauses = c.items.ensures ∙ c.in_ok-clauses.ensures }

pub returns-then-is_empty : goal.returns-then-is_empty
returns-then-is_empty g c =
    untested_scan c.args.scene.now c.args.block.now c.requires.scene c.args.item (maps_of c.in_ok-tuples.tuples.items) c.in_ok-tuples.ensures
    (sym (c.items-2.ensures ∙ c.in_ok-clauses.ensures) ∙ empty_list c.items-2.result.now (sym c.if-is_empty.true ∙ c.is_empty.ensures))

pub nest-requires : goal.nest-requires
nest-requires g c =
    let scene = c.args.scene.now in
    let problem = c.args.block.now.problem in
    let meant = scan_meant scene c.lent_scene.result problem c.args.item c.items-3.result.now c.lent_scene.ensures (c.items-3.ensures ∙ c.in_ok-clauses.ensures) in
    λ k. (
      (refl, tt),
      (
        c.requires.can,
        (
          λ t sub r ran. subst (λ s. IfOk r (λ v. v.items ≡ rows_known s (map_of t) sub)) (sym c.lent_scene.ensures) (c.requires.gives t sub r ran),
          subst₂ (λ m ms. CanJoin m (step.By 0) ms []) (sym meant) (sym (ap maps_of c.as_slice.ensures.value)) (can_scan scene c.args.block.now c.requires.scene c.args.item (maps_of c.in_ok-tuples.tuples.items) c.in_ok-tuples.ensures 0),
        ),
      ),
    )

pub returns : goal.returns
returns g c =
    let scene = c.args.scene.now in
    let problem = c.args.block.now.problem in
    let meant = scan_meant scene c.lent_scene.result problem c.args.item c.items-3.result.now c.lent_scene.ensures (c.items-3.ensures ∙ c.in_ok-clauses.ensures) in
    c.in_ok-list.ensures ∙ (λ i. plain_list (meant i) (maps_of (c.as_slice.ensures.value i)) []) ∙ scan_is scene c.args.block.now c.requires.scene c.args.item (maps_of c.in_ok-tuples.tuples.items) c.in_ok-tuples.ensures

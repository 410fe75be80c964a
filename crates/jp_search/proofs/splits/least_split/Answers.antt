use Rattle.std.proofs.Common.{◌∙◌, sym, ap, subst, ◌<◌, length, arith}
use Rattle.std.specs.Prelude.{bit_or}
use Rattle.jp_problem.specs.Legal.{Apart}
use Rattle.jp_search.specs.Joins.{facts_of}
use Rattle.jp_search.specs.Splits.{may_have_key}
use Rattle.jp_search.proofs.CountLaws.{place_below, next_place}
use Rattle.jp_search.proofs.PartLaws.{part_and_rest, part_apart, not_zero}
use Rattle.jp_search.proofs.SplitLaws.{none_yet, further, rest_there, rest_told}
use Rattle.jp_search.proofs.splits.least_split.Goals as goal

pub parts-init : goal.parts-init
parts-init g c = record {
  within = c.below-left.ensures.within;
  below = c.below-left.ensures.below;
  least = none_yet c.args.problem.now c.args.table.now c.args.set c.below-left.result c.below-left.ensures;
  steps = omega (arith, place_below (length c.args.problem.now.items) c.args.set c.below-left.result);
}

pub split-requires-clause-right_there : goal.split-requires-clause-right_there
split-requires-clause-right_there g c =
    rest_there c.args.problem.now c.args.table.now c.args.set c.parts.left c.without-right.result c.requires.ready (not_zero c.parts.left c.is_empty.result c.is_empty.ensures c.parts-test.true) c.parts.invariant.within c.without-right.ensures

pub split-requires-clause-right_told : goal.split-requires-clause-right_told
split-requires-clause-right_told g c =
    rest_told c.args.problem.now c.args.table.now c.args.set c.parts.left c.without-right.result c.requires.ready (not_zero c.parts.left c.is_empty.result c.is_empty.ensures c.parts-test.true) c.parts.invariant.within c.without-right.ensures

pub parts-preserved : goal.parts-preserved
parts-preserved g c =
    let next = c.below-left-in-parts.ensures in
    record {
      within = next.within;
      below = omega (arith, next.below, c.parts.invariant.below);
      least = further c.args.problem.now c.args.table.now c.args.set c.parts.left c.below-left-in-parts.result (not_zero c.parts.left c.is_empty.result c.is_empty.ensures c.parts-test.true) c.parts.invariant.within c.parts.invariant.below next c.without-right.result c.parts.least c.split.result c.lesser-least.result c.parts.invariant.least c.without-right.ensures c.split.ensures c.lesser-least.ensures;
      steps = omega (arith, c.count.ensures, c.parts.invariant.steps, next_place (length c.args.problem.now.items) c.args.set c.parts.left c.below-left-in-parts.result (subst (λ n. c.args.set < n) c.requires.ready.size c.requires.ready.there) c.parts.invariant.within c.parts.invariant.below next.within next.below);
    }

pub split-requires-clause-apart : goal.split-requires-clause-apart
split-requires-clause-apart g c = subst (Apart c.parts.left) (sym c.without-right.ensures) (part_apart c.args.set c.parts.left)

pub split-requires-clause-facts : goal.split-requires-clause-facts
split-requires-clause-facts g c =
    c.requires.facts ∙ ap (facts_of c.args.problem.now.joins) (sym (part_and_rest c.args.set c.parts.left c.parts.invariant.within) ∙ ap (bit_or c.parts.left) (sym c.without-right.ensures))

pub split-requires-clause-keys : goal.split-requires-clause-keys
split-requires-clause-keys g c =
    c.may_have_key-keys.ensures ∙ ap (may_have_key c.args.problem.now) (sym (part_and_rest c.args.set c.parts.left c.parts.invariant.within) ∙ ap (bit_or c.parts.left) (sym c.without-right.ensures))

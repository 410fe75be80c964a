use Rattle.std.proofs.Common.{◌≡◌, ◌∙◌, ap, ◌<◌, length, arith}
use Rattle.jp_problem.specs.MinimumSets.{with_sets}
use Rattle.jp_special.proofs.LoopLaws.{joins_further}
use Rattle.jp_special.proofs.minimum.specials_in.Goals as goal

pub joins-preserved : goal.joins-preserved
joins-preserved c =
    let low : c.joins.s-index < length c.as_slice-s-items.result.now = omega arith in
    let special : c.in_ok-special.special ≡ with_sets c.args.outline.now c.joins.joins.items c.s-item.result = c.in_ok-special.ensures ∙ ap (λ js. with_sets c.args.outline.now js c.s-item.result) c.as_slice.ensures.value in
    joins_further c.args.outline.now c.as_slice-s-items.result.now c.joins.s-index c.s-item.result c.joins.joins.items c.push.new.self.items c.in_ok-special.special low c.s-item.is c.joins.invariant special c.in_ok-push.ensures.items

use Rattle.std.proofs.Common.{◌≡◌, ◌∙◌, ap, ap₂, arith, ◌<◌, ◌+◌, length, get_or, drop}
use Rattle.std.specs.Prelude.{bit_or}
use Rattle.jp_special.proofs.LoopLaws.{items_further, items_ended}
use Rattle.jp_problem.specs.Sets.{meets, set_if}
use Rattle.jp_query.specs.Refs.{only}
use Rattle.jp_problem.specs.Blocks.{items_from}
use Rattle.jp_special.proofs.conditions.items_with.Goals as goal

pub items-preserved : goal.items-preserved
items-preserved c =
    let low : c.items.i < length c.args.rels.now = omega arith in
    let here : c.set_if.result ≡ set_if (meets (get_or c.args.rels.now c.items.i c.index-rels-i.result) c.args.set) (only c.items.i) =
    c.set_if.ensures ∙ ap₂ set_if (c.meets.ensures ∙ ap (λ r. meets r c.args.set) c.index-rels-i.is) c.one.ensures
    in
    let more = items_further c.args.rels.now c.args.set c.items.i c.items.found c.set_if.result c.index-rels-i.result low here in
    ap (λ n. bit_or n (items_from (c.items.i + 1) (drop (c.items.i + 1) c.args.rels.now) c.args.set)) c.both-found.ensures.is ∙ more ∙ c.items.invariant

pub returns : goal.returns
returns c = items_ended c.args.rels.now c.args.set c.items.i c.items.found (items_from 0 c.args.rels.now c.args.set) (omega arith) c.items.invariant

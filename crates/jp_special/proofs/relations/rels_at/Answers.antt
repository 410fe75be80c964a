use Rattle.std.proofs.Common.{◌≡◌, ◌∙◌, ap, arith, ◌<◌, length, get_or, drop, ◌+◌}
use Rattle.std.specs.Prelude.{bit_or}
use Rattle.jp_special.proofs.LoopLaws.{rels_further, rels_ended}
use Rattle.jp_query.specs.Meaning.{has}
use Rattle.jp_problem.specs.Sets.{set_if}
use Rattle.jp_problem.specs.Blocks.{rels_from}
use Rattle.jp_special.proofs.relations.rels_at.Goals as goal

pub items-preserved : goal.items-preserved
items-preserved c =
    let low : c.items.i < length c.args.rels.now = omega arith in
    let one : c.set_if.result ≡ set_if (has c.args.set c.items.i) (get_or c.args.rels.now c.items.i c.index-rels-i.result) = cc in
    let more = rels_further c.args.rels.now c.args.set c.items.i c.items.found c.set_if.result c.index-rels-i.result low one in
    ap (λ n. bit_or n (rels_from (c.items.i + 1) (drop (c.items.i + 1) c.args.rels.now) c.args.set)) c.both-found.ensures.is ∙ more ∙ c.items.invariant

pub returns : goal.returns
returns c = rels_ended c.args.rels.now c.args.set c.items.i c.items.found (rels_from 0 c.args.rels.now c.args.set) (omega arith) c.items.invariant

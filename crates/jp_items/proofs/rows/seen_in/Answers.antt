use Rattle.std.proofs.Common.{◌≡◌, ◌∙◌, sym, rules}
use Rattle.jp_items.proofs.RowFacts.{no_part, passed_part, this_part}
use Rattle.jp_items.proofs.rows.seen_in.Goals as goal

pub parts-preserved : goal.parts-preserved
parts-preserved c = sym (passed_part c.args.tables.now.list c.args.parts.now c.args.numbers.now c.parts.at c.index-parts-at.result c.args.rel (search rules) (search rules) c.if-parts-at.false) ∙ c.parts.invariant

pub returns : goal.returns
returns c = no_part c.args.tables.now.list c.args.parts.now c.args.numbers.now c.parts.at c.args.rel (search rules) ∙ c.parts.invariant

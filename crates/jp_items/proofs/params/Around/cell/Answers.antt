use Rattle.std.proofs.Common.{◌∙◌, sym, rules}
use Rattle.jp_items.proofs.ParamFacts.{absent, there}
use Rattle.jp_items.proofs.params.Around.cell.Goals as goal

pub returns-then-not-has_relation : goal.returns-then-not-has_relation
returns-then-not-has_relation c = absent c.args.self.now.cells.now c.args.self.now.present c.args.rel c.args.col (sym c.if-not-has_relation.ensures)

pub returns : goal.returns
returns c = there c.args.self.now.cells.now c.args.self.now.present c.args.rel c.args.col _ (search rules) (sym c.if-not-has_relation.ensures) c.given.ensures

use Rattle.std.proofs.Common.{◌∙◌, ap, drop}
use Rattle.jp_cursor.proofs.Behind.{seen_behind, fit_behind}
use Rattle.jp_cursor.proofs.cursor.Cursor.step.Goals as goal

pub invariant_of-self : goal.invariant_of-self
invariant_of-self c = (c.first-self-inside.ensures, fit_behind c.self.inside.tokens.now c.behind-rest.result.now c.behind-rest.ensures c.self.invariant.1)

pub returns : goal.returns
returns c = seen_behind c.self.inside.tokens.now c.behind-rest.result.now c.behind-rest.ensures ∙ ap (drop 1) c.self.view_is

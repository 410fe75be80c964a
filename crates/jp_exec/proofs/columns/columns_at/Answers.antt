use Rattle.std.proofs.Common.{◌∙◌, Some, ap, sym}
use Rattle.jp_exec.proofs.CycleFacts.{map_at}
use Rattle.jp_exec.proofs.columns.columns_at.Goals as goal

pub returns : goal.returns
returns c = map_at c.args.columns.now c.args.number c.index-columns-number.result c.requires c.index-columns-number.is ∙ ap Some (sym c.as_slice.ensures.value)

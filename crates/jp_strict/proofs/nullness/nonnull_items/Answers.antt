use Rattle.std.proofs.Common.{◌∙◌, ap}
use Rattle.jp_strict.specs.declared.absence.Surely.{Surely}
use Rattle.jp_strict.proofs.CasesAt.{nonnull_cases}
use Rattle.jp_strict.proofs.nullness.nonnull_items.Goals as goal

pub returns : goal.returns
returns c = c.common.ensures ∙ nonnull_cases c.all_relations-all.result c.surely-tests.result.not_true c.args.expr.now c.all_relations-all.ensures (ap (λ (s : Surely). s.not_true) c.surely-tests.ensures)

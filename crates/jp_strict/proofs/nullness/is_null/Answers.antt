use Rattle.std.proofs.Common.{◌∙◌, ap}
use Rattle.jp_query.specs.Meaning.{has}
use Rattle.jp_query.specs.Nullness as nullness
use Rattle.jp_strict.specs.declared.absence.Surely.{Surely}
use Rattle.jp_strict.proofs.CasesAt.{relations_told}
use Rattle.jp_strict.proofs.SharedSets.{is_member}
use Rattle.jp_strict.proofs.nullness.is_null.Goals as goal

pub returns : goal.returns
returns c = is_member c.surely-tests.result.null 0 c.has.result c.has.ensures ∙ ap (λ (s : Surely). has s.null 0) c.surely-tests.ensures ∙ ap (λ (s : nullness.Surely). s.null) (relations_told c.args.gone c.args.expr.now)

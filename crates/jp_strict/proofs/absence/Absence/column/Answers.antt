use Rattle.std.proofs.Common.{◌∙◌, ap}
use Rattle.jp_strict.specs.Cases.{in_case}
use Rattle.jp_strict.proofs.SharedSets.{meets_one}
use Rattle.jp_strict.proofs.absence.Absence.column.Goals as goal

pub returns-in-Relations : goal.returns-in-Relations
returns-in-Relations c = rw c.in-Relations.is (c.case_if.ensures ∙ ap in_case (meets_one c.in-Relations.gone c.args.rel c.relation.result c.meets.result c.meets.ensures.below.0 c.relation.ensures c.meets.ensures.members))

use Rattle.std.proofs.Common.{◌∙◌, ap}
use Rattle.jp_strict.specs.Cases.{in_case}
use Rattle.jp_strict.proofs.SharedSets.{is_within}
use Rattle.jp_strict.proofs.absence.Absence.relations.Goals as goal

pub returns-in-Relations : goal.returns-in-Relations
returns-in-Relations c = rw c.in-Relations.is (c.case_if.ensures ∙ ap in_case (is_within c.args.rels c.in-Relations.gone c.within.result c.within.ensures))

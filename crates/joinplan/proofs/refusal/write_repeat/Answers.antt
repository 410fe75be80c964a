use Rattle.std.proofs.Common.{◌++◌, ap₂}
use Rattle.std.specs.Prelude.{codes}
use Rattle.joinplan.specs.Refusals.{data_line_start}
use Rattle.joinplan.proofs.LineLemmas.{line_is}
use Rattle.joinplan.proofs.refusal.write_repeat.Goals as goal

pub returns-clause-line : goal.returns-clause-line
returns-clause-line g c =
    let start = data_line_start c.args.table.now in
    line_is _ _ _ _ _ _ (ap₂ (λ earlier at. start ++ codes "records " ++ earlier ++ codes " and " ++ at ++ codes " repeat a key" ++ codes "\n") c.format.ensures.text c.format-2.ensures.text) c.write_pieces.ensures.line

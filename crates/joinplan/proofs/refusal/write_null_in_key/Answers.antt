use Rattle.std.proofs.Common.{◌++◌, ap}
use Rattle.std.specs.Prelude.{codes}
use Rattle.joinplan.specs.Refusals.{data_line_start}
use Rattle.joinplan.proofs.LineLemmas.{line_is}
use Rattle.joinplan.proofs.refusal.write_null_in_key.Goals as goal

pub returns-clause-line : goal.returns-clause-line
returns-clause-line g c =
    let start = data_line_start c.args.table.now in
    line_is _ _ _ _ _ _ (ap (λ at. start ++ codes "record " ++ at ++ codes ": NULL in a key" ++ codes "\n") c.format.ensures.text) c.write_pieces.ensures.line

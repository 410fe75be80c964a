use Rattle.std.proofs.Common.{◌++◌, ap}
use Rattle.std.specs.Prelude.{codes}
use Rattle.joinplan.proofs.LineLemmas.{line_is}
use Rattle.joinplan.proofs.refusal.write_depth_line.Goals as goal

pub returns-clause-line : goal.returns-clause-line
returns-clause-line g c = line_is _ _ _ _ _ _ (ap (λ at. codes "limit: nesting over 64 at byte " ++ at ++ codes "\n") c.format.ensures.text) c.write_pieces.ensures.line

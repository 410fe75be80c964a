use Rattle.std.proofs.Common.{◌++◌, ap₂}
use Rattle.std.specs.Prelude.{codes}
use Rattle.joinplan.proofs.LineLemmas.{line_is}
use Rattle.joinplan.proofs.refusal.write_statement_line.Goals as goal

pub returns-clause-line : goal.returns-clause-line
returns-clause-line g c = line_is _ _ _ _ _ _ (ap₂ (λ what at. codes "statement: " ++ what ++ codes " at byte " ++ at ++ codes "\n") c.fault_words.ensures c.format.ensures.text) c.write_pieces.ensures.line

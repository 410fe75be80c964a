use Rattle.std.proofs.Common.{◌++◌, ◌∙◌, ap, sym}
use Rattle.std.specs.Prelude.{codes}
use Rattle.joinplan.specs.Refusals.{line_of}
use Rattle.joinplan.proofs.LineLemmas.{line_is}
use Rattle.joinplan.proofs.refusal.Refusal.write_line.Goals as goal

pub returns-in-FileTooLarge-clause-line : goal.returns-in-FileTooLarge-clause-line
returns-in-FileTooLarge-clause-line g c = line_is _ _ _ _ _ _ (ap (λ name. codes "limit: file " ++ name ++ codes " over 67108864 bytes\n") c.as_str-in-FileTooLarge.ensures ∙ ap line_of (sym c.in-FileTooLarge.is)) c.write_pieces-in-FileTooLarge.ensures.line

pub returns-in-StatementTooLarge-clause-line : goal.returns-in-StatementTooLarge-clause-line
returns-in-StatementTooLarge-clause-line g c = line_is _ _ _ _ _ _ (ap line_of (sym c.in-StatementTooLarge.is)) c.write_pieces-in-StatementTooLarge.ensures.line

pub returns-in-ReadFault-clause-line : goal.returns-in-ReadFault-clause-line
returns-in-ReadFault-clause-line g c = line_is _ _ _ _ _ _ (ap (λ name. codes "read fault: " ++ name ++ codes "\n") c.as_str-in-ReadFault.ensures ∙ ap line_of (sym c.in-ReadFault.is)) c.write_pieces-in-ReadFault.ensures.line

pub returns-in-WriteFault-clause-line : goal.returns-in-WriteFault-clause-line
returns-in-WriteFault-clause-line g c = line_is _ _ _ _ _ _ (ap line_of (sym c.in-WriteFault.is)) c.write_pieces-in-WriteFault.ensures.line

pub returns-in-Memory-clause-line : goal.returns-in-Memory-clause-line
returns-in-Memory-clause-line g c = line_is _ _ _ _ _ _ (ap line_of (sym c.in-Memory.is)) c.write_pieces-in-Memory.ensures.line

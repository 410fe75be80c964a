use Rattle.joinplan.proofs.refusal.write_data.Goals as goal

pub returns-clause-line : goal.returns-clause-line
returns-clause-line g c = c.write_pieces.ensures.line

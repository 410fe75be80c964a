use Rattle.std.proofs.Common.{◌++◌, ◌∙◌, ap, append_assoc}
use Rattle.std.specs.Prelude.{codes}
use Rattle.joinplan.specs.Refusals.{catalogue_line}
use Rattle.joinplan.proofs.LineLemmas.{line_is}
use Rattle.joinplan.proofs.refusal.write_catalogue_line.Goals as goal

pub returns-clause-line : goal.returns-clause-line
returns-clause-line g c =
    let fault = c.catalogue_fault.result in
    line_is _ _ _ _ _ _ (ap (λ line. line ++ codes "\n") (append_assoc (codes "catalogue: ") fault.0.now fault.1.now) ∙ ap catalogue_line c.catalogue_fault.ensures) c.write_pieces.ensures.line

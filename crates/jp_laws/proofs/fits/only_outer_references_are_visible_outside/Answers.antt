use Rattle.jp_laws.proofs.FitLaws.{outer_suffice}
use Rattle.jp_laws.proofs.fits.only_outer_references_are_visible_outside.Goals as goal

pub returns : goal.returns
returns c = outer_suffice

use Rattle.jp_laws.proofs.LentLaws.{in_place_gives_lent}
use Rattle.jp_laws.proofs.fits.rows_of_sublinks_fit_when_lent.Goals as goal

pub returns : goal.returns
returns c = in_place_gives_lent

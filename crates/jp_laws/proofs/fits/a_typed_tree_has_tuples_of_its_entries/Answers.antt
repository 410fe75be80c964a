use Rattle.jp_laws.proofs.FitLaws.{tuples_fit, cells_above}
use Rattle.jp_laws.proofs.fits.a_typed_tree_has_tuples_of_its_entries.Goals as goal

pub returns : goal.returns
returns c = record { tuples = tuples_fit; cells = cells_above }

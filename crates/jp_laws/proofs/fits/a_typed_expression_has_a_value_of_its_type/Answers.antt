use Rattle.jp_laws.proofs.FitLaws.{with_lent, with_sublinks, by_cells}
use Rattle.jp_laws.proofs.fits.a_typed_expression_has_a_value_of_its_type.Goals as goal

pub returns : goal.returns
returns c = record { given = with_lent; in_place = with_sublinks; by_cells = by_cells }

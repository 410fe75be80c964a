use Rattle.jp_laws.proofs.FitLaws.{rows_fit, statement_rows}
use Rattle.jp_laws.proofs.fits.a_typed_query_has_rows_of_its_outputs.Goals as goal

pub returns : goal.returns
returns c = record { rows = rows_fit; statement = statement_rows }

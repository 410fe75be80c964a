use Rattle.jp_laws.proofs.FitLaws.{columns_below, places_below, columns_below_in, places_below_in}
use Rattle.jp_laws.proofs.referred.typed_columns_are_among_the_references.Goals as goal

pub returns : goal.returns
returns c = record { columns = columns_below; placeholders = places_below; query_columns = columns_below_in; query_placeholders = places_below_in }

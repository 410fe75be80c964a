use Rattle.jp_laws.proofs.PlaceLaws.{place_present}
use Rattle.jp_laws.proofs.placeholders.placeholder_has_its_value_where_present.Goals as goal

pub returns : goal.returns
returns c = place_present

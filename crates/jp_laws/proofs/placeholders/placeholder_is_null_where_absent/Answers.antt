use Rattle.jp_laws.proofs.PlaceLaws.{place_absent}
use Rattle.jp_laws.proofs.placeholders.placeholder_is_null_where_absent.Goals as goal

pub returns : goal.returns
returns c = place_absent

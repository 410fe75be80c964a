use Rattle.jp_laws.proofs.GivenLaws.{given_is_in_place}
use Rattle.jp_laws.proofs.given_rows.given_rows_give_the_value_in_place.Goals as goal

pub returns : goal.returns
returns c = given_is_in_place

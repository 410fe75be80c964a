use Rattle.jp_laws.proofs.PresenceLaws.{some_present}
use Rattle.jp_laws.proofs.presence.each_tuple_has_a_relation_present.Goals as goal

pub returns : goal.returns
returns c = some_present

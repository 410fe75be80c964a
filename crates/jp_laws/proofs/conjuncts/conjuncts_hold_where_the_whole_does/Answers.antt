use Rattle.jp_laws.proofs.ConjunctLaws.{conjuncts_hold, conjuncts_hold_given, lists_hold, none_is_and}
use Rattle.jp_laws.proofs.conjuncts.conjuncts_hold_where_the_whole_does.Goals as goal

pub returns : goal.returns
returns c = record { value = conjuncts_hold; given = conjuncts_hold_given; list = lists_hold; no_and = none_is_and }

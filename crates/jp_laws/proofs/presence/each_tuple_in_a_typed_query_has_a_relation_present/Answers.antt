use Rattle.jp_laws.proofs.RootedLaws.{own_inside, rooted_inside, present_inside}
use Rattle.jp_laws.proofs.presence.each_tuple_in_a_typed_query_has_a_relation_present.Goals as goal

pub returns : goal.returns
returns c = record { own = own_inside; rooted = rooted_inside; present = present_inside }

use Rattle.jp_fulls.proofs.FullFacts.{full_is}
use Rattle.jp_fulls.proofs.laws.full_rows_are_those_of_a_full_join.Goals as goal

pub returns : goal.returns
returns c scene on left_rels right_rels lefts rights full layout sources around_lefts around_rights = full_is scene on full left_rels right_rels lefts rights layout sources around_lefts around_rights

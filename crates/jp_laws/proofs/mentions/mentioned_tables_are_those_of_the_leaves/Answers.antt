use Rattle.jp_query.specs.Parts.{tables_in}
use Rattle.jp_laws.proofs.MentionLaws.{same_members, none_twice}
use Rattle.jp_laws.proofs.mentions.mentioned_tables_are_those_of_the_leaves.Goals as goal

pub returns : goal.returns
returns c = record { same = λ query. same_members (tables_in query); once = λ query. none_twice (tables_in query) }

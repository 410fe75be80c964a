use Rattle.jp_laws.proofs.StandingLaws.{output_stands, condition_stands, order_stands}
use Rattle.jp_laws.proofs.equality.what_a_query_lists_stands_in_it.Goals as goal

pub returns : goal.returns
returns c = record { outputs = output_stands; conditions = condition_stands; order = order_stands }

use Rattle.jp_laws.proofs.BagLaws.{exists_bag, in_bag}
use Rattle.jp_laws.proofs.bags.exists_and_in_see_rows_as_a_bag.Goals as goal

pub returns : goal.returns
returns c = record { exists = exists_bag; in_rows = in_bag }

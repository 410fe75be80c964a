use Rattle.jp_table.proofs.JudgingFacts.{keys_first}
use Rattle.jp_table.proofs.keys.refusal_of_keys.Goals as goal

pub returns : goal.returns
returns c = rw (c.first_of-2.ensures, c.first_of.ensures, c.first_null-null.ensures, c.in_ok-primary.ensures, c.in_ok-other.ensures) (keys_first c.args.keys.now c.args.table.now)

use Rattle.jp_laws.proofs.ValueLaws.{lines_weak, key_sql}
use Rattle.jp_laws.proofs.sorts.keys_order_all_lines.Goals as goal

pub returns : goal.returns
returns c = record { weak = lines_weak; values = key_sql }

use Rattle.jp_conditions.proofs.MadeLaws.{block_conditions, block_derived_conditions, made_conditions}
use Rattle.jp_conditions.proofs.conditions.a_block_meets_the_conditions.Goals as goal

pub returns : goal.returns
returns c = record { plain = block_conditions; with_classes = block_derived_conditions; made = made_conditions }

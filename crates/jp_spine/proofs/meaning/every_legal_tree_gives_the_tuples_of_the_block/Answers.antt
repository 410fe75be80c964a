use Rattle.jp_spine.proofs.TupleLaws.{rows_meant, orders_meant}
use Rattle.jp_spine.proofs.meaning.every_legal_tree_gives_the_tuples_of_the_block.Goals as goal

pub returns : goal.returns
returns c = record {
  rows = λ tables query items sources outer block are clear hold. rows_meant tables query items sources outer block are clear hold;
  every_order = λ tables query items sources outer tree run block are clear hold. orders_meant tables query items sources outer block are clear hold tree run;
}

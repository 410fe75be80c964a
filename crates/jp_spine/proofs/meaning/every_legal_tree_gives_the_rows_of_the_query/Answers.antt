use Rattle.jp_spine.proofs.TupleLaws.{orders_rows, orders_sorted}
use Rattle.jp_spine.proofs.meaning.every_legal_tree_gives_the_rows_of_the_query.Goals as goal

pub returns : goal.returns
returns c = record {
  rows = λ tables query items sources outer tree run block are clear hold. orders_rows tables query items sources outer block are clear hold tree run;
  in_order = λ tables query items sources outer tree run block are clear hold. orders_sorted tables query items sources outer block are clear hold tree run;
}

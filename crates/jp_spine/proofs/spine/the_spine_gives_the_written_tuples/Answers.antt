use Rattle.jp_spine.proofs.BlockLaws.{rows_written, every_order, in_order}
use Rattle.jp_spine.proofs.spine.the_spine_gives_the_written_tuples.Goals as goal

pub returns : goal.returns
returns c = record {
  rows = λ query items setting block are clear. rows_written query items setting block are clear;
  every_order = λ query items setting tree run block are clear. every_order query items setting block are clear tree run;
  in_order = λ query items setting tree run block are clear. in_order query items setting block are clear tree run;
}

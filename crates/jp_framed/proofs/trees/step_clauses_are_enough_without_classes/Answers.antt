use Rattle.jp_framed.proofs.EnoughLaws.{step_enough, scan_enough}
use Rattle.jp_framed.proofs.MadeLaws.{plain_without_classes}
use Rattle.jp_framed.proofs.RunLaws.{own_run}
use Rattle.jp_framed.proofs.trees.step_clauses_are_enough_without_classes.Goals as goal

pub returns : goal.returns
returns c = record {
  step = λ problem setting left right step m none. step_enough problem setting m none left right step;
  scan = λ problem setting i m none. scan_enough problem setting m none i;
  run = λ problem setting orders tree m none. own_run problem setting orders m none tree;
  plain = plain_without_classes;
}

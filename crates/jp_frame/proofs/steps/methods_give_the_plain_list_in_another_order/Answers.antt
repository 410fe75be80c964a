use Rattle.jp_frame.proofs.PermutationLaws.{plain_permuted, method_permuted}
use Rattle.jp_frame.proofs.steps.methods_give_the_plain_list_in_another_order.Goals as goal

pub returns : goal.returns
returns c = record {
  inputs = λ f step test ls lefts rs rights p q. plain_permuted f test ls lefts rs rights p q step;
  method = λ f how step test ls rs. method_permuted f test ls rs how step;
}

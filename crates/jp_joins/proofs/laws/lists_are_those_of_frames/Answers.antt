use Rattle.std.proofs.Common.{◌∙◌}
use Rattle.jp_frame.specs.Methods.{sorted_by}
use Rattle.jp_joins.specs.Sorting.{stands_before}
use Rattle.jp_joins.proofs.FrameFacts.{plain_inner, plain_by, right_by, merged_is}
use Rattle.jp_joins.proofs.laws.lists_are_those_of_frames.Goals as goal

pub returns : goal.returns
returns c = record {
  inner = plain_inner;
  inner_hash = plain_inner;
  inner_merge = λ f meant first second left right is key. plain_inner f meant (sorted_by (stands_before meant first) left) (sorted_by (stands_before meant second) right) is ∙ merged_is meant first second left right key;
  by_join = plain_by;
  by_hash = plain_by;
  by_hash_right = right_by;
  by_merge = λ f s meant first second left right same on key. plain_by f s meant (sorted_by (stands_before meant first) left) (sorted_by (stands_before meant second) right) same on ∙ merged_is meant first second left right key;
}

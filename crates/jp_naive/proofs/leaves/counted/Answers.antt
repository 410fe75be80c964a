use Rattle.std.proofs.Common.{◌∙◌, ◌++◌, ◌∷◌, [], ◌+◌, ap, sym, map, arith}
use Rattle.std.specs.List.{range_with_len}
use Rattle.std.proofs.lemmas.List.{map-append}
use Rattle.jp_naive.specs.Joining.{single}
use Rattle.jp_naive.specs.Numbers.{Numbered}
use Rattle.jp_naive.proofs.ListFacts.{range_more}
use Rattle.jp_naive.proofs.leaves.counted.Goals as goal

pub rows-preserved : goal.rows-preserved
rows-preserved c = record {
  width = c.in_ok-push.ensures.width ∙ c.rows.invariant.width;
  list = ap (λ (n : Numbered). n.list) c.in_ok-push.ensures.more
      ∙ ap (λ ls. ls ++ single c.rows.row ∷ []) c.rows.invariant.list
      ∙ sym (ap (map single) (range_more 0 c.rows.row) ∙ map-append single (range_with_len 0 c.rows.row) ((0 + c.rows.row) ∷ []) ∙ ap (λ k. map single (range_with_len 0 c.rows.row) ++ single k ∷ []) (omega arith));
}

-- The relations that the tuples of a join give rows to: those of both sides, but of Semi and Anti those of the left one.
use Rattle.std.specs.Prelude.{ℕ, bit_or}
use Rattle.jp_query.specs.declared.JoinKind.{JoinKind}
use Rattle.jp_query.specs.declared.JoinKind.TheVariants as join

abbrev pub join_rels : JoinKind → ℕ → ℕ → ℕ
join_rels join.Inner left right = bit_or left right
join_rels join.Left left right = bit_or left right
join_rels join.Right left right = bit_or left right
join_rels join.Full left right = bit_or left right
join_rels join.Semi left right = left
join_rels join.Anti left right = left

use Rattle.std.proofs.Common.{◌≡◌, ◌∙◌, ap, sym, map, [], ◌∷◌}
use Rattle.std.specs.List.{flat_map}
use Rattle.jp_naive.specs.Joining.{pair_of}
use Rattle.jp_naive.specs.Numbers.{Numbered}
use Rattle.jp_naive.proofs.ListFacts.{alone_pairs}
use Rattle.jp_naive.proofs.leaves.combination.Goals as goal

pub returns-then-is_alone-clause-tuples : goal.returns-then-is_alone-clause-tuples
returns-then-is_alone-clause-tuples c =
    let alone : c.args.left.numbers.list ≡ [] ∷ [] = ap (λ (n : Numbered). n.list) (c.is_alone.ensures c.if-is_alone.true) in
    alone_pairs c.args.right.numbers.list ∙ ap (flat_map (λ l. map (pair_of l) c.args.right.numbers.list)) (sym alone)

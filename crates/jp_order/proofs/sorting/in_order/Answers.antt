use Rattle.std.proofs.Common.{rules, map}
use Rattle.std.proofs.lemmas.Fn.{always_returns_same}
use Rattle.jp_query.specs.InOrder.{direction_of}
use Rattle.jp_order.proofs.SortFacts.{pair_before, pairs_weak, sorted_pairs}
use Rattle.jp_order.proofs.sorting.in_order.Goals as goal

pub returns-in-Ok : goal.returns-in-Ok
returns-in-Ok c =
    let keys = map direction_of c.args.order.now in
    sorted_pairs keys c.args.lines.items c.sort_by.new.self.items
    (c.in-Ok.ensures.sorted (pair_before keys) (pairs_weak keys) (always_returns_same _ _ _ (λ a r q k. search rules)))
    (c.in-Ok.ensures.stable (pair_before keys) (pairs_weak keys) (always_returns_same _ _ _ (λ a r q k. search rules)))

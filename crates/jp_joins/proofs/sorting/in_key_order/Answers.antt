use Rattle.std.proofs.Common.{◌∙◌, ap}
use Rattle.std.proofs.lemmas.List.Sorted.{All-permutation}
use Rattle.jp_frame.specs.Methods.{sorted_by}
use Rattle.jp_joins.specs.Sorting.{IsKeyed, stands_before}
use Rattle.jp_joins.proofs.SortedFacts.{sorted_maps}
use Rattle.jp_joins.proofs.sorting.in_key_order.Goals as goal

pub returns-clause-tuples : goal.returns-clause-tuples
returns-clause-tuples g c =
    let meant = g.E.TupleEnv.meant c.args.env.now in
    sorted_maps meant c.args.side.now c.in_ok-keyed.keyed.items c.in_ok-keyed-2.keyed.items c.in_ok-keyed.ensures.keys c.in_ok-keyed-2.ensures.permutation c.in_ok-keyed-2.ensures.sorted c.in_ok-keyed-2.ensures.stable
    ∙ ap (sorted_by (stands_before meant c.args.side.now)) c.in_ok-keyed.ensures.tuples

pub returns-clause-keys : goal.returns-clause-keys
returns-clause-keys g c = All-permutation (IsKeyed (g.E.TupleEnv.meant c.args.env.now) c.args.side.now) c.in_ok-keyed.keyed.items c.in_ok-keyed-2.keyed.items c.in_ok-keyed-2.ensures.permutation c.in_ok-keyed.ensures.keys

use Rattle.std.proofs.Common.{◌∙◌, ap₂, sym}
use Rattle.std.specs.declared.cmp.Ordering.TheVariants.{Less, Equal, Greater}
use Rattle.jp_query.specs.InOrder.{direction_of}
use Rattle.jp_query.specs.Ordering.{key_order}
use Rattle.jp_order.proofs.KeyFacts.{one_more}
use Rattle.jp_order.proofs.sorting.order_of_keys.Goals as goal

pub returns-in-Less : goal.returns-in-Less
returns-in-Less c =
    let item = c.index-order-at.result in
    let e = c.in-Less.ensures ∙ ap₂ (key_order (direction_of item)) c.key_at.ensures c.key_at-in-items.ensures in
    sym (one_more c.args.order.now c.args.left.now c.args.right.now c.items.at item Less c.index-order-at.is c.items-test.true e) ∙ c.items.invariant

pub returns-in-Greater : goal.returns-in-Greater
returns-in-Greater c =
    let item = c.index-order-at.result in
    let e = c.in-Greater.ensures ∙ ap₂ (key_order (direction_of item)) c.key_at.ensures c.key_at-in-items.ensures in
    sym (one_more c.args.order.now c.args.left.now c.args.right.now c.items.at item Greater c.index-order-at.is c.items-test.true e) ∙ c.items.invariant

pub items-preserved : goal.items-preserved
items-preserved c =
    let item = c.index-order-at.result in
    let e = c.in-Equal.ensures ∙ ap₂ (key_order (direction_of item)) c.key_at.ensures c.key_at-in-items.ensures in
    sym (one_more c.args.order.now c.args.left.now c.args.right.now c.items.at item Equal c.index-order-at.is c.items-test.true e) ∙ c.items.invariant

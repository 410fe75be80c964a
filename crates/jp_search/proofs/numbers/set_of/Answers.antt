use Rattle.std.proofs.Common.{◌+◌, arith, sym, subst}
use Rattle.jp_search.proofs.NumberLaws.{HasBelow, begun, with_item, without_item, whole}
use Rattle.jp_search.proofs.numbers.set_of.Goals as goal
use Rattle.jp_search.proofs.numbers.set_of.Goals.{then-number-i-eq1, else-number-i-eq1}

pub items-init : goal.items-init
items-init c = begun c.args.number c.empty-set.result c.empty-set.ensures.members

pub items-preserved : goal.items-preserved
items-preserved c =
    elim c.if-number-i-eq1.branch [
      | then-number-i-eq1 w ↦ subst (HasBelow c.args.number (c.items.i + 1)) (sym w.set-is) (with_item c.args.number c.items.i c.items.set w.one.result w.union-set.result c.items.invariant w.one.ensures.members w.union-set.ensures.members w.if-number-i-eq1.true)
      | else-number-i-eq1 w ↦ without_item c.args.number c.items.i c.items.set c.if-number-i-eq1.set c.items.invariant w.if-number-i-eq1.false w.set-is
    ]

pub returns : goal.returns
returns c = whole c.args.number c.items.i c.items.set c.requires c.items.invariant (omega (arith, c.items-test.false))

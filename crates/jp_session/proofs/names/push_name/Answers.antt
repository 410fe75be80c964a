use Rattle.std.proofs.Common.{◌∙◌, ◌++◌, ◌∷◌, [], ap}
use Rattle.jp_session.proofs.NameLaws.{none_printed, one_printed}
use Rattle.jp_session.proofs.names.push_name.Goals as goal

pub returns-then-leaf-rel : goal.returns-then-leaf-rel
returns-then-leaf-rel c =
    one_printed c.args.leaves.now c.args.names.now c.leaves.names c.push.new.self c.leaves.leaf-index c.leaf-item.result c.args.rel c.leaves-test.true c.leaf-item.is c.if-leaf-rel.true c.leaves.invariant.rest c.leaves.invariant.same
    (c.in_ok-push.ensures.ok ∙ ap (λ n. c.leaves.names ++ n ∷ []) c.in_ok-printed.ensures)

pub returns : goal.returns
returns c = none_printed c.args.leaves.now c.args.names.now c.leaves.names c.leaves.leaf-index c.args.rel c.leaves-test.false c.leaves.invariant.rest c.leaves.invariant.same

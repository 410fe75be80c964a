use Rattle.std.proofs.Common.{◌<◌, ◌∙◌, [], arith, length, sym}
use Rattle.jp_table.proofs.JudgingFacts.{kind_left, kind_taken, no_keys}
use Rattle.jp_table.proofs.keys.first_repeat.Goals as goal
use Rattle.jp_table.proofs.keys.first_repeat.Goals.{then-is_of_kind+in_ok-repeat, else-is_of_kind}

pub keys-init : goal.keys-init
keys-init c = no_keys [] c.args.table.now

pub keys-preserved : goal.keys-preserved
keys-preserved c =
    let there : c.keys.key-index < length c.args.keys.now = omega (arith, c.keys-test.true) in
    elim c.if-is_of_kind.branch [
      | then-is_of_kind+in_ok-repeat w ↦
          rw (w.first-is, w.first_of-first.ensures, w.in_ok-repeat.ensures, c.keys.invariant)
          (kind_taken c.args.primary c.args.keys.now c.keys.key-index c.key-item.result c.args.table.now there c.key-item.is (sym c.is_of_kind.ensures ∙ w.if-is_of_kind.true))
      | else-is_of_kind w ↦
          rw (w.first-is, c.keys.invariant)
          (kind_left c.args.primary c.args.keys.now c.keys.key-index c.key-item.result c.args.table.now there c.key-item.is (sym c.is_of_kind.ensures ∙ w.if-is_of_kind.false))
    ]

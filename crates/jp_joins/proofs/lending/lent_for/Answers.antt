use Rattle.std.proofs.Common.{subst, sym, refl, ap, ◌∙◌, map}
use Rattle.jp_induction.proofs.EachPart.{Each}
use Rattle.jp_joins.specs.Lending.{number_of}
use Rattle.jp_joins.proofs.LendingFacts.{IsRight, right_more, numbers_more, numbers_done}
use Rattle.jp_joins.proofs.lending.lent_for.Goals as goal

pub numbers-preserved : goal.numbers-preserved
numbers-preserved g c = record {
  right = λ rows gives. subst (Each (IsRight rows)) (sym c.in_ok-push.ensures.items) (right_more rows c.numbers.lent.items _ (c.numbers.invariant.right rows gives) (gives _ _ c.in_ok-rows.ensures));
  numbers = ap (map number_of) c.in_ok-push.ensures.items ∙ numbers_more c.args.numbers.now c.numbers.number-index 0 c.numbers.lent.items _ c.numbers-test.true refl c.numbers.invariant.numbers;
}

pub returns : goal.returns
returns g c rows gives = numbers_done rows c.args.numbers.now c.numbers.number-index c.numbers.lent.items c.numbers-test.false (c.numbers.invariant.right rows gives) c.numbers.invariant.numbers

use Rattle.std.proofs.Common.{◌<◌, ◌^◌, subst, sym, arith}
use Rattle.std.proofs.lemmas.List.{drop_more}
use Rattle.jp_cursor.proofs.Digits.{next_fits}
use Rattle.jp_cursor.proofs.content.number_value.Goals as goal

pub overflow_mul-number : goal.overflow_mul-number
overflow_mul-number c =
    let more = drop_more c.args.digits.now c.digits.digit-index 0 c.digits-test.true in
    let whole = subst (λ n. n < 2 ^ 127) (sym c.digits.invariant) c.requires in
    let next = next_fits c.digits.number _ _ _ more whole in
    omega arith

pub overflow_add-number : goal.overflow_add-number
overflow_add-number c =
    let more = drop_more c.args.digits.now c.digits.digit-index 0 c.digits-test.true in
    let whole = subst (λ n. n < 2 ^ 127) (sym c.digits.invariant) c.requires in
    let next = next_fits c.digits.number _ _ _ more whole in
    let sub = c.saturating_sub.ensures in
    let same = c.from.ensures in
    omega arith

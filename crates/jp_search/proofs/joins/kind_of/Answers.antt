use Rattle.std.proofs.Common.{◌∙◌, ◌-◌, sym, ap, arith}
use Rattle.std.specs.Prelude.{slice_get}
use Rattle.std.specs.Option.{option_copied}
use Rattle.jp_search.proofs.JoinLaws.{left_less, right_less, left_sum, right_sum, left_cannot, right_cannot, is_inner, are_many, is_by, not_none}
use Rattle.jp_search.proofs.joins.kind_of.Goals as goal
use Rattle.jp_search.proofs.joins.kind_of.Goals.{then-not-of_left-via-then-not-of_left, then-not-of_left-via-else-not-of_left+then-not-of_right}

pub returns-then-not-of_left : goal.returns-then-not-of_left
returns-then-not-of_left c =
    elim c.then-not-of_left.branch [
      | then-not-of_left-via-then-not-of_left w ↦ left_cannot c.args.problem.now.joins c.requires.sets c.args.left c.args.right c.requires.apart c.args.of_left.now c.args.of_right.now c.args.of_both.now c.requires.left c.requires.right c.requires.both w.if-not-of_left.true
      | then-not-of_left-via-else-not-of_left+then-not-of_right w ↦ right_cannot c.args.problem.now.joins c.requires.sets c.args.left c.args.right c.requires.apart c.args.of_left.now c.args.of_right.now c.args.of_both.now c.requires.left c.requires.right c.requires.both w.if-not-of_right.true
    ]

pub overflow_sub-new : goal.overflow_sub-new
overflow_sub-new c = left_less c.args.problem.now.joins c.requires.sets c.args.left c.args.right c.requires.apart c.args.of_left.now c.args.of_right.now c.args.of_both.now c.requires.left c.requires.right c.requires.both

pub overflow_sub-new-2 : goal.overflow_sub-new-2
overflow_sub-new-2 c = right_less c.args.problem.now.joins c.requires.sets c.args.left c.args.right c.requires.apart c.args.of_left.now c.args.of_right.now c.args.of_both.now c.requires.left c.requires.right c.requires.both

pub returns-then-new-eq0 : goal.returns-then-new-eq0
returns-then-new-eq0 c =
    is_inner c.args.problem.now.joins c.requires.sets c.args.left c.args.right c.requires.apart c.args.of_left.now c.args.of_right.now c.args.of_both.now c.requires.left c.requires.right c.requires.both
    c.if-not-of_left.false c.if-not-of_right.false c.requires.joinable c.if-new-eq0.true

pub returns-then-new-gt1 : goal.returns-then-new-gt1
returns-then-new-gt1 c =
    are_many c.args.problem.now.joins c.requires.sets c.args.left c.args.right c.requires.apart c.args.of_left.now c.args.of_right.now c.args.of_both.now c.requires.left c.requires.right c.requires.both
    c.if-not-of_left.false c.if-not-of_right.false c.requires.joinable c.if-new-gt1.true

pub overflow_sub-place : goal.overflow_sub-place
overflow_sub-place c = left_sum c.args.problem.now.joins c.requires.sets c.args.left c.args.right c.requires.apart c.args.of_left.now c.args.of_right.now c.args.of_both.now c.requires.left c.requires.right c.requires.both

pub overflow_sub-place-2 : goal.overflow_sub-place-2
overflow_sub-place-2 c = right_sum c.args.problem.now.joins c.requires.sets c.args.left c.args.right c.requires.apart c.args.of_left.now c.args.of_right.now c.args.of_both.now c.requires.left c.requires.right c.requires.both

pub returns : goal.returns
returns c =
    let at = sym (ap (λ joins. slice_get joins (c.args.of_both.now.places - c.args.of_left.now.places - c.args.of_right.now.places)) c.as_slice.ensures) ∙ sym c.join_at.ensures ∙ ap option_copied c.in_ok-join.was in
    c.by_join.ensures ∙ is_by c.args.problem.now.joins c.requires.sets c.args.left c.args.right c.requires.apart c.args.of_left.now c.args.of_right.now c.args.of_both.now c.requires.left c.requires.right c.requires.both c.if-not-of_left.false c.if-not-of_right.false c.requires.joinable c.if-new-eq0.false (λ more. omega (arith, more, c.if-new-gt1.false)) c.in_ok-join.join.now at

pub returns-in_err-join : goal.returns-in_err-join
returns-in_err-join c =
    let at = sym (ap (λ joins. slice_get joins (c.args.of_both.now.places - c.args.of_left.now.places - c.args.of_right.now.places)) c.as_slice.ensures) ∙ sym c.join_at.ensures ∙ ap option_copied c.in_err-join.was in
    absurd (not_none c.args.problem.now.joins c.requires.sets c.args.left c.args.right c.requires.apart c.args.of_left.now c.args.of_right.now c.args.of_both.now c.requires.left c.requires.right c.requires.both c.if-not-of_left.false c.if-not-of_right.false c.requires.joinable c.if-new-eq0.false (λ more. omega (arith, more, c.if-new-gt1.false)) at)

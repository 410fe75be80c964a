use Rattle.std.proofs.Common.{rules, arith}
use Rattle.std.proofs.lemmas.Grind.{common_steps}
use Rattle.jp_cursor.specs.Reading.{many_from}
use Rattle.jp_cursor.specs.Lists.{begins_by}
use Rattle.jp_cursor.proofs.Turns.{one_more, no_more}
use Rattle.jp_cursor.proofs.lists.many.Goals as goal

pub returns-then-not-begins : goal.returns-then-not-begins
unfolding many_from
returns-then-not-begins g c = λ reader reads.
    let e = one_more (λ n. many_from (begins_by c.args.begin) reader n c.members.found c.members.tokens) _ c.members._turn c.members-test.true (c.members.invariant.1 reader reads) in
    first_of (search rules, grind (arith, common_steps))

pub returns-in_err-item : goal.returns-in_err-item
unfolding many_from
returns-in_err-item g c = λ reader reads.
    let r = reads _ _ _ c.member.ensures in
    let e = one_more (λ n. many_from (begins_by c.args.begin) reader n c.members.found c.members.tokens) _ c.members._turn c.members-test.true (c.members.invariant.1 reader reads) in
    first_of (search rules, grind (arith, common_steps))

pub members-preserved : goal.members-preserved
unfolding many_from
members-preserved g c = (
  c.members.invariant.0,
  λ reader reads.
      let r = reads _ _ _ c.member.ensures in
      let e = one_more (λ n. many_from (begins_by c.args.begin) reader n c.members.found c.members.tokens) _ c.members._turn c.members-test.true (c.members.invariant.1 reader reads) in
      first_of (search rules, grind (arith, common_steps)),
)

pub returns : goal.returns
unfolding many_from
returns g c = λ reader reads.
    let e = no_more (λ n. many_from (begins_by c.args.begin) reader n c.members.found c.members.tokens) _ c.members._turn c.members-test.false (c.members.invariant.1 reader reads) in
    first_of (search rules, grind (arith, common_steps))

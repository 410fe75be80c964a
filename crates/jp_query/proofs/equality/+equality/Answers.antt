use Rattle.std.proofs.Common.{◌≡◌, ap, ap₂, refl, Bool, true, false, Option, Some, None}
use Rattle.std.specs.Prelude.{◌&&◌, not, is_some}
use Rattle.jp_query.specs.Layers.{Expr}
use Rattle.jp_query.specs.Equality.{same_each, same_expr, same_exprs, same_op, same_of_arms, same_of_options}
use Rattle.jp_query.proofs.EqualityRules.{and_there, and_missing, same-Compare, same-Between, same-InList, same-Case}
use Rattle.jp_query.proofs.equality.+equality.Goals as goal
use Rattle.jp_query.proofs.equality.+equality.Goals.{is_same-then-is_same_op, is_same-else-is_same_op, is_same-then-is_same-2, is_same-else-is_same-2, is_same-then-operand, is_same-else-operand, is_same-in-Some+in-Some-other_operand, is_same-in-Some+in-None-other_operand, is_same-in-None, is_same-in-Some-otherwise+in-Some-other_otherwise, is_same-in-Some-otherwise+in-None-other_otherwise, is_same-in-None-otherwise}

-- a chain of two and a last part
chain_there : (a b c : Bool) → (a && b) ≡ true → (a && (b && c)) ≡ c
chain_there true true c e = cc
chain_there true false c e = cc
chain_there false b c e = cc

chain_missing : (a b c : Bool) → (a && b) ≡ false → (a && (b && c)) ≡ false
chain_missing true true c e = cc
chain_missing true false c e = cc
chain_missing false b c e = cc

-- beside none stands what is none
none_beside : (o : Option Expr) (r : Bool) → is_some o ≡ not r → same_of_options None o ≡ r
none_beside None true e = refl
none_beside None false e = cc
none_beside (Some x) true e = cc
none_beside (Some x) false e = refl

pub is_same-returns-then-is_same : goal.is_same-returns-then-is_same
is_same-returns-then-is_same t c =
    let first = same_op c.in-Compare.op c.in-Compare-b.other_op in
    let second = same_expr c.in-Compare.left c.in-Compare-b.other_left in
    let third = same_expr c.in-Compare.right c.in-Compare-b.other_right in
    let both : (first && second) ≡ c.if-is_same_op.value = elim c.if-is_same_op.branch [
      | is_same-then-is_same_op w ↦ (let e = and_there first second cc in cc)
      | is_same-else-is_same_op w ↦ (let e = and_missing first second cc in cc)
    ] in
    let e = same-Compare c.in-Compare.op c.in-Compare.left c.in-Compare.right c.in-Compare-b.other_op c.in-Compare-b.other_left c.in-Compare-b.other_right in
    let all = chain_there first second third cc in
    cc

pub is_same-returns-else-is_same : goal.is_same-returns-else-is_same
is_same-returns-else-is_same t c =
    let first = same_op c.in-Compare.op c.in-Compare-b.other_op in
    let second = same_expr c.in-Compare.left c.in-Compare-b.other_left in
    let third = same_expr c.in-Compare.right c.in-Compare-b.other_right in
    let both : (first && second) ≡ c.if-is_same_op.value = elim c.if-is_same_op.branch [
      | is_same-then-is_same_op w ↦ (let e = and_there first second cc in cc)
      | is_same-else-is_same_op w ↦ (let e = and_missing first second cc in cc)
    ] in
    let e = same-Compare c.in-Compare.op c.in-Compare.left c.in-Compare.right c.in-Compare-b.other_op c.in-Compare-b.other_left c.in-Compare-b.other_right in
    let all = chain_missing first second third cc in
    cc

pub is_same-returns-then-is_same-3 : goal.is_same-returns-then-is_same-3
is_same-returns-then-is_same-3 t c =
    let first = same_expr c.in-Between.operand c.in-Between-b.other in
    let second = same_expr c.in-Between.low c.in-Between-b.other_low in
    let third = same_expr c.in-Between.high c.in-Between-b.other_high in
    let both : (first && second) ≡ c.if-is_same-2.value = elim c.if-is_same-2.branch [
      | is_same-then-is_same-2 w ↦ (let e = and_there first second cc in cc)
      | is_same-else-is_same-2 w ↦ (let e = and_missing first second cc in cc)
    ] in
    let e = same-Between c.in-Between.operand c.in-Between.low c.in-Between.high c.in-Between-b.other c.in-Between-b.other_low c.in-Between-b.other_high in
    let all = chain_there first second third cc in
    cc

pub is_same-returns-else-is_same-3 : goal.is_same-returns-else-is_same-3
is_same-returns-else-is_same-3 t c =
    let first = same_expr c.in-Between.operand c.in-Between-b.other in
    let second = same_expr c.in-Between.low c.in-Between-b.other_low in
    let third = same_expr c.in-Between.high c.in-Between-b.other_high in
    let both : (first && second) ≡ c.if-is_same-2.value = elim c.if-is_same-2.branch [
      | is_same-then-is_same-2 w ↦ (let e = and_there first second cc in cc)
      | is_same-else-is_same-2 w ↦ (let e = and_missing first second cc in cc)
    ] in
    let e = same-Between c.in-Between.operand c.in-Between.low c.in-Between.high c.in-Between-b.other c.in-Between-b.other_low c.in-Between-b.other_high in
    let all = chain_missing first second third cc in
    cc

pub is_same-returns-then-is_same-4 : goal.is_same-returns-then-is_same-4
is_same-returns-then-is_same-4 t c =
    let first = same_expr c.in-InList.operand c.in-InList-b.other in
    let second = same_exprs c.in-InList.list c.in-InList-b.others in
    let e = same-InList c.in-InList.operand c.in-InList.list c.in-InList-b.other c.in-InList-b.others in
    let both = and_there first second cc in
    cc

pub is_same-returns-then-are_same_arms : goal.is_same-returns-then-are_same_arms
is_same-returns-then-are_same_arms t c =
    let operand : c.match-operand.operand ≡ same_of_options c.in-Case.operand c.in-Case-b.other_operand = elim c.match-operand.branch [
      | is_same-in-Some+in-Some-other_operand w ↦ (let e = ap₂ same_of_options w.in-Some.is w.in-Some-other_operand.is in cc)
      | is_same-in-Some+in-None-other_operand w ↦ (let e = ap₂ same_of_options w.in-Some.is w.in-None-other_operand.is in cc)
      | is_same-in-None w ↦ (let e = ap (λ o. same_of_options o c.in-Case-b.other_operand) w.in-None.is in let n = none_beside c.in-Case-b.other_operand w.is_none-operand.result w.is_none-operand.ensures in cc)
    ] in
    let otherwise : c.match-otherwise.otherwise ≡ same_of_options c.in-Case.otherwise c.in-Case-b.other_otherwise = elim c.match-otherwise.branch [
      | is_same-in-Some-otherwise+in-Some-other_otherwise w ↦ (let e = ap₂ same_of_options w.in-Some-otherwise.is w.in-Some-other_otherwise.is in cc)
      | is_same-in-Some-otherwise+in-None-other_otherwise w ↦ (let e = ap₂ same_of_options w.in-Some-otherwise.is w.in-None-other_otherwise.is in cc)
      | is_same-in-None-otherwise w ↦ (let e = ap (λ o. same_of_options o c.in-Case-b.other_otherwise) w.in-None-otherwise.is in let n = none_beside c.in-Case-b.other_otherwise w.is_none-otherwise.result w.is_none-otherwise.ensures in cc)
    ] in
    let first = same_of_options c.in-Case.operand c.in-Case-b.other_operand in
    let second = same_each same_of_arms c.in-Case.arms c.in-Case-b.other_arms in
    let third = same_of_options c.in-Case.otherwise c.in-Case-b.other_otherwise in
    let both : (first && second) ≡ c.if-operand.value = elim c.if-operand.branch [
      | is_same-then-operand w ↦ (let e = and_there first second cc in cc)
      | is_same-else-operand w ↦ (let e = and_missing first second cc in cc)
    ] in
    let e = same-Case c.in-Case.operand c.in-Case.arms c.in-Case.otherwise c.in-Case-b.other_operand c.in-Case-b.other_arms c.in-Case-b.other_otherwise in
    let all = chain_there first second third cc in
    cc

pub is_same-returns-else-are_same_arms : goal.is_same-returns-else-are_same_arms
is_same-returns-else-are_same_arms t c =
    let operand : c.match-operand.operand ≡ same_of_options c.in-Case.operand c.in-Case-b.other_operand = elim c.match-operand.branch [
      | is_same-in-Some+in-Some-other_operand w ↦ (let e = ap₂ same_of_options w.in-Some.is w.in-Some-other_operand.is in cc)
      | is_same-in-Some+in-None-other_operand w ↦ (let e = ap₂ same_of_options w.in-Some.is w.in-None-other_operand.is in cc)
      | is_same-in-None w ↦ (let e = ap (λ o. same_of_options o c.in-Case-b.other_operand) w.in-None.is in let n = none_beside c.in-Case-b.other_operand w.is_none-operand.result w.is_none-operand.ensures in cc)
    ] in
    let otherwise : c.match-otherwise.otherwise ≡ same_of_options c.in-Case.otherwise c.in-Case-b.other_otherwise = elim c.match-otherwise.branch [
      | is_same-in-Some-otherwise+in-Some-other_otherwise w ↦ (let e = ap₂ same_of_options w.in-Some-otherwise.is w.in-Some-other_otherwise.is in cc)
      | is_same-in-Some-otherwise+in-None-other_otherwise w ↦ (let e = ap₂ same_of_options w.in-Some-otherwise.is w.in-None-other_otherwise.is in cc)
      | is_same-in-None-otherwise w ↦ (let e = ap (λ o. same_of_options o c.in-Case-b.other_otherwise) w.in-None-otherwise.is in let n = none_beside c.in-Case-b.other_otherwise w.is_none-otherwise.result w.is_none-otherwise.ensures in cc)
    ] in
    let first = same_of_options c.in-Case.operand c.in-Case-b.other_operand in
    let second = same_each same_of_arms c.in-Case.arms c.in-Case-b.other_arms in
    let third = same_of_options c.in-Case.otherwise c.in-Case-b.other_otherwise in
    let both : (first && second) ≡ c.if-operand.value = elim c.if-operand.branch [
      | is_same-then-operand w ↦ (let e = and_there first second cc in cc)
      | is_same-else-operand w ↦ (let e = and_missing first second cc in cc)
    ] in
    let e = same-Case c.in-Case.operand c.in-Case.arms c.in-Case.otherwise c.in-Case-b.other_operand c.in-Case-b.other_arms c.in-Case-b.other_otherwise in
    let all = chain_missing first second third cc in
    cc

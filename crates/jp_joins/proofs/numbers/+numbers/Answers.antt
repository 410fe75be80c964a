use Rattle.std.proofs.Common.{◌≡◌, ℕ, append-nil, Global, List, Option, Vec, ◌∙◌, ◌++◌, ◌∷◌, [], ap, sym, refl, map, take, ◌+◌}
use Rattle.jp_query.specs.declared.Expr.{Expr}
use Rattle.jp_query.specs.Parts.{all_in, arm_parts, term_part}
use Rattle.jp_joins.specs.Lending.{numbers_in}
use Rattle.jp_joins.proofs.NumberLaws
use Rattle.jp_joins.proofs.numbers.+numbers.Goals as goal
use Rattle.jp_joins.proofs.numbers.+numbers.Goals.{add_numbers-in-Some+in_ok-add_numbers-in-Some, add_numbers-in-None}

pub add_of_list-exprs-preserved : goal.add_of_list-exprs-preserved
add_of_list-exprs-preserved t c =
    NumberLaws.two_added (c.add_numbers.new.list.items) (c.exprs.list.items) (c.args.list.now.items) (all_in (map numbers_in (take c.exprs.expr-index c.args.exprs.now))) (numbers_in c.expr-item.result) (all_in (map numbers_in (take (c.exprs.expr-index + 1) c.args.exprs.now)))
    c.in_ok-add_numbers.ensures c.exprs.invariant (NumberLaws.in_list_more c.args.exprs.now c.exprs.expr-index c.expr-item.result c.exprs-test.true c.expr-item.is)

pub add_of_terms-terms-preserved : goal.add_of_terms-terms-preserved
add_of_terms-terms-preserved t c =
    NumberLaws.two_added (c.add_numbers.new.list.items) (c.terms.list.items) (c.args.list.now.items) (all_in (map numbers_in (map term_part (take c.terms.term-index c.args.terms.now)))) (numbers_in c.terms-item.result.1) (all_in (map numbers_in (map term_part (take (c.terms.term-index + 1) c.args.terms.now))))
    c.in_ok-add_numbers.ensures c.terms.invariant (NumberLaws.in_terms_more c.args.terms.now c.terms.term-index c.terms-item.result c.terms-test.true c.terms-item.is)

pub add_of_arms-arms-preserved : goal.add_of_arms-arms-preserved
add_of_arms-arms-preserved t c =
    let a = numbers_in c.arms-item.result.0 in
    let b = numbers_in c.arms-item.result.1 in
    NumberLaws.two_added (c.add_numbers-in-arms.new.list.items) (c.arms.list.items) (c.args.list.now.items) (all_in (map numbers_in (arm_parts (take c.arms.when-index c.args.arms.now)))) (a ++ b) (all_in (map numbers_in (arm_parts (take (c.arms.when-index + 1) c.args.arms.now))))
    (NumberLaws.two_added (c.add_numbers-in-arms.new.list.items) (c.add_numbers.new.list.items) (c.arms.list.items) a b (a ++ b) c.in_ok-add_numbers-2.ensures c.in_ok-add_numbers.ensures refl)
    c.arms.invariant (NumberLaws.in_arms_more c.args.arms.now c.arms.when-index c.arms-item.result c.arms-test.true c.arms-item.is)

pub add_numbers-returns-in-Col : goal.add_numbers-returns-in-Col
add_numbers-returns-in-Col t c = NumberLaws.none_added (c.args.list.now.items) (numbers_in c.args.expr.now) (ap numbers_in c.in-Col.is ∙ NumberLaws.numbers-Col c.in-Col.rel c.in-Col.col c.in-Col.ty c.in-Col.nulled)

pub add_numbers-returns-in-Lit : goal.add_numbers-returns-in-Lit
add_numbers-returns-in-Lit t c = NumberLaws.none_added (c.args.list.now.items) (numbers_in c.args.expr.now) (ap numbers_in c.in-Lit.is ∙ NumberLaws.numbers-Lit c.in-Lit.field-0 c.in-Lit.field-1)

pub add_numbers-returns-in_ok-add_numbers-in-Compare-2 : goal.add_numbers-returns-in_ok-add_numbers-in-Compare-2
add_numbers-returns-in_ok-add_numbers-in-Compare-2 t c =
    NumberLaws.two_added _ (c.add_numbers-in-Compare.new.list.items) _ (numbers_in c.in-Compare.left) (numbers_in c.in-Compare.right) _
    (c.in_ok-add_numbers-in-Compare-2.ensures ∙ ap (λ (e : Expr). c.add_numbers-in-Compare.new.list.items ++ numbers_in e) c.get-in-Compare-2.ensures)
    (c.in_ok-add_numbers-in-Compare.ensures ∙ ap (λ (e : Expr). c.args.list.now.items ++ numbers_in e) c.get-in-Compare.ensures)
    (ap numbers_in c.in-Compare.is ∙ NumberLaws.numbers-Compare c.in-Compare.field-0 c.in-Compare.left c.in-Compare.right)

pub add_numbers-returns-in_ok-add_numbers-in-Between-3 : goal.add_numbers-returns-in_ok-add_numbers-in-Between-3
add_numbers-returns-in_ok-add_numbers-in-Between-3 t c =
    let a = numbers_in c.in-Between.operand in
    let b = numbers_in c.in-Between.low in
    let d = numbers_in c.in-Between.high in
    NumberLaws.two_added _ (c.add_numbers-in-Between.new.list.items) _ a (b ++ d) _
    (NumberLaws.two_added _ (c.add_numbers-in-Between-2.new.list.items) (c.add_numbers-in-Between.new.list.items) b d (b ++ d)
    (c.in_ok-add_numbers-in-Between-3.ensures ∙ ap (λ (e : Expr). c.add_numbers-in-Between-2.new.list.items ++ numbers_in e) c.get-in-Between-3.ensures)
    (c.in_ok-add_numbers-in-Between-2.ensures ∙ ap (λ (e : Expr). c.add_numbers-in-Between.new.list.items ++ numbers_in e) c.get-in-Between-2.ensures) refl)
    (c.in_ok-add_numbers-in-Between.ensures ∙ ap (λ (e : Expr). c.args.list.now.items ++ numbers_in e) c.get-in-Between.ensures)
    (ap numbers_in c.in-Between.is ∙ NumberLaws.numbers-Between c.in-Between.operand c.in-Between.low c.in-Between.high)

pub add_numbers-returns-in_ok-add_of_list-in-InList : goal.add_numbers-returns-in_ok-add_of_list-in-InList
add_numbers-returns-in_ok-add_of_list-in-InList t c =
    NumberLaws.two_added _ (c.add_numbers-in-InList.new.list.items) _ (numbers_in c.in-InList.operand) (all_in (map numbers_in c.in-InList.members)) _
    (c.in_ok-add_of_list-in-InList.ensures ∙ ap (λ es. c.add_numbers-in-InList.new.list.items ++ all_in (map numbers_in es)) c.as_slice-in-InList.ensures)
    (c.in_ok-add_numbers-in-InList.ensures ∙ ap (λ (e : Expr). c.args.list.now.items ++ numbers_in e) c.get-in-InList.ensures)
    (ap numbers_in c.in-InList.is ∙ NumberLaws.numbers-InList c.in-InList.operand c.in-InList.members)

pub add_numbers-returns-in_ok-add_numbers-in-InSub : goal.add_numbers-returns-in_ok-add_numbers-in-InSub
add_numbers-returns-in_ok-add_numbers-in-InSub t c =
    NumberLaws.two_added _ (c.add-in-InSub.new.list.items) _ (c.in-InSub.number ∷ []) (numbers_in c.in-InSub.operand) _
    (c.in_ok-add_numbers-in-InSub.ensures ∙ ap (λ (e : Expr). c.add-in-InSub.new.list.items ++ numbers_in e) c.get-in-InSub.ensures)
    c.in_ok-add-in-InSub.ensures
    (ap numbers_in c.in-InSub.is ∙ NumberLaws.numbers-InSub c.in-InSub.number c.in-InSub.operand c.in-InSub.field-2)

pub add_numbers-returns-in_ok-add_numbers-in-Some-otherwise : goal.add_numbers-returns-in_ok-add_numbers-in-Some-otherwise
add_numbers-returns-in_ok-add_numbers-in-Some-otherwise t c =
    let old = c.args.list.now.items in
    let mid = c.match-operand.list.items in
    let arms = all_in (map numbers_in (arm_parts c.in-Case.arms)) in
    let first : mid ≡ old ++ NumberLaws.of_option c.in-Case.operand = elim c.match-operand.branch [
      | add_numbers-in-Some+in_ok-add_numbers-in-Some w ↦
          ap (λ (v : Vec ℕ Global). v.items) w.list-is
          ∙ w.in_ok-add_numbers-in-Some.ensures
          ∙ ap (λ (e : Expr). old ++ numbers_in e) w.get-in-Some.ensures
          ∙ ap (λ (o : Option Expr). old ++ NumberLaws.of_option o) (sym w.in-Some.is)
      | add_numbers-in-None w ↦
          ap (λ (v : Vec ℕ Global). v.items) w.list-is
          ∙ NumberLaws.none_added old (NumberLaws.of_option c.in-Case.operand) (ap NumberLaws.of_option w.in-None.is)
    ] in
    let last = numbers_in c.in-Some-otherwise.otherwise in
    NumberLaws.two_added _ mid old (NumberLaws.of_option c.in-Case.operand) (arms ++ last) _
    (NumberLaws.two_added _ (c.add_of_arms.new.list.items) mid arms last (arms ++ last)
    (c.in_ok-add_numbers-in-Some-otherwise.ensures ∙ ap (λ (e : Expr). c.add_of_arms.new.list.items ++ numbers_in e) c.get-in-Some-otherwise.ensures)
    (c.in_ok-add_of_arms-in-Case.ensures ∙ ap (λ (as' : List (Expr × Expr)). mid ++ all_in (map numbers_in (arm_parts as'))) c.as_slice-in-Case.ensures) refl)
    first
    (ap numbers_in c.in-Case.is ∙ NumberLaws.numbers-Case c.in-Case.operand c.in-Case.arms c.in-Case.otherwise ∙ ap (λ (o : Option Expr). NumberLaws.of_option c.in-Case.operand ++ (arms ++ NumberLaws.of_option o)) c.in-Some-otherwise.is)

pub add_numbers-returns-in-None-otherwise : goal.add_numbers-returns-in-None-otherwise
add_numbers-returns-in-None-otherwise t c =
    let old = c.args.list.now.items in
    let mid = c.match-operand.list.items in
    let arms = all_in (map numbers_in (arm_parts c.in-Case.arms)) in
    let first : mid ≡ old ++ NumberLaws.of_option c.in-Case.operand = elim c.match-operand.branch [
      | add_numbers-in-Some+in_ok-add_numbers-in-Some w ↦
          ap (λ (v : Vec ℕ Global). v.items) w.list-is
          ∙ w.in_ok-add_numbers-in-Some.ensures
          ∙ ap (λ (e : Expr). old ++ numbers_in e) w.get-in-Some.ensures
          ∙ ap (λ (o : Option Expr). old ++ NumberLaws.of_option o) (sym w.in-Some.is)
      | add_numbers-in-None w ↦
          ap (λ (v : Vec ℕ Global). v.items) w.list-is
          ∙ NumberLaws.none_added old (NumberLaws.of_option c.in-Case.operand) (ap NumberLaws.of_option w.in-None.is)
    ] in
    NumberLaws.two_added _ mid old (NumberLaws.of_option c.in-Case.operand) (arms ++ []) _
    (c.in_ok-add_of_arms-in-Case.ensures ∙ ap (λ (as' : List (Expr × Expr)). mid ++ all_in (map numbers_in (arm_parts as'))) c.as_slice-in-Case.ensures ∙ ap (λ os. mid ++ os) (sym (append-nil arms)))
    first
    (ap numbers_in c.in-Case.is ∙ NumberLaws.numbers-Case c.in-Case.operand c.in-Case.arms c.in-Case.otherwise ∙ ap (λ (o : Option Expr). NumberLaws.of_option c.in-Case.operand ++ (arms ++ NumberLaws.of_option o)) c.in-None-otherwise.is)

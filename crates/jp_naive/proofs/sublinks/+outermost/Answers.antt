use Rattle.jp_naive.specs.declared.sublinks.Sublink.{Sublink}
use Rattle.std.proofs.Common.{◌≡◌, append-nil, Global, List, Option, Vec, ◌∙◌, ◌++◌, ◌∷◌, [], ap, sym, refl, map, take, ◌+◌}
use Rattle.jp_query.specs.declared.Expr.{Expr}
use Rattle.jp_query.specs.declared.Query.{Query}
use Rattle.jp_query.specs.Outermost.{outermost}
use Rattle.jp_query.specs.Parts.{all_in, arm_parts, term_part}
use Rattle.jp_naive.specs.Sublinks.{outer_of}
use Rattle.jp_naive.proofs.OuterLaws
use Rattle.jp_naive.proofs.sublinks.+outermost.Goals as goal
use Rattle.jp_naive.proofs.sublinks.+outermost.Goals.{add_outermost-in-Some+in_ok-add_outermost-in-Some, add_outermost-in-None}

pub add_of_list-exprs-preserved : goal.add_of_list-exprs-preserved
add_of_list-exprs-preserved t c =
    OuterLaws.two_added (map outer_of c.add_outermost.new.list.items) (map outer_of c.exprs.list.items) (map outer_of c.args.list.now.items) (all_in (map outermost (take c.exprs.expr-index c.args.exprs.now))) (outermost c.expr-item.result) (all_in (map outermost (take (c.exprs.expr-index + 1) c.args.exprs.now)))
    c.in_ok-add_outermost.ensures c.exprs.invariant (OuterLaws.in_list_more c.args.exprs.now c.exprs.expr-index c.expr-item.result c.exprs-test.true c.expr-item.is)

pub add_of_terms-terms-preserved : goal.add_of_terms-terms-preserved
add_of_terms-terms-preserved t c =
    OuterLaws.two_added (map outer_of c.add_outermost.new.list.items) (map outer_of c.terms.list.items) (map outer_of c.args.list.now.items) (all_in (map outermost (map term_part (take c.terms.term-index c.args.terms.now)))) (outermost c.terms-item.result.1) (all_in (map outermost (map term_part (take (c.terms.term-index + 1) c.args.terms.now))))
    c.in_ok-add_outermost.ensures c.terms.invariant (OuterLaws.in_terms_more c.args.terms.now c.terms.term-index c.terms-item.result c.terms-test.true c.terms-item.is)

pub add_of_arms-arms-preserved : goal.add_of_arms-arms-preserved
add_of_arms-arms-preserved t c =
    let a = outermost c.arms-item.result.0 in
    let b = outermost c.arms-item.result.1 in
    OuterLaws.two_added (map outer_of c.add_outermost-in-arms.new.list.items) (map outer_of c.arms.list.items) (map outer_of c.args.list.now.items) (all_in (map outermost (arm_parts (take c.arms.when-index c.args.arms.now)))) (a ++ b) (all_in (map outermost (arm_parts (take (c.arms.when-index + 1) c.args.arms.now))))
    (OuterLaws.two_added (map outer_of c.add_outermost-in-arms.new.list.items) (map outer_of c.add_outermost.new.list.items) (map outer_of c.arms.list.items) a b (a ++ b) c.in_ok-add_outermost-2.ensures c.in_ok-add_outermost.ensures refl)
    c.arms.invariant (OuterLaws.in_arms_more c.args.arms.now c.arms.when-index c.arms-item.result c.arms-test.true c.arms-item.is)

pub add_outermost-returns-in-Col : goal.add_outermost-returns-in-Col
add_outermost-returns-in-Col t c = OuterLaws.none_added (map outer_of c.args.list.now.items) (outermost c.args.expr.now) (ap outermost c.in-Col.is ∙ OuterLaws.outers-Col c.in-Col.rel c.in-Col.col c.in-Col.ty c.in-Col.nulled)

pub add_outermost-returns-in-Lit : goal.add_outermost-returns-in-Lit
add_outermost-returns-in-Lit t c = OuterLaws.none_added (map outer_of c.args.list.now.items) (outermost c.args.expr.now) (ap outermost c.in-Lit.is ∙ OuterLaws.outers-Lit c.in-Lit.field-0 c.in-Lit.field-1)

pub add_outermost-returns-in_ok-add_outermost-in-Compare-2 : goal.add_outermost-returns-in_ok-add_outermost-in-Compare-2
add_outermost-returns-in_ok-add_outermost-in-Compare-2 t c =
    OuterLaws.two_added _ (map outer_of c.add_outermost-in-Compare.new.list.items) _ (outermost c.in-Compare.left) (outermost c.in-Compare.right) _
    (c.in_ok-add_outermost-in-Compare-2.ensures ∙ ap (λ (e : Expr). map outer_of c.add_outermost-in-Compare.new.list.items ++ outermost e) c.get-in-Compare-2.ensures)
    (c.in_ok-add_outermost-in-Compare.ensures ∙ ap (λ (e : Expr). map outer_of c.args.list.now.items ++ outermost e) c.get-in-Compare.ensures)
    (ap outermost c.in-Compare.is ∙ OuterLaws.outers-Compare c.in-Compare.field-0 c.in-Compare.left c.in-Compare.right)

pub add_outermost-returns-in_ok-add_outermost-in-Between-3 : goal.add_outermost-returns-in_ok-add_outermost-in-Between-3
add_outermost-returns-in_ok-add_outermost-in-Between-3 t c =
    let a = outermost c.in-Between.operand in
    let b = outermost c.in-Between.low in
    let d = outermost c.in-Between.high in
    OuterLaws.two_added _ (map outer_of c.add_outermost-in-Between.new.list.items) _ a (b ++ d) _
    (OuterLaws.two_added _ (map outer_of c.add_outermost-in-Between-2.new.list.items) (map outer_of c.add_outermost-in-Between.new.list.items) b d (b ++ d)
    (c.in_ok-add_outermost-in-Between-3.ensures ∙ ap (λ (e : Expr). map outer_of c.add_outermost-in-Between-2.new.list.items ++ outermost e) c.get-in-Between-3.ensures)
    (c.in_ok-add_outermost-in-Between-2.ensures ∙ ap (λ (e : Expr). map outer_of c.add_outermost-in-Between.new.list.items ++ outermost e) c.get-in-Between-2.ensures) refl)
    (c.in_ok-add_outermost-in-Between.ensures ∙ ap (λ (e : Expr). map outer_of c.args.list.now.items ++ outermost e) c.get-in-Between.ensures)
    (ap outermost c.in-Between.is ∙ OuterLaws.outers-Between c.in-Between.operand c.in-Between.low c.in-Between.high)

pub add_outermost-returns-in_ok-add_of_list-in-InList : goal.add_outermost-returns-in_ok-add_of_list-in-InList
add_outermost-returns-in_ok-add_of_list-in-InList t c =
    OuterLaws.two_added _ (map outer_of c.add_outermost-in-InList.new.list.items) _ (outermost c.in-InList.operand) (all_in (map outermost c.in-InList.members)) _
    (c.in_ok-add_of_list-in-InList.ensures ∙ ap (λ es. map outer_of c.add_outermost-in-InList.new.list.items ++ all_in (map outermost es)) c.as_slice-in-InList.ensures)
    (c.in_ok-add_outermost-in-InList.ensures ∙ ap (λ (e : Expr). map outer_of c.args.list.now.items ++ outermost e) c.get-in-InList.ensures)
    (ap outermost c.in-InList.is ∙ OuterLaws.outers-InList c.in-InList.operand c.in-InList.members)

pub add_outermost-returns-in_ok-add_outermost-in-InSub : goal.add_outermost-returns-in_ok-add_outermost-in-InSub
add_outermost-returns-in_ok-add_outermost-in-InSub t c =
    OuterLaws.two_added _ (map outer_of c.add-in-InSub.new.list.items) _ (record { number = c.in-InSub.number; query = c.in-InSub.query } ∷ []) (outermost c.in-InSub.operand) _
    (c.in_ok-add_outermost-in-InSub.ensures ∙ ap (λ (e : Expr). map outer_of c.add-in-InSub.new.list.items ++ outermost e) c.get-in-InSub-2.ensures)
    (c.in_ok-add-in-InSub.ensures ∙ ap (λ (q : Query). map outer_of c.args.list.now.items ++ record { number = c.in-InSub.number; query = q } ∷ []) c.get-in-InSub.ensures)
    (ap outermost c.in-InSub.is ∙ OuterLaws.outers-InSub c.in-InSub.number c.in-InSub.operand c.in-InSub.query)

pub add_outermost-returns-in_ok-add_outermost-in-Some-otherwise : goal.add_outermost-returns-in_ok-add_outermost-in-Some-otherwise
add_outermost-returns-in_ok-add_outermost-in-Some-otherwise t c =
    let old = map outer_of c.args.list.now.items in
    let mid = map outer_of c.match-operand.list.items in
    let arms = all_in (map outermost (arm_parts c.in-Case.arms)) in
    let first : mid ≡ old ++ OuterLaws.of_option c.in-Case.operand = elim c.match-operand.branch [
      | add_outermost-in-Some+in_ok-add_outermost-in-Some w ↦
          ap (λ (v : Vec Sublink Global). map outer_of v.items) w.list-is
          ∙ w.in_ok-add_outermost-in-Some.ensures
          ∙ ap (λ (e : Expr). old ++ outermost e) w.get-in-Some.ensures
          ∙ ap (λ (o : Option Expr). old ++ OuterLaws.of_option o) (sym w.in-Some.is)
      | add_outermost-in-None w ↦
          ap (λ (v : Vec Sublink Global). map outer_of v.items) w.list-is
          ∙ OuterLaws.none_added old (OuterLaws.of_option c.in-Case.operand) (ap OuterLaws.of_option w.in-None.is)
    ] in
    let last = outermost c.in-Some-otherwise.otherwise in
    OuterLaws.two_added _ mid old (OuterLaws.of_option c.in-Case.operand) (arms ++ last) _
    (OuterLaws.two_added _ (map outer_of c.add_of_arms.new.list.items) mid arms last (arms ++ last)
    (c.in_ok-add_outermost-in-Some-otherwise.ensures ∙ ap (λ (e : Expr). map outer_of c.add_of_arms.new.list.items ++ outermost e) c.get-in-Some-otherwise.ensures)
    (c.in_ok-add_of_arms-in-Case.ensures ∙ ap (λ (as' : List (Expr × Expr)). mid ++ all_in (map outermost (arm_parts as'))) c.as_slice-in-Case.ensures) refl)
    first
    (ap outermost c.in-Case.is ∙ OuterLaws.outers-Case c.in-Case.operand c.in-Case.arms c.in-Case.otherwise ∙ ap (λ (o : Option Expr). OuterLaws.of_option c.in-Case.operand ++ (arms ++ OuterLaws.of_option o)) c.in-Some-otherwise.is)

pub add_outermost-returns-in-None-otherwise : goal.add_outermost-returns-in-None-otherwise
add_outermost-returns-in-None-otherwise t c =
    let old = map outer_of c.args.list.now.items in
    let mid = map outer_of c.match-operand.list.items in
    let arms = all_in (map outermost (arm_parts c.in-Case.arms)) in
    let first : mid ≡ old ++ OuterLaws.of_option c.in-Case.operand = elim c.match-operand.branch [
      | add_outermost-in-Some+in_ok-add_outermost-in-Some w ↦
          ap (λ (v : Vec Sublink Global). map outer_of v.items) w.list-is
          ∙ w.in_ok-add_outermost-in-Some.ensures
          ∙ ap (λ (e : Expr). old ++ outermost e) w.get-in-Some.ensures
          ∙ ap (λ (o : Option Expr). old ++ OuterLaws.of_option o) (sym w.in-Some.is)
      | add_outermost-in-None w ↦
          ap (λ (v : Vec Sublink Global). map outer_of v.items) w.list-is
          ∙ OuterLaws.none_added old (OuterLaws.of_option c.in-Case.operand) (ap OuterLaws.of_option w.in-None.is)
    ] in
    OuterLaws.two_added _ mid old (OuterLaws.of_option c.in-Case.operand) (arms ++ []) _
    (c.in_ok-add_of_arms-in-Case.ensures ∙ ap (λ (as' : List (Expr × Expr)). mid ++ all_in (map outermost (arm_parts as'))) c.as_slice-in-Case.ensures ∙ ap (λ os. mid ++ os) (sym (append-nil arms)))
    first
    (ap outermost c.in-Case.is ∙ OuterLaws.outers-Case c.in-Case.operand c.in-Case.arms c.in-Case.otherwise ∙ ap (λ (o : Option Expr). OuterLaws.of_option c.in-Case.operand ++ (arms ++ OuterLaws.of_option o)) c.in-None-otherwise.is)

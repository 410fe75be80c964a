use Rattle.std.proofs.Common.{◌≡◌, ℕ, append-nil, Global, List, Option, Vec, ◌∙◌, ◌++◌, [], ap, sym, refl, map, take, ◌+◌}
use Rattle.jp_query.specs.declared.Expr.{Expr}
use Rattle.jp_query.specs.Parts.{all_in, arm_parts, term_part}
use Rattle.jp_outputs.specs.Columns.{places_in}
use Rattle.jp_outputs.proofs.PlaceLaws
use Rattle.jp_outputs.proofs.columns.+columns.Goals as goal
use Rattle.jp_outputs.proofs.columns.+columns.Goals.{add_columns-in-Some+in_ok-add_columns-in-Some, add_columns-in-None}

pub add_of_list-exprs-preserved : goal.add_of_list-exprs-preserved
add_of_list-exprs-preserved t c =
    PlaceLaws.two_added (c.add_columns.new.list.items) (c.exprs.list.items) (c.args.list.now.items) (all_in (map places_in (take c.exprs.expr-index c.args.exprs.now))) (places_in c.expr-item.result) (all_in (map places_in (take (c.exprs.expr-index + 1) c.args.exprs.now)))
    c.in_ok-add_columns.ensures c.exprs.invariant (PlaceLaws.in_list_more c.args.exprs.now c.exprs.expr-index c.expr-item.result c.exprs-test.true c.expr-item.is)

pub add_of_terms-terms-preserved : goal.add_of_terms-terms-preserved
add_of_terms-terms-preserved t c =
    PlaceLaws.two_added (c.add_columns.new.list.items) (c.terms.list.items) (c.args.list.now.items) (all_in (map places_in (map term_part (take c.terms.term-index c.args.terms.now)))) (places_in c.terms-item.result.1) (all_in (map places_in (map term_part (take (c.terms.term-index + 1) c.args.terms.now))))
    c.in_ok-add_columns.ensures c.terms.invariant (PlaceLaws.in_terms_more c.args.terms.now c.terms.term-index c.terms-item.result c.terms-test.true c.terms-item.is)

pub add_of_arms-arms-preserved : goal.add_of_arms-arms-preserved
add_of_arms-arms-preserved t c =
    let a = places_in c.arms-item.result.0 in
    let b = places_in c.arms-item.result.1 in
    PlaceLaws.two_added (c.add_columns-in-arms.new.list.items) (c.arms.list.items) (c.args.list.now.items) (all_in (map places_in (arm_parts (take c.arms.when-index c.args.arms.now)))) (a ++ b) (all_in (map places_in (arm_parts (take (c.arms.when-index + 1) c.args.arms.now))))
    (PlaceLaws.two_added (c.add_columns-in-arms.new.list.items) (c.add_columns.new.list.items) (c.arms.list.items) a b (a ++ b) c.in_ok-add_columns-2.ensures c.in_ok-add_columns.ensures refl)
    c.arms.invariant (PlaceLaws.in_arms_more c.args.arms.now c.arms.when-index c.arms-item.result c.arms-test.true c.arms-item.is)

pub add_columns-returns-in-Lit : goal.add_columns-returns-in-Lit
add_columns-returns-in-Lit t c = PlaceLaws.none_added (c.args.list.now.items) (places_in c.args.expr.now) (ap places_in c.in-Lit.is ∙ PlaceLaws.places-Lit c.in-Lit.field-0 c.in-Lit.field-1)

pub add_columns-returns-in_ok-add_columns-in-Compare-2 : goal.add_columns-returns-in_ok-add_columns-in-Compare-2
add_columns-returns-in_ok-add_columns-in-Compare-2 t c =
    PlaceLaws.two_added _ (c.add_columns-in-Compare.new.list.items) _ (places_in c.in-Compare.left) (places_in c.in-Compare.right) _
    (c.in_ok-add_columns-in-Compare-2.ensures ∙ ap (λ (e : Expr). c.add_columns-in-Compare.new.list.items ++ places_in e) c.get-in-Compare-2.ensures)
    (c.in_ok-add_columns-in-Compare.ensures ∙ ap (λ (e : Expr). c.args.list.now.items ++ places_in e) c.get-in-Compare.ensures)
    (ap places_in c.in-Compare.is ∙ PlaceLaws.places-Compare c.in-Compare.field-0 c.in-Compare.left c.in-Compare.right)

pub add_columns-returns-in_ok-add_columns-in-Between-3 : goal.add_columns-returns-in_ok-add_columns-in-Between-3
add_columns-returns-in_ok-add_columns-in-Between-3 t c =
    let a = places_in c.in-Between.operand in
    let b = places_in c.in-Between.low in
    let d = places_in c.in-Between.high in
    PlaceLaws.two_added _ (c.add_columns-in-Between.new.list.items) _ a (b ++ d) _
    (PlaceLaws.two_added _ (c.add_columns-in-Between-2.new.list.items) (c.add_columns-in-Between.new.list.items) b d (b ++ d)
    (c.in_ok-add_columns-in-Between-3.ensures ∙ ap (λ (e : Expr). c.add_columns-in-Between-2.new.list.items ++ places_in e) c.get-in-Between-3.ensures)
    (c.in_ok-add_columns-in-Between-2.ensures ∙ ap (λ (e : Expr). c.add_columns-in-Between.new.list.items ++ places_in e) c.get-in-Between-2.ensures) refl)
    (c.in_ok-add_columns-in-Between.ensures ∙ ap (λ (e : Expr). c.args.list.now.items ++ places_in e) c.get-in-Between.ensures)
    (ap places_in c.in-Between.is ∙ PlaceLaws.places-Between c.in-Between.operand c.in-Between.low c.in-Between.high)

pub add_columns-returns-in_ok-add_of_list-in-InList : goal.add_columns-returns-in_ok-add_of_list-in-InList
add_columns-returns-in_ok-add_of_list-in-InList t c =
    PlaceLaws.two_added _ (c.add_columns-in-InList.new.list.items) _ (places_in c.in-InList.operand) (all_in (map places_in c.in-InList.members)) _
    (c.in_ok-add_of_list-in-InList.ensures ∙ ap (λ es. c.add_columns-in-InList.new.list.items ++ all_in (map places_in es)) c.as_slice-in-InList.ensures)
    (c.in_ok-add_columns-in-InList.ensures ∙ ap (λ (e : Expr). c.args.list.now.items ++ places_in e) c.get-in-InList.ensures)
    (ap places_in c.in-InList.is ∙ PlaceLaws.places-InList c.in-InList.operand c.in-InList.members)

pub add_columns-returns-in-Exists : goal.add_columns-returns-in-Exists
add_columns-returns-in-Exists t c = PlaceLaws.none_added (c.args.list.now.items) (places_in c.args.expr.now) (ap places_in c.in-Exists.is ∙ PlaceLaws.places-Exists c.in-Exists.field-0 c.in-Exists.field-1)

pub add_columns-returns-in_ok-add_columns-in-Some-otherwise : goal.add_columns-returns-in_ok-add_columns-in-Some-otherwise
add_columns-returns-in_ok-add_columns-in-Some-otherwise t c =
    let old = c.args.list.now.items in
    let mid = c.match-operand.list.items in
    let arms = all_in (map places_in (arm_parts c.in-Case.arms)) in
    let first : mid ≡ old ++ PlaceLaws.of_option c.in-Case.operand = elim c.match-operand.branch [
      | add_columns-in-Some+in_ok-add_columns-in-Some w ↦
          ap (λ (v : Vec (ℕ × ℕ) Global). v.items) w.list-is
          ∙ w.in_ok-add_columns-in-Some.ensures
          ∙ ap (λ (e : Expr). old ++ places_in e) w.get-in-Some.ensures
          ∙ ap (λ (o : Option Expr). old ++ PlaceLaws.of_option o) (sym w.in-Some.is)
      | add_columns-in-None w ↦
          ap (λ (v : Vec (ℕ × ℕ) Global). v.items) w.list-is
          ∙ PlaceLaws.none_added old (PlaceLaws.of_option c.in-Case.operand) (ap PlaceLaws.of_option w.in-None.is)
    ] in
    let last = places_in c.in-Some-otherwise.otherwise in
    PlaceLaws.two_added _ mid old (PlaceLaws.of_option c.in-Case.operand) (arms ++ last) _
    (PlaceLaws.two_added _ (c.add_of_arms.new.list.items) mid arms last (arms ++ last)
    (c.in_ok-add_columns-in-Some-otherwise.ensures ∙ ap (λ (e : Expr). c.add_of_arms.new.list.items ++ places_in e) c.get-in-Some-otherwise.ensures)
    (c.in_ok-add_of_arms-in-Case.ensures ∙ ap (λ (as' : List (Expr × Expr)). mid ++ all_in (map places_in (arm_parts as'))) c.as_slice-in-Case.ensures) refl)
    first
    (ap places_in c.in-Case.is ∙ PlaceLaws.places-Case c.in-Case.operand c.in-Case.arms c.in-Case.otherwise ∙ ap (λ (o : Option Expr). PlaceLaws.of_option c.in-Case.operand ++ (arms ++ PlaceLaws.of_option o)) c.in-Some-otherwise.is)

pub add_columns-returns-in-None-otherwise : goal.add_columns-returns-in-None-otherwise
add_columns-returns-in-None-otherwise t c =
    let old = c.args.list.now.items in
    let mid = c.match-operand.list.items in
    let arms = all_in (map places_in (arm_parts c.in-Case.arms)) in
    let first : mid ≡ old ++ PlaceLaws.of_option c.in-Case.operand = elim c.match-operand.branch [
      | add_columns-in-Some+in_ok-add_columns-in-Some w ↦
          ap (λ (v : Vec (ℕ × ℕ) Global). v.items) w.list-is
          ∙ w.in_ok-add_columns-in-Some.ensures
          ∙ ap (λ (e : Expr). old ++ places_in e) w.get-in-Some.ensures
          ∙ ap (λ (o : Option Expr). old ++ PlaceLaws.of_option o) (sym w.in-Some.is)
      | add_columns-in-None w ↦
          ap (λ (v : Vec (ℕ × ℕ) Global). v.items) w.list-is
          ∙ PlaceLaws.none_added old (PlaceLaws.of_option c.in-Case.operand) (ap PlaceLaws.of_option w.in-None.is)
    ] in
    PlaceLaws.two_added _ mid old (PlaceLaws.of_option c.in-Case.operand) (arms ++ []) _
    (c.in_ok-add_of_arms-in-Case.ensures ∙ ap (λ (as' : List (Expr × Expr)). mid ++ all_in (map places_in (arm_parts as'))) c.as_slice-in-Case.ensures ∙ ap (λ os. mid ++ os) (sym (append-nil arms)))
    first
    (ap places_in c.in-Case.is ∙ PlaceLaws.places-Case c.in-Case.operand c.in-Case.arms c.in-Case.otherwise ∙ ap (λ (o : Option Expr). PlaceLaws.of_option c.in-Case.operand ++ (arms ++ PlaceLaws.of_option o)) c.in-None-otherwise.is)

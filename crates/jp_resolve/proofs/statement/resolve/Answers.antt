use Rattle.std.proofs.Common.{◌∙◌, sym, subst, [], Ok, arith}
use Rattle.jp_resolution.specs.Answers.{Gives}
use Rattle.jp_resolution.specs.Counting.{none}
use Rattle.jp_resolution.specs.Resolving.{ordered, resolved}
use Rattle.jp_resolve.specs.Walk.{select_in, counts_of_select}
use Rattle.jp_resolve.specs.Orders.{counts_of_orders}
use Rattle.jp_resolve.proofs.CountLaws.{agreed}
use Rattle.jp_resolve.proofs.Resolved.{answer_typed, answer_bounded, answer_fresh, answer_sorts}
use Rattle.jp_resolve.proofs.TopLaws.{few_resolved, counted_is}
use Rattle.jp_resolve.proofs.WalkLaws.{then_given}
use Rattle.jp_resolve.proofs.statement.resolve.Goals as goal

pub returns : goal.returns
returns c =
    let catalog = c.args.catalog.now in
    let stmt = c.args.stmt.now in
    let select = c.in_ok-select.select in
    let selection = c.in_ok-selection.selection in
    let orders : Gives (Ok (counts_of_orders catalog stmt.order)) (Ok c.in_ok-order.order) = subst (λ z. Gives (Ok (counts_of_orders catalog z)) (Ok c.in_ok-order.order)) c.as_slice.ensures c.in_ok-order.ensures in
    let few = c.if-counts-gt-ENTRY_LIMIT.false in
    let whole = few_resolved catalog stmt select c.in_ok-order.order c.in_ok-counts.counts c.in_ok-select.ensures orders c.in_ok-counts.ensures (omega arith) ∙ counted_is catalog stmt in
    let chosen : Gives (select_in catalog stmt.select [] none) (Ok selection) =
    subst (λ z. Gives (select_in catalog stmt.select [] z) (Ok selection)) c.no_counts.ensures
    (subst (λ z. Gives (select_in catalog stmt.select z c.no_counts.result) (Ok selection)) (c.as_slice-2.ensures ∙ c.new-none.ensures) c.in_ok-selection.ensures) in
    let in_order : Gives (ordered catalog stmt.order (counts_of_select catalog stmt.select) selection) (Ok c.in_ok-query.query) =
    subst (λ z. Gives (ordered catalog stmt.order z selection) (Ok c.in_ok-query.query)) (agreed _ _ c.in_ok-select.ensures)
    (subst (λ z. Gives (ordered catalog z select selection) (Ok c.in_ok-query.query)) c.as_slice-3.ensures c.in_ok-query.ensures) in
    let answer = Ok c.in_ok-query.query in
    let given : Gives (resolved catalog stmt) answer = subst (λ z. Gives z answer) (sym whole) (then_given (select_in catalog stmt.select [] none) _ selection _ chosen in_order) in
    record {
      query = given;
      typed = answer_typed catalog stmt answer given;
      bounded = answer_bounded catalog stmt answer given;
      fresh = answer_fresh catalog stmt answer given;
      selected = answer_sorts catalog stmt answer given;
    }

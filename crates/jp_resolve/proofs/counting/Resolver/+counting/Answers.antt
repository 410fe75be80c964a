use Rattle.std.proofs.Common.{◌≡◌, ◌∙◌, ap, sym, inr, Ok, arith}
use Rattle.jp_resolution.specs.Counting.{both}
use Rattle.jp_resolve.specs.Walk as spec
use Rattle.jp_resolve.proofs.CountLaws.{agreed, case_counted, join_counted, table_counted, left_smaller}
use Rattle.jp_resolve.proofs.counting.Resolver.+counting.Goals as goal

pub expr_counts-returns-in_ok-counts-in-Case : goal.expr_counts-returns-in_ok-counts-in-Case
expr_counts-returns-in_ok-counts-in-Case t c =
    let k = c.in-Case in
    case_counted c.args.self.now.catalog.now c.args.ast.now k.operand k.arms c.as_slice-in-Case.result.now k.otherwise k.at _ _ _ _ c.in_ok-counts-in-Case.counts k.is
    c.in_ok-operand-in-Case.ensures c.as_slice-in-Case.ensures c.in_ok-arms-in-Case.ensures c.in_ok-otherwise-in-Case.ensures c.in_ok-results-in-Case.ensures c.in_ok-counts-in-Case.ensures

pub one_item_counts-joins-preserved : goal.one_item_counts-joins-preserved
one_item_counts-joins-preserved t c =
    let j = c.in-Join in
    let catalog = c.args.self.now.catalog.now in
    let smaller = left_smaller c.joins.spine.now j.kind j.left j.right j.on j.at j.is c.get-spine.result.now c.get-spine.ensures in
    let right = agreed _ _ c.in_ok-right.ensures ∙ ap (spec.counts_of_item catalog) c.get.ensures in
    let on = agreed _ _ c.in_ok-on.ensures in
    let join = agreed _ _ c.in_ok-join.ensures in
    let more = agreed _ _ c.in_ok-counts.ensures in
    let whole : c.in_ok-join.join ≡ both (spec.counts_of_item catalog j.right) (spec.counts_of_maybe catalog j.on) = cc in
    record {
      no_deeper = omega arith;
      counts =
          ap (λ i. both (spec.counts_of_item catalog i) c.in_ok-counts.counts) c.get-spine.ensures
          ∙ join_counted catalog c.joins.spine.now j.kind j.left j.right j.on j.at c.in_ok-join.join c.joins.counts c.in_ok-counts.counts j.is whole more
          ∙ c.joins.invariant.counts;
    }

pub one_item_counts-returns-in_ok-whole-in_default-spine : goal.one_item_counts-returns-in_ok-whole-in_default-spine
one_item_counts-returns-in_ok-whole-in_default-spine t c =
    let catalog = c.args.self.now.catalog.now in
    let table = table_counted catalog c.joins.spine.now c.in_default.not-Join c.in_default-spine.not-Sub in
    let whole = agreed _ _ c.in_ok-whole-in_default-spine.ensures in
    let same = c.joins.invariant.counts in
    let entry = c.one_entry-in_default-spine.ensures in
    let e : spec.counts_of_item catalog c.args.item.now ≡ c.in_ok-whole-in_default-spine.whole = cc in
    inr (ap Ok (sym e))

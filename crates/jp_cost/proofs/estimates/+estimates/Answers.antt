use Rattle.std.proofs.Common.{◌≡◌, ◌∙◌, ap, ap₂, sym, arith, suc, ◌-◌, fold}
use Rattle.jp_cost.proofs.RoundLaws.{joins_one_by_one, one_round}
use Rattle.jp_cost.specs.declared.conditions.Pick.TheVariants.{Beyond}
use Rattle.jp_cost.specs.Estimates.{estimate_in, filtered_by, join_rows, outermost_in}
use Rattle.jp_cost.proofs.estimates.+estimates.Goals as goal

pub estimate_in-returns : goal.estimate_in-returns
estimate_in-returns t c =
    let problem = c.args.problem.now in
    let set = c.args.set in
    let less = c.args.rounds - 1 in
    let next : suc (c.args.rounds - 1) ≡ c.args.rounds = omega arith in
    let joined =
    c.after_joins-rows.ensures ∙ joins_one_by_one problem set (estimate_in less problem) c.core_rows-rows.result
    ∙ ap (λ rows. fold (join_rows problem (estimate_in less problem)) rows (outermost_in problem set)) c.core_rows-rows.ensures
    in
    c.filtered.ensures ∙ ap₂ (λ core rows. filtered_by problem set (Beyond core) rows) c.core-core.ensures.is joined ∙ sym (one_round less problem set) ∙ ap (λ n. estimate_in n problem set) next

use Rattle.std.proofs.Common.{◌∙◌, sym, ap, refl}
use Rattle.jp_problem.proofs.LegalLaws.{step_says}
use Rattle.jp_search.specs.Splits.{lesser, method_of, stepped}
use Rattle.jp_search.proofs.SplitLaws.{all_there, no_right, no_left, no_step}
use Rattle.jp_search.proofs.splits.split.Goals as goal

pub step-requires-clause-legal : goal.step-requires-clause-legal
step-requires-clause-legal c = (step_says c.args.problem.now c.args.left c.args.right c.in_ok-kind.kind).0 (sym c.kind_of.ensures ∙ c.in_ok-kind.was)

pub returns-in_err-a : goal.returns-in_err-a
returns-in_err-a c = ap (lesser c.args.least) (c.from_residual.ensures ∙ no_left c.args.problem.now c.args.table.now c.args.left c.args.right (sym c.entry.ensures ∙ c.in_err-a.was))

pub returns-in_err-b : goal.returns-in_err-b
returns-in_err-b c = ap (lesser c.args.least) (c.from_residual-in_err-b.ensures ∙ no_right c.args.problem.now c.args.table.now c.args.left c.args.right (sym c.entry-2.ensures ∙ c.in_err-b.was))

pub returns-in_err-kind : goal.returns-in_err-kind
returns-in_err-kind c = ap (lesser c.args.least) (c.from_residual-in_err-kind.ensures ∙ no_step c.args.problem.now c.args.table.now c.args.left c.args.right (sym c.kind_of.ensures ∙ c.in_err-kind.was))

pub returns : goal.returns
returns c =
    let a = c.in_ok-a.a in
    let b = c.in_ok-b.b in
    let kind = c.in_ok-kind.kind in
    let best = stepped (method_of c.args.problem.now c.args.left c.args.right kind a.rows b.rows) kind a b in
    c.step.ensures
    ∙ ap (lesser c.args.least) (all_there c.args.problem.now c.args.table.now c.args.left c.args.right kind a b best (sym c.kind_of.ensures ∙ c.in_ok-kind.was) (sym c.entry.ensures ∙ c.in_ok-a.was) (sym c.entry-2.ensures ∙ c.in_ok-b.was) refl)

use Rattle.std.proofs.Common.{rules, ◌≡◌, ◌∙◌, ap, sym, subst}
use Rattle.jp_resolution.specs.Answers.{Gives}
use Rattle.jp_resolution.specs.Ordering.{item_expr, position, output_at}
use Rattle.jp_resolve.specs.Orders as spec
use Rattle.jp_resolve.specs.Walk.{expr_in}
use Rattle.jp_resolve.proofs.OrderLaws.{written-Number}
use Rattle.jp_resolve.proofs.Rules.{place-Number}
use Rattle.jp_resolve.proofs.counting.Resolver.order_expr.Goals as goal

pub returns-in_err-expr-in-Number : goal.returns-in_err-expr-in-Number
returns-in_err-expr-in-Number c =
    let n = c.in-Number in
    let catalog = c.args.self.now.catalog.now in
    let a = c.args.ast.now in
    let outputs = c.args.outputs.now in
    let whole : spec.order_expr_in catalog c.args.distinct outputs a c.args.levels.now c.args.before ≡ position n.at (output_at outputs n.value) =
    ap (λ z. spec.order_expr_in catalog c.args.distinct outputs z c.args.levels.now c.args.before) n.is
    ∙ (λ k. item_expr (place-Number catalog n.value n.at k) c.args.distinct outputs (expr_in catalog (sym n.is k) c.args.levels.now c.args.before) (written-Number catalog n.value n.at k)) in
    subst (λ z. Gives z c.from_residual-in_err-expr-in-Number.result) (sym whole) (search rules)

use Rattle.std.proofs.Common.{◌≡◌, ◌∙◌, ap, sym, [], drop, map, fold, arith}
use Rattle.std.proofs.lemmas.List.{drop_all}
use Rattle.jp_resolution.specs.Types.{bound_in}
use Rattle.jp_resolve_parts.specs.Bounds.{times_stopped}
use Rattle.jp_resolve_parts.proofs.BoundLaws.{product_stopped}
use Rattle.jp_resolve_parts.proofs.bounds.product_of_bounds.Goals as goal

pub returns : goal.returns
returns c =
    let xs = c.args.factors.now in
    let done : drop c.factors.factor-index xs ≡ [] = drop_all c.factors.factor-index xs (omega arith) in
    ap (λ ys. fold times_stopped c.factors.total (map bound_in ys)) (sym done) ∙ c.factors.invariant ∙ product_stopped (map bound_in xs)

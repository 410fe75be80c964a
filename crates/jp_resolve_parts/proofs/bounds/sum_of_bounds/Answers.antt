use Rattle.std.proofs.Common.{◌≡◌, ◌∙◌, ap, sym, [], drop, map, fold, arith}
use Rattle.std.proofs.lemmas.List.{drop_all}
use Rattle.jp_query.specs.Parts.{term_part}
use Rattle.jp_resolution.specs.Types.{bound_in}
use Rattle.jp_resolve_parts.specs.Bounds.{plus_stopped}
use Rattle.jp_resolve_parts.proofs.BoundLaws.{sum_stopped}
use Rattle.jp_resolve_parts.proofs.bounds.sum_of_bounds.Goals as goal

pub returns : goal.returns
returns c =
    let xs = c.args.terms.now in
    let done : drop c.terms.term-index xs ≡ [] = drop_all c.terms.term-index xs (omega arith) in
    ap (λ ys. fold plus_stopped c.terms.total (map bound_in (map term_part ys))) (sym done) ∙ c.terms.invariant ∙ sum_stopped (map bound_in (map term_part xs))

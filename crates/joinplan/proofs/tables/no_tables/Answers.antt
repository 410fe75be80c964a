use Rattle.std.proofs.Common.{◌≡◌, ◌∙◌, ap, arith, length, None}
use Rattle.std.specs.Prelude.{replicate}
use Rattle.joinplan.proofs.TableLemmas.{none_made}
use Rattle.joinplan.proofs.tables.no_tables.Goals as goal

pub returns : goal.returns
returns c =
    let tables = c.args.catalog.now.tables in
    let all : c.loop.counter ≡ length tables = omega (arith, c.loop-test.false, c.loop.invariant.within, c.loop.invariant.end) in
    c.loop.invariant.made ∙ ap (λ n. replicate n None) all ∙ none_made tables

use Rattle.std.proofs.Common.{ap, ◌∙◌, ◌++◌, ◌∷◌, []}
use Rattle.std.specs.Prelude.{None}
use Rattle.jp_joins.proofs.PairFacts.{both_more}
use Rattle.jp_joins.proofs.tuples.put_pair.Goals as goal

pub places-preserved : goal.places-preserved
places-preserved c = c.in_ok-push.ensures.items ∙ ap (λ xs. xs ++ c.either.result ∷ []) c.places.invariant
    ∙ both_more c.args.left.rows.now c.args.right.rows.now c.places.at None None c.either.result c.places-test.true c.requires c.either.ensures

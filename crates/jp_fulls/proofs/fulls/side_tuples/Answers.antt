use Rattle.std.proofs.Common.{◌∙◌, ap₂, ◌∷◌, []}
use Rattle.jp_fulls.proofs.SideFacts.{tuple_more}
use Rattle.jp_fulls.proofs.fulls.side_tuples.Goals as goal

pub rows-preserved : goal.rows-preserved
rows-preserved c =
    tuple_more c.rows.tuples.items c.push.new.self.items c.in_ok-placed.field-0 c.args.side c.rows.row c.in_ok-push.ensures.items c.rows.invariant
    (c.in_ok-placed.ensures ∙ ap₂ (λ x y. x ∷ y ∷ []) c.place_if.ensures c.place_if-in-rows.ensures)

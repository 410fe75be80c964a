use Rattle.std.proofs.Common.{◌∙◌, ◌++◌, ◌∷◌, [], ap₂, sym}
use Rattle.jp_prepared.specs.Items.{distinct_values}
use Rattle.jp_session.proofs.ItemLaws.{map_below, map_none}
use Rattle.jp_session.proofs.items.distinct_of.Goals as goal

pub columns-init : goal.columns-init
columns-init c = c.new-distinct.ensures ∙ sym (map_none (distinct_values c.args.def.now))

pub columns-preserved : goal.columns-preserved
columns-preserved c =
    c.in_ok-push.ensures.ok ∙ ap₂ (λ ns n. ns ++ n ∷ []) c.columns.invariant c.distinct_values.ensures ∙ sym (map_below (distinct_values c.args.def.now) c.columns.column)

use Rattle.std.proofs.Common.{◌∙◌, ◌++◌, ap, sym}
use Rattle.std.specs.List.{flat_map}
use Rattle.jp_outputs.specs.Columns.{places_in}
use Rattle.jp_outputs.specs.Exprs.{lent_exprs}
use Rattle.jp_outputs.proofs.PlaceLaws.{block_places}
use Rattle.jp_outputs.proofs.columns.add_of_block.Goals as goal

pub returns : goal.returns
returns c =
    let old = c.args.list.now.items in
    c.in_ok-add_of_exprs.ensures
    ∙ ap (λ es. old ++ flat_map places_in (lent_exprs es)) c.as_slice.ensures.value
    ∙ ap (λ es. old ++ flat_map places_in es) c.in_ok-exprs.ensures
    ∙ ap (λ ps. old ++ ps) (sym (block_places c.args.block.now))

use Rattle.std.proofs.Common.{◌∙◌, ◌++◌, ap}
use Rattle.std.specs.List.{flat_map}
use Rattle.jp_session.specs.Parts.{order_parts, output_parts, sublink_parts}
use Rattle.jp_session.proofs.PartLaws.{all_pushed}
use Rattle.jp_session.proofs.sources.parts_of.Goals as goal

pub returns : goal.returns
returns c =
    all_pushed c.args.query.now c.new-parts.result.items c.push_items.new.parts.items c.push_conditions.new.parts.items c.push_list.new.parts.items c.push_outputs.new.parts.items c.push_orders.new.parts.items c.new-parts.ensures.items
    c.in_ok-push_items.ensures c.in_ok-push_conditions.ensures
    (c.in_ok-push_list.ensures ∙ ap (λ es. c.push_conditions.new.parts.items ++ flat_map sublink_parts es) c.as_slice.ensures)
    (c.in_ok-push_outputs.ensures ∙ ap (λ us. c.push_list.new.parts.items ++ flat_map output_parts us) c.as_slice-2.ensures)
    (c.in_ok-push_orders.ensures ∙ ap (λ os. c.push_outputs.new.parts.items ++ flat_map order_parts os) c.as_slice-3.ensures)

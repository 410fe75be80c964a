use Rattle.std.proofs.Common.{◌∙◌, ◌++◌, ap}
use Rattle.std.specs.List.{flat_map}
use Rattle.jp_prepared.specs.Names.{below}
use Rattle.jp_session.specs.Names.{printed_at, query_names}
use Rattle.jp_session.proofs.NameLaws.{names_are}
use Rattle.jp_session.proofs.names.names_of.Goals as goal

pub returns : goal.returns
returns c =
    names_are c.args.catalog.now c.args.query.now c.push_query.new.leaves.items c.in_ok-names.names
    (c.in_ok-push_query.ensures ∙ ap (λ ls. ls ++ query_names c.args.catalog.now c.args.query.now) c.new-leaves.ensures.items) (c.in_ok-names.ensures ∙ ap (λ ls. flat_map (printed_at ls) (below 64)) c.as_slice.ensures.value)

use Rattle.std.proofs.Common.{◌∙◌, ◌++◌, ap, sym}
use Rattle.jp_session.specs.Names.{printed_at}
use Rattle.jp_session.proofs.NameLaws.{below_more, none_below}
use Rattle.jp_session.proofs.names.printed_names.Goals as goal

pub relations-init : goal.relations-init
relations-init c = c.new-names.ensures ∙ sym (none_below (printed_at c.args.leaves.now))

pub relations-preserved : goal.relations-preserved
relations-preserved c = c.in_ok-push_name.ensures ∙ ap (λ ns. ns ++ printed_at c.args.leaves.now c.relations.rel) c.relations.invariant ∙ sym (below_more (printed_at c.args.leaves.now) c.relations.rel)

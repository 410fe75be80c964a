use Rattle.jp_placeholder.proofs.PresentLemmas.{by_meeting}
use Rattle.jp_placeholder.proofs.value_is_null.Goals as goal

pub returns : goal.returns
returns c =
    let exact = by_meeting c.args.rels c.args.present c.meets.result c.meets.ensures.members c.meets.ensures.below.0 in
    record { members = exact.0; placeholder = exact.1 }

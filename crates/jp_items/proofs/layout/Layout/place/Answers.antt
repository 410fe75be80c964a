use Rattle.std.proofs.Common.{◌∙◌, ap, get_or, rules}
use Rattle.jp_items.specs.Seeing.{place_of}
use Rattle.jp_items.proofs.SeeingFacts.{placed}
use Rattle.jp_items.proofs.layout.Layout.place.Goals as goal

pub returns : goal.returns
returns c =
    c.index.ensures ∙ ap (λ ps. get_or ps c.args.rel c.index.result.now) c.self.invariant
    ∙ placed c.self.inside.rels.items 64 c.args.rel c.index.result.now (search rules) ∙ ap (λ rels. place_of rels c.args.rel) c.self.view_is

pub returns-then-rel-ge64 : goal.returns-then-rel-ge64
returns-then-rel-ge64 c = c.first_place.ensures ∙ ap (λ rels. place_of rels c.args.rel) (c.as_slice.ensures.value ∙ c.self.view_is)

use Rattle.std.proofs.Common.{◌≡◌, ◌∙◌, ap, sym, map, ◌++◌, ◌∷◌, []}
use Rattle.std.specs.List.{range_with_len}
use Rattle.jp_items.specs.Seeing.{place_of}
use Rattle.jp_items.proofs.SeeingFacts.{place_more}
use Rattle.jp_items.proofs.layout.all_places.Goals as goal

pub rels-preserved : goal.rels-preserved
rels-preserved c =
    c.in_ok-push.ensures.items ∙ ap (λ xs. xs ++ c.first_place.result ∷ []) c.rels.invariant
    ∙ ap (λ p. map (place_of c.args.rels.now) (range_with_len 0 c.rels.rel) ++ p ∷ []) c.first_place.ensures ∙ sym (place_more c.args.rels.now c.rels.rel)

use Rattle.std.proofs.Common.{◌∙◌, ap, length, refl, []}
use Rattle.jp_items.specs.Numbers.{Numbered}
use Rattle.jp_items.proofs.Pieces.{piece_there, piece_is, piece_size}
use Rattle.jp_items.proofs.numbers.Numbers.tuple.Goals as goal

pub piece-requires : goal.piece-requires
piece-requires c =
    piece_there c.self.inside.width c.self.inside.width c.self.inside.count c.args.at c.self.inside.flat.items c.as_slice.result.now c.args.self.now.list
    refl c.as_slice.ensures.value (ap (λ (n : Numbered). n.list) c.self.view_is) c.self.invariant c.requires

pub returns-clause-numbers : goal.returns-clause-numbers
returns-clause-numbers c =
    c.piece.ensures ∙ piece_is c.self.inside.width c.self.inside.width c.self.inside.count c.args.at c.self.inside.flat.items c.as_slice.result.now c.args.self.now.list
    refl c.as_slice.ensures.value (ap (λ (n : Numbered). n.list) c.self.view_is) c.self.invariant c.requires []

pub returns-clause-whole : goal.returns-clause-whole
returns-clause-whole c =
    ap length c.piece.ensures ∙ piece_size c.self.inside.width c.self.inside.width c.self.inside.count c.args.at c.self.inside.flat.items c.as_slice.result.now c.args.self.now.list
    refl c.as_slice.ensures.value (ap (λ (n : Numbered). n.list) c.self.view_is) c.self.invariant c.requires
    ∙ ap (λ (n : Numbered). n.width) c.self.view_is

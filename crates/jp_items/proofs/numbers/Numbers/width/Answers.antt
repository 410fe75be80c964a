use Rattle.std.proofs.Common.{subst, length}
use Rattle.std.specs.Prelude.{All, ◌≡◌}
use Rattle.jp_items.specs.Numbers.{Numbered}
use Rattle.jp_items.proofs.Pieces.{pieces_whole}
use Rattle.jp_items.proofs.numbers.Numbers.width.Goals as goal

pub returns-clause-whole : goal.returns-clause-whole
returns-clause-whole c = subst (λ (n : Numbered). All (λ tuple. length tuple ≡ n.width) n.list) c.self.view_is (pieces_whole c.self.inside.width c.self.inside.count c.self.inside.flat.items c.self.invariant)

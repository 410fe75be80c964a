use Rattle.std.proofs.Common.{◌∙◌, sym, ap, length}
use Rattle.jp_items.specs.Numbers.{Numbered}
use Rattle.jp_items.proofs.Pieces.{split_count}
use Rattle.jp_items.proofs.numbers.Numbers.len.Goals as goal

pub returns : goal.returns
returns c = sym (split_count c.self.inside.width c.self.inside.count c.self.inside.flat.items) ∙ ap (λ (n : Numbered). length n.list) c.self.view_is

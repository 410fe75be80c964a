use Rattle.std.proofs.Common.{◌≡◌, ◌∙◌, ap, sym, length, ◌++◌, ◌+◌, append_assoc}
use Rattle.std.proofs.lemmas.List.{length-append}
use Rattle.jp_items.proofs.Pieces.{pushed, pushed_size}
use Rattle.jp_items.specs.Numbers.{Numbered}
use Rattle.jp_items.proofs.numbers.Numbers.push.Goals as goal

pub invariant_of-self-2 : goal.invariant_of-self-2
invariant_of-self-2 c = let next : c.in-Some.count ≡ c.self.inside.count + 1 = c.in-Some.ensures.1 in
    let grown = ap length (c.if-not-extended.ensures.added ∙ append_assoc c.self.inside.flat.items c.args.first.now c.args.second.now) ∙ length-append c.self.inside.flat.items (c.args.first.now ++ c.args.second.now) in
    let width : length (c.args.first.now ++ c.args.second.now) ≡ c.self.inside.width = length-append c.args.first.now c.args.second.now ∙ c.requires ∙ sym (ap (λ (n : Numbered). n.width) c.self.view_is) in
    pushed_size c.self.inside.width c.self.inside.count c.in-Some.count _ _ c.self.invariant next (grown ∙ ap (λ k. length c.self.inside.flat.items + k) width)

pub returns-clause-more : goal.returns-clause-more
returns-clause-more c =
    pushed c.self.inside.width c.self.inside.count c.in-Some.count c.self.inside.flat.items c.extended.new.flat.items (c.args.first.now ++ c.args.second.now) c.args.self.now
    c.self.view_is c.self.invariant c.in-Some.ensures.1 (c.if-not-extended.ensures.added ∙ append_assoc c.self.inside.flat.items c.args.first.now c.args.second.now) (length-append c.args.first.now c.args.second.now ∙ c.requires)

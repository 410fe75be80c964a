use Rattle.std.proofs.Common.{◌≡◌, ◌<◌, ◌∙◌, ◌++◌, ◌∷◌, ◌+◌, ◌&&◌, [], ap, sym, not, false, append_assoc, arith, drop, get_or, length, Bool}
use Rattle.jp_naive.specs.Joining.{struck}
use Rattle.jp_naive.proofs.ListFacts.{struck_more}
use Rattle.jp_naive.proofs.joins.without.Goals as goal
use Rattle.jp_naive.proofs.joins.without.Goals.{then-unmatched-at, else-unmatched-at}

pub marks-preserved : goal.marks-preserved
marks-preserved c =
    let us = c.args.unmatched.now in
    let ms = c.args.marks.now in
    let at = c.marks.at in
    let value : c.if-unmatched-at.push ≡ (get_or us at false && not (get_or ms at false)) = elim c.if-unmatched-at.branch [ then-unmatched-at w ↦ w.push-is ∙ ap (λ b. b && not (get_or ms at false)) (sym w.if-unmatched-at.true) | else-unmatched-at w ↦ w.push-is ∙ w.if-unmatched-at.false ∙ ap (λ b. b && not (get_or ms at false)) (sym w.if-unmatched-at.false) ] in
    let there : at < length ms = omega (arith, c.marks-test.true, c.requires) in
    ap (λ ys. ys ++ struck (drop (at + 1) us) (drop (at + 1) ms)) c.in-Ok.ensures.items
    ∙ append_assoc c.marks.list.items (c.if-unmatched-at.push ∷ []) (struck (drop (at + 1) us) (drop (at + 1) ms))
    ∙ ap (λ (b : Bool). c.marks.list.items ++ (b ∷ struck (drop (at + 1) us) (drop (at + 1) ms))) value
    ∙ ap (λ ys. c.marks.list.items ++ ys) (sym (struck_more us ms at false false c.marks-test.true there))
    ∙ c.marks.invariant

use Rattle.std.proofs.Common.{◌<◌, ◌∙◌, ◌++◌, ◌∷◌, ◌+◌, [], ap, sym, append-nil, append_assoc, arith, drop, get_or, length}
use Rattle.jp_naive.specs.Joining.{Numbers, pair_of, pairs_of}
use Rattle.jp_naive.specs.Numbers.{Numbered}
use Rattle.jp_naive.proofs.ListFacts.{more_elsewhere, more_there, pairs_end}
use Rattle.jp_naive.proofs.joins.push_pairs.Goals as goal
use Rattle.jp_naive.proofs.joins.push_pairs.Goals.{then-marks-at+in_ok-push, else-marks-at}

pub rights-preserved : goal.rights-preserved
rights-preserved c =
    let left = c.args.left.now in
    let rights = c.args.right.now.list in
    let marks = c.args.marks.now in
    let at = c.rights.at in
    let before = c.rights.found.list in
    let rest = pairs_of left (drop (at + 1) rights) (drop (at + 1) marks) in
    let here : at < length rights = omega (arith, c.rights-test.true, c.min-at-end.ensures, c.len.ensures) in
    let there : at < length marks = omega (arith, c.rights-test.true, c.min-at-end.ensures) in
    elim c.if-marks-at.branch [
      | then-marks-at+in_ok-push w ↦
          let pair = pair_of left (get_or rights at []) in
          let step = more_there left rights marks at here there w.if-marks-at.true in
          record {
            width = ap (λ (n : Numbered). n.width) w.found-is ∙ w.in_ok-push.ensures.width ∙ c.rights.invariant.width;
            more = ap (λ (n : Numbered). n.list ++ rest) w.found-is
                ∙ ap (λ (n : Numbered). n.list ++ rest) w.in_ok-push.ensures.more
                ∙ ap (λ (r : Numbers). (before ++ (r ++ left) ∷ []) ++ rest) w.tuple.ensures.numbers
                ∙ append_assoc before (pair ∷ []) rest
                ∙ ap (λ ys. before ++ ys) (sym step)
                ∙ c.rights.invariant.more;
          }
      | else-marks-at w ↦ record {
        width = ap (λ (n : Numbered). n.width) w.found-is ∙ c.rights.invariant.width;
        more = ap (λ (n : Numbered). n.list ++ rest) w.found-is
            ∙ ap (λ ys. before ++ ys) (sym (more_elsewhere left rights marks at here there w.if-marks-at.false))
            ∙ c.rights.invariant.more;
      }
    ]

pub returns-clause-more : goal.returns-clause-more
returns-clause-more c =
    sym (append-nil c.rights.found.list)
    ∙ ap (λ ys. c.rights.found.list ++ ys) (sym (pairs_end c.args.left.now c.args.right.now.list c.args.marks.now c.rights.at (omega (arith, c.rights-test.false, c.min-at-end.ensures, c.len.ensures))))
    ∙ c.rights.invariant.more

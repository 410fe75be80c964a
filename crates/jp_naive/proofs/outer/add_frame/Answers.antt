use Rattle.std.proofs.Common.{[], ◌∷◌, ◌++◌, ◌∙◌, ap, sym, arith, drop, get_or, ◌+◌}
use Rattle.jp_naive.specs.declared.frames.Leaf.{Leaf}
use Rattle.std.specs.Prelude.{None}
use Rattle.jp_naive.specs.Frames.{env_after, env_over, row_at}
use Rattle.jp_naive.proofs.FrameFacts.{after_more, all_passed, kept_more}
use Rattle.jp_naive.proofs.outer.add_frame.Goals as goal

pub leaves-preserved : goal.leaves-preserved
leaves-preserved c outer =
    let tables = c.args.tables.now.list in
    let leaves = c.args.frame.leaves.now in
    let numbers = c.args.frame.numbers.now in
    let leaf = c.index-frame-at.result in
    let rest = env_over tables (drop (c.leaves.at + 1) leaves) (drop (c.leaves.at + 1) numbers) outer in
    after_more tables c.leaves.rows.items c.push_row.new.rows.items (record { rel = leaf.rel; row = c.in_ok-row.row } ∷ []) rest
    (c.in_ok-push_row.ensures ∙ ap (λ (l : Leaf). c.leaves.rows.items ++ record { rel = l.rel; row = c.in_ok-row.row } ∷ []) (sym c.index-frame-at.is))
    ∙ ap (env_after tables c.leaves.rows.items) (sym (kept_more tables leaves numbers c.leaves.at leaf c.in_ok-row.row outer (omega (arith, c.leaves-test.true, c.min-at-end.ensures)) (omega (arith, c.leaves-test.true, c.min-at-end.ensures)) c.index-frame-at.is
    (c.in_ok-row.ensures tables ∙ c.row_of_leaf.ensures tables None ∙ ap (λ l. row_at tables l (get_or numbers c.leaves.at None)) (sym c.index-frame-at.is))))
    ∙ c.leaves.invariant outer

pub returns : goal.returns
returns c outer =
    let tables = c.args.tables.now.list in
    ap (env_after tables c.leaves.rows.items) (sym (all_passed tables c.args.frame.leaves.now c.args.frame.numbers.now c.leaves.at outer (omega (arith, c.leaves-test.false, c.min-at-end.ensures))))
    ∙ c.leaves.invariant outer

use Rattle.std.proofs.Common.{rules, ◌≡◌, length}
use Rattle.jp_items.proofs.LineFacts.{unordered}
use Rattle.jp_items.proofs.lines.sorted_rows.Goals as goal

pub returns-then-is_empty : goal.returns-then-is_empty
returns-then-is_empty c =
    let size : length c.args.rows.items ≡ length c.args.keys.items = search rules in
    unordered c.args.order.now c.args.rows.items c.args.keys.items c.if-is_empty.ensures size

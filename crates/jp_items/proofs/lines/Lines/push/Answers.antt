use Rattle.std.proofs.Common.{rules}
use Rattle.jp_items.proofs.LineFacts.{line_pushed}
use Rattle.jp_items.proofs.lines.Lines.push.Goals as goal

pub returns : goal.returns
returns c = line_pushed c.self.inside.rows.items c.self.inside.keys.items c.push_both.new.rows.items c.push_both.new.keys.items c.args.row c.args.keys c.args.self.now c.self.view_is (search rules) c.if-not-push_both.ensures.rows c.if-not-push_both.ensures.keys

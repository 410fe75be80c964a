use Rattle.std.proofs.Common.{◌≡◌, ◌++◌, false, drop}
use Rattle.jp_ast.specs.Seen.{undoubled}
use Rattle.jp_cursor.proofs.content.undoubled.Given as goal

abbrev pub invariant-bytes : goal.invariant-bytes
invariant-bytes l = l.content.items ++ undoubled l.quote l.is_second (drop l.b-index l.text) ≡ undoubled l.quote false l.fn.text

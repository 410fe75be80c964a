use Rattle.std.proofs.Common.{◌≡◌, length, map}
use Rattle.jp_lex.specs.Chars.{lower}
use Rattle.jp_ast.specs.declared.class.Class.TheVariants as k
use Rattle.jp_ast.specs.Classes.{found}
use Rattle.jp_cursor.proofs.classes.found_folded.Given as goal

abbrev pub invariant-entries : goal.invariant-entries
invariant-entries l = found (map (λ e. (e.0.now, e.1)) l.table) k.Name (map lower l.text) ≡ found (map (λ e. (e.0.now, e.1)) l.initial.table) k.Name (map lower l.text)

abbrev pub decreases-entries : goal.decreases-entries
decreases-entries l = length l.table

use Rattle.std.proofs.Common.{◌≡◌, length, map}
use Rattle.std.specs.Str.{bytes_eq}
use Rattle.jp_lex.specs.Chars.{lower}
use Rattle.jp_cursor.proofs.classes.is_folded.Given as goal

abbrev pub invariant-bytes : goal.invariant-bytes
invariant-bytes l = bytes_eq l.word (map lower l.text) ≡ bytes_eq l.initial.word (map lower l.initial.text)

abbrev pub decreases-bytes : goal.decreases-bytes
decreases-bytes l = length l.word

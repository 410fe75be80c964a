use Rattle.std.proofs.Common.{◌≡◌, length}
use Rattle.std.specs.Prelude.{All}
use Rattle.jp_search_tests.specs.Plain.{IsPlainItem}
use Rattle.jp_search_tests.proofs.plain.plain_items.Given as goal

abbrev pub invariant-rows : goal.invariant-rows
invariant-rows l = (length l.items ≡ l.number) × All IsPlainItem l.items

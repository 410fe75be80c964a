use Rattle.std.proofs.Common.{◌≡◌, drop}
use Rattle.jp_items.specs.Scenes.{is_listed}
use Rattle.jp_items.proofs.scene.is_listed.Given as goal

abbrev pub invariant-numbers : goal.invariant-numbers
invariant-numbers l = is_listed (drop l.number-index l.numbers) l.sub ≡ is_listed l.numbers l.sub

-- Which items have relations of a set.
use Rattle.std.specs.Prelude.{ℕ, Bool}
use Rattle.jp_problem.specs.declared.types.Item.{Item}
use Rattle.jp_problem.specs.Sets.{meets}

abbrev pub meets_rels : ℕ → Item → Bool
meets_rels rels item = meets item.rels rels

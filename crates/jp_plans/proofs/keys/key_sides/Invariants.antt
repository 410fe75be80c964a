use Rattle.std.proofs.Common.{◌≡◌, drop, map}
use Rattle.std.specs.Option.{option_map}
use Rattle.jp_lists.specs.Steps.{pair_of_sides}
use Rattle.jp_problem.specs.Keys.{first_key}
use Rattle.jp_problem.specs.Problems.{rels_of_item}
use Rattle.jp_plans.proofs.keys.key_sides.Given as goal

abbrev pub invariant-list : goal.invariant-list
invariant-list l = option_map pair_of_sides (first_key (map rels_of_item l.items) l.left l.right (drop l.expr-index l.list)) ≡ option_map pair_of_sides (first_key (map rels_of_item l.items) l.left l.right l.list)

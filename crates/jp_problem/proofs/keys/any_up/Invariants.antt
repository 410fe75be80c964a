use Rattle.std.proofs.Common.{◌≡◌, map}
use Rattle.std.specs.List.{list_any}
use Rattle.jp_problem.specs.ClassWords.{ranked_at, ups_from}
use Rattle.jp_problem.specs.KeyTests.{is_key_equality}
use Rattle.jp_problem.specs.Problems.{rels_of_item}
use Rattle.jp_problem.proofs.keys.any_up.Given as goal

abbrev pub invariant-members : goal.invariant-members
invariant-members l = list_any (is_key_equality (map rels_of_item l.items) l.s1 l.s2 (ranked_at l.members l.first)) (ups_from l.stage l.members l.i) ≡ list_any (is_key_equality (map rels_of_item l.items) l.s1 l.s2 (ranked_at l.members l.first)) (ups_from l.stage l.members l.from)

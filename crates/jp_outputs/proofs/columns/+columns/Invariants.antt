use Rattle.std.proofs.Common.{◌≡◌, ◌++◌, map, take}
use Rattle.jp_query.specs.Parts.{all_in, arm_parts, term_part}
use Rattle.jp_outputs.specs.Columns.{places_in}
use Rattle.jp_outputs.proofs.columns.+columns.Given as goal

abbrev pub invariant-add_of_list-exprs : goal.invariant-add_of_list-exprs
invariant-add_of_list-exprs l = l.list.items ≡ l.initial.list.items ++ all_in (map places_in (take l.expr-index l.exprs))

abbrev pub invariant-add_of_terms-terms : goal.invariant-add_of_terms-terms
invariant-add_of_terms-terms l = l.list.items ≡ l.initial.list.items ++ all_in (map places_in (map term_part (take l.term-index l.terms)))

abbrev pub invariant-add_of_arms-arms : goal.invariant-add_of_arms-arms
invariant-add_of_arms-arms l = l.list.items ≡ l.initial.list.items ++ all_in (map places_in (arm_parts (take l.when-index l.arms)))

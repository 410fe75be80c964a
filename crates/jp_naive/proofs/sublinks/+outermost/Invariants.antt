use Rattle.std.proofs.Common.{◌≡◌, ◌++◌, map, take}
use Rattle.jp_query.specs.Outermost.{outermost}
use Rattle.jp_query.specs.Parts.{all_in, arm_parts, term_part}
use Rattle.jp_naive.specs.Sublinks.{outer_of}
use Rattle.jp_naive.proofs.sublinks.+outermost.Given as goal

abbrev pub invariant-add_of_list-exprs : goal.invariant-add_of_list-exprs
invariant-add_of_list-exprs l = map outer_of l.list.items ≡ map outer_of l.initial.list.items ++ all_in (map outermost (take l.expr-index l.exprs))

abbrev pub invariant-add_of_terms-terms : goal.invariant-add_of_terms-terms
invariant-add_of_terms-terms l = map outer_of l.list.items ≡ map outer_of l.initial.list.items ++ all_in (map outermost (map term_part (take l.term-index l.terms)))

abbrev pub invariant-add_of_arms-arms : goal.invariant-add_of_arms-arms
invariant-add_of_arms-arms l = map outer_of l.list.items ≡ map outer_of l.initial.list.items ++ all_in (map outermost (arm_parts (take l.when-index l.arms)))

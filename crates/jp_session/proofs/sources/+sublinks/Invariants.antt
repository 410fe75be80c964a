use Rattle.std.proofs.Common.{◌≡◌, ◌++◌, take}
use Rattle.std.specs.List.{flat_map}
use Rattle.jp_session.specs.Parts.{arm_parts_of, sublink_parts, term_parts}
use Rattle.jp_session.proofs.sources.+sublinks.Given as goal

abbrev pub invariant-push_list-exprs : goal.invariant-push_list-exprs
invariant-push_list-exprs l = l.parts.items ≡ l.fn.parts.items ++ flat_map sublink_parts (take l.expr-index l.exprs)

abbrev pub invariant-push_terms-terms : goal.invariant-push_terms-terms
invariant-push_terms-terms l = l.parts.items ≡ l.fn.parts.items ++ flat_map term_parts (take l.term-index l.terms)

abbrev pub invariant-push_arms-arms : goal.invariant-push_arms-arms
invariant-push_arms-arms l = l.parts.items ≡ l.fn.parts.items ++ flat_map arm_parts_of (take l.arm-index l.arms)

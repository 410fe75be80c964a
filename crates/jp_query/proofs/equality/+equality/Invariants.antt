use Rattle.std.proofs.Common.{◌≡◌, drop, length}
use Rattle.jp_query.specs.Equality.{same_each, same_exprs, same_of_terms, same_of_arms}
use Rattle.jp_query.proofs.equality.+equality.Given as goal

abbrev pub invariant-are_same_arms-loop-i : goal.invariant-are_same_arms-loop-i
invariant-are_same_arms-loop-i l = (length l.a ≡ length l.b) × (same_each same_of_arms (drop l.i l.a) (drop l.i l.b) ≡ same_each same_of_arms l.a l.b)

abbrev pub invariant-are_same_lists-loop-i : goal.invariant-are_same_lists-loop-i
invariant-are_same_lists-loop-i l = (length l.a ≡ length l.b) × (same_exprs (drop l.i l.a) (drop l.i l.b) ≡ same_exprs l.a l.b)

abbrev pub invariant-are_same_terms-loop-i : goal.invariant-are_same_terms-loop-i
invariant-are_same_terms-loop-i l = (length l.a ≡ length l.b) × (same_each same_of_terms (drop l.i l.a) (drop l.i l.b) ≡ same_each same_of_terms l.a l.b)

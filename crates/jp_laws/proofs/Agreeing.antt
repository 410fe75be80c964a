-- Sets within a set, and the set of one number.
use Rattle.std.proofs.Common.{◌≡◌, subst, refl, ℕ, ◌*◌, ◌%◌, ◌^◌, ◌<◌, List, arith}
use Rattle.jp_base.specs.Sets.{Has, Within}
use Rattle.jp_base.proofs.MaskAlgebra.{EachWithin, fold_within}
use Rattle.jp_base.proofs.SetLemmas.{only_one}
use Rattle.jp_query.specs.Refs.{only, union, below_64}

pub members : (set : ℕ) (xs : List ℕ) → Within (union xs) set → EachWithin set xs
members set xs w = (fold_within set 0 xs w).1

pub has_only : (i : ℕ) → i < 64 → Has (below_64 (only i)) i
has_only i low = let e : 1 * 2 ^ i ≡ 2 ^ i = omega arith in subst (λ n. Has (n % 2 ^ 64) i) e ((only_one i i low).1 refl)

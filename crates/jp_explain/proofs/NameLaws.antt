-- The names of a set's relations, one number at a time.
use Rattle.std.proofs.Common.{◌≡◌, ◌∙◌, ap, ap₂, sym, refl, ℕ, zero, suc, ◌+◌, ◌-◌, ◌<◌, ◌≤◌, Bool, true, false, List, [], ◌∷◌, ◌++◌, map, append_assoc, append-nil, add-one, arith}
use Rattle.std.specs.Prelude.{codes, if◌then◌else◌}
use Rattle.jp_explain.specs.Lists.{gap, separated_from}
use Rattle.jp_explain.specs.Names.{Names, is_member, is_still_first, member_text, members_from, relation_name}

abbrev names_from : Names → ℕ → Bool → ℕ → ℕ → List ℕ
names_from names set first i count = separated_from first (codes ", ") (map (relation_name names) (members_from set i count))

one_more : (names : Names) (set : ℕ) (first : Bool) (i count : ℕ) → names_from names set first i (suc count) ≡ member_text names set first i ++ names_from names set (is_still_first set first i) (suc i) count
unfolding members_from
one_more names set first i count = at_test (is_member set i)
  where
    at_test : (there : Bool)
        → separated_from first (codes ", ") (map (relation_name names) (if there then i ∷ members_from set (suc i) count else members_from set (suc i) count))
        ≡ (if there then gap first (codes ", ") ++ relation_name names i else []) ++ names_from names set (if there then false else first) (suc i) count
    at_test true = sym (append_assoc (gap first (codes ", ")) (relation_name names i) (names_from names set false (suc i) count))
    at_test false = refl

pub names_step : (names : Names) (set : ℕ) (first : Bool) (i : ℕ) → i < 64
    → names_from names set first i (64 - i) ≡ member_text names set first i ++ names_from names set (is_still_first set first i) (i + 1) (64 - (i + 1))
names_step names set first i low = ap (names_from names set first i) less ∙ one_more names set first i (64 - (i + 1)) ∙ ap (λ k. member_text names set first i ++ names_from names set (is_still_first set first i) k (64 - (i + 1))) (sym (add-one i))
  where
    less : 64 - i ≡ suc (64 - (i + 1))
    less = omega (arith, low)

pub names_end : (names : Names) (set : ℕ) (first : Bool) (i : ℕ) → 64 ≤ i → names_from names set first i (64 - i) ≡ []
unfolding members_from
names_end names set first i past = ap (names_from names set first i) none
  where
    none : 64 - i ≡ 0
    none = omega (arith, past)

pub ruleset names_equations = (names_step, names_end, append_assoc, append-nil)

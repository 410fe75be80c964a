-- The least set that holds given items and is closed under rules, each of which adds items to a set that meets its
-- condition.
use Rattle.std.specs.Prelude.{ℕ, Bool, true, false, bit_or, List, [], ◌∷◌, map, All}
use Rattle.jp_base.specs.Sets.{Within, Meets}
use Rattle.jp_problem.specs.declared.types.Rule.{Rule}
use Rattle.jp_problem.specs.Sets.{meets, set_if}
use Rattle.jp_query.specs.Refs.{union}

abbrev pub IsClosedUnder : ℕ → Rule → Type 0
IsClosedUnder set rule = Meets set rule.met → Within rule.taken set

abbrev pub IsClosed : List Rule → ℕ → Type 0
IsClosed rules set = All (IsClosedUnder set) rules

-- the least set that holds `seed` and is closed
pub record IsLeastClosed (rules : List Rule) (seed set : ℕ) : Type 0 where
  pub seed_within : Within seed set
  pub closed : IsClosed rules set
  pub least : (other : ℕ) → Within seed other → IsClosed rules other → Within set other

-- What a set becomes by one rule more, where `close` closes a set under the others: if it meets the rule's condition, the
-- rule's items are added and the set is closed anew.
abbrev pub grown : (ℕ → ℕ) → Rule → Bool → ℕ → ℕ
grown close rule true set = close (bit_or set rule.taken)
grown close rule false set = set

abbrev pub with_rule : (ℕ → ℕ) → Rule → ℕ → ℕ
with_rule close rule set = grown close rule (meets set rule.met) set

-- the least closed set that holds these items
abbrev pub closure : List Rule → ℕ → ℕ
closure [] set = set
closure (rule ∷ rules) set = with_rule (closure rules) rule (closure rules set)

-- ---- one round: what all rules add to a set

abbrev pub added : ℕ → Rule → ℕ
added set rule = set_if (meets set rule.met) rule.taken

abbrev pub round : List Rule → ℕ → ℕ
round rules set = bit_or set (union (map (added set) rules))

-- What the closure of a set under rules is, in words of members of lists.
use Rattle.std.proofs.Common.{◌≡◌, subst, ℕ, Bool, true, List, map, filter, get_or}
use Rattle.std.proofs.lemmas.List.Elements.{All-contains, Contains-get_or}
use Rattle.jp_base.specs.Sets.{Within}
use Rattle.jp_facts.proofs.Members.{In, to_in, from_in, in_map, from_map, in_filter, from_filter}
use Rattle.jp_problem.specs.declared.types.Rule.{Rule}
use Rattle.jp_problem.specs.Closure.{IsClosedUnder, closure}
use Rattle.jp_problem.proofs.ClosureLaws.{least_closed}

module _ (rules : List Rule) (seed : ℕ) where
  pub holds_seed : Within seed (closure rules seed)
  holds_seed = (least_closed rules seed).seed_within

  pub closed_at : (rule : Rule) → In rule rules → IsClosedUnder (closure rules seed) rule
  closed_at rule h = All-contains (IsClosedUnder (closure rules seed)) rules rule (least_closed rules seed).closed (from_in rule rules h)

  pub least_of : (other : ℕ) → Within seed other → ((rule : Rule) → In rule rules → IsClosedUnder other rule) → Within (closure rules seed) other
  least_of other w each = (least_closed rules seed).least other w (λ k d low. each (get_or rules k d) (to_in (get_or rules k d) rules (Contains-get_or rules k d low)))

module _ {X : Type 0} (test : X → Bool) (rule : X → Rule) (xs : List X) where
  pub rule_of : (x : X) → In x xs → test x ≡ true → In (rule x) (map rule (filter test xs))
  rule_of x h e = in_map rule x (filter test xs) (in_filter test x xs e h)

  -- what holds of the rule of each member that passes holds of each rule
  pub each_rule : (P : Rule → Type 0) → ((x : X) → In x xs → test x ≡ true → P (rule x)) → (r : Rule) → In r (map rule (filter test xs)) → P r
  each_rule P each r h =
      let found = from_map rule r (filter test xs) h in
      let facts = from_filter test found.0 xs found.1 in
      subst P found.2 (each found.0 facts.1 facts.0)

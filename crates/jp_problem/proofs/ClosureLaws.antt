-- The closure of a set is the least closed set that holds it, and rounds reach it.
use Rattle.std.proofs.Common.{◌≡◌, sym, refl, subst, ℕ, ◌<◌, ◌≤◌, inl, inr, Bool, true, false, arith, List, [], ◌∷◌, map, get_or}
use Rattle.std.specs.Prelude.{bit_or}
use Rattle.std.proofs.lemmas.Bool.{cases_eq, both_ways}
use Rattle.std.proofs.lemmas.List.Elements.{All-nil, All-cons, All-head, All-tail, All-contains, Contains-get_or}
use Rattle.jp_base.specs.Sets.{Has, Within, Meets}
use Rattle.jp_base.proofs.SetLemmas.{within_le}
use Rattle.jp_facts.proofs.Members.{to_in, from_in, in_map, from_map}
use Rattle.jp_base.proofs.MaskAlgebra.{has_none, in_left, in_right, both_within, same_within}
use Rattle.jp_query.specs.Refs.{union}
use Rattle.jp_problem.specs.declared.types.Rule.{Rule}
use Rattle.jp_problem.specs.Sets.{meets, set_if}
use Rattle.jp_problem.specs.Closure.{IsClosedUnder, IsClosed, IsLeastClosed, grown, closure, added, round}
use Rattle.jp_problem.proofs.SetTests.{meets_says}
use Rattle.jp_problem.proofs.UnionLaws.{has_union}

pub least_closed : (rules : List Rule) (seed : ℕ) → IsLeastClosed rules seed (closure rules seed)
least_closed [] seed = record { seed_within = λ i p. p; closed = All-nil (IsClosedUnder seed); least = λ other w closed. w }
least_closed (rule ∷ rules) seed = go (meets (closure rules seed) rule.met) refl (least_closed rules seed) (least_closed rules (bit_or (closure rules seed) rule.taken))
  where
    go : (b : Bool) → meets (closure rules seed) rule.met ≡ b → IsLeastClosed rules seed (closure rules seed) → IsLeastClosed rules (bit_or (closure rules seed) rule.taken) (closure rules (bit_or (closure rules seed) rule.taken)) → IsLeastClosed (rule ∷ rules) seed (grown (closure rules) rule b (closure rules seed))
    go true e first second = record {
      seed_within = λ i p. second.seed_within i (in_left (closure rules seed) rule.taken i (first.seed_within i p));
      closed = All-cons (IsClosedUnder (closure rules (bit_or (closure rules seed) rule.taken))) rule rules (λ m i p. second.seed_within i (in_right (closure rules seed) rule.taken i p)) second.closed;
      least = λ other w closed.
          let inner : Within (closure rules seed) other = first.least other w (All-tail (IsClosedUnder other) rule rules closed) in
          let met : Meets (closure rules seed) rule.met = (meets_says (closure rules seed) rule.met).0 e in
          let taken : Within rule.taken other = All-head (IsClosedUnder other) rule rules closed (met.0, inner met.0 met.1, met.2) in
          second.least other (both_within (closure rules seed) rule.taken other inner taken) (All-tail (IsClosedUnder other) rule rules closed);
    }
    go false e first second = record {
      seed_within = first.seed_within;
      closed = All-cons (IsClosedUnder (closure rules seed)) rule rules (λ m. absurd (both_ways (meets (closure rules seed) rule.met) e ((meets_says (closure rules seed) rule.met).1 m))) first.closed;
      least = λ other w closed. first.least other w (All-tail (IsClosedUnder other) rule rules closed);
    }

-- there is one least closed set
pub one_least : (rules : List Rule) (seed a b : ℕ) → IsLeastClosed rules seed a → IsLeastClosed rules seed b → a ≡ b
one_least rules seed a b first second = same_within a b (first.least b second.seed_within second.closed) (second.least a first.seed_within first.closed)

-- ---- rounds

-- a set on the way from the seed to the least closed set
pub record IsOnTheWay (rules : List Rule) (seed set : ℕ) : Type 0 where
  pub seed_within : Within seed set
  pub least : (other : ℕ) → Within seed other → IsClosed rules other → Within set other

pub starts : (rules : List Rule) (seed : ℕ) → IsOnTheWay rules seed seed
starts rules seed = record { seed_within = λ i p. p; least = λ other w closed. w }

added_when : (set : ℕ) (rule : Rule) (i : ℕ) → Has (added set rule) i → Meets set rule.met × Has rule.taken i
added_when set rule i h = go (meets set rule.met) refl h
  where
    go : (b : Bool) → meets set rule.met ≡ b → Has (set_if b rule.taken) i → Meets set rule.met × Has rule.taken i
    go true e p = ((meets_says set rule.met).0 e, p)
    go false e p = absurd (has_none i p)

when_added : (set : ℕ) (rule : Rule) (i : ℕ) → Meets set rule.met → Has rule.taken i → Has (added set rule) i
when_added set rule i m p = subst (λ b. Has (set_if b rule.taken) i) (sym ((meets_says set rule.met).1 m)) p

pub round_goes_on : (rules : List Rule) (seed set : ℕ) → IsOnTheWay rules seed set → IsOnTheWay rules seed (round rules set)
round_goes_on rules seed set way = record {
  seed_within = λ i p. in_left set (union (map (added set) rules)) i (way.seed_within i p);
  least = λ other w closed. both_within set (union (map (added set) rules)) other (way.least other w closed) (taken_within other (way.least other w closed) closed);
}
  where
    taken_within : (other : ℕ) → Within set other → IsClosed rules other → Within (union (map (added set) rules)) other
    taken_within other w closed i p =
        let some = (has_union (map (added set) rules) i).0 p in
        let rule = from_map (added set) some.0 rules some.1 in
        let facts = added_when set rule.0 i (subst (λ n. Has n i) (sym rule.2) some.2) in
        All-contains (IsClosedUnder other) rules rule.0 closed (from_in rule.0 rules rule.1) (facts.0.0, w facts.0.0 facts.0.1, facts.0.2) i facts.1

pub round_grows : (rules : List Rule) (set : ℕ) → Within set (round rules set)
round_grows rules set = in_left set (union (map (added set) rules))

-- where a round adds nothing the set is the closure
pub round_ends : (rules : List Rule) (seed set : ℕ) → IsOnTheWay rules seed set → Within (round rules set) set → set ≡ closure rules seed
round_ends rules seed set way within = one_least rules seed set (closure rules seed) (record { seed_within = way.seed_within; closed = closed; least = way.least }) (least_closed rules seed)
  where
    closed : IsClosed rules set
    closed = λ k d low m i p. within i (in_right set (union (map (added set) rules)) i ((has_union (map (added set) rules) i).1 (added set (get_or rules k d), in_map (added set) (get_or rules k d) rules (to_in (get_or rules k d) rules (Contains-get_or rules k d low)), when_added set (get_or rules k d) i m p)))

-- a set that grows is a greater number
pub round_greater : (rules : List Rule) (set more : ℕ) → more ≡ round rules set → ¬ Within more set → set < more
round_greater rules set more is grows =
    let w : Within set more = subst (Within set) (sym is) (round_grows rules set) in
    let le : set ≤ more = within_le set more w in
    elim (cases_eq set more) [ inl e ↦ absurd (grows (subst (Within more) (sym e) (λ i p. p))) | inr n ↦ omega (arith, le, n) ]

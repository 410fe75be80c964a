-- Members of the sets that the rules of the least sets are written with.
use Rattle.std.proofs.Common.{◌≡◌, sym, subst, refl, ℕ, inl, inr, Bool, true, false, List, [], ◌∷◌, map, filter}
use Rattle.std.specs.Prelude.{if◌then◌else◌}
use Rattle.std.proofs.lemmas.Bool.{not_from_false}
use Rattle.jp_base.specs.Sets.{Has, Within}
use Rattle.jp_facts.proofs.Members.{In, in_map, from_map, in_filter, from_filter}
use Rattle.jp_query.specs.Refs.{union}
use Rattle.jp_problem.specs.Sets.{is_empty, or_if_empty, set_if}
use Rattle.jp_problem.proofs.SetTests.{is_empty_says, not_empty_says}
use Rattle.jp_problem.proofs.UnionLaws.{has_union}
use Rattle.jp_base.proofs.MaskAlgebra.{has_none}

abbrev pub Some : ℕ → Type 0
Some set = (i : ℕ) × Has set i

-- ---- a set, or another where it is empty

chosen_within : (e : Bool) (a b c : ℕ) → Within a c → Within b c → Within (if e then b else a) c
chosen_within true a b c p q = q
chosen_within false a b c p q = p

pub or_within : (a b c : ℕ) → Within a c → Within b c → Within (or_if_empty a b) c
or_within a b c p q = chosen_within (is_empty a) a b c p q

chosen_holds : (e : Bool) (a b : ℕ) → is_empty a ≡ e → Within a (if e then b else a)
chosen_holds true a b e i h = absurd ((is_empty_says a).0 e i h)
chosen_holds false a b e i h = h

pub or_holds : (a b : ℕ) → Within a (or_if_empty a b)
or_holds a b = chosen_holds (is_empty a) a b refl

chosen_some : (e : Bool) (a b : ℕ) → is_empty a ≡ e → Some b → Some (if e then b else a)
chosen_some true a b e some = some
chosen_some false a b e some = (not_empty_says a).0 (not_from_false (is_empty a) e)

pub or_some : (a b : ℕ) → Some b → Some (or_if_empty a b)
or_some a b some = chosen_some (is_empty a) a b refl some

chosen_held : (e : Bool) (a b c : ℕ) → is_empty a ≡ e → Some a → Within a c → Within (if e then b else a) c
chosen_held true a b c e some w = absurd ((is_empty_says a).0 e some.0 some.1)
chosen_held false a b c e some w = w

pub or_held : (a b c : ℕ) → Some a → Within a c → Within (or_if_empty a b) c
or_held a b c some w = chosen_held (is_empty a) a b c refl some w

pub if_within : (test : Bool) (set c : ℕ) → (test ≡ true → Within set c) → Within (set_if test set) c
if_within true set c h = h refl
if_within false set c h = λ i p. absurd (has_none i p)

-- ---- unions

pub in_union : (x : ℕ) (sets : List ℕ) → In x sets → Within x (union sets)
in_union x sets h i p = (has_union sets i).1 (x, h, p)

pub union_within : (sets : List ℕ) (c : ℕ) → ((x : ℕ) → In x sets → Within x c) → Within (union sets) c
union_within sets c each i h = let found = (has_union sets i).0 h in each found.0 found.1 i found.2

pub each_of_five : (P : ℕ → Type 0) (a b c d e : ℕ) → P a → P b → P c → P d → P e → (x : ℕ) → In x (a ∷ b ∷ c ∷ d ∷ e ∷ []) → P x
each_of_five P a b c d e pa pb pc pd pe x (inl is) = subst P is pa
each_of_five P a b c d e pa pb pc pd pe x (inr (inl is)) = subst P is pb
each_of_five P a b c d e pa pb pc pd pe x (inr (inr (inl is))) = subst P is pc
each_of_five P a b c d e pa pb pc pd pe x (inr (inr (inr (inl is)))) = subst P is pd
each_of_five P a b c d e pa pb pc pd pe x (inr (inr (inr (inr (inl is))))) = subst P is pe
each_of_five P a b c d e pa pb pc pd pe x (inr (inr (inr (inr (inr h))))) = absurd h

module _ {X : Type 0} (f : X → ℕ) (test : X → Bool) (xs : List X) where
  pub union_each : (c : ℕ) → ((x : X) → In x xs → test x ≡ true → Within (f x) c) → Within (union (map f (filter test xs))) c
  union_each c each = union_within (map f (filter test xs)) c at
    where
      at : (set : ℕ) → In set (map f (filter test xs)) → Within set c
      at set h =
          let found = from_map f set (filter test xs) h in
          let facts = from_filter test found.0 xs found.1 in
          subst (λ s. Within s c) found.2 (each found.0 facts.1 facts.0)

  pub in_union_each : (x : X) → In x xs → test x ≡ true → Within (f x) (union (map f (filter test xs)))
  in_union_each x h e = in_union (f x) (map f (filter test xs)) (in_map f x (filter test xs) (in_filter test x xs e h))

  pub from_union_each : (i : ℕ) → Has (union (map f (filter test xs))) i → (x : X) × In x xs × (test x ≡ true) × Has (f x) i
  from_union_each i h =
      let found = (has_union (map f (filter test xs)) i).0 h in
      let origin = from_map f found.0 (filter test xs) found.1 in
      let facts = from_filter test origin.0 xs origin.1 in
      (origin.0, facts.1, facts.0, subst (λ s. Has s i) (sym origin.2) found.2)
